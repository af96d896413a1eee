use Rattle.std.proofs.Common.{◌≡◌, ℕ, ◌*◌, ◌^◌, ◌<◌, ◌≤◌, List, take}
use Rattle.reading.specs.Digits.{AreDigits, number_of}
use Rattle.reading.proofs.digits.hexadecimal.Given as goal

-- what has been read of the digits
abbrev pub invariant-loop-byte : goal.invariant-loop-byte
invariant-loop-byte l = (values : List ℕ) × AreDigits values (take l.byte-index l.digits)
    × (l.byte-index ≤ 16 → (l.number ≡ number_of values) × (l.number < 2 ^ (4 * l.byte-index)))
