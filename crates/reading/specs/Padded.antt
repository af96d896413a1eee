-- Bytes of an input that may end early.
use Rattle.std.specs.Prelude.{◌≡◌, ℕ, ◌-◌, ◌<◌, List, length, take, drop, replicate, Option}
use Rattle.std.specs.Io.KnownBytes.{Consumes, IsAtEnd}

-- the first n of the bytes are what the input gave, the others are the filler, and only an input that has ended gave fewer than all
abbrev pub IsPadded : Option (List ℕ) → Option (List ℕ) → ℕ → ℕ → List ℕ → Type 0
IsPadded before after filler n bytes = Consumes before after (take n bytes)
    × (drop n bytes ≡ replicate (length bytes - n) filler)
    × (n < length bytes → IsAtEnd after)
