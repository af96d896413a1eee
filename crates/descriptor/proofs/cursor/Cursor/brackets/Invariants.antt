-- `brackets` meets its contract. The loop's invariant: what is left to pass gives what all brackets give. Assumes nothing.
use Rattle.std.proofs.Common.{◌≡◌, ◌-◌}
use Rattle.rules.specs.Descriptor.{brackets_end}
use Rattle.descriptor.proofs.cursor.Cursor.brackets.Given as goal

abbrev pub invariant-loop : goal.invariant-loop
invariant-loop l = let d = l.self.descriptor.now in
    record { same : l.cursor.descriptor.now ≡ d; left : brackets_end (255 - l.counter) d l.cursor.at ≡ brackets_end 255 d l.self.at }
