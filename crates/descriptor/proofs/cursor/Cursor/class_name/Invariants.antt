-- `class_name` meets its contract. The loop's invariant: what is left to read gives what the whole name gives. Assumes nothing.
use Rattle.std.proofs.Common.{◌≡◌, ◌-◌, length}
use Rattle.rules.specs.Descriptor.{name_end}
use Rattle.rules.proofs.Names.{name_from}
use Rattle.descriptor.proofs.cursor.Cursor.class_name.Given as goal

abbrev pub invariant-loop-next : goal.invariant-loop-next
invariant-loop-next l = let d = l.self.descriptor.now in
    record { same : l.cursor.descriptor.now ≡ d; left : name_from d l.cursor.at ≡ name_end (length d) d l.self.at }

abbrev pub decreases-loop-next : goal.decreases-loop-next
decreases-loop-next l = length l.self.descriptor.now - l.cursor.at
