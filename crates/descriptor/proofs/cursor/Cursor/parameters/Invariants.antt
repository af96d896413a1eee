-- `parameters` meets its contract. The loop's invariant: the places counted and those ahead are all. Assumes nothing.
use Rattle.std.proofs.Common.{◌≡◌, ◌-◌, length}
use Rattle.descriptor.proofs.Turns.{Counting}
use Rattle.descriptor.proofs.cursor.Cursor.parameters.Given as goal

abbrev pub invariant-loop-places : goal.invariant-loop-places
invariant-loop-places l = let d = l.self.descriptor.now in
    record { same : l.end.descriptor.now ≡ d; counting : Counting d l.end.at l.places }

abbrev pub decreases-loop-places : goal.decreases-loop-places
decreases-loop-places l = length l.self.descriptor.now - l.end.at
