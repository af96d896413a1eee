-- `write_arguments` meets its contract. The loop's invariant: the first i words are arguments. Assumes nothing.
use Rattle.std.proofs.Common.{◌≡◌, ◌++◌, ◌≤◌, length, drop}
use Rattle.rules.specs.Sheet.{arguments_from}
use Rattle.sheet.proofs.filling.write_arguments.Given as goal

abbrev pub invariant-loop-i : goal.invariant-loop-i
invariant-loop-i l = (l.i ≤ length l.initial.slots) × (l.slots ≡ arguments_from l.sheet l.at l.i ++ drop l.i l.initial.slots)
