-- `make_presses` meets its contract. The loop's invariant is `Replaying`. Assumes nothing.
use Rattle.rules.specs.Lent.{lent}
use Rattle.rules.specs.Step.{core_machine}
use Rattle.rules.proofs.Replay.{Replaying}
use Rattle.history.proofs.press_list.make_presses.Given as goal

abbrev pub invariant-loop-i : goal.invariant-loop-i
invariant-loop-i l = Replaying (core_machine (lent l.method)) l.bytes l.initial.t l.initial.slots l.initial.log l.initial.answers l.i l.t l.slots l.log l.answers
