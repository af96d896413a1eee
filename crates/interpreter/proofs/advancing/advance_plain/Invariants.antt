-- `advance_plain` meets its contract. The loop's invariant is `Going`; the measure is how many steps are left. Assumes nothing.
use Prim.Native.Nat.{◌-◌}
use Rattle.rules.specs.Lent.{lent, plain}
use Rattle.interpreter.proofs.Steps.{Going}
use Rattle.interpreter.proofs.advancing.advance_plain.Given as goal

abbrev pub invariant-loop-u : goal.invariant-loop-u
invariant-loop-u l = Going (plain (lent l.method)) l.initial.slots l.taken l.most l.initial.t l.slots l.t l.steps

abbrev pub decreases-loop-u : goal.decreases-loop-u
decreases-loop-u l = l.most - l.steps
