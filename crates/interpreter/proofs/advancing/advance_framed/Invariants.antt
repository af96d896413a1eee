-- `advance_framed` meets its contract. The loop's invariant is `Going`; the measure is how many steps are left. Assumes nothing.
use Prim.Native.Nat.{◌-◌}
use Rattle.rules.specs.Lent.{lent}
use Rattle.interpreter.proofs.Steps.{Going}
use Rattle.interpreter.proofs.advancing.advance_framed.Given as goal

abbrev pub invariant-loop-u : goal.invariant-loop-u
invariant-loop-u l = Going (lent l.method) l.initial.slots 0 l.most l.initial.t l.slots l.t l.steps

abbrev pub decreases-loop-u : goal.decreases-loop-u
decreases-loop-u l = l.most - l.steps
