use Rattle.rules.specs.Lent.{lent}
use Rattle.walks.proofs.Walked.{Walking}
use Rattle.walks.proofs.walking.walk.Given as goal

abbrev pub invariant-loop-steps : goal.invariant-loop-steps
invariant-loop-steps g l = Walking (lent l.fn.method) l.most l.fn.s l.fn.slots l.steps l.state l.slots
