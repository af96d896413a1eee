-- A walk gives what a run does. Assumes nothing.
use Rattle.std.proofs.Common.{◌∙◌, sym, arith}
use Rattle.rules.specs.Lent.{lent}
use Rattle.walks.proofs.Walked.{begins, ends_at_once, turns, halts, stops}
use Rattle.walks.proofs.walking.walk.Goals as goal

pub returns-then-is_some-clause-run : goal.returns-then-is_some-clause-run
returns-then-is_some-clause-run g c =
    let a = c.args in
    ends_at_once (lent a.method.now) a.most a.s a.slots.now _ c.run-start.ensures.slots_after (sym c.is_some.ensures ∙ c.if-is_some.true)

pub loop-steps-init : goal.loop-steps-init
loop-steps-init g c =
    let a = c.args in
    begins (lent a.method.now) a.most a.s a.slots.now _ c.run-start.ensures.slots_after (sym c.is_some.ensures ∙ c.if-is_some.false)

pub returns-in-Err-clause-run : goal.returns-in-Err-clause-run
returns-in-Err-clause-run g c = halts _ _ _ _ _ _ _ c.loop-steps.invariant c.loop-steps-test.true _ (sym c.decide.ensures ∙ c.in-Err.is)

pub loop-steps-preserved : goal.loop-steps-preserved
loop-steps-preserved g c = turns _ _ _ _ _ _ _ c.loop-steps.invariant c.loop-steps-test.true _ (sym c.decide.ensures ∙ c.in_default.is) _ c.step.ensures

pub returns-clause-run : goal.returns-clause-run
returns-clause-run g c = stops _ _ _ _ _ _ _ c.loop-steps.invariant (omega arith)
