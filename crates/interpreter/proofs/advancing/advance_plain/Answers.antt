-- `advance_plain` meets its contract. The loop's invariant is `Going`; the measure is how many steps are left. Assumes nothing.
use mathlib.Core.Path.{sym, ap, ◌∙◌}
use Rattle.rules.proofs.Legal.{ordinary_legal}
use Rattle.return_types.specs.Settled.{settled}
use Rattle.interpreter.proofs.Steps.{turn, ends_there, all_taken}
use Rattle.interpreter.proofs.advancing.advance_plain.Goals as goal

pub returns-in_default : goal.returns-in_default
returns-in_default c = let t = c.loop-u in
    ends_there _ _ _ _ _ t.slots t.t t.steps t.invariant c.decide_framed.result c.decide_framed.ensures (_, c.in_default.is)

pub returns-then-steps-most : goal.returns-then-steps-most
returns-then-steps-most c = let t = c.loop-u in
    all_taken _ _ _ _ _ t.slots t.t t.steps t.invariant c.if-steps-most.true _ (sym c.decide_framed.ensures)

pub take-t-requires : goal.take-t-requires
take-t-requires c = let t = c.loop-u in
    let k = ordinary_legal _ t.t t.slots _ (sym c.decide_framed.ensures ∙ ap (settled _) c.in-Ok.is) in
    (k.few, k.within, k.frame_there.room)

pub loop-u-preserved : goal.loop-u-preserved
loop-u-preserved c = let t = c.loop-u in
    rw (c.take-t.ensures.state_after, c.take-t.ensures.slots_after)
    (turn _ _ _ _ _ t.slots t.t t.steps t.invariant c.if-steps-most.false _ (sym c.decide_framed.ensures ∙ ap (settled _) c.in-Ok.is))
