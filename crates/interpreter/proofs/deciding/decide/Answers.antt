-- `decide` meets its contract. Assumes nothing.
use Rattle.std.proofs.Common.{sym, ap, ◌∙◌}
use Rattle.std.proofs.lemmas.Result.{err_from_is_err_and}
use Rattle.rules.specs.Lent.{lent}
use Rattle.return_types.specs.Settled.{settled}
use Rattle.interpreter.specs.Stages.{caught}
use Rattle.interpreter.proofs.Plain.{caught_settled, decide_caught}
use Rattle.interpreter.proofs.Answers.{by_frame}
use Rattle.interpreter.proofs.deciding.decide.Goals as goal

pub returns-in_err-check_frame : goal.returns-in_err-check_frame
returns-in_err-check_frame c = let p = err_from_is_err_and c.from_residual.result c.from_residual.ensures.1 in
    rw (p.1, p.2) (sym (by_frame (lent c.args.method.now) c.args.s c.args.slots.now _ (sym (c.check_frame.ensures _) ∙ c.in_err-check_frame.was)))

pub returns : goal.returns
returns c = let a = c.args in
    let l = lent a.method.now in
    c.settle.ensures ∙ ap (settled a.s.return_type) c.ask_handlers-decision.ensures ∙ caught_settled l a.s c.decide_framed-decision.result
    ∙ ap (caught l a.s) c.decide_framed-decision.ensures ∙ sym (decide_caught l a.s a.slots.now)
