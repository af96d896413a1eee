-- `advance` meets its contract: where questions 1 to 3 refuse, the rules' decision is that refusal. Assumes nothing.
use mathlib.Core.Path.{refl, sym, ◌∙◌}
use Rattle.rules.specs.Lent.{lent}
use Rattle.interpreter.proofs.Answers.{by_frame}
use Rattle.interpreter.proofs.Steps.{advance_other}
use Rattle.interpreter.proofs.advancing.advance.Goals as goal

pub returns-in-Err : goal.returns-in-Err
returns-in-Err c = let a = c.args in
    let l = lent a.method.now in
    sym (advance_other l 0 a.s a.slots.now a.most _ (by_frame l a.s a.slots.now _ (sym (c.check_frame-asked.ensures _) ∙ c.in-Err.is)) (_, refl))
