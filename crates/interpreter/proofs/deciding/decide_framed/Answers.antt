-- `decide_framed` meets its contract. Assumes nothing.
use mathlib.Core.Path.{refl, sym, ap, ◌∙◌}
use native.Mathlib.Omega.{arith}
use Rattle.std.proofs.lemmas.Result.{err_from_is_err_and}
use Rattle.rules.specs.Lent.{lent, plain}
use Rattle.rules.proofs.Questions.{framed}
use Rattle.return_types.specs.Settled.{settled}
use Rattle.interpreter.specs.Stages.{located_of}
use Rattle.interpreter.proofs.Answers.{decodes, by_fetch, by_needs, by_located, next_small, in_table}
use Rattle.interpreter.proofs.deciding.decide_framed.Goals as goal

pub overflow_add-next : goal.overflow_add-next
overflow_add-next c = let a = c.args in
    let l = plain (lent a.method.now) in
    let f = c.requires in
    let d = decodes l.code a.s.pc _ _ _ _ (sym c.in_ok-decoded.was ∙ c.decode.ensures) in
    omega (arith, next_small l a.s a.slots.now f _ _ _ _ d)

pub invariant_of-i : goal.invariant_of-i
unfolding located_of
invariant_of-i c = let a = c.args in
    let l = plain (lent a.method.now) in
    let f = c.requires in
    let d = decodes l.code a.s.pc _ _ _ _ (sym c.in_ok-decoded.was ∙ c.decode.ensures) in
    rw c.locate.ensures (record { short = (framed l a.s _ f).short_code; shared = in_table l a.s a.slots.now f _ _ _ _ d })

pub returns-in_err-decoded : goal.returns-in_err-decoded
returns-in_err-decoded c = let a = c.args in
    let l = plain (lent a.method.now) in
    let p = err_from_is_err_and c.from_residual.result c.from_residual.ensures.1 in
    rw (p.1, p.2) (sym (by_fetch l a.s a.slots.now c.requires _ (sym c.in_err-decoded.was ∙ c.decode.ensures)))

pub returns-in_err-placed : goal.returns-in_err-placed
returns-in_err-placed c = let a = c.args in
    let l = plain (lent a.method.now) in
    let d = decodes l.code a.s.pc _ _ _ _ (sym c.in_ok-decoded.was ∙ c.decode.ensures) in
    let p = err_from_is_err_and c.from_residual-in_err-placed.result c.from_residual-in_err-placed.ensures.1 in
    rw (p.1, p.2) (sym (by_needs l a.s a.slots.now c.requires _ _ _ _ d _ (sym c.in_err-placed.was ∙ c.place.ensures)))

pub returns : goal.returns
returns c = let a = c.args in
    let l = plain (lent a.method.now) in
    let d = decodes l.code a.s.pc _ _ _ _ (sym c.in_ok-decoded.was ∙ c.decode.ensures) in
    ap (settled a.s.return_type) c.decide.ensures ∙ rw c.locate.ensures (by_located l a.s a.slots.now c.requires _ _ _ _ d refl _ _ (sym c.in_ok-placed.was ∙ c.place.ensures))
