-- `check_record` meets its contract. Assumes nothing.
use mathlib.Core.Path.{sym, ◌∙◌}
use Rattle.std.proofs.lemmas.Result.{err_from_is_err_and}
use Rattle.rules.proofs.Sheet.{head_cut, body_cut, unknown, marked}
use Rattle.sheet.proofs.checking.check_record.Goals as goal
use Rattle.sheet.proofs.checking.check_record.Goals.{then-length-body-via-then-length-body, then-length-body-via-else-length-body+then-length-end}

pub returns-then-length-body : goal.returns-then-length-body
returns-then-length-body c = let a = c.args in
    elim c.then-length-body.branch [
      | then-length-body-via-then-length-body w ↦ sym (head_cut a.record.sheet.now a.record.at a.before (rw c.body.ensures at w.if-length-body.true))
      | then-length-body-via-else-length-body+then-length-end w ↦ sym (body_cut a.record.sheet.now a.record.at a.before (rw c.body.ensures at w.if-length-body.false) (rw w.end.ensures at w.if-length-end.true))
    ]

pub returns-in_err-mark : goal.returns-in_err-mark
returns-in_err-mark c = let a = c.args in
    let mark = rw c.mark.ensures at c.in_err-mark.ensures in
    let e = err_from_is_err_and c.from_residual.result c.from_residual.ensures.1 in
    rw (e.1, e.2) (sym (unknown a.record.sheet.now a.record.at a.before (rw c.body.ensures at c.if-length-body.false) (rw c.end.ensures at c.if-length-end.false) _ (sym mark)))

pub returns : goal.returns
returns c = let a = c.args in
    let mark = rw c.mark.ensures at c.in_ok-mark.ensures in
    c.check_marked.ensures ∙ sym (marked a.record.sheet.now a.record.at a.before (rw c.body.ensures at c.if-length-body.false) (rw c.end.ensures at c.if-length-end.false) _ (sym mark))
