-- `read_arguments` meets its contract. Assumes nothing.
use Rattle.std.proofs.Common.{sym, ◌∙◌}
use Rattle.std.proofs.lemmas.Result.{err_from_is_err_and}
use Rattle.rules.specs.declared.sheets.Mark.TheVariants.{AR}
use Rattle.rules.specs.Sheet.{with_record}
use Rattle.rules.proofs.Sheet.{bad_contents, good_contents}
use Rattle.sheet.proofs.contents.read_arguments.Goals as goal

pub returns-in_err-check_arguments : goal.returns-in_err-check_arguments
returns-in_err-check_arguments c = let n = c.args.next.now in
    let e = err_from_is_err_and c.from_residual.result c.from_residual.ensures.1 in
    rw (e.1, e.2) (sym (bad_contents n.record.sheet.now n.record.at n.before AR _ (sym c.in_err-check_arguments.ensures)))

pub returns : goal.returns
unfolding with_record
returns c = let n = c.args.next.now in
    sym (good_contents n.record.sheet.now n.record.at n.before AR (sym c.in_ok-check_arguments.ensures) ∙ simp (← c.body.ensures, ← c.body_length.ensures, c.from.ensures))
