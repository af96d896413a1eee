-- `read_types` meets its contract. Assumes nothing.
use Rattle.std.proofs.lemmas.Result.{err_from_is_err_and}
use Rattle.sheet.proofs.Answers.{types_read, types_refused}
use Rattle.sheet.proofs.contents.read_types.Goals as goal

pub returns-in_err-descriptor : goal.returns-in_err-descriptor
returns-in_err-descriptor c = let n = c.args.next.now in
    let e = err_from_is_err_and c.from_residual.result c.from_residual.ensures.1 in
    rw (e.1, e.2) (types_refused n.record.sheet.now n.record.at n.before _ _ c.in_err-descriptor.ensures.value c.descriptor.ensures)

pub returns : goal.returns
returns c = let n = c.args.next.now in
    types_read n.record.sheet.now n.record.at n.before _ _ c.in_ok-descriptor.ensures.value c.descriptor.ensures
