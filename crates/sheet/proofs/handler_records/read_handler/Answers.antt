-- `read_handler` meets its contract. Assumes nothing.
use Rattle.std.proofs.Common.{sym}
use Rattle.rules.specs.declared.sheets.Mark.TheVariants.{EX}
use Rattle.rules.specs.Sheet.{with_record}
use Rattle.rules.proofs.Sheet.{bad_contents, good_contents}
use Rattle.sheet.proofs.Rows.{yes, no, handler_row}
use Rattle.sheet.proofs.handler_records.read_handler.Goals as goal

pub returns-then-not-is_handler : goal.returns-then-not-is_handler
returns-then-not-is_handler c = let n = c.args.next.now in
    sym (bad_contents n.record.sheet.now n.record.at n.before EX _ (no _ _ _ _ (handler_row n.record.sheet.now n.record.at n.before) c.is_handler.ensures c.if-not-is_handler.true))

pub returns : goal.returns
unfolding with_record
returns c = let n = c.args.next.now in
    sym (good_contents n.record.sheet.now n.record.at n.before EX (yes _ _ _ _ (handler_row n.record.sheet.now n.record.at n.before) c.is_handler.ensures c.if-not-is_handler.false))
