-- `read_constant` meets its contract. Assumes nothing.
use Rattle.std.proofs.Common.{sym, ◌∙◌}
use Rattle.rules.specs.declared.sheets.Mark.TheVariants.{KI}
use Rattle.rules.specs.Sheet.{with_record}
use Rattle.rules.proofs.Sheet.{bad_contents, good_contents}
use Rattle.sheet.proofs.Rows.{yes, no, constant_row}
use Rattle.sheet.proofs.contents.read_constant.Goals as goal

pub returns-then-not-is_constant : goal.returns-then-not-is_constant
returns-then-not-is_constant c = let n = c.args.next.now in
    sym (bad_contents n.record.sheet.now n.record.at n.before KI _ (no _ _ _ _ (constant_row n.record.sheet.now n.record.at n.before) c.is_constant.ensures c.if-not-is_constant.true))

pub returns : goal.returns
unfolding with_record
returns c = let n = c.args.next.now in
    sym (good_contents n.record.sheet.now n.record.at n.before KI (yes _ _ _ _ (constant_row n.record.sheet.now n.record.at n.before) c.is_constant.ensures c.if-not-is_constant.false) ∙ simp (← c.last_index.ensures, ← c.end.ensures))
