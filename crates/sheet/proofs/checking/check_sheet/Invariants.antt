-- `check_sheet` meets its contract. The loop's invariant: what was read lies before the next record, and what is left to read gives what the whole sheet gives.
-- Assumes nothing.
use Rattle.std.proofs.Common.{◌≡◌, ◌-◌, length}
use Rattle.rules.specs.Sheet.{read_from, sheet_check}
use Rattle.rules.proofs.Placement.{Placed}
use Rattle.sheet.proofs.checking.check_sheet.Given as goal

abbrev pub invariant-loop-record : goal.invariant-loop-record
invariant-loop-record l = let left = l.record-iterator in record {
  whole : left.end ≡ length left.sheet.now;
  same : read_from (left.end - left.at) left.sheet.now left.at l.p ≡ sheet_check l.fn.sheet;
  placed : Placed left.sheet.now left.at l.p;
}
