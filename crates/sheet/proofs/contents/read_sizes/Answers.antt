-- `read_sizes` meets its contract. Assumes nothing.
use Rattle.std.proofs.Common.{ℕ, ◌≡◌, ◌+◌, arith}
use Rattle.rules.specs.Check.{◌>>◌}
use Rattle.rules.specs.Sheet.{contents_check, with_record}
use Rattle.sheet.proofs.contents.read_sizes.Goals as goal

pub returns : goal.returns
unfolding contents_check with_record ◌>>◌
returns c = let e : ◌≡◌ {A = ℕ} (c.args.next.now.record.at + 4 + 2) (c.args.next.now.record.at + 6) = omega arith in simp (e, c.u16_at.ensures, c.u16_at-2.ensures)
