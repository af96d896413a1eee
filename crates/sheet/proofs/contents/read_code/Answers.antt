-- `read_code` meets its contract. Assumes nothing.
use Rattle.rules.specs.Check.{◌>>◌}
use Rattle.rules.specs.Sheet.{contents_check, with_record}
use Rattle.sheet.proofs.contents.read_code.Goals as goal

pub returns : goal.returns
unfolding contents_check with_record ◌>>◌
returns c = simp (c.body.ensures, c.from.ensures, c.body_length.ensures, c.end.ensures)
