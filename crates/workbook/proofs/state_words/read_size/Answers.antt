-- `read_size` meets its contract. Assumes nothing.
use Rattle.std.proofs.Common.{◌∙◌}
use Rattle.workbook.proofs.StateRead.{size_is}
use Rattle.workbook.proofs.state_words.read_size.Goals as goal

pub returns : goal.returns
returns c = c.or.ensures ∙ size_is c.args.word c.try_from.result c.try_from.ensures
