-- `lent_state` meets its contract. Assumes nothing.
use Rattle.std.proofs.Common.{sym, ◌∙◌}
use Rattle.workbook.proofs.StateRead.{lent_short, lent_long}
use Rattle.workbook.proofs.state_words.lent_state.Goals as goal

pub returns-then-not-are_lent : goal.returns-then-not-are_lent
returns-then-not-are_lent c = lent_short _ _ (sym c.are_lent.ensures ∙ c.if-not-are_lent.true)

pub returns : goal.returns
returns c = c.read_state.ensures ∙ lent_long _ _ (sym c.are_lent.ensures ∙ c.if-not-are_lent.false)
