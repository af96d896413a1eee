-- `are_lent` meets its contract. Assumes nothing.
use mathlib.Core.Path.{◌∙◌}
use borrow.Author.Tests.{lt-leb}
use Rattle.workbook.proofs.Checks.{short_state, long_state}
use Rattle.workbook.proofs.state_words.are_lent.Goals as goal

pub returns-then-state-ge-STATE_WORDS : goal.returns-then-state-ge-STATE_WORDS
returns-then-state-ge-STATE_WORDS c = long_state _ _ _ c.if-state-ge-STATE_WORDS.true

pub returns-else-state-ge-STATE_WORDS : goal.returns-else-state-ge-STATE_WORDS
returns-else-state-ge-STATE_WORDS c = lt-leb _ _ c.if-state-ge-STATE_WORDS.false ∙ short_state _ _ _ c.if-state-ge-STATE_WORDS.false
