-- `enter_words` meets its contract. Assumes nothing.
use Rattle.rules.specs.Sheet.{with_words}
use Rattle.sheet.proofs.filling.enter_words.Goals as goal

pub returns-then-is_wide : goal.returns-then-is_wide
unfolding with_words
returns-then-is_wide c = rw (c.put-then-is_wide.ensures, c.put.ensures, ← c.is_wide.ensures, c.if-is_wide.true, c.from-index.ensures, c.pool_index.ensures, c.second_word.ensures, c.word-first.ensures)

pub returns-else-is_wide : goal.returns-else-is_wide
unfolding with_words
returns-else-is_wide c = rw (c.put-else-is_wide.ensures, ← c.is_wide.ensures, c.if-is_wide.false, c.from-index.ensures, c.pool_index.ensures, c.word-first.ensures)
