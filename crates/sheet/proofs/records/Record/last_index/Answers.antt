-- `last_index` meets its contract. Assumes nothing.
use Rattle.rules.specs.Sheet.{last_index}
use Rattle.sheet.proofs.records.Record.last_index.Goals as goal

pub returns-then-is_wide : goal.returns-then-is_wide
unfolding last_index
returns-then-is_wide c = simp (← c.pool_index.ensures, c.from-index.ensures, ← c.is_wide.ensures, c.if-is_wide.true)

pub returns-else-is_wide : goal.returns-else-is_wide
unfolding last_index
returns-else-is_wide c = simp (← c.pool_index.ensures, c.from-index.ensures, ← c.is_wide.ensures, c.if-is_wide.false)
