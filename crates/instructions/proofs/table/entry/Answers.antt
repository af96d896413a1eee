-- `entry` meets its contract. Assumes nothing.
use Rattle.instructions.proofs.Entries.{table_rule}
use Rattle.instructions.proofs.table.entry.Goals as goal

pub returns : goal.returns
returns c = rw c.from.ensures (table_rule c.args.opcode c.ranges.opcode.fits)
