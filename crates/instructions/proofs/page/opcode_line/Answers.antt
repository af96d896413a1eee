-- `opcode_line` meets its contract. Assumes nothing.
use mathlib.Core.Path.{sym, ap, ◌∙◌}
use Rattle.instructions.proofs.Entries.{page_line, line_is}
use Rattle.instructions.proofs.page.opcode_line.Goals as goal

pub returns-in-None : goal.returns-in-None
returns-in-None c = let n = c.args.opcode in ap (page_line n) (sym c.in-None.is ∙ c.entry.ensures) ∙ line_is n

pub returns-in-Some : goal.returns-in-Some
returns-in-Some c = let n = c.args.opcode in
    rw (c.from.ensures, c.from-in-Some.ensures, c.from-in-Some-2.ensures, c.length.ensures) (ap (page_line n) (sym c.in-Some.is ∙ c.entry.ensures) ∙ line_is n)
