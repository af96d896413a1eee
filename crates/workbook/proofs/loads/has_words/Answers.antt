-- `has_words` meets its contract. Assumes nothing.
use Prim.Native.Nat.{◌^◌}
use mathlib.Core.Path.{sym, ap, ◌∙◌}
use lib.Dec.{ltb}
use Rattle.rules.specs.Check.{is_passed}
use Rattle.rules.specs.Sheet.{handlers_length}
use Rattle.rules.proofs.Check.{last_asked}
use Rattle.workbook.proofs.Checks.{words_short, words_long, word_most}
use Rattle.workbook.proofs.loads.has_words.Goals as goal

pub returns-then-are_lent : goal.returns-then-are_lent
returns-then-are_lent c = let a = c.args in
    let long = words_long a.state.now a.answer.now a.p (sym c.are_lent.ensures ∙ c.if-are_lent.true) in
    rw c.handlers_length.ensures (word_most (handlers_length a.p) ∙ last_asked (ltb (handlers_length a.p) (2 ^ 32)) _ ∙ sym (ap is_passed long))

pub returns-else-are_lent : goal.returns-else-are_lent
returns-else-are_lent c = let a = c.args in
    c.if-are_lent.false ∙ sym (ap is_passed (words_short a.state.now a.answer.now a.p (sym c.are_lent.ensures ∙ c.if-are_lent.false)))
