-- `check_arguments` meets its contract. Assumes nothing.
use mathlib.Core.Path.{sym, ◌∙◌}
use Rattle.rules.proofs.Sheet.{too_many, wrong_count, arguments_read}
use Rattle.sheet.proofs.contents.check_arguments.Goals as goal

pub returns-then-count-next : goal.returns-then-count-next
returns-then-count-next c = let n = c.args.next.now in
    sym (too_many n.record.sheet.now n.record.at n.before (rw c.body_length-count.ensures at c.if-count-next.true))

pub returns-then-not-are_taken : goal.returns-then-not-are_taken
returns-then-not-are_taken c = let n = c.args.next.now in
    let few = rw c.body_length-count.ensures at c.if-count-next.false in
    let wrong = rw c.body_length-count.ensures at (sym c.are_taken.ensures ∙ c.if-not-are_taken.true) in
    sym (wrong_count n.record.sheet.now n.record.at n.before few wrong)

pub returns : goal.returns
returns c = let n = c.args.next.now in
    let few = rw c.body_length-count.ensures at c.if-count-next.false in
    let right = rw c.body_length-count.ensures at (sym c.are_taken.ensures ∙ c.if-not-are_taken.false) in
    sym (arguments_read n.record.sheet.now n.record.at n.before few right)
