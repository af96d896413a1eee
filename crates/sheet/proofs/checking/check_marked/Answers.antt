-- `check_marked` meets its contract. Assumes nothing.
use mathlib.Core.Path.{sym, ◌∙◌}
use Rattle.rules.proofs.Sheet.{disordered, wrong_length, read_on}
use Rattle.sheet.proofs.checking.check_marked.Goals as goal

pub returns-then-not-may_follow : goal.returns-then-not-may_follow
returns-then-not-may_follow c = let n = c.args.next.now in
    sym (disordered n.record.sheet.now n.record.at n.before c.args.mark (sym c.may_follow.ensures ∙ c.if-not-may_follow.true))

pub returns-then-not-right_length : goal.returns-then-not-right_length
returns-then-not-right_length c = let n = c.args.next.now in
    let ordered = sym c.may_follow.ensures ∙ c.if-not-may_follow.false in
    let wrong = rw c.body_length.ensures at (sym c.right_length.ensures ∙ c.if-not-right_length.true) in
    sym (wrong_length n.record.sheet.now n.record.at n.before c.args.mark ordered wrong)

pub returns : goal.returns
returns c = let n = c.args.next.now in
    let ordered = sym c.may_follow.ensures ∙ c.if-not-may_follow.false in
    let right = rw c.body_length.ensures at (sym c.right_length.ensures ∙ c.if-not-right_length.false) in
    c.read_contents.ensures ∙ sym (read_on n.record.sheet.now n.record.at n.before c.args.mark ordered right)
