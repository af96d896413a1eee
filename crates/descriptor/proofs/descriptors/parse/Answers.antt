-- `parse` meets its contract. Assumes nothing.
use Rattle.std.proofs.Common.{refl, sym, ap, ◌∙◌}
use Rattle.rules.specs.Descriptor.{opening, closing, return_letter, return_end}
use Rattle.descriptor.specs.Answers.{Whole}
use Rattle.descriptor.specs.Cursors.{StandsAt}
use Rattle.descriptor.proofs.Promise.{unopened, over, unclosed, no_end, more_or_less, accepted}
use Rattle.descriptor.proofs.Turns.{byte_passed, no_byte}
use Rattle.descriptor.proofs.descriptors.parse.Goals as goal

pub returns-in_err-past : goal.returns-in_err-past
returns-in_err-past c = let d = c.args.d.now in
    rw c.from_residual.ensures (unopened d (no_byte d 0 opening (rw (c.start.ensures.same, c.start.ensures.first) at c.in_err-past.ensures)))

pub returns-in_err-parameters : goal.returns-in_err-parameters
returns-in_err-parameters c = let d = c.args.d.now in
    let (opens, same, _) = byte_passed d opening c.start.result c.in_ok-past.field-0 c.start.ensures.same c.in_ok-past.ensures in
    rw c.from_residual-in_err-parameters.ensures (over d (rw c.start.ensures.first at opens) (rw same at c.in_err-parameters.ensures))

pub returns-in_err-returned : goal.returns-in_err-returned
returns-in_err-returned c = let d = c.args.d.now in
    let p = c.in_ok-parameters.parameters in
    let (opens, same, _) = byte_passed d opening c.start.result c.in_ok-past.field-0 c.start.ensures.same c.in_ok-past.ensures in
    let w : Whole d p = rw same at c.in_ok-parameters.ensures in
    rw c.from_residual-in_err-returned.ensures (unclosed d (rw c.start.ensures.first at opens) p w (no_byte d p.end.at closing (rw w.same at c.in_err-returned.ensures)))

pub returns-in_err-returned-2 : goal.returns-in_err-returned-2
returns-in_err-returned-2 c = let d = c.args.d.now in
    let p = c.in_ok-parameters.parameters in
    let (opens, same, _) = byte_passed d opening c.start.result c.in_ok-past.field-0 c.start.ensures.same c.in_ok-past.ensures in
    let w : Whole d p = rw same at c.in_ok-parameters.ensures in
    let (closes, same_2, after) = byte_passed d closing p.end c.in_ok-returned.returned w.same c.in_ok-returned.ensures in
    rw c.from_residual-in_err-returned-2.ensures (no_end d (rw c.start.ensures.first at opens) p w closes _ after (rw same_2 at c.in_err-returned-2.ensures))

pub returns-then-branch-d : goal.returns-then-branch-d
returns-then-branch-d c = let d = c.args.d.now in
    let p = c.in_ok-parameters.parameters in
    let r = c.in_ok-returned.returned in
    let (opens, same, _) = byte_passed d opening c.start.result c.in_ok-past.field-0 c.start.ensures.same c.in_ok-past.ensures in
    let w : Whole d p = rw same at c.in_ok-parameters.ensures in
    let (closes, same_2, after) = byte_passed d closing p.end r w.same c.in_ok-returned.ensures in
    let ends : StandsAt d (return_end d r.at) c.in_ok-returned-2.field-0 = rw same_2 at c.in_ok-returned-2.ensures in
    more_or_less d (rw c.start.ensures.first at opens) p w closes r.at after (λ e. c.if-branch-d.true (ends.there ∙ e))

pub returns : goal.returns
returns c = let d = c.args.d.now in
    let p = c.in_ok-parameters.parameters in
    let r = c.in_ok-returned.returned in
    let (opens, same, _) = byte_passed d opening c.start.result c.in_ok-past.field-0 c.start.ensures.same c.in_ok-past.ensures in
    let w : Whole d p = rw same at c.in_ok-parameters.ensures in
    let (closes, same_2, after) = byte_passed d closing p.end r w.same c.in_ok-returned.ensures in
    let ends : StandsAt d (return_end d r.at) c.in_ok-returned-2.field-0 = rw same_2 at c.in_ok-returned-2.ensures in
    accepted d (rw c.start.ensures.first at opens) p w closes r.at after (sym ends.there ∙ c.if-branch-d.false) p.places _ refl (c.return_letter.ensures ∙ ap return_letter (rw same_2 at c.byte.ensures))
