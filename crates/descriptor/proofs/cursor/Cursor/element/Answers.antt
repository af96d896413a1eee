-- `element` meets its contract. Assumes nothing.
use Rattle.std.proofs.Common.{sym, ◌∙◌, arith}
use borrow.Author.Tests.{ne_eqb}
use Rattle.rules.specs.Fetch.{u8}
use Rattle.rules.specs.Descriptor.{class_type, element_end}
use Rattle.rules.proofs.Fields.{base_element, class_element}
use Rattle.descriptor.proofs.cursor.Cursor.element.Goals as goal

pub returns-then-is_base : goal.returns-then-is_base
returns-then-is_base c = let s = c.args.self in
    let base = base_element s.descriptor.now s.at (sym (rw c.byte-first.ensures at c.is_base.ensures) ∙ c.if-is_base.true) in
    record { same = c.next.ensures.same; there = c.next.ensures.after ∙ sym base; begun = rw base (omega arith) }

pub returns-then-first-eq-CLASS : goal.returns-then-first-eq-CLASS
returns-then-first-eq-CLASS c = let s = c.args.self in
    rw (class_element s.descriptor.now s.at (sym c.byte-first.ensures ∙ c.if-first-eq-CLASS.true)) (rw (c.next-then-first-eq-CLASS.ensures.same, c.next-then-first-eq-CLASS.ensures.after) at c.class_name.ensures)

pub returns : goal.returns
unfolding element_end
returns c = let s = c.args.self in
    let e = c.byte-first.ensures in
    rw (sym (rw e at c.is_base.ensures) ∙ c.if-is_base.false, ne_eqb (u8 s.descriptor.now s.at) class_type (λ f. omega arith))
