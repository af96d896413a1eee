-- `class_name` meets its contract. The loop's invariant: what is left to read gives what the whole name gives. Assumes nothing.
use Rattle.std.proofs.Common.{refl, sym, ◌∙◌, arith}
use Rattle.rules.specs.Descriptor.{semicolon}
use Rattle.rules.proofs.Names.{name_enough}
use Rattle.descriptor.specs.Cursors.{StandsAt, after_byte, after_character}
use Rattle.descriptor.proofs.Turns.{byte_there, no_byte, no_character, ended, goes_on, slash_passed}
use Rattle.descriptor.proofs.cursor.Cursor.class_name.Goals as goal

pub loop-next-init : goal.loop-next-init
loop-next-init c = let s = c.args.self in
    record { same = refl; left = name_enough s.descriptor.now _ _ s.at (omega arith) (omega arith) }

pub returns-in-Some-past : goal.returns-in-Some-past
returns-in-Some-past c = let d = c.args.self.descriptor.now in
    let t = c.loop-next in
    let next : StandsAt d (after_character d t.cursor.at) c.in-Some.next = rw t.invariant.same at c.in-Some.ensures in
    let end : StandsAt d (after_byte d c.in-Some.next.at semicolon) c.in-Some-past.end = rw next.same at c.in-Some-past.ensures in
    let (stands, after) = byte_there d c.in-Some.next.at semicolon end.begun in
    let whole = sym (ended d t.cursor.at c.in-Some.next.at next.there next.begun stands) ∙ t.invariant.left in
    record { same = end.same; there = end.there ∙ after ∙ whole; begun = omega (arith, whole) }

pub loop-next-preserved : goal.loop-next-preserved
loop-next-preserved c = let d = c.args.self.descriptor.now in
    let t = c.loop-next in
    let next : StandsAt d (after_character d t.cursor.at) c.in-Some.next = rw t.invariant.same at c.in-Some.ensures in
    let (same, then) = slash_passed d c.in-Some.next c.past-in-Some.result next.same (rw next.same at c.past-in-Some.ensures) in
    let no_end = no_byte d c.in-Some.next.at semicolon (rw next.same at c.in_default-past.ensures) in
    rw c.unwrap_or-cursor.ensures (record { same = same; left = (goes_on d t.cursor.at c.in-Some.next.at next.there next.begun no_end _ then).1 ∙ t.invariant.left })

pub returns : goal.returns
returns c = let d = c.args.self.descriptor.now in
    let t = c.loop-next in
    sym t.invariant.left ∙ no_character d t.cursor.at (rw t.invariant.same at c.in_default.ensures) _
