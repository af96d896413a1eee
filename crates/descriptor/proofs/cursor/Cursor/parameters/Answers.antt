-- `parameters` meets its contract. The loop's invariant: the places counted and those ahead are all. Assumes nothing.
use Rattle.std.proofs.Common.{◌≡◌, ap, ◌∙◌, refl, arith}
use Rattle.values.specs.Kinds.{places}
use Rattle.rules.specs.Fetch.{u8}
use Rattle.rules.specs.Descriptor.{field_end, kind_of}
use Rattle.descriptor.specs.Cursors.{StandsAt}
use Rattle.descriptor.proofs.Turns.{counting_starts, forward, counting_goes_on, counted}
use Rattle.descriptor.proofs.cursor.Cursor.parameters.Goals as goal

pub loop-places-init : goal.loop-places-init
loop-places-init c = record { same = refl; counting = rw c.requires (counting_starts c.args.self.descriptor.now) }

pub returns-in_default : goal.returns-in_default
returns-in_default c = let t = c.loop-places in
    counted c.args.self.descriptor.now t.end.at t.places t.invariant.counting c.loop-places-test.true (rw t.invariant.same at c.in_default.ensures) t.end t.invariant.same refl

pub loop-places-smaller : goal.loop-places-smaller
loop-places-smaller c = let d = c.args.self.descriptor.now in
    let t = c.loop-places in
    let next : StandsAt d (field_end d t.end.at) c.in-Some.next = rw t.invariant.same at c.in-Some.ensures in
    let takes : c.places_of-places.result ≡ places (kind_of (u8 d t.end.at)) = c.places_of-places.ensures ∙ ap (λ x. places (kind_of x)) (rw t.invariant.same at c.byte.ensures) in
    omega (arith, forward d t.end.at t.places t.invariant.counting c.in-Some.next.at c.places_of-places.result next.there next.begun takes)

pub loop-places-preserved : goal.loop-places-preserved
loop-places-preserved c = let d = c.args.self.descriptor.now in
    let t = c.loop-places in
    let next : StandsAt d (field_end d t.end.at) c.in-Some.next = rw t.invariant.same at c.in-Some.ensures in
    let takes : c.places_of-places.result ≡ places (kind_of (u8 d t.end.at)) = c.places_of-places.ensures ∙ ap (λ x. places (kind_of x)) (rw t.invariant.same at c.byte.ensures) in
    record { same = next.same; counting = counting_goes_on d t.end.at t.places t.invariant.counting c.in-Some.next.at c.places_of-places.result next.there next.begun takes }
