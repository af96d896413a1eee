-- `advance_framed` meets its contract. The loop's invariant is `Going`; the measure is how many steps are left. Assumes nothing.
use Prim.Native.Nat.{ℕ, ◌-◌, ◌≤◌}
use borrow.Author.Tests.{eqb-true}
use mathlib.Core.List.{List}
use mathlib.Core.Path.{◌≡◌, refl, sym, ap, ◌∙◌}
use native.Mathlib.Omega.{arith}
use native.Mathlib.Nat.{sub-zero}
use Rattle.rules.specs.declared.states.State.{State}
use Rattle.rules.specs.Questions.{Method}
use Rattle.rules.specs.Lent.{lent, plain}
use Rattle.rules.specs.Step.{decide_of}
use Rattle.rules.proofs.Legal.{ordinary_legal}
use Rattle.return_types.specs.Settled.{settled}
use Rattle.interpreter.specs.Advance.{Reached, advance_from}
use Rattle.interpreter.specs.Stages.{caught}
use Rattle.interpreter.specs.Taken.{reached}
use Rattle.interpreter.proofs.Steps.{Going, turn, ends_there, all_taken}
use Rattle.interpreter.proofs.Plain.{plain_framed, without_handlers, caught_settled, decide_caught, Plain, plain_steps, plain_going}
use Rattle.interpreter.proofs.advancing.advance_framed.Goals as goal
use Rattle.rules.specs.Decisions.{Decision}

-- where plain steps ended: what was decided there by the handlers is what the rules decide, and the steps that are left lead where all of them lead
module _ (l : Method) (slots₀ : List ℕ) (most : ℕ) (s₀ : State) (slots : List ℕ) (s : State) (n : ℕ) (g : Going l slots₀ 0 most s₀ slots s n) where
  module _ (r : Reached) (e : r ≡ advance_from (plain l) (most - n) n s slots) where
    led : Plain l (most - n) n s slots r
    led = rw e (plain_steps l (most - n) n s slots g.framed)

    going : Going l slots₀ 0 most s₀ r.slots r.state r.steps
    going = plain_going l slots₀ most s₀ slots s n g r led

    from : n ≤ r.steps
    from = led.from

    decides : (decided decision : Decision) → r.decision ≡ settled r.state.return_type decided → decision ≡ caught l r.state decided
        → settled r.state.return_type decision ≡ decide_of l r.state r.slots
    decides decided decision q h =
        ap (settled r.state.return_type) h ∙ caught_settled l r.state decided ∙ ap (caught l r.state) (sym q ∙ led.decides) ∙ sym (decide_caught l r.state r.slots)

pub returns-then-is_empty : goal.returns-then-is_empty
returns-then-is_empty c = let a = c.args in
    let l = lent a.method.now in
    let p = plain_steps l (a.most - 0) 0 a.s a.slots.now c.requires in
    let r = c.advance_plain.result in
    let e = c.advance_plain.ensures in
    record { slots_after = e ∙ without_handlers l (eqb-true _ 0 (sym c.is_empty.ensures ∙ c.if-is_empty.true)) a.most 0 a.s a.slots.now ∙ rw (sub-zero a.most); steps_le_most = omega (arith, p.upto, ap (λ (x : Reached). x.steps) e) }

pub advance_plain-plain-requires : goal.advance_plain-plain-requires
advance_plain-plain-requires c = let t = c.loop-u in record { slots_value = plain_framed _ _ _ t.invariant.framed; taken_le_most = t.invariant.upto }

pub returns-in_default : goal.returns-in_default
returns-in_default c =
    let a = c.args in
    let l = lent a.method.now in
    let t = c.loop-u in
    let p = c.advance_plain-plain in
    let r = reached p.result p.new.slots in
    let g = going l a.slots.now a.most a.s t.slots t.t t.steps t.invariant r p.ensures in
    let d = decides l a.slots.now a.most a.s t.slots t.t t.steps t.invariant r p.ensures p.result.decision c.ask_handlers.result refl c.ask_handlers.ensures in
    record {
      slots_after = ends_there _ _ _ _ _ r.slots r.state r.steps g c.ask_handlers.result d (_, c.in_default.is) ∙ rw (sub-zero a.most);
      steps_le_most = g.upto;
    }

pub returns-then-reached-most : goal.returns-then-reached-most
returns-then-reached-most c =
    let a = c.args in
    let l = lent a.method.now in
    let t = c.loop-u in
    let p = c.advance_plain-plain in
    let r = reached p.result p.new.slots in
    let g = going l a.slots.now a.most a.s t.slots t.t t.steps t.invariant r p.ensures in
    let d = decides l a.slots.now a.most a.s t.slots t.t t.steps t.invariant r p.ensures p.result.decision c.ask_handlers.result refl c.ask_handlers.ensures in
    record {
      slots_after = all_taken _ _ _ _ _ r.slots r.state r.steps g c.if-reached-most.true _ (sym d) ∙ rw (sub-zero a.most);
      steps_le_most = g.upto;
    }

pub take-t-requires : goal.take-t-requires
take-t-requires c =
    let a = c.args in
    let l = lent a.method.now in
    let t = c.loop-u in
    let p = c.advance_plain-plain in
    let r = reached p.result p.new.slots in
    let g = going l a.slots.now a.most a.s t.slots t.t t.steps t.invariant r p.ensures in
    let d = decides l a.slots.now a.most a.s t.slots t.t t.steps t.invariant r p.ensures p.result.decision c.ask_handlers.result refl c.ask_handlers.ensures in
    let k = ordinary_legal _ r.state r.slots _ (sym d ∙ ap (settled _) c.in-Ok.is) in
    (k.few, k.within, k.frame_there.room)

pub overflow_add-steps : goal.overflow_add-steps
overflow_add-steps c =
    let a = c.args in
    let l = lent a.method.now in
    let t = c.loop-u in
    let p = c.advance_plain-plain in
    let r = reached p.result p.new.slots in
    let g = going l a.slots.now a.most a.s t.slots t.t t.steps t.invariant r p.ensures in
    omega (arith, g.upto, c.if-reached-most.false, c.ranges.most)

pub loop-u-smaller : goal.loop-u-smaller
loop-u-smaller c =
    let a = c.args in
    let l = lent a.method.now in
    let t = c.loop-u in
    let p = c.advance_plain-plain in
    let r = reached p.result p.new.slots in
    let g = going l a.slots.now a.most a.s t.slots t.t t.steps t.invariant r p.ensures in
    omega (arith, g.upto, c.if-reached-most.false, from l a.slots.now a.most a.s t.slots t.t t.steps t.invariant r p.ensures)

pub loop-u-preserved : goal.loop-u-preserved
loop-u-preserved c =
    let a = c.args in
    let l = lent a.method.now in
    let t = c.loop-u in
    let p = c.advance_plain-plain in
    let r = reached p.result p.new.slots in
    let g = going l a.slots.now a.most a.s t.slots t.t t.steps t.invariant r p.ensures in
    let d = decides l a.slots.now a.most a.s t.slots t.t t.steps t.invariant r p.ensures p.result.decision c.ask_handlers.result refl c.ask_handlers.ensures in
    rw (c.take-t.ensures.state_after, c.take-t.ensures.slots_after) (turn _ _ _ _ _ r.slots r.state r.steps g c.if-reached-most.false _ (sym d ∙ ap (settled _) c.in-Ok.is))
