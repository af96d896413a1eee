-- Ordinary steps one after the other, on plain values: by their decisions, and one turn of their loop. Assumes nothing.
use Prim.Native.Nat.{ℕ, zero, suc, ◌+◌, ◌-◌, ◌≤◌, ◌<◌}
use mathlib.Core.Path.{◌≡◌, refl, sym, ap, subst, ◌∙◌}
use mathlib.Core.List.{List}
use native.Mathlib.Omega.{arith}
use native.Mathlib.Numerals.{add-one}
use lib.ListN.{length}
use Rattle.values.specs.declared.Value.{Value}
use Rattle.rules.specs.declared.states.State.{State}
use Rattle.rules.specs.declared.updates.Update.{Update}
use Rattle.rules.specs.Check.{Check, ◌>>=◌}
use Rattle.rules.specs.Returns.{returned}
use Rattle.rules.specs.Questions.{Method, frame_check}
use Rattle.rules.specs.Step.{decision, decide_of, moved, written}
use Rattle.rules.proofs.Questions.{frame_passed}
use Rattle.rules.proofs.Legal.{Legal, ordinary_legal, written_length, still_framed}
use Rattle.return_types.specs.Settled.{settled}
use Rattle.interpreter.specs.Advance.{Reached, stands, advance_from}
use Rattle.std.specs.Prelude.{Ok, Err}
use Rattle.rules.specs.declared.halts.Halt.TheVariants.{Return, Throw, Refused}
use Rattle.rules.specs.Decisions.{Decision}
use Rattle.rules.specs.declared.halts.Halt.{Halt}

-- a decision that is not ordinary
abbrev pub Other : Decision → Type 0
Other d = (h : Halt) × (d ≡ Err h)

pub not_other : (u : Update) → Other (Ok u) → ⊥
not_other u h = let e = h.1 in let z : ◌≡◌ {A = ℕ} 0 1 = cc in absurd (omega arith)

-- and it stays another once question 32 is asked of a return
settled_halt : (t : ℕ) (h : Halt) → Other (settled t (Err h))
unfolding ◌>>=◌
settled_halt t (Return v) = go (returned t v)
  where
    go : (x : Check Value) → Other (decision (x >>= λ r. Ok (Err (Return r))))
    go (Ok r) = (_, refl)
    go (Err n) = (_, refl)
settled_halt t Throw = (_, refl)
settled_halt t (Refused n) = (_, refl)

pub settled_other : (t : ℕ) (d : Decision) → Other d → Other (settled t d)
settled_other t d h = subst (λ (x : Decision). Other (settled t x)) (sym h.1) (settled_halt t h.0)

-- ---- steps, by the first decision

module _ (l : Method) (n : ℕ) (s : State) (slots : List ℕ) where
  pub advance_ordinary : (most : ℕ) (u : Update) → decide_of l s slots ≡ Ok u
      → advance_from l (suc most) n s slots ≡ advance_from l most (suc n) (moved s u.pc u.depth 0) (written u slots)
  unfolding advance_from
  advance_ordinary most u e = rw (e, advance_from)

  pub advance_other : (most : ℕ) (d : Decision) → decide_of l s slots ≡ d → Other d → advance_from l most n s slots ≡ stands s n slots d
  unfolding advance_from
  advance_other zero d e h = ap (stands s n slots) e
  advance_other (suc most) (Ok u) e h = absurd (not_other u h)
  advance_other (suc most) (Err h) e o = rw (e, advance_from)

  pub advance_none : advance_from l zero n s slots ≡ stands s n slots (decide_of l s slots)
  unfolding advance_from
  advance_none = refl

-- no step at all: the decision, and everything as it was
module _ (l : Method) (s : State) (slots : List ℕ) (r : Reached) (e : r ≡ advance_from l 0 0 s slots) where
  pub decided_there : r.decision ≡ decide_of l s slots
  decided_there = ap (λ (x : Reached). x.decision) (e ∙ advance_none l 0 s slots)

  -- so that the return type there is the one that was given
  pub settled_there : (d : Decision) → settled s.return_type d ≡ settled r.state.return_type d
  settled_there d = ap (λ (x : Reached). settled x.state.return_type d) (sym (e ∙ advance_none l 0 s slots))

  pub slots_there : r.slots ≡ slots
  slots_there = ap (λ (x : Reached). x.slots) (e ∙ advance_none l 0 s slots)

  pub legal_there : (u : Update) → r.decision ≡ Ok u → Legal l s (length r.slots) u
  legal_there u h = ordinary_legal l s r.slots u (ap (decide_of l s) slots_there ∙ sym decided_there ∙ h)

-- ---- the loop

-- its invariant, where some steps were taken before it: questions 1 to 3 stay passed, and the steps that are left lead where all of them lead
pub record Going (l : Method) (slots₀ : List ℕ) (taken most : ℕ) (s₀ : State) (slots : List ℕ) (s : State) (n : ℕ) : Type 0 where
  pub upto : n ≤ most
  pub long : length slots ≡ length slots₀
  pub framed : frame_check l s (length slots) ≡ Ok tt
  pub rest : advance_from l (most - n) n s slots ≡ advance_from l (most - taken) taken s₀ slots₀

module _ (l : Method) (slots₀ : List ℕ) (taken most : ℕ) (s₀ : State) (slots : List ℕ) (s : State) (n : ℕ) (g : Going l slots₀ taken most s₀ slots s n) where
  pub turn : (n ≡ most → ⊥) → (u : Update) → decide_of l s slots ≡ Ok u → Going l slots₀ taken most s₀ (written u slots) (moved s u.pc u.depth 0) (n + 1)
  turn h u e =
      let legal = ordinary_legal l s slots u e in
      let same = written_length l s slots u legal in
      let below : n < most = omega (arith, g.upto, h) in
      let left : suc (most - (n + 1)) ≡ most - n = omega arith in
      record {
        upto = omega arith;
        long = same ∙ g.long;
        framed = rw same (frame_passed l (moved s u.pc u.depth 0) (length slots) (still_framed l s (length slots) u legal 0));
        rest =
            ap (λ (k : ℕ). advance_from l (most - (n + 1)) k (moved s u.pc u.depth 0) (written u slots)) (add-one n)
            ∙ sym (advance_ordinary l n s slots (most - (n + 1)) u e) ∙ ap (λ (b : ℕ). advance_from l b n s slots) left ∙ g.rest;
      }

  pub ends_there : (d : Decision) → settled s.return_type d ≡ decide_of l s slots → Other d → stands s n slots (settled s.return_type d) ≡ advance_from l (most - taken) taken s₀ slots₀
  ends_there d e o = sym (advance_other l n s slots (most - n) (settled s.return_type d) (sym e) (settled_other s.return_type d o)) ∙ g.rest

  pub all_taken : n ≡ most → (d : Decision) → decide_of l s slots ≡ d → stands s n slots d ≡ advance_from l (most - taken) taken s₀ slots₀
  all_taken h d e =
      let left : 0 ≡ most - n = omega arith in
      ap (stands s n slots) (sym e) ∙ sym (advance_none l n s slots) ∙ ap (λ (b : ℕ). advance_from l b n s slots) left ∙ g.rest
