-- A step and a run, by where their ordinary steps led and what the rules decide there. Assumes nothing.
use Prim.Native.Nat.{ℕ, zero, suc, ◌+◌, ◌-◌}
use mathlib.Core.Path.{◌≡◌, refl, sym, ap, subst, ◌∙◌}
use mathlib.Core.List.{List}
use lib.ListN.{length}
use native.Mathlib.Omega.{arith}
use native.Mathlib.Numerals.{add-one}
use Rattle.rules.specs.declared.states.State.{State}
use Rattle.rules.specs.declared.updates.Update.{Update}
use Rattle.rules.specs.Questions.{Method, frame_check}
use Rattle.rules.specs.Step.{decide_of, core_machine, moved, written, step_by, step_of}
use Rattle.rules.specs.Run.{Ran, ends, run_from, run_of, Account}
use Rattle.rules.proofs.Step.{run_ordinary, run_halted, run_stopped}
use Rattle.rules.proofs.Run.{run_account}
use Rattle.rules.proofs.Lawful.{core_lawful}
use Rattle.rules.proofs.Legal.{Legal, ordinary_legal}
use Rattle.interpreter.specs.Advance.{Reached, advance_from}
use Rattle.interpreter.specs.Taken.{end_of}
use Rattle.interpreter.proofs.Steps.{Other, not_other, advance_ordinary, advance_other, advance_none, decided_there, slots_there}
use Rattle.std.specs.Prelude.{Ok, Err, Some, None}
use Rattle.rules.specs.declared.halts.Halt.TheVariants.{Refused, Return, Throw}
use Rattle.rules.specs.Decisions.{Decision}
use Rattle.rules.specs.declared.refusals.Refusal.{Refusal}

-- ---- a step: no step before it

module _ (l : Method) (s : State) (slots : List ℕ) (r : Reached) (e : r ≡ advance_from l 0 0 s slots) where
  step_by_lem : step_by s r.slots 0 r.decision ≡ step_of (core_machine l) s slots
  unfolding step_of
  step_by_lem = rw (slots_there l s slots r e, decided_there l s slots r e)

  pub step_ordinary : (u : Update) → r.decision ≡ Ok u → record { state = moved s u.pc u.depth 0; decision = Ok u; slots = written u r.slots } ≡ step_of (core_machine l) s slots
  step_ordinary u h = ap (step_by s r.slots 0) (sym h) ∙ step_by_lem

  pub step_other : Other r.decision → record { state = s; decision = r.decision; slots = r.slots } ≡ step_of (core_machine l) s slots
  step_other h = go r.decision h ∙ step_by_lem
    where
      go : (d : Decision) → Other d → record { state = s; decision = d; slots = r.slots } ≡ step_by s r.slots 0 d
      go (Ok u) o = absurd (not_other u o)
      go (Err (Return v)) o = refl
      go (Err Throw) o = refl
      go (Err (Refused n)) o = refl

-- ---- a run: all its steps but the last, and the last

abbrev last_step : State → ℕ → List ℕ → Decision → Ran
last_step s n slots (Ok u) = ends (moved s u.pc u.depth 0) (written u slots) (suc n) None
last_step s n slots (Err h) = ends s slots n (Some h)

abbrev last_of : Reached → Ran
last_of r = last_step r.state r.steps r.slots r.decision

last_other : (s : State) (n : ℕ) (slots : List ℕ) (d : Decision) → Other d → last_step s n slots d ≡ ends s slots n (end_of d)
last_other s n slots (Ok u) h = absurd (not_other u h)
last_other s n slots (Err h) o = refl

module _ (l : Method) where
  run_one : (n : ℕ) (s : State) (slots : List ℕ) (d : Decision) → decide_of l s slots ≡ d → run_from (core_machine l) 1 n s slots ≡ last_step s n slots d
  run_one n s slots (Ok u) e = run_ordinary (core_machine l) 0 n s slots u e ∙ run_stopped (core_machine l) (suc n) (moved s u.pc u.depth 0) (written u slots)
  run_one n s slots (Err h) e = run_halted (core_machine l) 0 n s slots h e

  run_last : (most n : ℕ) (s : State) (slots : List ℕ) → run_from (core_machine l) (suc most) n s slots ≡ last_of (advance_from l most n s slots)
  run_last zero n s slots = run_one n s slots _ refl ∙ ap last_of (sym (advance_none l n s slots))
  run_last (suc most) n s slots = go (decide_of l s slots) refl (λ u. run_last most (suc n) (moved s u.pc u.depth 0) (written u slots))
    where
      go : (d : Decision) → decide_of l s slots ≡ d
          → ((u : Update) → run_from (core_machine l) (suc most) (suc n) (moved s u.pc u.depth 0) (written u slots) ≡ last_of (advance_from l most (suc n) (moved s u.pc u.depth 0) (written u slots)))
          → run_from (core_machine l) (suc (suc most)) n s slots ≡ last_of (advance_from l (suc most) n s slots)
      go (Ok u) e h = run_ordinary (core_machine l) (suc most) n s slots u e ∙ h u ∙ ap last_of (sym (advance_ordinary l n s slots most u e))
      go (Err k) e h = run_halted (core_machine l) (suc most) n s slots k e ∙ ap last_of (sym (advance_other l n s slots (suc most) (Err k) e (_, refl)))

  -- the decision is that of the rules where the steps end
  decides_there : (most n : ℕ) (s : State) (slots : List ℕ) → let r = advance_from l most n s slots in r.decision ≡ decide_of l r.state r.slots
  decides_there zero n s slots = rw (advance_none l n s slots)
  decides_there (suc most) n s slots = go (decide_of l s slots) refl (λ u. decides_there most (suc n) (moved s u.pc u.depth 0) (written u slots))
    where
      go : (d : Decision) → decide_of l s slots ≡ d
          → ((u : Update) → let r = advance_from l most (suc n) (moved s u.pc u.depth 0) (written u slots) in r.decision ≡ decide_of l r.state r.slots)
          → let r = advance_from l (suc most) n s slots in r.decision ≡ decide_of l r.state r.slots
      go (Ok u) e h = rw (advance_ordinary l n s slots most u e) (h u)
      go (Err k) e h = rw (advance_other l n s slots (suc most) (Err k) e (_, refl)) (sym e)

-- a run with a budget, from where all its steps but the last led
module _ (l : Method) (budget : ℕ) (s : State) (slots : List ℕ) where
  pub no_budget : budget ≡ 0 → ends s slots 0 None ≡ run_from (core_machine l) budget 0 s slots
  no_budget h = sym (run_stopped (core_machine l) 0 s slots) ∙ ap (λ (b : ℕ). run_from (core_machine l) b 0 s slots) (sym h)

  module _ (some_budget : budget ≡ 0 → ⊥) (r : Reached) (e : r ≡ advance_from l (budget - 1) 0 s slots) where
    run_by : last_of r ≡ run_from (core_machine l) budget 0 s slots
    run_by =
        let whole : suc (budget - 1) ≡ budget = omega (arith, some_budget) in
        ap last_of e ∙ sym (run_last l (budget - 1) 0 s slots) ∙ ap (λ (b : ℕ). run_from (core_machine l) b 0 s slots) whole

    pub legal_last : (u : Update) → r.decision ≡ Ok u → Legal l r.state (length r.slots) u
    legal_last u h = ordinary_legal l r.state r.slots u (sym (rw e (decides_there l (budget - 1) 0 s slots)) ∙ h)

    pub ends_stopped : (u : Update) → r.decision ≡ Ok u → ends (moved r.state u.pc u.depth 0) (written u r.slots) (r.steps + 1) None ≡ run_from (core_machine l) budget 0 s slots
    ends_stopped u h = rw (add-one r.steps) (ap (last_step r.state r.steps r.slots) (sym h) ∙ run_by)

    pub ends_other : Other r.decision → ends r.state r.slots r.steps (end_of r.decision) ≡ run_from (core_machine l) budget 0 s slots
    ends_other h = sym (last_other r.state r.steps r.slots r.decision h) ∙ run_by

-- ---- a whole run

module _ (l : Method) (budget : ℕ) (s : State) (slots : List ℕ) where
  -- the rules' run gives the account that they give of it
  pub accounted : (r : Ran) → r ≡ run_of (core_machine l) budget s slots → (r ≡ run_of (core_machine l) budget s slots) × Account (core_machine l) budget s slots r
  accounted r e = (e, subst (Account (core_machine l) budget s slots) (sym e) (run_account (core_machine l) (core_lawful l) budget s slots))

  pub refused_run : (k : Refusal) → frame_check l s (length slots) ≡ Err k → record { state = s; steps = 0; end = Some (Refused k); slots = slots } ≡ run_of (core_machine l) budget s slots
  unfolding run_of
  refused_run k e = rw e

  pub passed_run : frame_check l s (length slots) ≡ Ok tt → run_from (core_machine l) budget 0 s slots ≡ run_of (core_machine l) budget s slots
  unfolding run_of
  passed_run e = rw e
