-- A walk is a run: how it begins, one turn of its loop, and how it ends. Assumes nothing.
use Prim.Native.Nat.{ℕ, zero, suc, ◌+◌, ◌-◌, ◌<◌}
use mathlib.Core.Path.{◌≡◌, refl, sym, ap, ◌∙◌}
use mathlib.Core.List.{List}
use lib.ListN.{length}
use native.Mathlib.Omega.{arith}
use native.Mathlib.Numerals.{add-one}
use Rattle.std.specs.Prelude.{Bool, true, false, Ok, Err, Some, None}
use Rattle.std.specs.Option.{is_some}
use Rattle.rules.specs.declared.states.State.{State}
use Rattle.rules.specs.declared.updates.Update.{Update}
use Rattle.rules.specs.declared.halts.Halt.{Halt}
use Rattle.rules.specs.declared.halts.Halt.TheVariants.{Refused}
use Rattle.rules.specs.declared.refusals.Refusal.{Refusal}
use Rattle.rules.specs.Check.{Check}
use Rattle.rules.specs.Questions.{Method, frame_check}
use Rattle.rules.specs.Step.{Stepped, core_machine, decide_of, frame, moved, step_by, step_of, written}
use Rattle.rules.specs.Run.{Ran, ends, run_from, run_of, uncounted}
use Rattle.rules.specs.Decisions.{End}
use Rattle.rules.proofs.Lawful.{count_unseen}
use Rattle.rules.proofs.Step.{run_ordinary, run_halted, run_stopped}

module _ (l : Method) where
  -- a run does not look at the count
  run_uncounted : (b n : ℕ) (s : State) (slots : List ℕ) → run_from (core_machine l) b n (uncounted s) slots ≡ run_from (core_machine l) b n s slots
  unfolding run_from
  run_uncounted zero n s slots = refl
  run_uncounted (suc b) n s slots = rw (count_unseen l (length slots) s (frame s slots), run_from)

not_both : (b : Bool) → b ≡ true → b ≡ false → ⊥
not_both b p q = cc

-- the loop's invariant: what is left of the run leads where all of it leads
pub record Walking (l : Method) (most : ℕ) (s₀ : State) (slots₀ : List ℕ) (n : ℕ) (s : State) (slots : List ℕ) : Type 0 where
  pub no_count : s.count ≡ 0
  pub rest : run_from (core_machine l) (most - n) n s slots ≡ run_of (core_machine l) most s₀ slots₀

-- ---- the beginning: a run of no step

module _ (l : Method) (most : ℕ) (s : State) (slots : List ℕ) where
  passed_run : frame_check l s (length slots) ≡ Ok tt → run_from (core_machine l) most 0 s slots ≡ run_of (core_machine l) most s slots
  unfolding run_of
  passed_run f = rw f

  refused_run : (k : Refusal) → frame_check l s (length slots) ≡ Err k → record { state = s; steps = 0; end = Some (Refused k); slots = slots } ≡ run_of (core_machine l) most s slots
  unfolding run_of
  refused_run k f = rw f

module _ (l : Method) (most : ℕ) (s : State) (slots : List ℕ) (r : Ran) (e : r ≡ run_of (core_machine l) 0 s slots) where
  pub begins : is_some r.end ≡ false → Walking l most s slots 0 r.state r.slots
  begins h = go (frame_check l s (length slots)) refl
    where
      go : (f : Check (Unit {0})) → frame_check l s (length slots) ≡ f → Walking l most s slots 0 r.state r.slots
      go (Ok t) f =
          let is : r ≡ ends s slots 0 None = e ∙ sym (passed_run l 0 s slots f) ∙ run_stopped (core_machine l) 0 s slots in
          let all : most - 0 ≡ most = omega arith in
          rw is (record { no_count = refl; rest = ap (λ (b : ℕ). run_from (core_machine l) b 0 (uncounted s) slots) all ∙ run_uncounted l most 0 s slots ∙ passed_run l most s slots f })
      go (Err k) f =
          let is : r ≡ record { state = s; steps = 0; end = Some (Refused k); slots = slots } = e ∙ sym (refused_run l 0 s slots k f) in
          absurd (not_both (is_some r.end) (ap (λ (x : Ran). is_some x.end) is) h)

  -- refused, it is so with any number of steps
  pub ends_at_once : is_some r.end ≡ true → r ≡ run_of (core_machine l) most s slots
  ends_at_once h = go (frame_check l s (length slots)) refl
    where
      go : (f : Check (Unit {0})) → frame_check l s (length slots) ≡ f → r ≡ run_of (core_machine l) most s slots
      go (Ok t) f =
          let is : r ≡ ends s slots 0 None = e ∙ sym (passed_run l 0 s slots f) ∙ run_stopped (core_machine l) 0 s slots in
          absurd (not_both (is_some r.end) h (ap (λ (x : Ran). is_some x.end) is))
      go (Err k) f = e ∙ sym (refused_run l 0 s slots k f) ∙ refused_run l most s slots k f

-- ---- a turn, and the end

module _ (l : Method) (most : ℕ) (s₀ : State) (slots₀ : List ℕ) (n : ℕ) (s : State) (slots : List ℕ) (w : Walking l most s₀ slots₀ n s slots) where
  ends_uncounted : (after : List ℕ) (e : End) → record { state = s; steps = n; end = e; slots = after } ≡ ends s after n e
  ends_uncounted after e = ap (λ (c : ℕ). record { state = moved s s.pc s.depth c; steps = n; end = e; slots = after }) w.no_count

  pub turns : n < most → (u : Update) → decide_of l s slots ≡ Ok u → (t : Stepped) → t ≡ step_of (core_machine l) s slots → Walking l most s₀ slots₀ (n + 1) t.state t.slots
  unfolding step_of
  turns h u d t e =
      let is : t ≡ record { state = moved s u.pc u.depth 0; decision = Ok u; slots = written u slots } = e ∙ ap (step_by s slots 0) d in
      let left : suc (most - (n + 1)) ≡ most - n = omega arith in
      rw is (record {
        no_count = refl;
        rest =
            ap (λ (k : ℕ). run_from (core_machine l) (most - (n + 1)) k (moved s u.pc u.depth 0) (written u slots)) (add-one n)
            ∙ sym (run_ordinary (core_machine l) (most - (n + 1)) n s slots u d) ∙ ap (λ (b : ℕ). run_from (core_machine l) b n s slots) left ∙ w.rest;
      })

  pub halts : n < most → (h : Halt) → decide_of l s slots ≡ Err h → record { state = s; steps = n; end = Some h; slots = slots } ≡ run_of (core_machine l) most s₀ slots₀
  halts h k d =
      let left : suc (most - (n + 1)) ≡ most - n = omega arith in
      ends_uncounted slots (Some k) ∙ sym (run_halted (core_machine l) (most - (n + 1)) n s slots k d) ∙ ap (λ (b : ℕ). run_from (core_machine l) b n s slots) left ∙ w.rest

  pub stops : n ≡ most → record { state = s; steps = most; end = None; slots = slots } ≡ run_of (core_machine l) most s₀ slots₀
  stops h =
      let left : 0 ≡ most - n = omega arith in
      ap (λ (k : ℕ). record { state = s; steps = k; end = None; slots = slots }) (sym h) ∙ ends_uncounted slots None ∙ sym (run_stopped (core_machine l) n s slots) ∙ ap (λ (b : ℕ). run_from (core_machine l) b n s slots) left ∙ w.rest
