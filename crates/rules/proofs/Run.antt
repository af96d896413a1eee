-- A run takes the steps that it reports: they lead from the state that it got to the state that it gives, and what ends it is what is decided there. Assumes nothing.
use Prim.Native.Nat.{ℕ, zero, suc, ◌+◌, ◌<◌}
use mathlib.Core.Path.{◌≡◌, refl, ap, ◌∙◌}
use mathlib.Core.List.{List}
use native.Mathlib.Omega.{arith}
use lib.ListN.{length}
use Rattle.rules.specs.declared.states.State.{State}
use Rattle.rules.specs.declared.updates.Update.{Update}
use Rattle.rules.specs.Check.{Check}
use Rattle.rules.specs.Questions.{frame_check}
use Rattle.rules.specs.Step.{frame, Decided, Machine, decide_on, moved, written, cleared}
use Rattle.rules.specs.Run.{Ran, ends, run_from, run_by, run_of, uncounted, steps_of, end_by, Ended, stopped, ended, Account, refused_first, walked}
use Rattle.rules.proofs.Step.{run_ordinary, run_halted}
use Rattle.rules.proofs.Lawful.{Lawful}
use Rattle.std.specs.Prelude.{Ok, Err, Some, None}
use Rattle.rules.specs.Decisions.{Decision, End}

-- how k steps of a budget b, which led to these slots, ended
data Ending (x : Machine) (b k : ℕ) (slots : List ℕ) (r : Ran) : Type 0 where
  at_budget : k ≡ b → r.end ≡ None → r.slots ≡ slots → Ending x b k slots r
  before : k < b → end_by (decide_on x r.state slots).decision ≡ Some r.end → r.slots ≡ cleared r.state (decide_on x r.state slots).scratch slots → Ending x b k slots r

-- a run of k steps from s, n having been taken already
record Leads (x : Machine) (b n : ℕ) (s : State) (slots : List ℕ) (r : Ran) : Type 0 where
  taken : ℕ
  after : List ℕ
  counted : r.steps ≡ n + taken
  led : steps_of x taken (uncounted s) slots ≡ Some (r.state, after)
  ending : Ending x b taken after r

module _ (x : Machine) (law : Lawful x) where
  unseen_on : (s : State) (slots : List ℕ) → decide_on x (uncounted s) slots ≡ decide_on x s slots
  unseen_on s slots = law.unseen (length slots) s (frame s slots)

  step_first : (n : ℕ) (s : State) (slots : List ℕ) (u : Update) → (decide_on x s slots).decision ≡ Ok u
      → steps_of x (suc n) (uncounted s) slots ≡ steps_of x n (moved s u.pc u.depth 0) (cleared s (decide_on x s slots).scratch (written u slots))
  unfolding steps_of
  step_first n s slots u e = rw (unseen_on s slots, e, steps_of) (rw (unseen_on s slots))

  -- an outcome or a refusal at once
  at_once : (b n : ℕ) (s : State) (slots : List ℕ) (e : End) → end_by (decide_on x s slots).decision ≡ Some e
      → Leads x (suc b) n s slots (ends s (cleared s (decide_on x s slots).scratch slots) n e)
  unfolding steps_of
  at_once b n s slots e h =
      record {
        taken = 0;
        after = slots;
        counted = omega arith;
        led = refl;
        ending = before (omega arith) (ap (λ (d : Decided). end_by d.decision) (unseen_on s slots) ∙ h) (rw (unseen_on s slots));
      }

  later : (b n : ℕ) (s : State) (slots : List ℕ) (u : Update) (r : Ran) → (decide_on x s slots).decision ≡ Ok u
      → Leads x b (suc n) (moved s u.pc u.depth 0) (cleared s (decide_on x s slots).scratch (written u slots)) r → Leads x (suc b) n s slots r
  later b n s slots u r e h = record {
    taken = suc h.taken;
    after = h.after;
    counted = h.counted ∙ omega arith;
    led = step_first h.taken s slots u e ∙ h.led;
    ending = go h.ending;
  }
    where
      go : Ending x b h.taken h.after r → Ending x (suc b) (suc h.taken) h.after r
      go (at_budget p q t) = at_budget (ap suc p) q t
      go (before p q t) = before (omega arith) q t

  run_leads : (b n : ℕ) (s : State) (slots : List ℕ) → Leads x b n s slots (run_from x b n s slots)
  unfolding run_from steps_of
  run_leads zero n s slots = record { taken = 0; after = slots; counted = omega arith; led = refl; ending = at_budget refl refl refl }
  run_leads (suc b) n s slots =
      go (decide_on x s slots).decision refl (λ u. run_leads b (suc n) (moved s u.pc u.depth 0) (cleared s (decide_on x s slots).scratch (written u slots)))
    where
      go : (d : Decision) → (decide_on x s slots).decision ≡ d
          → ((u : Update) → Leads x b (suc n) (moved s u.pc u.depth 0) (cleared s (decide_on x s slots).scratch (written u slots)) (run_from x b (suc n) (moved s u.pc u.depth 0) (cleared s (decide_on x s slots).scratch (written u slots))))
          → Leads x (suc b) n s slots (run_from x (suc b) n s slots)
      go (Ok u) e h = rw (run_ordinary x b n s slots u e) (later b n s slots u _ e (h u))
      go (Err k) e h = rw (run_halted x b n s slots k e) (at_once b n s slots (Some k) (ap end_by e))

  -- THE LAW: a run's account of itself
  pub run_account : (budget : ℕ) (s : State) (slots : List ℕ) → Account x budget s slots (run_of x budget s slots)
  unfolding run_of
  run_account budget s slots = go (frame_check x.runs s (length slots)) refl
    where
      ended_as : (r : Ran) (k : ℕ) (after : List ℕ) → r.steps ≡ k → Ending x budget k after r → Ended x budget after r
      ended_as r k after e (at_budget p q t) = stopped (e ∙ p) q t
      ended_as r k after e (before p q t) = ended (rw e p) q t

      go : (c : Check (Unit {0})) → frame_check x.runs s (length slots) ≡ c → Account x budget s slots (run_by x budget s slots c)
      go (Ok u) e =
          let h = run_leads budget 0 s slots in
          let r = run_from x budget 0 s slots in
          let n : r.steps ≡ h.taken = h.counted ∙ omega arith in
          walked h.after e (rw n h.led) (ended_as r h.taken h.after n h.ending)
      go (Err k) e = refused_first k e refl
