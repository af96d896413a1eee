-- Forward by its decision, and the questions of back one by one. Assumes nothing.
use Prim.Native.Nat.{ℕ, ◌+◌, ◌-◌, ◌≤◌, ◌<◌}
use mathlib.Core.Path.{◌≡◌, refl}
use mathlib.Core.Bool.{Bool, true, false, ◌||◌}
use mathlib.Core.List.{List}
use native.Mathlib.Omega.{arith}
use lib.Dec.{ltb, leb, eqb}
use lib.ListN.{length, get_or}
use borrow.Author.Tests.{lt-ltb, le-leb, lt-leb, ltb-true, leb-true, eqb-true}
use Rattle.rules.specs.declared.states.State.{State}
use Rattle.rules.specs.declared.updates.Update.{Update}
use Rattle.rules.specs.Check.{Check, ◌else◌, ◌>>◌, is_passed}
use Rattle.rules.specs.Questions.{Method, frame_size, frame_check}
use Rattle.rules.specs.Step.{Decided, Machine, decide_on}
use Rattle.rules.specs.History.{kept, entry_at, granted, log_check, granted_by, forward_by, forward_of, entry_check, back_check, back_by, back_of}
use Rattle.rules.proofs.Check.{first_passed, last_passed, both_passed}
use Rattle.rules.proofs.Questions.{framed}
use Rattle.std.specs.Prelude.{Ok, Err}
use Rattle.rules.specs.declared.refusals.Refusal.{Refusal}
use Rattle.rules.specs.declared.halts.Halt.TheVariants.{Refused}

-- ---- forward

module _ (s : State) (slots log : List ℕ) where
  pub forward_by_lem : (x : Machine) (d : Decided) → decide_on x s slots ≡ d → forward_of x s slots log ≡ forward_by s slots log d.scratch d.decision
  unfolding forward_of
  forward_by_lem x d e = rw e

  pub with_room : (n : ℕ) (u : Update) → entry_at s.count + 10 ≤ length log → granted s slots log n u ≡ granted_by s slots log n u (log_check s.count (length log))
  unfolding ◌else◌
  with_room n u h = rw (le-leb (entry_at s.count + 10) (length log) h)

  pub without_room : (n : ℕ) (u : Update) → length log < entry_at s.count + 10 → kept s slots log n (Err (Refused Refusal.LogFull)) ≡ granted_by s slots log n u (log_check s.count (length log))
  unfolding ◌else◌
  without_room n u h = rw (lt-leb (entry_at s.count + 10) (length log) h)

-- ---- the entry that is taken back

-- what a yes to its questions says of the words that are written
pub record Restorable (s : State) (log : List ℕ) (k : ℕ) : Type 0 where
  pub few : get_or log (k + 3) 0 ≤ 6
  pub within : 0 < get_or log (k + 3) 0 → get_or log (k + 2) 0 + get_or log (k + 3) 0 ≤ frame_size s

module _ (code : List ℕ) (s : State) (log : List ℕ) (k : ℕ) where
  pub restorable : entry_check code s log k ≡ Ok tt → Restorable s log k
  unfolding entry_check
  restorable e =
      let a = first_passed _ _ _ e in
      let b = first_passed _ _ _ a.1 in
      let c = first_passed _ _ _ b.1 in
      record { few = leb-true _ _ c.0; within = of_two (eqb (get_or log (k + 3) 0) 0) refl (last_passed _ _ c.1) }
    where
      of_two : (x : Bool) → eqb (get_or log (k + 3) 0) 0 ≡ x → (x || leb (get_or log (k + 2) 0 + get_or log (k + 3) 0) (frame_size s)) ≡ true
          → 0 < get_or log (k + 3) 0 → get_or log (k + 2) 0 + get_or log (k + 3) 0 ≤ frame_size s
      of_two true e h t = absurd (omega (arith, eqb-true (get_or log (k + 3) 0) 0 e))
      of_two false e h t = leb-true _ _ h

  -- the one number that a no gives
  pub not_sound : is_passed (entry_check code s log k) ≡ false → entry_check code s log k ≡ Err Refusal.LogEntry
  unfolding entry_check ◌else◌ ◌>>◌
  not_sound e = go (ltb (get_or log k 0) (length code)) (leb (get_or log (k + 1) 0) s.max_stack) (leb (get_or log (k + 3) 0) 6)
      (eqb (get_or log (k + 3) 0) 0 || leb (get_or log (k + 2) 0 + get_or log (k + 3) 0) (frame_size s)) e
    where
      go : (a b c d : Bool) → is_passed ((a else Refusal.LogEntry) >> (b else Refusal.LogEntry) >> (c else Refusal.LogEntry) >> (d else Refusal.LogEntry)) ≡ false → ((a else Refusal.LogEntry) >> (b else Refusal.LogEntry) >> (c else Refusal.LogEntry) >> (d else Refusal.LogEntry)) ≡ Err Refusal.LogEntry
      go false b c d e = refl
      go true false c d e = refl
      go true true false d e = refl
      go true true true false e = refl
      go true true true true e = absurd (cc)

-- ---- the questions of back

module _ (l : Method) (s : State) (slots log : List ℕ) where
  pub back_frame : (n : Refusal) → frame_check l s (length slots) ≡ Err n → back_check l s slots log ≡ Err n
  unfolding back_check ◌>>◌
  back_frame n e = rw e

  module _ (framed : frame_check l s (length slots) ≡ Ok tt) where
    pub back_first : s.count ≡ 0 → back_check l s slots log ≡ Err Refusal.NothingToTakeBack
    unfolding back_check ◌else◌ ◌>>◌
    back_first h = rw (framed, h)

    module _ (some : 0 < s.count) where
      pub back_short : length log < entry_at s.count → back_check l s slots log ≡ Err Refusal.LogEntry
      unfolding back_check ◌else◌ ◌>>◌
      back_short h = rw (framed, lt-ltb _ _ some, lt-leb _ _ h)

      pub back_entry : entry_at s.count ≤ length log → back_check l s slots log ≡ entry_check l.code s log (entry_at (s.count - 1))
      unfolding back_check ◌else◌ ◌>>◌
      back_entry h = rw (framed, lt-ltb _ _ some, le-leb _ _ h)

  -- what a yes to all of them says: the entry's words can be written
  pub record BackPassed : Type 0 where
    pub some : 0 < s.count
    pub reached : entry_at s.count ≤ length log
    pub few : get_or log (entry_at (s.count - 1) + 3) 0 ≤ 6
    pub within : 0 < get_or log (entry_at (s.count - 1) + 3) 0 → get_or log (entry_at (s.count - 1) + 2) 0 + get_or log (entry_at (s.count - 1) + 3) 0 ≤ length slots

  pub back_passed : back_check l s slots log ≡ Ok tt → BackPassed
  unfolding back_check
  back_passed e =
      let a = both_passed (frame_check l s (length slots)) _ e in
      let b = first_passed _ _ _ a.1 in
      let c = first_passed _ _ _ b.1 in
      let f = framed l s (length slots) a.0 in
      let r = restorable l.code s log (entry_at (s.count - 1)) c.1 in
      record {
        some = ltb-true 0 s.count b.0;
        reached = leb-true (entry_at s.count) (length log) c.0;
        few = r.few;
        within = λ h. omega (arith, r.within h, f.room);
      }

  pub back_by_lem : (x : Check (Unit {0})) → back_check l s slots log ≡ x → back_of l s slots log ≡ back_by s slots log x
  unfolding back_of
  back_by_lem x e = rw e
