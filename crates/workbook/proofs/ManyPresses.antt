-- A list of presses of which each is refused by question 1, and the call by the answers to its questions. Assumes nothing.
use native.Mathlib.Omega.{arith}
use Prim.Native.Nat.{ℕ, ◌+◌, ◌*◌, ◌≤◌, ◌<◌}
use mathlib.Core.Path.{◌≡◌, refl, ap, ◌∙◌}
use mathlib.Core.Bool.{Bool, true, false}
use mathlib.Core.List.{List, [], ◌∷◌}
use lib.Dec.{leb, eqb}
use lib.ListN.{length}
use lib.Seq.{paste}
use borrow.Author.Tests.{le-leb, lt-leb}
use Rattle.rules.specs.declared.states.State.{State}
use Rattle.rules.specs.Check.{◌else◌, ◌>>◌}
use Rattle.rules.specs.Questions.{Method, frame_check}
use Rattle.rules.specs.Step.{frame, Machine, core_machine}
use Rattle.rules.specs.History.{kept}
use Rattle.rules.specs.PlainWalk.{Press, forward, back}
use Rattle.rules.specs.Walk.{press_of, walk_of}
use Rattle.rules.specs.Presses.{press_of_byte, presses_of_bytes, answers_words, Replayed, replayed, replay_of}
use Rattle.rules.proofs.RefusalNumbers.{number_above}
use Rattle.rules.proofs.Step.{refused_by_frame}
use Rattle.rules.proofs.History.{forward_by_lem, back_frame, back_by_lem}
use Rattle.rules.proofs.Replay.{replay_made}
use Rattle.workbook.specs.StateWords.{state_in, state_size, with_state, sizes_check}
use Rattle.workbook.specs.Calls.{unchanged, all_refused, presses_call}
use Rattle.std.specs.Prelude.{Ok, Err}
use Rattle.rules.specs.declared.refusals.Refusal.{Refusal}
use Rattle.rules.specs.declared.halts.Halt.TheVariants.{Refused}
use Rattle.rules.specs.Decisions.{Decision}
use Rattle.rules.specs.Refusals.{number_of}

-- ---- question 1 says no of a frame that its slots do not hold

pub no_room : (l : Method) (s : State) (slots : List ℕ) → length slots < s.max_locals + s.max_stack → frame_check l s (length slots) ≡ Err Refusal.Lengths
unfolding frame_check ◌else◌ ◌>>◌
no_room l s slots h = rw (lt-leb (s.max_locals + s.max_stack) (length slots) h) (go (eqb (length l.kinds) (length l.words)) (leb (length l.kinds) 65536))
  where
    go : (a b : Bool) → ((a else Refusal.Lengths) >> (b else Refusal.Lengths) >> (false else Refusal.Lengths)) ≡ Err Refusal.Lengths
    go true true = refl
    go true false = refl
    go false b = refl

-- ---- so every press is answered with 1, and nothing changes

module _ (l : Method) (s : State) (slots : List ℕ) (no : frame_check l s (length slots) ≡ Err Refusal.Lengths) where
  press_refused : (p : Press) (log : List ℕ) → press_of (core_machine l) p s slots log ≡ kept s slots log 0 (Err (Refused Refusal.Lengths))
  unfolding press_of
  press_refused forward log =
      forward_by_lem s slots log (core_machine l) (record { decision = Err (Refused Refusal.Lengths); scratch = 0 })
      (ap (λ (d : Decision). record { decision = d; scratch = 0 }) (refused_by_frame l (length slots) s (frame s slots) _ no))
  press_refused back log = back_by_lem l s slots log _ (back_frame l s slots log _ no)

  walk_refused : (bytes log : List ℕ) → walk_of (core_machine l) (presses_of_bytes bytes) s slots log ≡ record { state = s; slots = slots; log = log; answers = all_refused bytes }
  unfolding walk_of presses_of_bytes all_refused
  walk_refused [] log = refl
  walk_refused (b ∷ bs) log = rw (press_refused (press_of_byte b) log, walk_refused bs log)

  pub list_refused : (bytes log answers : List ℕ) → 3 * length bytes ≤ length answers → (r : Replayed) → r ≡ replay_of (core_machine l) bytes s slots log answers
      → (r.log ≡ log) × (r.answers ≡ paste answers 0 (answers_words (all_refused bytes)) (3 * length bytes))
  list_refused bytes log answers room r e =
      let q : r ≡ record { number = 0; state = s; slots = slots; log = log; answers = paste answers 0 (answers_words (all_refused bytes)) (3 * length bytes) } =
      e ∙ replay_made (core_machine l) bytes s slots log answers room ∙ ap (replayed answers (length bytes)) (walk_refused bytes log) in
      (ap (λ (x : Replayed). x.log) q, ap (λ (x : Replayed). x.answers) q)

-- ---- the call

module _ (x : Machine) (slots log state bytes answers : List ℕ) where
  pub few_answers : length answers < 3 * length bytes → unchanged slots log state answers 1 ≡ presses_call x slots log state bytes answers
  unfolding presses_call ◌else◌ ◌>>◌
  few_answers h = rw (lt-leb (3 * length bytes) (length answers) h)

  module _ (room : 3 * length bytes ≤ length answers) where
    pub few_state : length state < state_size → unchanged slots log state answers 1 ≡ presses_call x slots log state bytes answers
    unfolding presses_call ◌else◌ ◌>>◌
    few_state h = rw (le-leb (3 * length bytes) (length answers) room, lt-leb state_size (length state) h)

    module _ (enough : state_size ≤ length state) where
      pub no_state : (k : Refusal) → sizes_check state ≡ Err k → (log' answers' : List ℕ) → log' ≡ log → answers' ≡ paste answers 0 (answers_words (all_refused bytes)) (3 * length bytes)
          → record { number = 0; slots = slots; log = log'; state = state; answer = answers' } ≡ presses_call x slots log state bytes answers
      unfolding presses_call ◌else◌ ◌>>◌
      no_state k e log' answers' f g = rw (le-leb (3 * length bytes) (length answers) room, le-leb state_size (length state) enough, e, f, g)

      pub list_made : sizes_check state ≡ Ok tt → (number : ℕ) (s : State) (after log' state' answers' : List ℕ)
          → record { number = number; state = s; slots = after; log = log'; answers = answers' } ≡ replay_of x bytes (state_in state) slots log answers → state' ≡ with_state state s
          → record { number = 0; slots = after; log = log'; state = state'; answer = answers' } ≡ presses_call x slots log state bytes answers
      unfolding presses_call ◌else◌ ◌>>◌
      list_made e number s after log' state' answers' r f = rw (le-leb (3 * length bytes) (length answers) room, le-leb state_size (length state) enough, e, ← r, f)

-- a list whose answers have room is not refused
pub never_refused : (x : Machine) (bytes : List ℕ) (s : State) (slots log answers : List ℕ) → 3 * length bytes ≤ length answers
    → (k : Refusal) (r : Replayed) → r ≡ replay_of x bytes s slots log answers → r.number ≡ number_of k → ⊥
never_refused x bytes s slots log answers room k r e h =
    let made : r.number ≡ 0 = ap (λ (q : Replayed). q.number) (e ∙ replay_made x bytes s slots log answers room) in
    omega (arith, number_above k)
