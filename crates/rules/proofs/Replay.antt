-- A list of presses made one after the other, each answer written as it comes: what is left to make gives what the whole list gives; and demand 3 of it.
-- Assumes nothing.
use Prim.Native.Nat.{ℕ, zero, suc, ◌+◌, ◌*◌, ◌≤◌, ◌<◌}
use mathlib.Core.Path.{◌≡◌, refl, sym, ap, subst, ◌∙◌}
use mathlib.Core.List.{List, [], ◌∷◌, ◌++◌, append_assoc}
use native.Mathlib.Omega.{arith}
use native.Mathlib.Nat.{add_assoc}
use native.Mathlib.Numerals.{add-one}
use borrow.Author.Tests.{le-leb, lt-leb}
use lib.ListN.{length, take, drop, get_or}
use lib.Seq.{paste, paste-zero, length-paste, take-paste, drop-paste, drop-drop, drop-cons, drop-length, take-append-add, take_all}
use Rattle.rules.specs.declared.states.State.{State}
use Rattle.rules.specs.Check.{◌else◌}
use Rattle.rules.specs.Questions.{Method}
use Rattle.rules.specs.Step.{Decider, Machine, machine_by}
use Rattle.rules.specs.History.{AfterPress}
use Rattle.rules.specs.PlainWalk.{forward}
use Rattle.rules.specs.Walk.{press_of, Walked, walk_of, Demand3}
use Rattle.rules.specs.Presses.{press_of_byte, presses_of_bytes, answer_words, answers_words, Replayed, replayed, replay_of, plain_walk_in, FromAnyLoad}
use Rattle.rules.proofs.Lawful.{Lawful}
use Rattle.rules.proofs.FromSheet.{demand3}
use Rattle.rules.specs.Decisions.{Pressed}

-- ---- one after the other

pub forward_byte : (b : ℕ) → (b ≡ 0 → ⊥) → press_of_byte b ≡ forward
forward_byte zero h = absurd (h refl)
forward_byte (suc n) h = refl

-- the presses of the bytes made, their answers written from an index on
unfoldable pub replay_from : Machine → List ℕ → ℕ → State → List ℕ → List ℕ → List ℕ → Replayed
replay_from x [] at s slots log answers = record { number = 0; state = s; slots = slots; log = log; answers = answers }
replay_from x (b ∷ bs) at s slots log answers =
    let o = press_of x (press_of_byte b) s slots log in
    replay_from x bs (at + 3) o.state o.slots o.log (paste answers at (answer_words o.answer) 3)

-- two writes, one after the other, are one
paste_then : (d : List ℕ) (at : ℕ) (x y : List ℕ) (n : ℕ) → at + length x ≤ length d → paste (paste d at x (length x)) (at + length x) y n ≡ paste d at (x ++ y) (length x + n)
paste_then d at x y n h =
    let h₁ : at ≤ length d = omega arith in
    let past : drop (at + length x + n) (paste d at x (length x)) ≡ drop (at + (length x + n)) d =
    sym (drop-drop n (at + length x) (paste d at x (length x))) ∙ ap (drop n) (drop-paste d at x (length x) h₁ (omega arith))
    ∙ drop-drop n (at + length x) d ∙ ap (λ (k : ℕ). drop k d) (add_assoc at (length x) n) in
    rw (take-paste d at x (length x) h₁ (omega arith), past, take_all (length x) x (omega arith), take-append-add x y n) (ap (λ (z : List ℕ). z ++ drop (at + (length x + n)) d) (append_assoc (take at d) x (take n y)))

module _ (x : Machine) where
  -- what it writes from an index on is the answers of the walk
  replay_walks : (bs : List ℕ) (at : ℕ) (s : State) (slots log answers : List ℕ) → at + 3 * length bs ≤ length answers → (w : Walked) → walk_of x (presses_of_bytes bs) s slots log ≡ w
      → replay_from x bs at s slots log answers ≡ record { number = 0; state = w.state; slots = w.slots; log = w.log; answers = paste answers at (answers_words w.answers) (3 * length bs) }
  unfolding replay_from walk_of presses_of_bytes answers_words
  replay_walks [] at s slots log answers h w e = rw (← e) (ap (λ (x : List ℕ). record { number = 0; state = s; slots = slots; log = log; answers = x }) (paste-zero answers at []))
  replay_walks (b ∷ bs) at s slots log answers h w e =
      let o = press_of x (press_of_byte b) s slots log in
      let v = walk_of x (presses_of_bytes bs) o.state o.slots o.log in
      let three : 3 + 3 * length bs ≡ 3 * suc (length bs) = omega arith in
      rw (← e)
      (replay_walks bs (at + 3) o.state o.slots o.log (paste answers at (answer_words o.answer) 3)
      (omega (arith, h, length-paste answers at (answer_words o.answer) 3 (omega arith) (omega arith))) v refl
      ∙ ap (λ (x : List ℕ). record { number = 0; state = v.state; slots = v.slots; log = v.log; answers = x })
      (paste_then answers at (answer_words o.answer) (answers_words v.answers) (3 * length bs) (omega arith)
      ∙ ap (paste answers at (answer_words o.answer ++ answers_words v.answers)) three))

-- ---- the loop over the bytes: i presses are made, and what is left to make gives what the whole list gives

pub record Replaying (x : Machine) (bytes : List ℕ) (s₀ : State) (slots₀ log₀ answers₀ : List ℕ) (i : ℕ) (s : State) (slots log answers : List ℕ) : Type 0 where
  pub upto : i ≤ length bytes
  pub long_slots : length slots ≡ length slots₀
  pub long_log : length log ≡ length log₀
  pub long_answers : length answers ≡ length answers₀
  pub rest : replay_from x (drop i bytes) (3 * i) s slots log answers ≡ replay_from x bytes 0 s₀ slots₀ log₀ answers₀

pub begins : (x : Machine) (bytes : List ℕ) (s : State) (slots log answers : List ℕ) → Replaying x bytes s slots log answers 0 s slots log answers
begins x bytes s slots log answers = record { upto = omega arith; long_slots = refl; long_log = refl; long_answers = refl; rest = refl }

module _ (x : Machine) (bytes : List ℕ) (s₀ : State) (slots₀ log₀ answers₀ : List ℕ) (i : ℕ) (s : State) (slots log answers : List ℕ) (g : Replaying x bytes s₀ slots₀ log₀ answers₀ i s slots log answers) where
  pub one_more : i < length bytes → 3 * i + 3 ≤ length answers → (o : AfterPress) → o ≡ press_of x (press_of_byte (get_or bytes i 0)) s slots log → length o.slots ≡ length slots → length o.log ≡ length log
      → Replaying x bytes s₀ slots₀ log₀ answers₀ (i + 1) o.state o.slots o.log (paste answers (3 * i) (answer_words o.answer) 3)
  unfolding replay_from
  one_more h room o e a b =
      let three : 3 * (i + 1) ≡ 3 * i + 3 = omega arith in
      record {
        upto = omega arith;
        long_slots = a ∙ g.long_slots;
        long_log = b ∙ g.long_log;
        long_answers = length-paste answers (3 * i) (answer_words o.answer) 3 room (omega arith) ∙ g.long_answers;
        rest = rw (three, e, add-one) (rw (drop-cons bytes i 0 h) at g.rest);
      }

  pub all_made : length bytes ≤ i → 3 * length bytes ≤ length answers₀ → record { number = 0; state = s; slots = slots; log = log; answers = answers } ≡ replayed answers₀ (length bytes) (walk_of x (presses_of_bytes bytes) s₀ slots₀ log₀)
  unfolding replay_from
  all_made h room =
      let e : i ≡ length bytes = omega (arith, g.upto) in
      rw (e, drop-length bytes) at g.rest ∙ replay_walks x bytes 0 s₀ slots₀ log₀ answers₀ (omega arith) (walk_of x (presses_of_bytes bytes) s₀ slots₀ log₀) refl

-- ---- the whole list

module _ (x : Machine) (bytes : List ℕ) (s : State) (slots log answers : List ℕ) where
  pub replay_made : 3 * length bytes ≤ length answers → replay_of x bytes s slots log answers ≡ replayed answers (length bytes) (walk_of x (presses_of_bytes bytes) s slots log)
  unfolding replay_of ◌else◌
  replay_made h = rw (le-leb (3 * length bytes) (length answers) h)

  pub replay_short : length answers < 3 * length bytes → replay_of x bytes s slots log answers ≡ record { number = 1; state = s; slots = slots; log = log; answers = answers }
  unfolding replay_of ◌else◌
  replay_short h = rw (lt-leb (3 * length bytes) (length answers) h)

-- DEMAND 3 of what is left in the lent words, whatever sheet was loaded, of any lawful rules
module _ (rules : Method → Decider) (law : (l : Method) → Lawful (machine_by rules l)) (l : Method) (bytes : List ℕ) (s : State) (slots log answers : List ℕ) where
  pub from_any_load : FromAnyLoad rules l s slots log answers bytes (replay_of (machine_by rules l) bytes s slots log answers)
  from_any_load sheet from room =
      let x : Machine = machine_by rules l in
      let w = walk_of x (presses_of_bytes bytes) s slots log in
      let d : Demand3 (plain_walk_in rules sheet l slots log) slots (presses_of_bytes bytes) (walk_of (machine_by rules l) (presses_of_bytes bytes) s slots log) =
      rw (from.same_method, from.same_state, from.same_slots) (demand3 rules law sheet from.slots₀ from.kinds₀ from.words₀ from.bytes from.accepted log (presses_of_bytes bytes)) in
      rw (replay_made x bytes s slots log answers room) (record {
        all_made = refl;
        answers_written = rw d.answered;
        demand3 = subst (λ (a : List Pressed). Demand3 (plain_walk_in rules sheet l slots log) slots (presses_of_bytes bytes) (record { state = w.state; slots = w.slots; log = w.log; answers = a })) d.answered d;
      })
