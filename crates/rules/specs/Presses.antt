-- A list of presses as bytes, its answers written as words, and demand 3 of what it leaves, whatever sheet was loaded. Assumes nothing.
use Rattle.std.specs.Prelude.{ℕ, zero, suc, ◌*◌, ◌<◌, ◌≤◌, ◌≡◌, List, [], ◌∷◌, ◌++◌, length, Ok, Err}
use Rattle.std.proofs.Math.Seq.{paste}
use Rattle.rules.specs.declared.states.State.{State}
use Rattle.rules.specs.Check.{Check, ◌else◌, ◌≤ⁿ◌}
use Rattle.rules.specs.Fetch.{u8}
use Rattle.rules.specs.Questions.{Method, method}
use Rattle.rules.specs.Step.{Decider, Machine}
use Rattle.rules.specs.Sheet.{AfterLoad, load_of, code_of, handlers_of}
use Rattle.rules.specs.PlainWalk.{PlainWalk, Press, forward, back, plain_answers}
use Rattle.rules.specs.Walk.{Walked, walk_of, Demand3}
use Rattle.rules.specs.FromSheet.{plain_walk_of}
use Rattle.rules.specs.Answers.{pressed_answer}
use Rattle.rules.specs.declared.refusals.Refusal.{Refusal}
use Rattle.rules.specs.Decisions.{Pressed}
use Rattle.rules.specs.Refusals.{number_of}

-- ---- bytes and words

-- byte 0 is back, any other byte forward
abbrev pub press_of_byte : ℕ → Press
press_of_byte zero = back
press_of_byte (suc n) = forward

unfoldable pub presses_of_bytes : List ℕ → List Press
presses_of_bytes [] = []
presses_of_bytes (b ∷ bs) = press_of_byte b ∷ presses_of_bytes bs

-- three words an answer: the number, and the value's low and high word
abbrev pub answer_words : Pressed → List ℕ
answer_words a = let w = pressed_answer a in w.number ∷ w.low ∷ w.high ∷ []

unfoldable pub answers_words : List Pressed → List ℕ
answers_words [] = []
answers_words (a ∷ rest) = answer_words a ++ answers_words rest

-- ---- the list of presses

-- what the list leaves: a number, 0 where all presses were made, the state, and every lent word
pub record Replayed : Type 0 where
  pub number : ℕ
  pub state : State
  pub slots : List ℕ
  pub log : List ℕ
  pub answers : List ℕ

-- the answers of n presses stand at the front of the lent words
abbrev pub replayed : List ℕ → ℕ → Walked → Replayed
replayed answers n w =
    record { number = 0; state = w.state; slots = w.slots; log = w.log; answers = paste answers 0 (answers_words w.answers) (3 * n) }

-- are there three answer words for each press? 1
abbrev pub answers_check : ℕ → ℕ → Check (Unit {0})
answers_check n room = 3 * n ≤ⁿ room else Refusal.Lengths

abbrev pub replay_by : Machine → List ℕ → State → List ℕ → List ℕ → List ℕ → Check (Unit {0}) → Replayed
replay_by x bytes s slots log answers (Ok t) = replayed answers (length bytes) (walk_of x (presses_of_bytes bytes) s slots log)
replay_by x bytes s slots log answers (Err r) = record { number = number_of r; state = s; slots = slots; log = log; answers = answers }

-- on any state and any memory
unfoldable pub replay_of : Machine → List ℕ → State → List ℕ → List ℕ → List ℕ → Replayed
replay_of x bytes s slots log answers = replay_by x bytes s slots log answers (answers_check (length bytes) (length answers))

-- ---- demand 3 of what it leaves

-- the method that a load leaves: the parts of the sheet that are its code and its handlers, and the pool that it filled
abbrev pub loaded_method : List ℕ → AfterLoad → Method
loaded_method sheet m = method (code_of sheet m.loaded) m.kinds m.words (handlers_of sheet m.loaded)

-- a load of a sheet was accepted, whatever the lent memory held then, and what it handed back and filled is what is lent now
pub record LeftBy (sheet : List ℕ) (l : Method) (s : State) (slots : List ℕ) : Type 0 where
  pub bytes : (i : ℕ) → u8 sheet i < 256
  pub slots₀ : List ℕ
  pub kinds₀ : List ℕ
  pub words₀ : List ℕ
  pub accepted : (load_of sheet slots₀ kinds₀ words₀).loaded.answer ≡ Ok tt
  pub same_method : l ≡ loaded_method sheet (load_of sheet slots₀ kinds₀ words₀)
  pub same_state : s ≡ (load_of sheet slots₀ kinds₀ words₀).loaded.state
  pub same_slots : slots ≡ (load_of sheet slots₀ kinds₀ words₀).slots

-- the plain walk of a sheet, with as much memory as is lent
abbrev pub plain_walk_in : (Method → Decider) → List ℕ → Method → List ℕ → List ℕ → PlainWalk
plain_walk_in rules sheet l slots log = plain_walk_of rules sheet (record { slots = length slots; kinds = length l.kinds; words = length l.words; log = length log })

-- DEMAND 3 of a list of presses in the words that it leaves, by the plain walk f
pub record Demand3InWords (f : PlainWalk) (slots log answers bytes : List ℕ) (r : Replayed) : Type 0 where
  pub all_made : r.number ≡ 0
  pub answers_written : r.answers ≡ paste answers 0 (answers_words (plain_answers f (presses_of_bytes bytes) 0)) (3 * length bytes)
  -- of the state, the slots and the log
  pub demand3 : Demand3 f slots (presses_of_bytes bytes) (record { state = r.state; slots = r.slots; log = r.log; answers = plain_answers f (presses_of_bytes bytes) 0 })

-- DEMAND 3, whatever sheet was loaded, by the plain walk of that sheet
abbrev pub FromAnyLoad : (Method → Decider) → Method → State → List ℕ → List ℕ → List ℕ → List ℕ → Replayed → Type 0
FromAnyLoad rules l s slots log answers bytes r =
    (sheet : List ℕ) → LeftBy sheet l s slots → 3 * length bytes ≤ length answers → Demand3InWords (plain_walk_in rules sheet l slots log) slots log answers bytes r
