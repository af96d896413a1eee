-- The exported functions, each by the number that comes back and by every lent word that it leaves. Assumes nothing.
use Rattle.std.specs.Prelude.{ℕ, ◌*◌, ◌/◌, ◌%◌, ◌^◌, List, [], ◌∷◌, length, Ok, Err}
use Rattle.std.proofs.Math.Seq.{paste}
use Rattle.values.specs.declared.Value.{Value}
use Rattle.rules.specs.declared.states.State.{State}
use Rattle.rules.specs.declared.sheets.Reading.{Reading}
use Rattle.rules.specs.declared.sheets.Loaded.{Loaded}
use Rattle.rules.specs.Check.{Check, ◌else◌, ◌>>=◌, ◌>>◌, ◌≤ⁿ◌, ◌<ⁿ◌}
use Rattle.rules.specs.Questions.{Method}
use Rattle.rules.specs.Step.{Machine, Stepped, step_of}
use Rattle.rules.specs.Run.{Ran, run_of}
use Rattle.rules.specs.Sheet.{sheet_check, handlers_length, AfterLoad, load_of}
use Rattle.rules.specs.History.{AfterPress, pressed_by, forward_of, back_of}
use Rattle.rules.specs.Answers.{value_answer, decision_answer, end_answer, pressed_answer, load_answer}
use Rattle.rules.specs.Presses.{answers_words, answers_check, Replayed, replay_of}
use Rattle.workbook.specs.StateWords.{state_in, state_size, with_state, lengths_check, sizes_check}
use Rattle.rules.specs.declared.refusals.Refusal.{Refusal}
use Rattle.rules.specs.declared.halts.Halt.TheVariants.{Return, Throw, Refused}
use Rattle.rules.specs.Decisions.{Pressed}
use Rattle.rules.specs.Refusals.{number_of}

-- ---- step, forward and back

pub record Called : Type 0 where
  pub number : ℕ
  pub slots : List ℕ
  pub log : List ℕ
  pub state : List ℕ
  pub answer : List ℕ

-- the state is written where the press is granted
abbrev pub state_after : List ℕ → State → Pressed → List ℕ
state_after ws s (Ok t) = with_state ws s
state_after ws s (Err h) = ws

-- answer words 0 and 1 are written where there is a return
abbrev pub with_value : List ℕ → Value → List ℕ
with_value answer v = paste answer 0 ((value_answer v).low ∷ (value_answer v).high ∷ []) 2

abbrev pub answer_after : List ℕ → Pressed → List ℕ
answer_after answer (Ok t) = answer
answer_after answer (Err (Return v)) = with_value answer v
answer_after answer (Err Throw) = answer
answer_after answer (Err (Refused n)) = answer

abbrev pub called : List ℕ → List ℕ → AfterPress → Called
called state answer o =
    record { number = (pressed_answer o.answer).number; slots = o.slots; log = o.log; state = state_after state o.state o.answer; answer = answer_after answer o.answer }

abbrev pub unchanged : List ℕ → List ℕ → List ℕ → List ℕ → ℕ → Called
unchanged slots log state answer n = record { number = n; slots = slots; log = log; state = state; answer = answer }

abbrev pub call_by : List ℕ → List ℕ → List ℕ → List ℕ → AfterPress → Check (Unit {0}) → Called
call_by slots log state answer o (Ok t) = called state answer o
call_by slots log state answer o (Err k) = unchanged slots log state answer (number_of k)

abbrev pub stepped : List ℕ → List ℕ → Stepped → Called
stepped state answer r =
    let a = pressed_by r.decision in
    record { number = (decision_answer r.decision).number; slots = r.slots; log = []; state = state_after state r.state a; answer = answer_after answer a }

abbrev pub step_call_by : List ℕ → List ℕ → List ℕ → Stepped → Check (Unit {0}) → Called
step_call_by slots state answer r (Ok t) = stepped state answer r
step_call_by slots state answer r (Err k) = unchanged slots [] state answer (number_of k)

unfoldable pub step_call : Machine → List ℕ → List ℕ → List ℕ → Called
step_call x slots state answer = step_call_by slots state answer (step_of x (state_in state) slots) (do
  lengths_check state answer 4
  sizes_check state)

unfoldable pub forward_call : Machine → List ℕ → List ℕ → List ℕ → List ℕ → Called
forward_call x slots log state answer = call_by slots log state answer (forward_of x (state_in state) slots log) (do
  lengths_check state answer 4
  sizes_check state)

-- back has no answer words
abbrev pub back_by : List ℕ → List ℕ → List ℕ → AfterPress → Check (Unit {0}) → Called
back_by slots log state o (Ok t) =
    record { number = (pressed_answer o.answer).number; slots = o.slots; log = o.log; state = state_after state o.state o.answer; answer = [] }
back_by slots log state o (Err k) = unchanged slots log state [] (number_of k)

unfoldable pub back_call : Method → List ℕ → List ℕ → List ℕ → Called
back_call l slots log state = back_by slots log state (back_of l (state_in state) slots log) (do
  state_size ≤ⁿ length state else Refusal.Lengths
  sizes_check state)

-- ---- run

-- the value's two words, then the steps, low word first
abbrev pub with_steps : List ℕ → ℕ → ℕ → ℕ → List ℕ
with_steps answer low high steps = paste answer 0 (low ∷ high ∷ steps % 2 ^ 32 ∷ steps / 2 ^ 32 ∷ []) 4

abbrev pub ran_call : List ℕ → List ℕ → Ran → Called
ran_call state answer r =
    let e = end_answer r.end in
    record { number = e.number; slots = r.slots; log = []; state = with_state state r.state; answer = with_steps answer e.low e.high r.steps }

-- sizes that no state has are question 1's no: the four answer words are 0
abbrev pub run_by : List ℕ → List ℕ → List ℕ → Ran → Check (Unit {0}) → Called
run_by slots state answer r (Ok t) = ran_call state answer r
run_by slots state answer r (Err k) = unchanged slots [] state (with_steps answer 0 0 0) (number_of k)

abbrev pub run_for : List ℕ → List ℕ → List ℕ → Ran → Check (Unit {0}) → Called
run_for slots state answer r (Ok t) = run_by slots state answer r (sizes_check state)
run_for slots state answer r (Err k) = unchanged slots [] state answer (number_of k)

unfoldable pub run_call : Machine → List ℕ → List ℕ → List ℕ → ℕ → Called
run_call x slots state answer budget = run_for slots state answer (run_of x budget (state_in state) slots) (lengths_check state answer 4)

-- ---- the list of presses

-- every press of a list is refused with 1
unfoldable pub all_refused : List ℕ → List Pressed
all_refused [] = []
all_refused (b ∷ bs) = Err (Refused Refusal.Lengths) ∷ all_refused bs

abbrev pub presses_made : List ℕ → Replayed → Called
presses_made state r = record { number = 0; slots = r.slots; log = r.log; state = with_state state r.state; answer = r.answers }

-- sizes that no state has are question 1's no, at each press
abbrev pub presses_by : List ℕ → List ℕ → List ℕ → List ℕ → List ℕ → Replayed → Check (Unit {0}) → Called
presses_by bytes slots log state answers r (Ok t) = presses_made state r
presses_by bytes slots log state answers r (Err n) = unchanged slots log state (paste answers 0 (answers_words (all_refused bytes)) (3 * length bytes)) 0

abbrev pub presses_for : List ℕ → List ℕ → List ℕ → List ℕ → List ℕ → Replayed → Check (Unit {0}) → Called
presses_for bytes slots log state answers r (Ok t) = presses_by bytes slots log state answers r (sizes_check state)
presses_for bytes slots log state answers r (Err k) = unchanged slots log state answers (number_of k)

unfoldable pub presses_call : Machine → List ℕ → List ℕ → List ℕ → List ℕ → List ℕ → Called
presses_call x slots log state bytes answers =
    presses_for bytes slots log state answers (replay_of x bytes (state_in state) slots log answers) (do
      answers_check (length bytes) (length answers)
      state_size ≤ⁿ length state else Refusal.Lengths)

-- ---- load

pub record LoadCalled : Type 0 where
  pub number : ℕ
  pub slots : List ℕ
  pub kinds : List ℕ
  pub words : List ℕ
  pub state : List ℕ
  pub answer : List ℕ

-- where the code begins and how long it is, and the same of the handlers
abbrev pub parts_of : Loaded → List ℕ
parts_of x = x.code ∷ x.code_length ∷ x.handlers ∷ x.handlers_length ∷ []

-- an accepted load writes the state and the parts
abbrev pub load_by : List ℕ → List ℕ → AfterLoad → Check (Unit {0}) → LoadCalled
load_by state answer m (Ok t) =
    record {
      number = (load_answer (Ok t)).number;
      slots = m.slots;
      kinds = m.kinds;
      words = m.words;
      state = with_state state m.loaded.state;
      answer = paste answer 0 (parts_of m.loaded) 4;
    }
load_by state answer m (Err k) =
    record { number = (load_answer (Err k)).number; slots = m.slots; kinds = m.kinds; words = m.words; state = state; answer = answer }

-- question 26 of the state and answer words, after the sheet's own: are there enough, and is the length of the handlers, which has no limit, a word?
unfoldable pub words_check : List ℕ → List ℕ → Reading → Check (Unit {0})
words_check state answer p = do
  state_size ≤ⁿ length state else Refusal.LentMemory
  4 ≤ⁿ length answer else Refusal.LentMemory
  handlers_length p <ⁿ 2 ^ 32 else Refusal.LentMemory

abbrev pub load_for : List ℕ → List ℕ → List ℕ → List ℕ → List ℕ → List ℕ → Check (Unit {0}) → LoadCalled
load_for sheet slots kinds words state answer (Ok t) = let m = load_of sheet slots kinds words in load_by state answer m m.loaded.answer
load_for sheet slots kinds words state answer (Err n) = record { number = number_of n; slots = slots; kinds = kinds; words = words; state = state; answer = answer }

unfoldable pub load_call : List ℕ → List ℕ → List ℕ → List ℕ → List ℕ → List ℕ → LoadCalled
load_call sheet slots kinds words state answer = load_for sheet slots kinds words state answer (do
  p ← sheet_check sheet
  words_check state answer p)
