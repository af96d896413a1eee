-- DEMAND 3 at the boundary: of what workbook_load left, of a list of single calls of workbook_forward and workbook_back, of workbook_run, and of
-- workbook_presses. Assumes nothing.
use Rattle.std.specs.Prelude.{ℕ, ◌+◌, ◌*◌, ◌^◌, ◌<◌, ◌≤◌, ◌≡◌, List, [], ◌∷◌, ◌++◌, map, length, get_or, take, drop, None}
use Rattle.rules.specs.Fetch.{u8}
use Rattle.rules.specs.Questions.{Method, method}
use Rattle.rules.specs.Step.{Machine, core_rules, core_machine, frame, beyond, zeroed}
use Rattle.rules.specs.Run.{uncounted}
use Rattle.rules.specs.PlainWalk.{PlainWalk, Press, forward, back, plain_answers, plain_net, scratch_from}
use Rattle.rules.specs.Walk.{Demand3}
use Rattle.rules.specs.Answers.{end_answer, pressed_answer}
use Rattle.rules.specs.Presses.{plain_walk_in, Demand3InWords}
use Rattle.workbook.specs.StateWords.{state_in, with_state}
use Rattle.workbook.specs.Calls.{Called, answer_after, forward_call, back_call, with_steps, run_call, LoadCalled, load_call}
use Rattle.rules.specs.Decisions.{Pressed}

-- ---- what a load left

-- the part of the sheet at two answer words, from index i on: where it begins, and how long it is
abbrev pub part_at : List ℕ → List ℕ → ℕ → List ℕ
part_at sheet answer i = take (get_or answer (i + 1) 0) (drop (get_or answer i 0) sheet)

-- the method that a host lends after a load
abbrev pub method_left : List ℕ → LoadCalled → Method
method_left sheet c = method (part_at sheet c.answer 0) c.kinds c.words (part_at sheet c.answer 2)

-- ---- a list of single calls, each on the words that the last one left

pub record Calls : Type 0 where
  pub numbers : List ℕ
  pub slots : List ℕ
  pub log : List ℕ
  pub state : List ℕ
  pub answer : List ℕ

-- workbook_back has no answer words: they stay
abbrev pub press_call : Machine → Press → List ℕ → List ℕ → List ℕ → List ℕ → Called
press_call x forward slots log state answer = forward_call x slots log state answer
press_call x back slots log state answer = let c = back_call x.runs slots log state in record { number = c.number; slots = c.slots; log = c.log; state = c.state; answer = answer }

unfoldable pub calls_of : Machine → List Press → List ℕ → List ℕ → List ℕ → List ℕ → Calls
calls_of x [] slots log state answer = record { numbers = []; slots = slots; log = log; state = state; answer = answer }
calls_of x (p ∷ ps) slots log state answer =
    let c = press_call x p slots log state answer in
    let r = calls_of x ps c.slots c.log c.state c.answer in
    record { numbers = c.number ∷ r.numbers; slots = r.slots; log = r.log; state = r.state; answer = r.answer }

-- the answer words after a list of answers: each return writes its value
unfoldable pub answers_left : List ℕ → List Pressed → List ℕ
answers_left answer [] = answer
answers_left answer (a ∷ rest) = answers_left (answer_after answer a) rest

-- DEMAND 3 of a list of single calls, by the plain walk f: they began on these slots, state words and answer words
pub record Demand3OfCalls (f : PlainWalk) (slots state answer : List ℕ) (presses : List Press) (c : Calls) : Type 0 where
  -- the numbers and the values are those of the plain walk's answers
  pub numbers : c.numbers ≡ map (λ a. (pressed_answer a).number) (plain_answers f presses 0)
  pub values : c.answer ≡ answers_left answer (plain_answers f presses 0)
  -- of the state in the words, the slots and the log
  pub demand3 : Demand3 f slots presses (record { state = state_in c.state; slots = c.slots; log = c.log; answers = plain_answers f presses 0 })
  -- workbook_run with net as its budget, called instead on what the load left
  pub ran : plain_net f presses 0 < 2 ^ 64
      → run_call f.machine slots state answer (plain_net f presses 0)
      ≡ record {
        number = (end_answer None).number;
        slots = frame f.state c.slots ++ zeroed (scratch_from f f.first (plain_net f presses 0)) (beyond f.state slots);
        log = [];
        state = with_state state (uncounted (state_in c.state));
        answer = with_steps answer 0 0 (plain_net f presses 0);
      }

-- DEMAND 3 of all calls that can follow a load
abbrev pub FromThisLoad : List ℕ → LoadCalled → Type 0
FromThisLoad sheet c =
    c.number ≡ 0 → (log answer : List ℕ) (presses : List Press) → 4 ≤ length answer
    → Demand3OfCalls (plain_walk_in core_rules sheet (method_left sheet c) c.slots log) c.slots c.state answer presses
    (calls_of (core_machine (method_left sheet c)) presses c.slots log c.state answer)

-- ---- workbook_presses

-- workbook_load accepted a sheet, whatever the lent memory held then, and what it left is what is lent now
pub record LeftByLoad (sheet : List ℕ) (l : Method) (slots state : List ℕ) : Type 0 where
  pub bytes : (i : ℕ) → u8 sheet i < 256
  pub slots₀ : List ℕ
  pub kinds₀ : List ℕ
  pub words₀ : List ℕ
  pub state₀ : List ℕ
  pub answer₀ : List ℕ
  pub accepted : (load_call sheet slots₀ kinds₀ words₀ state₀ answer₀).number ≡ 0
  pub same_method : l ≡ method_left sheet (load_call sheet slots₀ kinds₀ words₀ state₀ answer₀)
  pub same_slots : slots ≡ (load_call sheet slots₀ kinds₀ words₀ state₀ answer₀).slots
  pub same_state : state ≡ (load_call sheet slots₀ kinds₀ words₀ state₀ answer₀).state

-- DEMAND 3 of a list of presses in the words that it leaves, whatever workbook_load was made before
abbrev pub FromAnyLoadCall : Method → List ℕ → List ℕ → List ℕ → List ℕ → List ℕ → Called → Type 0
FromAnyLoadCall l slots log state bytes answers c =
    (sheet : List ℕ) → LeftByLoad sheet l slots state → 3 * length bytes ≤ length answers
    → Demand3InWords (plain_walk_in core_rules sheet l slots log) slots log answers bytes (record { number = c.number; state = state_in c.state; slots = c.slots; log = c.log; answers = c.answer })
