-- Forward and back: a step with history, its undo record in the log, and that record restored. Assumes nothing.
use Rattle.std.specs.Prelude.{ℕ, ◌+◌, ◌-◌, ◌*◌, ◌||◌, List, [], ◌∷◌, length, get_or, drop, Ok, Err}
use Rattle.std.proofs.Math.Seq.{paste}
use Rattle.rules.specs.declared.states.State.{State}
use Rattle.rules.specs.declared.updates.Update.{Update}
use Rattle.rules.specs.Check.{Check, ◌else◌, ◌>>◌, ◌≤ⁿ◌, ◌<ⁿ◌, ◌=ⁿ◌}
use Rattle.rules.specs.Questions.{Method, frame_size, frame_check}
use Rattle.rules.specs.Step.{Machine, decide_on, moved, written, cleared}
use Rattle.rules.specs.declared.refusals.Refusal.{Refusal}
use Rattle.rules.specs.declared.halts.Halt.TheVariants.{Refused}
use Rattle.rules.specs.Decisions.{Decision, Pressed}

-- what a press leaves, and its answer
pub record AfterPress : Type 0 where
  pub state : State
  pub answer : Pressed
  pub slots : List ℕ
  pub log : List ℕ

-- a press that is not granted changes nothing but its scratch
abbrev pub kept : State → List ℕ → List ℕ → ℕ → Pressed → AfterPress
kept s slots log n a = record { state = s; answer = a; slots = cleared s n slots; log = log }

-- ---- the undo record: ten log words at 10 times count

abbrev pub entry_at : ℕ → ℕ
entry_at n = 10 * n

abbrev pub zeros6 : List ℕ
zeros6 = 0 ∷ 0 ∷ 0 ∷ 0 ∷ 0 ∷ 0 ∷ []

-- n old words from a place on, and zeros, six in all
abbrev pub old_words : List ℕ → ℕ → ℕ → List ℕ
old_words words first many = paste zeros6 0 (drop first words) many

-- pc, depth, first place written, how many, six old words
abbrev pub undo_record : ℕ → ℕ → ℕ → ℕ → List ℕ → List ℕ
undo_record pc depth first many words = pc ∷ depth ∷ first ∷ many ∷ old_words words first many

-- ---- forward

abbrev pub granted : State → List ℕ → List ℕ → ℕ → Update → AfterPress
granted s slots log n u =
    record {
      state = moved s u.pc u.depth (s.count + 1);
      answer = Ok tt;
      slots = cleared s n (written u slots);
      log = paste log (entry_at s.count) (undo_record s.pc s.depth u.first u.many slots) 10;
    }

-- 11. With history: are ten words of log left after 10 times count? 12
abbrev pub log_check : ℕ → ℕ → Check (Unit {0})
log_check count room = entry_at count + 10 ≤ⁿ room else Refusal.LogFull

abbrev pub granted_by : State → List ℕ → List ℕ → ℕ → Update → Check (Unit {0}) → AfterPress
granted_by s slots log n u (Ok t) = granted s slots log n u
granted_by s slots log n u (Err k) = kept s slots log n (Err (Refused k))

-- a decision as a press
abbrev pub pressed_by : Decision → Pressed
pressed_by (Ok u) = Ok tt
pressed_by (Err h) = Err h

abbrev pub forward_by : State → List ℕ → List ℕ → ℕ → Decision → AfterPress
forward_by s slots log n (Ok u) = granted_by s slots log n u (log_check s.count (length log))
forward_by s slots log n (Err h) = kept s slots log n (Err h)

unfoldable pub forward_of : Machine → State → List ℕ → List ℕ → AfterPress
forward_of x s slots log = forward_by s slots log (decide_on x s slots).scratch (decide_on x s slots).decision

-- ---- back

-- has the entry at an index of the log pc in the code, depth at most max_stack, at most six places, all in the frame? 14. Where it has no places its first
-- place is not looked at
unfoldable pub entry_check : List ℕ → State → List ℕ → ℕ → Check (Unit {0})
entry_check code s log k = do
  get_or log k 0 <ⁿ length code else Refusal.LogEntry
  get_or log (k + 1) 0 ≤ⁿ s.max_stack else Refusal.LogEntry
  get_or log (k + 3) 0 ≤ⁿ 6 else Refusal.LogEntry
  (get_or log (k + 3) 0 =ⁿ 0) || (get_or log (k + 2) 0 + get_or log (k + 3) 0 ≤ⁿ frame_size s) else Refusal.LogEntry

-- questions 1 to 3; is count above 0? 13; does the log reach 10 times count? 14; the entry
unfoldable pub back_check : Method → State → List ℕ → List ℕ → Check (Unit {0})
back_check l s slots log = do
  frame_check l s (length slots)
  0 <ⁿ s.count else Refusal.NothingToTakeBack
  entry_at s.count ≤ⁿ length log else Refusal.LogEntry
  entry_check l.code s log (entry_at (s.count - 1))

-- the old words written, pc and depth restored, count lowered; no log word changed
abbrev pub restored : State → List ℕ → List ℕ → ℕ → AfterPress
restored s slots log k =
    record {
      state = moved s (get_or log k 0) (get_or log (k + 1) 0) (s.count - 1);
      answer = Ok tt;
      slots = paste slots (get_or log (k + 2) 0) (drop (k + 4) log) (get_or log (k + 3) 0);
      log = log;
    }

abbrev pub back_by : State → List ℕ → List ℕ → Check (Unit {0}) → AfterPress
back_by s slots log (Ok t) = restored s slots log (entry_at (s.count - 1))
back_by s slots log (Err n) = kept s slots log 0 (Err (Refused n))

unfoldable pub back_of : Method → State → List ℕ → List ℕ → AfterPress
back_of l s slots log = back_by s slots log (back_check l s slots log)
