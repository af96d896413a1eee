-- What a press and a list of presses give, with the words that they leave, as the rules have it. Assumes nothing.
use Rattle.std.specs.Prelude.{ℕ, ◌≡◌, ◌+◌, ◌≤◌, ◌<◌, List, length, get_or, take, drop, Option, Some, None, Ok, Err}
use Rattle.rules.specs.declared.states.State.{State}
use Rattle.rules.specs.History.{AfterPress}
use Rattle.rules.specs.Presses.{Replayed}
use Rattle.history.specs.declared.undo_log.Entry.{Entry}
use Rattle.history.specs.declared.forward_press.PressResult.{PressResult}
use Rattle.rules.specs.Check.{Check}
use Rattle.rules.specs.Refusals.{number_of}

abbrev pub pressed : PressResult → List ℕ → List ℕ → AfterPress
pressed r slots log = record { state = r.state; answer = r.answer; slots = slots; log = log }

-- for the private functions of the log: an entry, as it stands at an index; what is read at an index; the questions of back, without the entry; a step taken back
pub record IsEntry (e : Entry) (log : List ℕ) (k : ℕ) : Type 0 where
  pub whole : k + 10 ≤ length log
  pub pc : e.pc ≡ get_or log k 0
  pub depth : e.depth ≡ get_or log (k + 1) 0
  pub first : e.first ≡ get_or log (k + 2) 0
  pub many : e.many ≡ get_or log (k + 3) 0
  pub old : e.old ≡ take 6 (drop (k + 4) log)

abbrev pub EntryAt : Option Entry → List ℕ → ℕ → Type 0
EntryAt (Some e) log k = IsEntry e log k
EntryAt None log k = length log < k + 10

abbrev pub asked : Check Entry → Check (Unit {0})
asked (Ok e) = Ok tt
asked (Err r) = Err r

abbrev pub taken_back : State → List ℕ → List ℕ → AfterPress
taken_back s slots log = record { state = s; answer = Ok tt; slots = slots; log = log }

-- a list of presses that began at s: the state after it, or its refusal
abbrev pub number_left : Check State → ℕ
number_left (Ok t) = 0
number_left (Err r) = number_of r

abbrev pub state_left : State → Check State → State
state_left s (Ok t) = t
state_left s (Err r) = s

abbrev pub left : Check State → State → List ℕ → List ℕ → List ℕ → Replayed
left r s slots log answers = record { number = number_left r; state = state_left s r; slots = slots; log = log; answers = answers }
