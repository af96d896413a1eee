-- What an update needs to be written. Assumes nothing.
use Rattle.std.specs.Prelude.{ℕ, ◌+◌, ◌≤◌, List, length}
use Rattle.rules.specs.declared.states.State.{State}
use Rattle.rules.specs.declared.updates.Update.{Update}
use Rattle.rules.specs.Questions.{frame_size}

-- it has at most six words, they lie in the frame, and the frame in the slots. No fact of the type itself: the rules make updates of any number of words
abbrev pub Writable : Update → State → List ℕ → Type 0
Writable u s slots = (u.many ≤ 6) × (u.first + u.many ≤ frame_size s) × (frame_size s ≤ length slots)
