-- The first entry that catches, from one entry to the next, and the step to its handler. Assumes nothing.
use Prim.Native.Nat.{ℕ, suc, ◌+◌, ◌-◌, ◌≤◌, ◌<◌}
use mathlib.Core.Path.{◌≡◌, ap, ◌∙◌}
use mathlib.Core.Bool.{Bool, true, false, cond}
use mathlib.Core.List.{List, [], ◌∷◌}
use native.Mathlib.Omega.{arith}
use lib.ListN.{length}
use borrow.Author.Tests.{le-leb, lt-leb, le-ltb, lt-ltb}
use Rattle.rules.specs.declared.states.State.{State}
use Rattle.rules.specs.Check.{◌else◌, ◌>>=◌, ◌>>◌}
use Rattle.rules.specs.Handlers.{handler_pc, catches, handler_from}
use Rattle.rules.specs.Step.{update, caught_at}
use Rattle.std.specs.Prelude.{Ok, Err, Some}
use Rattle.rules.specs.declared.refusals.Refusal.{Refusal}

-- ---- of some entries, by the first of them

module _ (kinds words part : List ℕ) (at pc n : ℕ) (more : 0 < n) where
  one_entry : handler_from n kinds words part at pc ≡ cond (catches kinds words part at pc) (Some (handler_pc part at)) (handler_from (n - 1) kinds words part (at + 12) pc)
  unfolding handler_from
  one_entry = let e : n ≡ suc (n - 1) = omega arith in ap (λ (k : ℕ). handler_from k kinds words part at pc) e

  by_test : (t : Bool) → catches kinds words part at pc ≡ t → handler_from n kinds words part at pc ≡ cond t (Some (handler_pc part at)) (handler_from (n - 1) kinds words part (at + 12) pc)
  by_test t e = one_entry ∙ ap (λ (b : Bool). cond b (Some (handler_pc part at)) (handler_from (n - 1) kinds words part (at + 12) pc)) e

  pub caught_here : catches kinds words part at pc ≡ true → handler_from n kinds words part at pc ≡ Some (handler_pc part at)
  caught_here e = by_test true e

  pub not_here : catches kinds words part at pc ≡ false → handler_from n kinds words part at pc ≡ handler_from (n - 1) kinds words part (at + 12) pc
  not_here e = by_test false e

-- ---- the step to a handler, question by question

module _ (code : List ℕ) (s : State) (handler : ℕ) where
  pub no_room_to_catch : s.max_stack ≡ 0 → caught_at code s handler ≡ Err Refusal.StackOverflow
  unfolding ◌else◌ ◌>>◌
  no_room_to_catch h = simp (lt-leb 1 s.max_stack (omega arith))

  module _ (room : 1 ≤ s.max_stack) where
    pub handler_outside : length code ≤ handler → caught_at code s handler ≡ Err Refusal.Target
    unfolding ◌else◌ ◌>>=◌ ◌>>◌
    handler_outside h = simp (le-leb _ _ room, le-ltb _ _ h)

    pub caught_step : handler < length code → caught_at code s handler ≡ Ok (Ok (update handler 1 s.max_locals 1 (1 ∷ [])))
    unfolding ◌else◌ ◌>>=◌ ◌>>◌
    caught_step h = simp (le-leb _ _ room, lt-ltb _ _ h)
