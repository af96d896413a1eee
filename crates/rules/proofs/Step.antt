-- The step and the run by the answers to their questions: what each stage hands to the next. Assumes nothing.
use Prim.Native.Nat.{ℕ, zero, suc, ◌<◌, ◌≤◌}
use mathlib.Core.Path.{◌≡◌, refl}
use mathlib.Core.List.{List}
use lib.IntN.{pos}
use lib.ListN.{length}
use borrow.Author.Tests.{lt-ltb, le-ltb}
use Rattle.rules.specs.declared.states.State.{State}
use Rattle.rules.specs.declared.updates.Update.{Update}
use Rattle.rules.specs.Check.{◌else◌, ◌>>◌, ◌>>=◌}
use Rattle.rules.specs.Forms.{Result}
use Rattle.rules.specs.Fetch.{Instruction, fetched}
use Rattle.rules.specs.Questions.{Method, frame_check, needs_check}
use Rattle.rules.specs.Step.{words_at, inside, outcome, decision, decide_frame, Machine, decide_on, moved, written, cleared}
use Rattle.rules.specs.Run.{ends, run_from}
use Rattle.std.specs.Prelude.{Bool, true, false, ltb, Ok, Err, Some, None}
use Rattle.rules.specs.declared.refusals.Refusal.{Refusal}
use Rattle.rules.specs.declared.halts.Halt.TheVariants.{Return, Throw, Refused}
use Rattle.rules.specs.declared.halts.Halt.{Halt}

-- ---- question 10

pub next_inside : (code : List ℕ) (n : ℕ) → n < length code → inside code (pos n) ≡ Ok n
unfolding ◌else◌ ◌>>◌
next_inside code n h = simp (lt-ltb _ _ h)

pub next_outside : (code : List ℕ) (n : ℕ) → length code ≤ n → inside code (pos n) ≡ Err Refusal.Target
unfolding ◌else◌ ◌>>◌
next_outside code n h = simp (le-ltb _ _ h)

pub inside_place : (code : List ℕ) (n x : ℕ) → inside code (pos n) ≡ Ok x → n ≡ x
unfolding ◌else◌ ◌>>◌
inside_place code n x e = go (ltb n (length code)) e
  where
    go : (t : Bool) → ((t else Refusal.Target) >> Ok n) ≡ Ok x → n ≡ x
    go true e = cc
    go false e = absurd (cc)

-- ---- the decision

-- what an instruction does with the words that it works on
abbrev pub result : Method → State → List ℕ → Instruction → Result
result l s words i = i.rule.does i.operand (words_at i.rule.reads l s words i)

module _ (l : Method) (n : ℕ) (s : State) (words : List ℕ) where
  pub refused_by_frame : (k : Refusal) → frame_check l s n ≡ Err k → decide_frame l n s words ≡ Err (Refused k)
  unfolding decide_frame ◌>>◌
  refused_by_frame k e = rw e

  module _ (framed : frame_check l s n ≡ Ok tt) where
    pub refused_by_fetch : (k : Refusal) → fetched l.code s.pc ≡ Err k → decide_frame l n s words ≡ Err (Refused k)
    unfolding decide_frame ◌>>◌ ◌>>=◌
    refused_by_fetch k e = rw (framed, e)

    module _ (i : Instruction) (at : fetched l.code s.pc ≡ Ok i) where
      pub refused_by_needs : (k : Refusal) → needs_check l s i ≡ Err k → decide_frame l n s words ≡ Err (Refused k)
      unfolding decide_frame ◌>>◌ ◌>>=◌
      refused_by_needs k e = rw (framed, at, e)

      pub decided : needs_check l s i ≡ Ok tt → decide_frame l n s words ≡ decision (outcome l s i (result l s words i))
      unfolding decide_frame ◌>>◌ ◌>>=◌
      decided e = rw (framed, at, e)

-- ---- the run, n steps being taken already

module _ (x : Machine) (b n : ℕ) (s : State) (slots : List ℕ) where
  pub run_ordinary : (u : Update) → (decide_on x s slots).decision ≡ Ok u
      → run_from x (suc b) n s slots ≡ run_from x b (suc n) (moved s u.pc u.depth 0) (cleared s (decide_on x s slots).scratch (written u slots))
  unfolding run_from
  run_ordinary u e = rw (e, run_from)

  pub run_halted : (h : Halt) → (decide_on x s slots).decision ≡ Err h → run_from x (suc b) n s slots ≡ ends s (cleared s (decide_on x s slots).scratch slots) n (Some h)
  unfolding run_from
  run_halted (Return v) e = rw (e, run_from)
  run_halted Throw e = rw (e, run_from)
  run_halted (Refused r) e = rw (e, run_from)

-- with no budget left there is no further look
pub run_stopped : (x : Machine) (n : ℕ) (s : State) (slots : List ℕ) → run_from x zero n s slots ≡ ends s slots n None
unfolding run_from
run_stopped x n s slots = refl
