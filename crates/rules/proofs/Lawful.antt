-- ALL that the run's account and demand 3 ask of a machine, and that the rules of the 164 instructions have it. Assumes nothing.
use Prim.Native.Nat.{ℕ, ◌-◌, ◌≤◌}
use mathlib.Core.Path.{◌≡◌, refl, ap, subst, ◌∙◌}
use mathlib.Core.Bool.{cond}
use mathlib.Core.List.{List}
use native.Mathlib.Omega.{arith}
use lib.Dec.{eqb}
use Rattle.rules.specs.declared.states.State.{State}
use Rattle.rules.specs.declared.updates.Update.{Update}
use Rattle.rules.specs.Check.{Check, ◌>>◌}
use Rattle.rules.specs.Forms.{Result, pushes, stores, divides, branches, returns, Source, stack, local, pool}
use Rattle.rules.specs.Fetch.{Instruction, fetched}
use Rattle.rules.specs.Questions.{Method, frame_size, pushed, frame_check, needs_check}
use Rattle.rules.specs.Handlers.{handler_at}
use Rattle.rules.specs.Step.{base, words_at, ordinary, following, thrown_to, thrown_at, outcome, decision, decide_frame, Machine, core_machine}
use Rattle.rules.specs.Run.{uncounted}
use Rattle.rules.proofs.Check.{bind_same}
use Rattle.rules.proofs.Step.{result}
use Rattle.rules.proofs.Legal.{Legal, IfOrdinary, decide_legal}
use Rattle.rules.proofs.Numbers.{IfRefused, Not14, decide_numbered, never_14}
use Rattle.std.specs.Prelude.{Ok, Some, None, Option}
use Rattle.rules.specs.Decisions.{Decision}

-- a decision by the number of slots, the state and the words of the frame, which it is by its type, and
pub record Lawful (x : Machine) : Type 0 where
  -- an ordinary step stays inside the code and the frame
  pub legal : (n : ℕ) (s : State) (words : List ℕ) → IfOrdinary (Legal x.runs s n) (x.decides n s words).decision
  -- no step is refused with a number of back's
  pub numbered : (n : ℕ) (s : State) (words : List ℕ) → IfRefused Not14 (x.decides n s words).decision
  -- scratch is slots that are there
  pub near : (n : ℕ) (s : State) (words : List ℕ) → (x.decides n s words).scratch ≤ n - frame_size s
  -- the count plays no part
  pub unseen : (n : ℕ) (s : State) (words : List ℕ) → x.decides n (uncounted s) words ≡ x.decides n s words

pub ordinary_by : (x : Machine) → Lawful x → (n : ℕ) (s : State) (words : List ℕ) (u : Update) → (x.decides n s words).decision ≡ Ok u → Legal x.runs s n u
ordinary_by x law n s words u e = subst (IfOrdinary (Legal x.runs s n)) e (law.legal n s words)

-- ---- the rules of the 164 instructions

module _ (l : Method) (n : ℕ) (s : State) (words : List ℕ) where
  thrown_same : (x : Option ℕ) → thrown_to l.code (uncounted s) x ≡ thrown_to l.code s x
  thrown_same None = refl
  thrown_same (Some h) = refl

  outcome_same : (i : Instruction) (r : Result) → outcome l (uncounted s) i r ≡ outcome l s i r
  unfolding thrown_at
  outcome_same i (pushes ws) = refl
  outcome_same i (stores ws) = refl
  outcome_same i (divides by ws) = ap (λ (x : Check Decision). cond (eqb by 0) x (ordinary l s i (following s i) (base s i) (pushed i) ws)) (thrown_same (handler_at l.kinds l.words l.handlers s.pc))
  outcome_same i (branches t z) = refl
  outcome_same i (returns v) = refl

  words_same : (i : Instruction) (p : Source) → words_at p l (uncounted s) words i ≡ words_at p l s words i
  words_same i stack = refl
  words_same i local = refl
  words_same i pool = refl

  result_same : (i : Instruction) → result l (uncounted s) words i ≡ result l s words i
  result_same i = ap (i.rule.does i.operand) (words_same i i.rule.reads)

  pub count_unseen : decide_frame l n (uncounted s) words ≡ decide_frame l n s words
  unfolding decide_frame frame_check needs_check
  count_unseen = ap (λ (x : Check Decision). decision (frame_check l s n >> x))
      (bind_same (fetched l.code s.pc) _ _ (λ i. ap (λ (x : Check Decision). needs_check l s i >> x) (ap (outcome l (uncounted s) i) (result_same i) ∙ outcome_same i (result l s words i))))

pub core_lawful : (l : Method) → Lawful (core_machine l)
core_lawful l =
    record {
      legal = λ n s words. decide_legal l n s words;
      numbered = λ n s words. never_14 (decide_frame l n s words) (decide_numbered l s n words);
      near = λ n s words. omega arith;
      unseen = λ n s words. ap (λ (d : Decision). record { decision = d; scratch = 0 }) (count_unseen l n s words);
    }
