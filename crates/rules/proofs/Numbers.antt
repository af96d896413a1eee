-- A step is refused with a number from 1 to 11, or 32. Assumes nothing.
use Prim.Native.Nat.{ℕ}
use mathlib.Core.Path.{◌≡◌, refl}
use mathlib.Core.Bool.{Bool, true, false, ◌&&◌, ◌||◌, cond}
use mathlib.Core.List.{List, []}
use borrow.Author.Tests.{eqb-true}
use lib.Dec.{eqb}
use lib.IntN.{ℤ, pos, negsuc}
use Rattle.values.specs.declared.Value.{Value}
use Rattle.values.specs.Kinds.{places_of}
use Rattle.rules.specs.declared.states.State.{State}
use Rattle.rules.specs.Check.{Check, ◌≤ⁿ◌, ◌=ⁿ◌}
use Rattle.rules.specs.Forms.{Row, Operand, Format, alone, implied, byte, short, index, index2, index_const, branch, branch4, table, pairs, widened, Result, pushes, stores, divides, branches, returns}
use Rattle.rules.specs.Instructions.{row_of}
use Rattle.rules.specs.Fetch.{u8, Instruction, core_row, core, sized, wide_opcode, wide_check, table_check, lookup_check, by_format, fetched}
use Rattle.rules.specs.Returns.{returned}
use Rattle.rules.specs.Questions.{Method, pushed, frame_check, needs_check}
use Rattle.rules.specs.Handlers.{handler_at}
use Rattle.rules.specs.Step.{base, inside, ordinary, following, target, handler_target, thrown_to, thrown_at, outcome, decision, decide_frame}
use Rattle.rules.proofs.Check.{Any, Numbered, last_numbered, after_numbered, bound_numbered, asked_numbered, either_numbered}
use Rattle.rules.proofs.Step.{result}
use Rattle.std.specs.Prelude.{Ok, Err, Some, None, Option}
use Rattle.rules.specs.declared.refusals.Refusal.{Refusal}
use Rattle.rules.specs.declared.halts.Halt.TheVariants.{Return, Throw, Refused}
use Rattle.rules.specs.Decisions.{Decision}
use Rattle.rules.specs.Refusals.{number_of}

-- ---- a row of questions

abbrev pub OfStep : Refusal → Type 0
OfStep r = ((1 ≤ⁿ number_of r) && (number_of r ≤ⁿ 11) || (number_of r =ⁿ 32)) ≡ true

-- ---- the questions of a step

frame_numbered : (l : Method) (s : State) (n : ℕ) → Numbered OfStep Any (frame_check l s n)
unfolding frame_check
frame_numbered l s n =
    asked_numbered OfStep Any _ _ _ refl (asked_numbered OfStep Any _ _ _ refl (asked_numbered OfStep Any _ _ _ refl (asked_numbered OfStep Any _ _ _ refl (asked_numbered OfStep Any _ _ _ refl (asked_numbered OfStep Any _ _ _ refl (last_numbered OfStep _ _ refl))))))

core_numbered : (r : Option Row) → Numbered OfStep Any (core_row r)
unfolding Numbered
core_numbered None = refl
core_numbered (Some r) = tt

module _ (code : List ℕ) (pc : ℕ) where
  sized_numbered : (r : Row) (n : ℕ) (o : Operand) → Numbered OfStep Any (sized code pc r n o)
  unfolding Numbered
  sized_numbered r n o = asked_numbered OfStep Any _ _ _ refl tt

  wide_numbered : Numbered OfStep Any (wide_check code pc)
  unfolding wide_check
  wide_numbered =
      asked_numbered OfStep Any _ _ _ refl (asked_numbered OfStep Any _ _ _ refl (bound_numbered OfStep Any (core (wide_opcode code pc)) _ (core_numbered (row_of (wide_opcode code pc))) (λ r.
      either_numbered OfStep Any (wide_opcode code pc =ⁿ 132) _ _ (sized_numbered r 6 _) (sized_numbered r 4 _))))

  format_numbered : (r : Row) (f : Format) → Numbered OfStep Any (by_format code pc r f)
  unfolding Numbered table_check lookup_check
  format_numbered r alone = sized_numbered r 1 _
  format_numbered r (implied n) = sized_numbered r 1 _
  format_numbered r byte = sized_numbered r 2 _
  format_numbered r short = sized_numbered r 3 _
  format_numbered r index = sized_numbered r 2 _
  format_numbered r index2 = sized_numbered r 3 _
  format_numbered r index_const = sized_numbered r 3 _
  format_numbered r branch = sized_numbered r 3 _
  format_numbered r branch4 = sized_numbered r 5 _
  format_numbered r table = asked_numbered OfStep Any _ _ _ refl (asked_numbered OfStep Any _ _ _ refl (asked_numbered OfStep Any _ _ _ refl tt))
  format_numbered r pairs = asked_numbered OfStep Any _ _ _ refl (asked_numbered OfStep Any _ _ _ refl (asked_numbered OfStep Any _ _ _ refl (asked_numbered OfStep Any _ _ _ refl tt)))
  format_numbered r widened = wide_numbered

  fetch_numbered : Numbered OfStep Any (fetched code pc)
  unfolding fetched
  fetch_numbered = bound_numbered OfStep Any (core (u8 code pc)) _ (core_numbered (row_of (u8 code pc))) (λ r. format_numbered r r.format)

-- ---- the decision

abbrev pub IfRefused : (Refusal → Type 0) → Decision → Type 0
IfRefused P (Ok u) = Unit {0}
IfRefused P (Err (Return v)) = Unit {0}
IfRefused P (Err Throw) = Unit {0}
IfRefused P (Err (Refused n)) = P n

abbrev Fine : Decision → Type 0
Fine d = IfRefused OfStep d

decision_numbered : (x : Check Decision) → Numbered OfStep Fine x → Fine (decision x)
unfolding Numbered
decision_numbered (Ok d) h = h
decision_numbered (Err n) h = h

returned_numbered : (t : ℕ) (v : Value) → Numbered OfStep Any (returned t v)
unfolding returned Numbered
returned_numbered t v = asked_numbered OfStep Any _ _ _ refl tt

module _ (l : Method) (s : State) where
  needs_numbered : (i : Instruction) → Numbered OfStep Any (needs_check l s i)
  unfolding needs_check
  needs_numbered i = asked_numbered OfStep Any _ _ _ refl (asked_numbered OfStep Any _ _ _ refl (asked_numbered OfStep Any _ _ _ refl (last_numbered OfStep _ _ refl)))

  inside_numbered : (to : ℤ) → Numbered OfStep Any (inside l.code to)
  unfolding Numbered
  inside_numbered (pos n) = asked_numbered OfStep Any _ _ _ refl tt
  inside_numbered (negsuc n) = refl

  ordinary_numbered : (i : Instruction) (to : ℤ) (at n : ℕ) (ws : List ℕ) → Numbered OfStep Fine (ordinary l s i to at n ws)
  unfolding Numbered
  ordinary_numbered i to at n ws = bound_numbered OfStep Fine (inside l.code to) _ (inside_numbered to) (λ pc. tt)

  thrown_numbered : (x : Option ℕ) → Numbered OfStep Fine (thrown_to l.code s x)
  unfolding Numbered
  thrown_numbered None = tt
  thrown_numbered (Some h) = asked_numbered OfStep Fine _ _ _ refl (bound_numbered OfStep Fine (inside l.code (handler_target s h)) _ (inside_numbered (handler_target s h)) (λ pc. tt))

  outcome_numbered : (i : Instruction) (r : Result) → Numbered OfStep Fine (outcome l s i r)
  unfolding Numbered thrown_at
  outcome_numbered i (pushes ws) = ordinary_numbered i (following s i) (base s i) (pushed i) ws
  outcome_numbered i (stores ws) = ordinary_numbered i (following s i) i.operand.index (places_of i.rule.locals) ws
  outcome_numbered i (divides by ws) = either_numbered OfStep Fine (by =ⁿ 0) _ _ (thrown_numbered (handler_at l.kinds l.words l.handlers s.pc)) (ordinary_numbered i (following s i) (base s i) (pushed i) ws)
  outcome_numbered i (branches t z) = ordinary_numbered i (cond t (target s z) (following s i)) 0 0 []
  outcome_numbered i (returns v) = bound_numbered OfStep Fine (returned s.return_type v) _ (returned_numbered s.return_type v) (λ r. tt)

  -- THE LAW
  pub decide_numbered : (n : ℕ) (words : List ℕ) → IfRefused OfStep (decide_frame l n s words)
  unfolding decide_frame
  decide_numbered n words = decision_numbered _
      (after_numbered OfStep Fine (frame_check l s n) _ (frame_numbered l s n)
      (bound_numbered OfStep Fine (fetched l.code s.pc) _ (fetch_numbered l.code s.pc) (λ i.
      after_numbered OfStep Fine (needs_check l s i) _ (needs_numbered i) (outcome_numbered i (result l s words i)))))

-- so it is not 14, which is back's
abbrev pub Not14 : Refusal → Type 0
Not14 r = eqb (number_of r) 14 ≡ false

not_14 : (r : Refusal) → OfStep r → Not14 r
not_14 r h = go (eqb (number_of r) 14) refl
  where
    go : (b : Bool) → eqb (number_of r) 14 ≡ b → b ≡ false
    go true e = let z : ((1 ≤ⁿ 14) && (14 ≤ⁿ 11) || (14 =ⁿ 32)) ≡ true = rw (eqb-true (number_of r) 14 e) at h in absurd (cc)
    go false e = refl

pub never_14 : (d : Decision) → IfRefused OfStep d → IfRefused Not14 d
never_14 (Ok u) h = tt
never_14 (Err (Return v)) h = tt
never_14 (Err Throw) h = tt
never_14 (Err (Refused n)) h = not_14 n h
