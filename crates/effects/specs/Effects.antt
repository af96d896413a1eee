-- What an instruction comes to, as the step takes it: of its result in the table. Assumes nothing.
use Rattle.std.specs.Prelude.{ℕ, cond, List, [], ◌∷◌, eqb, Some, None, Option}
use Rattle.values.specs.Integers.{signed}
use Rattle.rules.specs.Forms.{Row, Operand, Result, pushes, stores, divides, branches, returns}
use Rattle.rules.specs.Fetch.{operands}
use Rattle.rules.specs.Instructions.{row_of}
use Rattle.rules.specs.Step.{six}
use Rattle.effects.specs.declared.outcome.Effect.{Effect}
use Rattle.effects.specs.declared.outcome.Effect.TheVariants.{Words, Throw, Branch, Return}

abbrev pub effect_of : Result → Effect
effect_of (pushes ws) = Words (six ws)
effect_of (stores ws) = Words (six ws)
effect_of (divides by ws) = cond (eqb by 0) Throw (Words (six ws))
effect_of (branches taken offset) = Branch taken
effect_of (returns v) = Return v

-- what an opcode does with its operand and its words, lowest first; one outside the core does nothing
abbrev pub does_of : Option Row → Operand → List ℕ → Result
does_of None o ws = pushes []
does_of (Some r) o ws = r.rule.does o ws

-- what an opcode comes to, of its constant as a word and of the words that it works on, lowest first
unfoldable pub effect_at : ℕ → ℕ → ℕ → ℕ → ℕ → ℕ → Effect
effect_at op constant a b c d = effect_of (does_of (row_of op) (operands 0 (signed 31 constant) []) (a ∷ b ∷ c ∷ d ∷ []))
