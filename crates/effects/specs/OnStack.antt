-- How two values of a kind lie on the operand stack. Assumes nothing.
use Rattle.std.specs.Prelude.{ℕ, [], ◌∷◌, drop}
use Rattle.values.specs.Kinds.{Kind, places}
use Rattle.values.specs.Words.{value_at}

-- the two values that an opcode works on, of its words
abbrev pub first_of : Kind → ℕ → ℕ → ℕ → ℕ → ℕ
first_of k a b c d = value_at k (a ∷ b ∷ c ∷ d ∷ [])

abbrev pub second_of : Kind → ℕ → ℕ → ℕ → ℕ → ℕ
second_of k a b c d = value_at k (drop (places k) (a ∷ b ∷ c ∷ d ∷ []))
