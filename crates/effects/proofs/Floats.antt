-- What an arithmetic opcode of floats or of doubles comes to is its result over the format. Computed over the table. Assumes nothing.
use Rattle.std.specs.Prelude.{◌≡◌, ℕ, Bool, true, false, cond, ◌||◌, List, [], ◌∷◌, eqb, refl}
use Rattle.std.specs.Float.{Format, binary32, binary64}
use Rattle.std.proofs.Common.{sym, subst}
use borrow.Author.Tests.{eqb-true}
use Rattle.values.specs.Kinds.{Kind, float, double}
use Rattle.values.specs.Words.{words_of}
use Rattle.rules.specs.Forms.{pushes}
use Rattle.rules.specs.Instructions.{row_of}
use Rattle.instructions.specs.Table.{is_in}
use Rattle.effects.specs.Effects.{effect_of, effect_at}
use Rattle.effects.specs.Families.{float_opcodes, double_opcodes}
use Rattle.effects.specs.Floats.{float_result}
use Rattle.effects.specs.OnStack.{first_of, second_of}

-- what the opcode comes to is that result
abbrev pub IsResult : Kind → Format → ℕ → ℕ → Type 0
IsResult k f h op = (constant a b c d : ℕ) → effect_at op constant a b c d ≡ effect_of (pushes (words_of k (float_result f h op (first_of k a b c d) (second_of k a b c d))))

-- what holds of each of some opcodes holds of any that is among them
abbrev EachOf : (ℕ → Type 0) → List ℕ → Type 0
EachOf P [] = Unit
EachOf P (k ∷ ks) = P k × EachOf P ks

each_of : (P : ℕ → Type 0) (ks : List ℕ) → EachOf P ks → (n : ℕ) → is_in ks n ≡ true → P n
each_of P [] ps n e = absurd (subst (λ (t : Bool). cond t ⊥ Unit) e tt)
each_of P (k ∷ ks) ps n e = go (eqb n k) refl e (each_of P ks ps.1 n)
  where
    go : (t : Bool) → eqb n k ≡ t → t || is_in ks n ≡ true → (is_in ks n ≡ true → P n) → P n
    go true h q later = subst P (sym (eqb-true n k h)) ps.0
    go false h q later = later q

pub of_floats : (op : ℕ) → is_in float_opcodes op ≡ true → IsResult float binary32 31 op
unfolding effect_at row_of
of_floats = each_of (IsResult float binary32 31) float_opcodes (λ n a b c d. refl, (λ n a b c d. refl, (λ n a b c d. refl, (λ n a b c d. refl, (λ n a b c d. refl, (λ n a b c d. refl, tt))))))

pub of_doubles : (op : ℕ) → is_in double_opcodes op ≡ true → IsResult double binary64 63 op
unfolding effect_at row_of
of_doubles = each_of (IsResult double binary64 63) double_opcodes (λ n a b c d. refl, (λ n a b c d. refl, (λ n a b c d. refl, (λ n a b c d. refl, (λ n a b c d. refl, (λ n a b c d. refl, tt))))))
