-- The rows that ints and longs share come to an operation at a kind. Computed over the opcodes. Assumes nothing.
use Rattle.std.proofs.Common.{◌≡◌, ℕ, ◌+◌, ◌-◌, ◌*◌, ◌^◌, Bool, true, false, ◌||◌, eqb, List, [], ◌∷◌, map, refl, sym, ap, ◌∙◌}
use borrow.Author.Tests.{eqb-true}
use Rattle.values.specs.Kinds.{int, long}
use Rattle.integers.specs.Widths.{number, low_bits}
use Rattle.rules.specs.Instructions.{row_of}
use Rattle.instructions.specs.Table.{is_in}
use Rattle.effects.specs.declared.outcome.Effect.{Effect}
use Rattle.effects.specs.Effects.{effect_of, effect_at}
use Rattle.effects.specs.Families.{shared_int_opcodes, long_opcodes}
use Rattle.effects.specs.Operations.{operation_at, word_of, result_of}

-- what two functions have alike at each number of a list
listed : {B : Type 0} (f g : ℕ → B) (ks : List ℕ) → map f ks ≡ map g ks → (n : ℕ) → is_in ks n ≡ true → f n ≡ g n
listed f g [] e n h = cc
listed f g (k ∷ ks) e n h = go (eqb n k) refl (listed f g ks rest n) h
  where
    here : f k ≡ g k
    here = cc

    rest : map f ks ≡ map g ks
    rest = cc

    go : (t : Bool) → eqb n k ≡ t → (is_in ks n ≡ true → f n ≡ g n) → t || is_in ks n ≡ true → f n ≡ g n
    go true p later q = let s = eqb-true n k p in ap f s ∙ here ∙ ap g (sym s)
    go false p later q = later q

on_ints : ℕ → ℕ → ℕ → ℕ → ℕ → ℕ → Effect
on_ints n constant a b c d = effect_of (result_of int (operation_at n) a b b)

on_longs : ℕ → ℕ → ℕ → ℕ → ℕ → ℕ → Effect
on_longs n constant a b c d = effect_of (result_of long (operation_at (n - 1)) (a + b * 2 ^ 32) (c + d * 2 ^ 32) c)

int_rows : map effect_at shared_int_opcodes ≡ map on_ints shared_int_opcodes
unfolding effect_at row_of number low_bits word_of result_of on_ints
int_rows = refl

long_rows : map effect_at long_opcodes ≡ map on_longs long_opcodes
unfolding effect_at row_of number low_bits word_of result_of on_longs
long_rows = refl

-- the opcode before one of longs is that of ints
pub before : (n : ℕ) → is_in long_opcodes n ≡ true → is_in shared_int_opcodes (n - 1) ≡ true
before n h = listed (λ (m : ℕ). is_in shared_int_opcodes (m - 1)) (λ m. true) long_opcodes refl n h

module _ (n : ℕ) (constant a b c d : ℕ) where
  pub int_row : is_in shared_int_opcodes n ≡ true → effect_at n constant a b c d ≡ effect_of (result_of int (operation_at n) a b b)
  unfolding on_ints
  int_row h = ap (λ f. f constant a b c d) (listed effect_at on_ints shared_int_opcodes int_rows n h)

  pub long_row : is_in long_opcodes n ≡ true → effect_at n constant a b c d ≡ effect_of (result_of long (operation_at (n - 1)) (a + b * 2 ^ 32) (c + d * 2 ^ 32) c)
  unfolding on_longs
  long_row h = ap (λ f. f constant a b c d) (listed effect_at on_longs long_opcodes long_rows n h)
