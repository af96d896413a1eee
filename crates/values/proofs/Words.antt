-- A value and its words: as many words as its kind has places, and nothing lost either way. Assumes nothing.
use Prim.Native.Nat.{ℕ, ◌+◌, ◌*◌, ◌/◌, ◌%◌, ◌^◌, ◌<◌}
use mathlib.Core.Path.{◌≡◌, refl}
use mathlib.Core.List.{List, ◌∷◌}
use native.Mathlib.Omega.{arith}
use lib.ListN.{length, take}
use Rattle.values.specs.Kinds.{Kind, int, long, float, double, reference, any, places}
use Rattle.values.specs.Words.{value_at, words_of}

pub length_words_of : (k : Kind) (v : ℕ) → length (words_of k v) ≡ places k
length_words_of int v = refl
length_words_of long v = refl
length_words_of float v = refl
length_words_of double v = refl
length_words_of reference v = refl
length_words_of any v = refl

pub value_at_words_of : (k : Kind) (v : ℕ) → value_at k (words_of k v) ≡ v
value_at_words_of int v = refl
value_at_words_of long v = omega arith
value_at_words_of float v = refl
value_at_words_of double v = omega arith
value_at_words_of reference v = refl
value_at_words_of any v = refl

-- two words joined and taken apart
module _ (a b : ℕ) (h : a < 2 ^ 32) where
  low_word : (a + b * 2 ^ 32) % 2 ^ 32 ≡ a
  low_word = omega arith

  high_word : (a + b * 2 ^ 32) / 2 ^ 32 ≡ b
  high_word = omega arith

  pub words_of_value_at : (k : Kind) (ws : List ℕ) → words_of k (value_at k (a ∷ b ∷ ws)) ≡ take (places k) (a ∷ b ∷ ws)
  words_of_value_at int ws = refl
  words_of_value_at long ws = rw (low_word, high_word)
  words_of_value_at float ws = refl
  words_of_value_at double ws = rw (low_word, high_word)
  words_of_value_at reference ws = refl
  words_of_value_at any ws = refl
