-- A list written from its front on, word by word. Assumes nothing.
use Prim.Native.Nat.{ℕ, zero, suc, ◌+◌, ◌*◌, ◌<◌}
use mathlib.Core.Path.{◌≡◌, ap, ◌∙◌}
use mathlib.Core.List.{List, [], ◌∷◌, ◌++◌, append_assoc}
use native.Mathlib.Omega.{arith}
use lib.ListN.{length, drop, set, get_or}
use Rattle.std.proofs.lemmas.List.{drop_more, set_at}
use Rattle.rules.specs.Fetch.{u32}
use Rattle.rules.specs.Sheet.{arguments_from}

-- one more word after those that are written
pub front_set : (xs t : List ℕ) (i v : ℕ) → length xs ≡ i → i < length t → set (xs ++ drop i t) i v ≡ (xs ++ (v ∷ [])) ++ drop (i + 1) t
front_set xs t i v e h = rw (drop_more t i 0 h, set_at xs (get_or t i 0) (drop (i + 1) t) v i e, append_assoc)

module _ (sheet : List ℕ) where
  pub one_more_argument : (at n : ℕ) → arguments_from sheet at n ++ (u32 sheet (at + 4 * n) ∷ []) ≡ arguments_from sheet at (n + 1)
  unfolding arguments_from
  one_more_argument at zero = let e : at + 0 ≡ at = omega arith in ap (λ (k : ℕ). u32 sheet k ∷ []) e
  one_more_argument at (suc n) =
      let e : at + 4 * suc n ≡ at + 4 + 4 * n = omega arith in
      let k : suc (n + 1) ≡ suc n + 1 = omega arith in
      ap (λ (m : ℕ). u32 sheet at ∷ (arguments_from sheet (at + 4) n ++ (u32 sheet m ∷ []))) e
      ∙ ap (λ (ws : List ℕ). u32 sheet at ∷ ws) (one_more_argument (at + 4) n)
      ∙ ap (λ (m : ℕ). arguments_from sheet at m) k
