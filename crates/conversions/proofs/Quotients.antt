-- How large the whole number nearest to m / u is. Assumes nothing.
use mathlib.Core.Path.{◌≡◌, refl, ap, ◌∙◌}
use Prim.Native.Nat.{ℕ, ◌+◌, ◌*◌, ◌/◌, ◌%◌, ◌^◌, ◌≤◌, ◌<◌, compare, Ordering}
use native.Mathlib.Nat.{mod-eq_of_lt, div-eq_of_lt, le_trans}
use native.Mathlib.Omega.{arith}
use mathlib.Core.Bool.{not}
use lib.Dec.{T, is_le, nleb→lt}
use lib.Pow.{shr_lt}
use lib.Ieee as Ieee
use lib.Ieee.Nearest.{closest}
use lib.Ieee.Fits.{nearest-le}

-- ---- how large it is
pub closest_le : (m p j : ℕ) → m < 2 ^ (p + j) → closest m (2 ^ j) ≤ 2 ^ p
closest_le m p j h = le_trans (nearest-le (m / 2 ^ j) (compare (m % 2 ^ j * 2) (2 ^ j))) (shr_lt p j h)

-- at most a half: a half goes to 0, the even number
pub closest_zero : (m u : ℕ) → m < u → 2 * m ≤ u → closest m u ≡ 0
closest_zero m u l h =
    ap (λ (q : ℕ). Ieee.nearest q (compare (m % u * 2) u)) (div-eq_of_lt l)
    ∙ ap (λ (r : ℕ). Ieee.nearest 0 (compare (r * 2) u)) (mod-eq_of_lt l)
    ∙ go (compare (m * 2) u) (nleb→lt (m * 2) u)
  where
    no : u < m * 2 → ⊥
    no g = omega arith

    go : (o : Ordering) → (T (not (is_le o)) → u < m * 2) → Ieee.nearest 0 o ≡ 0
    go Ordering.lt k = refl
    go Ordering.eq k = refl
    go Ordering.gt k = absurd (no (k tt))
