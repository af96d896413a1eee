-- Which words are a NaN's, and the one word that a NaN is stored as, over the format. Assumes nothing.
use mathlib.Core.Path.{◌≡◌, refl, sym, ap, ◌∙◌, subst}
use Prim.Native.Nat.{ℕ, ◌*◌, ◌%◌, ◌<◌, ◌≤◌}
use mathlib.Core.Bool.{Bool, true, not}
use lib.Dec.{T}
use lib.Ieee.{Float, nan, inf, fin, Format, binary32, binary64, hid, ones, top, of_bits, to_bits, is_nan, nan_bits, ne, div}
use lib.Ieee.Bits.{nan_bits_is, nan_bits_above}
use lib.Ieee.Compare.{differs_from_itself}
use borrow.Author.Tests.{lt-ltb, le-ltb}

-- ---- from a word: above the word of an infinity, the sign left out, each is a NaN's
is_nan_lem : (x : Float) → is_nan x ≡ true → x ≡ nan
unfolding is_nan
is_nan_lem nan e = refl
is_nan_lem (inf s) e = cc
is_nan_lem (fin s m d) e = cc

pub nan_word : (f : Format) (n : ℕ) → ones f * hid f < n % top f → of_bits f n ≡ nan
nan_word f n h = is_nan_lem (of_bits f n) (sym (nan_bits_is f n) ∙ nan_bits_above f n ∙ lt-ltb (ones f * hid f) (n % top f) h)

pub number_word : (f : Format) (n : ℕ) → n % top f ≤ ones f * hid f → T (not (nan_bits f n))
number_word f n h = subst (λ (b : Bool). T (not b)) (sym (nan_bits_above f n ∙ le-ltb (ones f * hid f) (n % top f) h)) tt

pub zero_number : (f : Format) → T (not (nan_bits f 0))
unfolding nan_bits
zero_number binary32 = tt
zero_number binary64 = tt

pub zero_over_zero : (f : Format) → div f (of_bits f 0) (of_bits f 0) ≡ nan
unfolding div of_bits
zero_over_zero binary32 = refl
zero_over_zero binary64 = refl

-- ---- to a word: a NaN alone differs from itself
pub nan_stored : (f : Format) (x : Float) → ne x x ≡ true → to_bits f nan ≡ to_bits f x
nan_stored f x e = ap (to_bits f) (sym (differs_from_itself x (subst T (sym e) tt)))
