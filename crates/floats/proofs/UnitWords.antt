-- Remainders in units, on plain numbers: digits moved up, and the words of units. Assumes nothing.
use Rattle.std.proofs.Common.{◌≡◌, ℕ, zero, suc, ◌+◌, ◌-◌, ◌*◌, ◌/◌, ◌%◌, ◌^◌, ◌<◌, ◌≤◌, inl, inr, Bool, true, false, cond, ltb, refl, sym, ap, ◌∙◌, subst, arith}
use Rattle.std.proofs.Math.Nat.{mul_assoc, mul_comm, mul-le-mul, mul-lt-mul_of_pos_right, pow-le-pow_right, lt_of_lt_of_le, mul-div_cancel, mul-mod_left, add-zero, div-eq_of_lt, div-add-mod, mod-lt, mod-eq_of_lt}
use Rattle.std.proofs.Math.Arith.{mod-mul}
use Rattle.std.proofs.Math.Pow.{pow-add, pow_pos}
use Rattle.std.proofs.lemmas.Nat.{mul-mod_first}
use lib.Dec.{lit≤}
use lib.Ieee.{Format, binary32, binary64, prec, hid}
use borrow.Author.Tests.{ltb-true, ltb-false, lt-ltb, le-ltb}
use Rattle.floats.specs.Remainder.{digits_of, place_of, units_of, IsWordOf}

-- ---- what the exponent's field counts in
pub hid_pos : (f : Format) → 0 < hid f
hid_pos f = pow_pos (prec f - 1)

pub hid_le : (f : Format) → hid f ≤ 2 ^ 52
hid_le binary32 = lit≤ tt
hid_le binary64 = lit≤ tt

-- ---- a remainder of digits that are moved up

pub moved_on : (m n i rest : ℕ) → rest ≡ m * 2 ^ i % n → rest * 2 % n ≡ m * 2 ^ (i + 1) % n
moved_on m n i rest e =
    ap (λ (x : ℕ). x * 2 % n) e
    ∙ mul-mod_first (m * 2 ^ i) 2 n
    ∙ ap (λ (x : ℕ). x % n) (mul_assoc m (2 ^ i) 2 ∙ ap (λ (x : ℕ). m * x) (sym (pow-add 2 i 1)))

-- a common factor
pub scaled : (a b c : ℕ) → 0 < b → 0 < c → a * c % (b * c) ≡ a % b * c
scaled a b c B C =
    mod-mul (a * c) B C
    ∙ ap (λ (x : ℕ). x % b * c + a * c % c) (mul-div_cancel a C)
    ∙ ap (λ (x : ℕ). a % b * c + x) (mul-mod_left a c)
    ∙ add-zero (a % b * c)

pub moved_back : (m i n j : ℕ) → 0 < n → j ≤ i → m * 2 ^ (i - j) % n * 2 ^ j ≡ m * 2 ^ i % (n * 2 ^ j)
moved_back m i n j N h =
    sym (scaled (m * 2 ^ (i - j)) n (2 ^ j) N (pow_pos j))
    ∙ ap (λ (x : ℕ). x % (n * 2 ^ j)) (mul_assoc m (2 ^ (i - j)) (2 ^ j) ∙ ap (λ (x : ℕ). m * x) (sym (pow-add 2 (i - j) j) ∙ ap (λ (x : ℕ). 2 ^ x) (whole i j h)))
  where
    whole : (i j : ℕ) → j ≤ i → i - j + j ≡ i
    whole i j h = omega arith

-- ---- a word as units

pub doubled : (m p i : ℕ) → i < p → m * 2 * 2 ^ (p - (i + 1)) ≡ m * 2 ^ (p - i)
doubled m p i h =
    mul_assoc m 2 (2 ^ (p - (i + 1))) ∙ ap (λ (x : ℕ). m * x) (sym (pow-add 2 1 (p - (i + 1))) ∙ ap (λ (x : ℕ). 2 ^ x) (one_less p i h))
  where
    one_less : (p i : ℕ) → i < p → 1 + (p - (i + 1)) ≡ p - i
    one_less p i h = omega arith

-- digits that are moved up all the way
pub in_place : (hidden moved i p units : ℕ) → p ≤ i → moved * 2 ^ (p - i) ≡ units → moved < 2 * hidden → IsWordOf hidden units moved
in_place hidden moved i p units h e l =
    let none : 0 ≡ p - i = omega arith in
    record { digits = moved; place = 0; value = ap (λ (x : ℕ). moved * 2 ^ x) none ∙ e; few = l; leading = inl refl; written = sums moved hidden }
  where
    sums : (m h : ℕ) → m ≡ 0 * h + m
    sums m h = omega arith

module _ (hidden a : ℕ) (some : 0 < hidden) where
  pub low_digits : a < hidden → digits_of hidden a ≡ a
  low_digits h = ap (λ (t : Bool). cond t a (hidden + a % hidden)) (lt-ltb a hidden h)

  pub high_digits : hidden ≤ a → digits_of hidden a ≡ hidden + a % hidden
  high_digits h = ap (λ (t : Bool). cond t a (hidden + a % hidden)) (le-ltb a hidden h)

  pub digits_lt : digits_of hidden a < 2 * hidden
  digits_lt = go (ltb a hidden) refl
    where
      go : (t : Bool) → ltb a hidden ≡ t → digits_of hidden a < 2 * hidden
      go true e = omega (arith, low_digits (ltb-true a hidden e), ltb-true a hidden e)
      go false e = omega (arith, high_digits (ltb-false a hidden e), mod-lt a some)

  -- it is the word of its units
  pub own_word : IsWordOf hidden (units_of hidden a) a
  own_word = go (ltb a hidden) refl
    where
      none : (a h : ℕ) → 0 * h + a ≡ a
      none a h = omega arith

      whole : (x t a h : ℕ) → h ≤ a → t < h → h * x + t ≡ a → (x - 1) * h + (h + t) ≡ a
      whole zero t a h l r e = omega arith
      whole (suc x) t a h l r e = grind arith

      go : (t : Bool) → ltb a hidden ≡ t → IsWordOf hidden (units_of hidden a) a
      go true e =
          let l = ltb-true a hidden e in
          let d = low_digits l in
          let z : place_of hidden a ≡ 0 = ap (λ (x : ℕ). x - 1) (div-eq_of_lt l) in
          record {
            digits = digits_of hidden a;
            place = place_of hidden a;
            value = refl;
            few = digits_lt;
            leading = inl z;
            written = sym (ap (λ (x : ℕ). x * hidden + digits_of hidden a) z ∙ ap (λ (x : ℕ). 0 * hidden + x) d ∙ none a hidden);
          }
      go false e =
          let l = ltb-false a hidden e in
          let d = high_digits l in
          let r = mod-lt a some in
          record {
            digits = digits_of hidden a;
            place = place_of hidden a;
            value = refl;
            few = digits_lt;
            leading = inr (omega (arith, d));
            written = sym (ap (λ (x : ℕ). place_of hidden a * hidden + x) d ∙ whole (a / hidden) (a % hidden) a hidden l r (div-add-mod a hidden));
          }

-- what is moved up less is less
module _ (hidden a b : ℕ) (some : 0 < hidden) (less : place_of hidden a < place_of hidden b) where
  moved_up : hidden ≤ digits_of hidden b
  moved_up = go (ltb b hidden) refl
    where
      no : (x i : ℕ) → x ≡ 0 → i < x - 1 → ⊥
      no x i e h = omega arith

      go : (t : Bool) → ltb b hidden ≡ t → hidden ≤ digits_of hidden b
      go true e = absurd (no (b / hidden) (place_of hidden a) (div-eq_of_lt (ltb-true b hidden e)) less)
      go false e = omega (arith, high_digits hidden b some (ltb-false b hidden e))

  units_less : units_of hidden a < units_of hidden b
  units_less =
      let i = place_of hidden a in
      let j = place_of hidden b in
      let up : suc i ≤ j = omega (arith, less) in
      let twice : 2 * hidden * 2 ^ i ≡ hidden * 2 ^ suc i = ap (λ (x : ℕ). x * 2 ^ i) (mul_comm 2 hidden) ∙ mul_assoc hidden 2 (2 ^ i) ∙ ap (λ (x : ℕ). hidden * x) (sym (pow-add 2 1 i) ∙ ap (λ (x : ℕ). 2 ^ x) (next i)) in
      lt_of_lt_of_le (mul-lt-mul_of_pos_right (digits_lt hidden a some) (pow_pos i)) (subst (λ (x : ℕ). x ≤ digits_of hidden b * 2 ^ j) (sym twice) (mul-le-mul moved_up (pow-le-pow_right (omega arith) up)))
    where
      next : (i : ℕ) → 1 + i ≡ suc i
      next i = omega arith

  pub own_remainder : IsWordOf hidden (units_of hidden a % units_of hidden b) a
  own_remainder = subst (λ (x : ℕ). IsWordOf hidden x a) (sym (mod-eq_of_lt units_less)) (own_word hidden a some)

-- what is moved up as much or more
pub moved_word : (hidden a b rest word : ℕ) → 0 < digits_of hidden b → place_of hidden b ≤ place_of hidden a
    → rest ≡ digits_of hidden a * 2 ^ (place_of hidden a - place_of hidden b) % digits_of hidden b
    → IsWordOf hidden (rest * 2 ^ place_of hidden b) word → IsWordOf hidden (units_of hidden a % units_of hidden b) word
moved_word hidden a b rest word some h e w =
    subst (λ (x : ℕ). IsWordOf hidden x word)
    (ap (λ (x : ℕ). x * 2 ^ place_of hidden b) e ∙ moved_back (digits_of hidden a) (place_of hidden a) (digits_of hidden b) (place_of hidden b) some h)
    w

-- what is not 0 has digits
pub digits_pos : (hidden b : ℕ) → 0 < hidden → 0 < b → 0 < digits_of hidden b
digits_pos hidden b some h = go (ltb b hidden) refl
  where
    go : (t : Bool) → ltb b hidden ≡ t → 0 < digits_of hidden b
    go true e = omega (arith, low_digits hidden b some (ltb-true b hidden e))
    go false e = omega (arith, high_digits hidden b some (ltb-false b hidden e))
