-- LOOKUPSWITCH: how many pairs it has, by the word that counts them. Assumes nothing.
use Rattle.std.proofs.Common.{◌≡◌, ℕ, ◌+◌, ◌^◌, ◌<◌, ◌≤◌, Bool, true, false, cond, ltb, Some, None, List, ℤ, pos, nat_abs, refl, sym, ap, ◌∙◌, ap₂, arith, le-leb, ltb-true, ltb-false}
use Rattle.operands.specs.Switch.{counted}
use Rattle.values.specs.Integers.{signed, ◌≤ᶻ◌}
use Rattle.values.proofs.Integers.{signed_plus, signed_minus}
use Rattle.rules.specs.Fetch.{u32, aligned, pairs_from, pair_count, key_pairs}
use Rattle.operands.proofs.Readings.{word_means}

-- what a count says that was asked for its sign
pub count_there : (n w : ℕ) → Some n ≡ counted w → (n ≡ w) × (w < 2 ^ 31)
count_there n w = go (ltb w (2 ^ 31)) refl
  where
    go : (t : Bool) → ltb w (2 ^ 31) ≡ t → Some n ≡ cond t (Some w) None → (n ≡ w) × (w < 2 ^ 31)
    go true e f = (cc, ltb-true w (2 ^ 31) e)
    go false e f = cc

pub count_negative : (w : ℕ) → None ≡ counted w → 2 ^ 31 ≤ w
count_negative w = go (ltb w (2 ^ 31)) refl
  where
    go : (t : Bool) → ltb w (2 ^ 31) ≡ t → None ≡ cond t (Some w) None → 2 ^ 31 ≤ w
    go true e f = cc
    go false e f = ltb-false w (2 ^ 31) e

-- a count that is not negative, of the pairs from 8 past `at` on
pub record Counted (code : List ℕ) (pc at count : ℕ) : Type 0 where
  pub counted : (pos 0 ≤ᶻ pair_count code pc) ≡ true
  pub many : nat_abs (pair_count code pc) ≡ count
  pub pairs : pairs_from code (at + 8) count ≡ key_pairs code pc

module _ (code : List ℕ) (pc at count : ℕ) (start : at ≡ aligned pc) (counts : count ≡ u32 code (at + 4)) where
  count_means : signed 31 count ≡ pair_count code pc
  count_means = word_means code (at + 4) count counts ∙ ap (λ (n : ℕ). signed 31 (u32 code (n + 4))) start

  pub negative : 2 ^ 31 ≤ count → (pos 0 ≤ᶻ pair_count code pc) ≡ false
  negative h = ap (λ (z : ℤ). pos 0 ≤ᶻ z) (sym count_means ∙ signed_minus 31 count h)

  pub not_negative : count < 2 ^ 31 → Counted code pc at count
  not_negative small =
      let e : pair_count code pc ≡ pos count = sym count_means ∙ signed_plus 31 count small in
      record {
        counted = ap (λ (z : ℤ). pos 0 ≤ᶻ z) e ∙ le-leb 0 count (omega arith);
        many = ap nat_abs e;
        pairs = ap₂ (pairs_from code) (ap (λ (n : ℕ). n + 8) start) (sym (ap nat_abs e));
      }

-- the pairs of a count that was asked for its sign
pub counted_pairs : (code : List ℕ) (pc n : ℕ) → Some n ≡ counted (u32 code (aligned pc + 4)) → Counted code pc (aligned pc) n
counted_pairs code pc n e = let (same, few) = count_there n (u32 code (aligned pc + 4)) e in not_negative code pc (aligned pc) n refl same (rw same few)
