-- TABLESWITCH: how far a key is past the lowest, and how many keys there are, by the words that were read. Assumes nothing.
use Rattle.std.proofs.Common.{◌≡◌, ℕ, ◌+◌, ◌%◌, ◌^◌, ◌<◌, ◌≤◌, Bool, true, List, ℤ, pos, ◌-ℤ◌, ap, ◌∙◌, ap₂, le_refl, arith}
use borrow.Author.Differences.{ints}
use Rattle.values.specs.Integers.{signed, ◌≤ᶻ◌}
use Rattle.rules.specs.Fetch.{u32, aligned, low_key, high_key, keys}
use Rattle.operands.proofs.Differences.{raised, signed_difference}
use Rattle.operands.proofs.Readings.{word_means}

-- b is n past a modulo 2 ^ 32, and so are the two raised
pub raised_sum : (a b n : ℕ) → (n + a) % 2 ^ 32 ≡ b → raised 31 b ≡ (n + raised 31 a) % 2 ^ 32
raised_sum a b n e = omega arith

module _ (low high key span i : ℕ) (L : low < 2 ^ 32) (H : high < 2 ^ 32) (K : key < 2 ^ 32) (S : span < 2 ^ 32)
    (spans : (span + low) % 2 ^ 32 ≡ high) (past : (i + low) % 2 ^ 32 ≡ key) (order : (signed 31 low ≤ᶻ signed 31 high) ≡ true) where
  pub distance : i ≤ span → signed 31 key -ℤ signed 31 low ≡ pos i
  distance h = omega (arith, ints, signed_difference 31 low L, signed_difference 31 high H, signed_difference 31 key K)

module _ (code : List ℕ) (pc at low high : ℕ) (start : at ≡ aligned pc) (lowest : low ≡ u32 code (at + 4)) (highest : high ≡ u32 code (at + 8)) where
  pub low_key_lem : signed 31 low ≡ low_key code pc
  low_key_lem = word_means code (at + 4) low lowest ∙ ap (λ (n : ℕ). signed 31 (u32 code (n + 4))) start

  high_key_lem : signed 31 high ≡ high_key code pc
  high_key_lem = word_means code (at + 8) high highest ∙ ap (λ (n : ℕ). signed 31 (u32 code (n + 8))) start

  pub key_order : (t : Bool) → t ≡ (signed 31 low ≤ᶻ signed 31 high) → t ≡ (low_key code pc ≤ᶻ high_key code pc)
  key_order t e = e ∙ ap₂ (λ (x y : ℤ). x ≤ᶻ y) low_key_lem high_key_lem

  pub key_count : (span : ℕ) → low < 2 ^ 32 → high < 2 ^ 32 → span < 2 ^ 32 → (span + low) % 2 ^ 32 ≡ high → (signed 31 low ≤ᶻ signed 31 high) ≡ true → keys code pc ≡ span + 1
  key_count span L H S spans order =
      let e = distance low high high span span L H H S spans spans order (le_refl span) in
      rw (← low_key_lem, ← high_key_lem, e)
