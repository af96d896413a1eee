-- TABLESWITCH: a key between the lowest and the highest finds its own entry, and any other the default. Assumes nothing.
use Rattle.std.proofs.Common.{◌≡◌, ℕ, zero, suc, ◌+◌, ◌-◌, ◌*◌, ◌%◌, ◌^◌, ◌<◌, ◌≤◌, Bool, true, false, cond, ltb, List, ℤ, pos, negsuc, ◌+ℤ◌, ◌-ℤ◌, sym, refl, ap, ◌∙◌, ap₂, arith, le-ltb, lt-ltb, eq-eqb, ne_eqb}
use lib.Dec.{leb-suc-suc}
use lib.IntN.{+ℤ_idr}
use borrow.Author.Differences.{ints}
use Rattle.values.specs.Integers.{signed, ◌=ᶻ◌, ◌≤ᶻ◌}
use Rattle.rules.specs.Forms.{offset_for}
use Rattle.rules.specs.Fetch.{u32, s32, aligned, low_key, high_key, keys, offsets_from}
use Rattle.operands.specs.Switch.{table_offset}
use Rattle.operands.proofs.Differences.{raised, signed_difference, word_order, word_unordered}
use Rattle.operands.proofs.Readings.{word_means}
use Rattle.operands.proofs.Tables.{raised_sum, distance, low_key_lem, key_order, key_count}

-- ---- the test of equality, and sums

equal_to_itself : (x : ℤ) → (x =ᶻ x) ≡ true
equal_to_itself (pos n) = eq-eqb n n refl
equal_to_itself (negsuc n) = eq-eqb n n refl

unequal : (x y : ℤ) → (x ≡ y → ⊥) → (x =ᶻ y) ≡ false
unequal (pos m) (pos n) f = ne_eqb m n (λ e. f (ap pos e))
unequal (pos m) (negsuc n) f = refl
unequal (negsuc m) (pos n) f = refl
unequal (negsuc m) (negsuc n) f = ne_eqb m n (λ e. f (ap negsuc e))

-- ---- the key that is z past the lowest, among n

unfoldable entry : List ℕ → ℤ → ℕ → ℕ → ℤ → ℤ
entry code default at n (pos i) = cond (ltb i n) (s32 code (at + 4 * i)) default
entry code default at n (negsuc i) = default

module _ (code : List ℕ) (default : ℤ) where
  later : (n at : ℕ) (low z y : ℤ) → (z ≡ pos 0 → ⊥) → z ≡ y +ℤ pos 1
      → offset_for (low +ℤ z) default (offsets_from code at low (suc n)) ≡ offset_for (low +ℤ pos 1 +ℤ y) default (offsets_from code (at + 4) (low +ℤ pos 1) n)
  unfolding offsets_from
  later n at low z y f g =
      ap (λ (t : Bool). cond t (s32 code at) (offset_for (low +ℤ z) default (offsets_from code (at + 4) (low +ℤ pos 1) n))) (unequal (low +ℤ z) low (λ e. f (omega (arith, ints))))
      ∙ ap (λ (key : ℤ). offset_for key default (offsets_from code (at + 4) (low +ℤ pos 1) n)) (omega (arith, ints))

  entry_of : (n at : ℕ) (low z : ℤ) → offset_for (low +ℤ z) default (offsets_from code at low n) ≡ entry code default at n z
  unfolding offsets_from entry
  entry_of zero at low (pos i) = rw (le-ltb i 0 (omega arith))
  entry_of zero at low (negsuc i) = refl
  entry_of (suc n) at low (pos zero) =
      let here : at ≡ at + 4 * 0 = omega arith in
      ap (λ (key : ℤ). offset_for key default (offsets_from code at low (suc n))) (+ℤ_idr low)
      ∙ ap (λ (t : Bool). cond t (s32 code at) (offset_for low default (offsets_from code (at + 4) (low +ℤ pos 1) n))) (equal_to_itself low)
      ∙ ap (λ (a : ℕ). s32 code a) here
      ∙ rw (lt-ltb 0 (suc n) (omega arith))
  entry_of (suc n) at low (pos (suc i)) =
      let there : at + 4 + 4 * i ≡ at + 4 * suc i = omega arith in
      later n at low (pos (suc i)) (pos i) (λ e. omega (arith, ints)) (omega (arith, ints))
      ∙ entry_of n (at + 4) (low +ℤ pos 1) (pos i)
      ∙ ap₂ (λ (t : Bool) (a : ℕ). cond t (s32 code a) default) (sym (leb-suc-suc (suc i) n)) there
  entry_of (suc n) at low (negsuc i) = later n at low (negsuc i) (negsuc (suc i)) (λ e. omega (arith, ints)) (omega (arith, ints)) ∙ entry_of n (at + 4) (low +ℤ pos 1) (negsuc (suc i))

-- ---- words: i is how far the key is past the lowest, modulo 2 ^ 32

module _ (low high key span i : ℕ) (L : low < 2 ^ 32) (H : high < 2 ^ 32) (K : key < 2 ^ 32) (S : span < 2 ^ 32) (I : i < 2 ^ 32)
    (spans : (span + low) % 2 ^ 32 ≡ high) (past : (i + low) % 2 ^ 32 ≡ key) (order : (signed 31 low ≤ᶻ signed 31 high) ≡ true)
    (code : List ℕ) (default : ℤ) (at : ℕ) where
  abbrev found : ℤ
  found = offset_for (signed 31 key) default (offsets_from code at (signed 31 low) (span + 1))

  found_is : found ≡ entry code default at (span + 1) (signed 31 key -ℤ signed 31 low)
  found_is =
      ap (λ (k : ℤ). offset_for k default (offsets_from code at (signed 31 low) (span + 1))) (omega (arith, ints))
      ∙ entry_of code default (span + 1) at (signed 31 low) (signed 31 key -ℤ signed 31 low)

  own_entry : i ≤ span → found ≡ s32 code (at + 4 * i)
  unfolding entry
  own_entry h = found_is ∙ ap (entry code default at (span + 1)) (distance low high key span i L H K S spans past order h) ∙ rw (lt-ltb i (span + 1) (omega arith))

  no_entry : span < i → found ≡ default
  unfolding entry
  no_entry h = found_is ∙ outside (signed 31 key -ℤ signed 31 low) refl
    where
      outside : (z : ℤ) → signed 31 key -ℤ signed 31 low ≡ z → entry code default at (span + 1) z ≡ default
      outside (pos m) e = rw (le-ltb m (span + 1) (omega (arith, ints, signed_difference 31 low L, signed_difference 31 key K)))
      outside (negsuc m) e = refl

-- ---- the words that were read, in order

module _ (code : List ℕ) (pc at low high key span i : ℕ) (start : at ≡ aligned pc) (lowest : low ≡ u32 code (at + 4)) (highest : high ≡ u32 code (at + 8))
    (L : low < 2 ^ 32) (H : high < 2 ^ 32) (K : key < 2 ^ 32) (S : span < 2 ^ 32) (I : i < 2 ^ 32)
    (spans : (span + low) % 2 ^ 32 ≡ high) (past : (i + low) % 2 ^ 32 ≡ key) (order : (low_key code pc ≤ᶻ high_key code pc) ≡ true) where
  abbrev offset : ℤ
  offset = offset_for (signed 31 key) (s32 code (aligned pc)) (offsets_from code (aligned pc + 12) (low_key code pc) (keys code pc))

  words_in_order : (signed 31 low ≤ᶻ signed 31 high) ≡ true
  words_in_order = key_order code pc at low high start lowest highest (signed 31 low ≤ᶻ signed 31 high) refl ∙ order

  table_of : offset_for (signed 31 key) (s32 code (aligned pc)) (offsets_from code (at + 12) (signed 31 low) (span + 1)) ≡ offset
  table_of =
      ap (λ (n : ℕ). offset_for (signed 31 key) (s32 code (aligned pc)) (offsets_from code (at + 12) (signed 31 low) n)) (sym (key_count code pc at low high start lowest highest span L H S spans words_in_order))
      ∙ ap₂ (λ (a : ℕ) (z : ℤ). offset_for (signed 31 key) (s32 code (aligned pc)) (offsets_from code (a + 12) z (keys code pc))) start (low_key_lem code pc at low high start lowest highest)

  entry_in_order : (r : ℕ) → r ≡ u32 code (at + 12 + 4 * i) → i ≤ span → signed 31 r ≡ offset
  entry_in_order r e h = word_means code (at + 12 + 4 * i) r e ∙ sym (own_entry low high key span i L H K S I spans past words_in_order code (s32 code (aligned pc)) (at + 12) h) ∙ table_of

  default_in_order : (r : ℕ) → r ≡ u32 code at → span < i → signed 31 r ≡ offset
  default_in_order r e h = word_means code at r e ∙ ap (λ (a : ℕ). s32 code a) start ∙ sym (no_entry low high key span i L H K S I spans past words_in_order code (s32 code (aligned pc)) (at + 12) h) ∙ table_of

-- ---- the words that were read, in any order

-- how far a word is past another, modulo 2 ^ 32
abbrev pub past : ℕ → ℕ → ℕ
past low x = (x + (2 ^ 32 - low)) % 2 ^ 32

pub past_sum : (low x : ℕ) → low < 2 ^ 32 → x < 2 ^ 32 → (past low x + low) % 2 ^ 32 ≡ x
past_sum low x L X = omega arith

-- the order and the count of the keys, by the words that were read
module _ (code : List ℕ) (pc low high : ℕ) (lowest : low ≡ u32 code (aligned pc + 4)) (highest : high ≡ u32 code (aligned pc + 8)) (L : low < 2 ^ 32) (H : high < 2 ^ 32) where
  pub keys_order : (r t : Bool) → r ≡ (signed 31 low ≤ᶻ signed 31 high) → r ≡ t → (low_key code pc ≤ᶻ high_key code pc) ≡ t
  keys_order r t e f = sym (key_order code pc (aligned pc) low high refl lowest highest r e) ∙ f

  pub keys_past : (r : Bool) → r ≡ (signed 31 low ≤ᶻ signed 31 high) → r ≡ true → keys code pc ≡ past low high + 1
  keys_past r e f = key_count code pc (aligned pc) low high refl lowest highest (past low high) L H (omega arith) (past_sum low high L H) (sym e ∙ f)

-- h and k are p and q past l: what the order of the three says of p and q
module _ (l h k p q : ℕ) (H : h < 2 ^ 32) (K : k < 2 ^ 32) (P : p < 2 ^ 32) (Q : q < 2 ^ 32) (hp : h ≡ (p + l) % 2 ^ 32) (kq : k ≡ (q + l) % 2 ^ 32) (order : l ≤ h) where
  spans : p + l ≡ h
  spans = omega arith

  far_below : k < l → p < q
  far_below b = let e = spans in omega arith

  far_above : h < k → p < q
  far_above a = let e = spans in omega arith

  near : l ≤ k → k ≤ h → q ≤ p
  near b a = let e = spans in omega arith

module _ (code : List ℕ) (pc at low high key : ℕ) (start : at ≡ aligned pc) (lowest : low ≡ u32 code (at + 4)) (highest : high ≡ u32 code (at + 8))
    (L : low < 2 ^ 32) (H : high < 2 ^ 32) (K : key < 2 ^ 32) where
  order_of : (t : Bool) → (low_key code pc ≤ᶻ high_key code pc) ≡ t → (signed 31 low ≤ᶻ signed 31 high) ≡ t
  order_of t e = key_order code pc at low high start lowest highest (signed 31 low ≤ᶻ signed 31 high) refl ∙ e

  default_read : ((signed 31 low ≤ᶻ signed 31 high) ≡ true → past low high < past low key) → (r : ℕ) → r ≡ u32 code at → signed 31 r ≡ table_offset code pc (signed 31 key)
  unfolding table_offset
  default_read far r e = go (low_key code pc ≤ᶻ high_key code pc) refl
    where
      go : (t : Bool) → (low_key code pc ≤ᶻ high_key code pc) ≡ t
          → signed 31 r ≡ cond t (offset_for (signed 31 key) (s32 code (aligned pc)) (offsets_from code (aligned pc + 12) (low_key code pc) (keys code pc))) (s32 code (aligned pc))
      go true o =
          default_in_order code pc at low high key (past low high) (past low key) start lowest highest L H K (omega arith) (omega arith)
          (past_sum low high L H) (past_sum low key L K) o r e (far (order_of true o))
      go false o = word_means code at r e ∙ ap (λ (a : ℕ). s32 code a) start

  pub below_the_lowest : (signed 31 low ≤ᶻ signed 31 key) ≡ false → (r : ℕ) → r ≡ u32 code at → signed 31 r ≡ table_offset code pc (signed 31 key)
  below_the_lowest h = default_read λ o. far_below (raised 31 low) (raised 31 high) (raised 31 key) (past low high) (past low key) (omega arith) (omega arith) (omega arith) (omega arith) (raised_sum low high (past low high) (past_sum low high L H)) (raised_sum low key (past low key) (past_sum low key L K)) (word_order 31 low high L H o) (word_unordered 31 low key L K h)

  pub above_the_highest : (signed 31 key ≤ᶻ signed 31 high) ≡ false → (r : ℕ) → r ≡ u32 code at → signed 31 r ≡ table_offset code pc (signed 31 key)
  above_the_highest h = default_read λ o. far_above (raised 31 low) (raised 31 high) (raised 31 key) (past low high) (past low key) (omega arith) (omega arith) (omega arith) (omega arith) (raised_sum low high (past low high) (past_sum low high L H)) (raised_sum low key (past low key) (past_sum low key L K)) (word_order 31 low high L H o) (word_unordered 31 key high K H h)

  module _ (i : ℕ) (I : i < 2 ^ 32) (sum : (i + low) % 2 ^ 32 ≡ key) (above : (signed 31 low ≤ᶻ signed 31 key) ≡ true) (below : (signed 31 key ≤ᶻ signed 31 high) ≡ true) where
    pub entry_read : (r : ℕ) → r ≡ u32 code (at + 12 + 4 * i) → signed 31 r ≡ table_offset code pc (signed 31 key)
    unfolding table_offset
    entry_read r e = go (low_key code pc ≤ᶻ high_key code pc) refl
      where
        go : (t : Bool) → (low_key code pc ≤ᶻ high_key code pc) ≡ t
            → signed 31 r ≡ cond t (offset_for (signed 31 key) (s32 code (aligned pc)) (offsets_from code (aligned pc + 12) (low_key code pc) (keys code pc))) (s32 code (aligned pc))
        go true o =
            entry_in_order code pc at low high key (past low high) i start lowest highest L H K (omega arith) I (past_sum low high L H) sum o r e
            (near (raised 31 low) (raised 31 high) (raised 31 key) (past low high) i (omega arith) (omega arith) (omega arith) I (raised_sum low high (past low high) (past_sum low high L H)) (raised_sum low key i sum) (word_order 31 low high L H (order_of true o)) (word_order 31 low key L K above) (word_order 31 key high K H below))
        go false o = absurd (omega (arith, word_unordered 31 low high L H (order_of false o), word_order 31 low key L K above, word_order 31 key high K H below))
