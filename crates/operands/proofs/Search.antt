-- LOOKUPSWITCH: which pair has a key, and the offset that stands with it. Assumes nothing.
use Rattle.std.proofs.Common.{◌≡◌, ℕ, zero, suc, ◌+◌, ◌*◌, ◌^◌, ◌<◌, ◌≤◌, Bool, true, false, not, cond, ltb, List, length, Option, Some, None, ℤ, sym, refl, ap, ◌∙◌, ap₂, arith, le-ltb, lt-ltb, ltb-false}
use Rattle.std.specs.Option.{unwrap_or}
use Rattle.std.specs.List.{position_or_len, range_with_len}
use Rattle.std.proofs.lemmas.List.FromFn.{length-range_with_len}
use Rattle.std.proofs.lemmas.List.Sums.{prefix_len-le-length}
use lib.Dec.{leb-suc-suc}
use Rattle.values.specs.Integers.{signed, ◌=ᶻ◌}
use Rattle.rules.specs.Forms.{offset_for}
use Rattle.rules.specs.Fetch.{u32, s32, aligned, pairs_from}
use Rattle.operands.specs.Switch.{lookup_offset, key_index}
use Rattle.operands.proofs.Readings.{word_means}
use Rattle.operands.proofs.Counts.{negative, not_negative}

module _ (code : List ℕ) (key : ℤ) where
  -- ---- the search

  -- whether the pair at i has the key
  abbrev pub has_key : ℕ → ℕ → Bool
  has_key at i = key =ᶻ s32 code (at + 8 * i)

  searched : (at n i : ℕ) → position_or_len (has_key at) (range_with_len i n) ≡ key_index key (pairs_from code (at + 8 * i) n)
  unfolding key_index pairs_from
  searched at zero i = refl
  searched at (suc n) i =
      let next : at + 8 * (i + 1) ≡ at + 8 * i + 8 = omega arith in
      go (has_key at i) (searched at n (i + 1) ∙ ap (λ (a : ℕ). key_index key (pairs_from code a n)) next)
    where
      go : (t : Bool) → position_or_len (has_key at) (range_with_len (i + 1) n) ≡ key_index key (pairs_from code (at + 8 * i + 8) n)
          → cond (not t) (1 + position_or_len (has_key at) (range_with_len (i + 1) n)) 0 ≡ cond t 0 (suc (key_index key (pairs_from code (at + 8 * i + 8) n)))
      go true e = refl
      go false e = omega arith

  pub index_found : (at n : ℕ) (r : Option ℕ)
      → r ≡ cond (ltb (position_or_len (has_key at) (range_with_len 0 n)) (length (range_with_len 0 n))) (Some (position_or_len (has_key at) (range_with_len 0 n))) None
      → unwrap_or r n ≡ key_index key (pairs_from code at n)
  index_found at n r e =
      let all : length (range_with_len 0 n) ≡ n = length-range_with_len 0 n in
      let here : at + 8 * 0 ≡ at = omega arith in
      ap (λ (x : Option ℕ). unwrap_or x n) (rw all at e)
      ∙ go (ltb (position_or_len (has_key at) (range_with_len 0 n)) n) refl (rw all at (prefix_len-le-length (λ i. not (has_key at i)) (range_with_len 0 n)))
      ∙ searched at n 0 ∙ ap (λ (a : ℕ). key_index key (pairs_from code a n)) here
    where
      go : (t : Bool) → ltb (position_or_len (has_key at) (range_with_len 0 n)) n ≡ t → position_or_len (has_key at) (range_with_len 0 n) ≤ n
          → unwrap_or (cond t (Some (position_or_len (has_key at) (range_with_len 0 n))) None) n ≡ position_or_len (has_key at) (range_with_len 0 n)
      go true f h = refl
      go false f h = omega (arith, ltb-false (position_or_len (has_key at) (range_with_len 0 n)) n f)

  -- ---- the offset

  module _ (default : ℤ) where
    offset_of : (n at : ℕ) →
        offset_for key default (pairs_from code at n)
        ≡ cond (ltb (key_index key (pairs_from code at n)) n) (s32 code (at + 8 * key_index key (pairs_from code at n) + 4)) default
    unfolding pairs_from key_index
    offset_of zero at = refl
    offset_of (suc n) at = go (key =ᶻ s32 code at) (offset_of n (at + 8))
      where
        k : ℕ
        k = key_index key (pairs_from code (at + 8) n)

        go : (t : Bool) → offset_for key default (pairs_from code (at + 8) n) ≡ cond (ltb k n) (s32 code (at + 8 + 8 * k + 4)) default →
            cond t (s32 code (at + 4)) (offset_for key default (pairs_from code (at + 8) n)) ≡ cond (ltb (cond t 0 (suc k)) (suc n)) (s32 code (at + 8 * cond t 0 (suc k) + 4)) default
        go true e =
            let here : at + 4 ≡ at + 8 * 0 + 4 = omega arith in
            ap (λ (a : ℕ). s32 code a) here ∙ rw (lt-ltb 0 (suc n) (omega arith))
        go false e =
            let there : at + 8 + 8 * k + 4 ≡ at + 8 * suc k + 4 = omega arith in
            e ∙ ap₂ (λ (t : Bool) (a : ℕ). cond t (s32 code a) default) (sym (leb-suc-suc (suc k) n)) there

    offset_found : (n at i : ℕ) → i ≡ key_index key (pairs_from code at n) → i < n → offset_for key default (pairs_from code at n) ≡ s32 code (at + 8 * i + 4)
    offset_found n at i e h = offset_of n at ∙ ap (λ (k : ℕ). cond (ltb k n) (s32 code (at + 8 * k + 4)) default) (sym e) ∙ rw (lt-ltb i n h)

    offset_missing : (n at i : ℕ) → i ≡ key_index key (pairs_from code at n) → n ≤ i → offset_for key default (pairs_from code at n) ≡ default
    offset_missing n at i e h = offset_of n at ∙ ap (λ (k : ℕ). cond (ltb k n) (s32 code (at + 8 * k + 4)) default) (sym e) ∙ rw (le-ltb i n h)

-- ---- the words that were read

module _ (code : List ℕ) (pc at count key : ℕ) (start : at ≡ aligned pc) (counts : count ≡ u32 code (at + 4)) where
  pub no_pairs_read : 2 ^ 31 ≤ count → (r : ℕ) → r ≡ u32 code at → signed 31 r ≡ lookup_offset code pc (signed 31 key)
  unfolding lookup_offset
  no_pairs_read h r e = rw (negative code pc at count start counts h) (word_means code at r e ∙ ap (λ (a : ℕ). s32 code a) start)

  module _ (i : ℕ) (index : i ≡ key_index (signed 31 key) (pairs_from code (at + 8) count)) (few : count < 2 ^ 31) where
    pairs_of : offset_for (signed 31 key) (s32 code (aligned pc)) (pairs_from code (at + 8) count) ≡ lookup_offset code pc (signed 31 key)
    unfolding lookup_offset
    pairs_of =
        let n = not_negative code pc at count start counts few in
        rw n.counted (ap (offset_for (signed 31 key) (s32 code (aligned pc))) n.pairs)

    pub pair_read : (r : ℕ) → r ≡ u32 code (at + 8 + 8 * i + 4) → i < count → signed 31 r ≡ lookup_offset code pc (signed 31 key)
    pair_read r e h = word_means code (at + 8 + 8 * i + 4) r e ∙ sym (offset_found code (signed 31 key) (s32 code (aligned pc)) count (at + 8) i index h) ∙ pairs_of

    pub default_read : (r : ℕ) → r ≡ u32 code at → count ≤ i → signed 31 r ≡ lookup_offset code pc (signed 31 key)
    default_read r e h = word_means code at r e ∙ ap (λ (a : ℕ). s32 code a) start ∙ sym (offset_missing code (signed 31 key) (s32 code (aligned pc)) count (at + 8) i index h) ∙ pairs_of
