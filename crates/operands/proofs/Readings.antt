-- What the bytes of the code read as: 0 past its end, words of 32 bits, and what they mean. Assumes nothing.
use Rattle.std.proofs.Common.{◌≡◌, ℕ, ◌+◌, ◌^◌, ◌<◌, ◌≤◌, List, length, sym, ap, ◌∙◌, arith}
use lib.ListN.{get_or-eq_default}
use Rattle.values.specs.Integers.{signed, low}
use Rattle.values.proofs.LowBits.{low_word}
use Rattle.rules.specs.Fetch.{u8, u16, u32, s32}

module _ (code : List ℕ) where
  pub u8_past : (at : ℕ) → length code ≤ at → u8 code at ≡ 0
  u8_past at h = get_or-eq_default code 0 h

  pub u16_past : (at : ℕ) → length code ≤ at → u16 code at ≡ 0
  u16_past at h = rw (u8_past at h, u8_past (at + 1) (omega arith))

  pub u32_past : (at : ℕ) → length code ≤ at → u32 code at ≡ 0
  u32_past at h = rw (u16_past at h, u16_past (at + 2) (omega arith))

  -- a word r that was read
  module _ (at r : ℕ) (reads : r ≡ u32 code at) where
    pub word_means : signed 31 r ≡ s32 code at
    word_means = ap (signed 31) reads

    pub word_of : r < 2 ^ 32 → r ≡ low 32 (s32 code at)
    word_of h = sym (ap (low 32) (sym word_means) ∙ low_word 31 r h)
