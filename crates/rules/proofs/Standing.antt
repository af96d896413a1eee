-- Bytes that stand from an offset on. Assumes nothing.
use Prim.Native.Nat.{ℕ, ◌+◌, ◌≤◌, ◌<◌}
use mathlib.Core.Path.{◌≡◌, sym, ap, ◌∙◌}
use mathlib.Core.List.{List, [], ◌∷◌, ◌++◌, append_assoc, append-nil}
use native.Mathlib.Omega.{arith}
use native.Mathlib.Nat.{add-zero}
use lib.ListN.{length, get_or, drop, length-append}
use lib.Seq.{drop-drop, drop-append_seam, drop-length, get_or-drop}
use Rattle.std.proofs.lemmas.List.{get_or_past, drop_more}
use Rattle.rules.specs.Fetch.{u8}

module _ (d : List ℕ) where
  pub inside : (at : ℕ) → 0 < u8 d at → at < length d
  inside at h = grind (arith, get_or_past)

  pub byte_at : (at : ℕ) (l : List ℕ) → drop at d ≡ l → (i : ℕ) → u8 d (at + i) ≡ u8 l i
  byte_at at l e i = sym (get_or-drop at d i 0) ∙ ap (λ (x : List ℕ). get_or x i 0) e

  pub first_byte : (at : ℕ) (l : List ℕ) → drop at d ≡ l → u8 d at ≡ u8 l 0
  first_byte at l e = rw add-zero at (byte_at at l e 0)

  pub rest_after : (at : ℕ) (b rest : List ℕ) → drop at d ≡ b ++ rest → drop (at + length b) d ≡ rest
  rest_after at b rest e = sym (drop-drop (length b) at d) ∙ ap (drop (length b)) e ∙ drop-append_seam b rest

-- these bytes stand from an offset on up to an end
pub record Standing (d : List ℕ) (at : ℕ) (b : List ℕ) (end : ℕ) : Type 0 where
  pub there : drop at d ≡ b ++ drop end d
  pub ends : end ≡ at + length b
  pub within : end ≤ length d

module _ (d : List ℕ) where
  pub one_stands : (at : ℕ) → 0 < u8 d at → Standing d at (u8 d at ∷ []) (at + 1)
  one_stands at h = record { there = drop_more d at 0 (inside d at h); ends = omega arith; within = omega (arith, inside d at h) }

  pub byte_stands : (at x : ℕ) → u8 d at ≡ x → 0 < x → Standing d at (x ∷ []) (at + 1)
  byte_stands at x e h = rw e at (one_stands at (omega arith))

  pub join : {at mid end : ℕ} {b c : List ℕ} → Standing d at b mid → Standing d mid c end → Standing d at (b ++ c) end
  join {at} {mid} {end} {b} {c} s t = record {
    there = s.there ∙ ap (λ (x : List ℕ). b ++ x) t.there ∙ sym (append_assoc b c (drop end d));
    ends = omega (arith, s.ends, t.ends, length-append b c);
    within = t.within;
  }

  pub to_the_end : {at end : ℕ} {b : List ℕ} → Standing d at b end → end ≡ length d → drop at d ≡ b
  to_the_end {end = end} {b = b} s e = s.there ∙ ap (λ (n : ℕ). b ++ drop n d) e ∙ rw (drop-length, append-nil)
