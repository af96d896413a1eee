-- LOOKUPSWITCH: its pairs as pieces of 8 bytes, and whether their keys rise. Assumes nothing.
use Rattle.std.proofs.Common.{◌≡◌, ℕ, zero, suc, ◌+◌, ◌-◌, ◌*◌, ◌/◌, ◌<◌, ◌≤◌, Bool, true, false, ◌&&◌, List, [], ◌∷◌, length, take, drop, map, get_or, refl, sym, ap, ◌∙◌, ap₂, lit<, add-one, length-drop, arith}
use Rattle.std.proofs.lemmas.List.{get_or-take, get_or-drop, drop-drop, length-take-le, drop-take}
use Rattle.std.specs.List.{IsAllAdjacentAnswer}
use Rattle.std.specs.Simd.{first_chunks}
use Rattle.values.specs.Integers.{signed, ◌<ᶻ◌}
use Rattle.rules.specs.Fetch.{u8, u32, s32, pairs_from, rising_from, rising}
use Rattle.operands.specs.Switch.{pair_of}

-- ---- the pairs that stand in the code from an offset on

module _ (code : List ℕ) (at k : ℕ) (room : 8 ≤ k) where
  -- the first of them, as a piece of its own
  abbrev first : List ℕ
  first = take 8 (take k (drop at code))

  byte_of : (i : ℕ) → i < 8 → u8 first i ≡ u8 code (at + i)
  byte_of i h = get_or-take 8 (take k (drop at code)) i 0 h ∙ get_or-take k (drop at code) i 0 (omega arith) ∙ get_or-drop at code i 0

  -- one step after another, as u32 takes them
  stepped : (i : ℕ) → i + 3 < 8 → u32 first i ≡ u32 code (at + i)
  stepped i h =
      let a : u8 first (i + 1) ≡ u8 code (at + i + 1) = byte_of (i + 1) (omega arith) ∙ ap (u8 code) (omega arith) in
      let b : u8 first (i + 2) ≡ u8 code (at + i + 2) = byte_of (i + 2) (omega arith) ∙ ap (u8 code) (omega arith) in
      let c : u8 first (i + 2 + 1) ≡ u8 code (at + i + 2 + 1) = byte_of (i + 2 + 1) (omega arith) ∙ ap (u8 code) (omega arith) in
      ap₂ (λ (x y : ℕ). x * 65536 + y) (ap₂ (λ (x y : ℕ). x * 256 + y) (byte_of i (omega arith)) a) (ap₂ (λ (x y : ℕ). x * 256 + y) b c)

  first_pair : pair_of first ≡ (s32 code at, s32 code (at + 4))
  first_pair =
      let here : at + 0 ≡ at = omega arith in
      ap₂ (λ (x y : ℕ). (signed 31 x, signed 31 y)) (stepped 0 (lit< tt) ∙ ap (u32 code) here) (stepped 4 (lit< tt))

pub pairs_read : (code : List ℕ) (n k at : ℕ) → 8 * n ≤ k → map pair_of (first_chunks 8 n (take k (drop at code))) ≡ pairs_from code at n
unfolding pairs_from
pairs_read code zero k at h = refl
pairs_read code (suc n) k at h =
    let room : 8 ≤ k = omega arith in
    let split : k ≡ 8 + (k - 8) = omega arith in
    let rest : drop 8 (take k (drop at code)) ≡ take (k - 8) (drop (at + 8) code) = ap (λ (m : ℕ). drop 8 (take m (drop at code))) split ∙ drop-take 8 (k - 8) (drop at code) ∙ ap (take (k - 8)) (drop-drop 8 at code) in
    ap₂ (λ p ps. p ∷ ps) (first_pair code at k room) (ap (λ xs. map pair_of (first_chunks 8 n xs)) rest ∙ pairs_read code n (k - 8) (at + 8) (omega arith))

-- n pairs that a slice of the code has
pub table_pairs : (code : List ℕ) (at n k : ℕ) (pairs : List (List ℕ)) → k ≡ 8 * n → at + 8 * n ≤ length code → pairs ≡ first_chunks 8 (length (take k (drop at code)) / 8) (take k (drop at code))
    → map pair_of pairs ≡ pairs_from code at n
table_pairs code at n k pairs e h same =
    let room : k ≤ length (drop at code) = omega (arith, length-drop at code) in
    let many : length (take k (drop at code)) / 8 ≡ n = omega (arith, length-take-le k (drop at code) room) in
    ap (map pair_of) (same ∙ ap (λ m. first_chunks 8 m (take k (drop at code))) many) ∙ pairs_read code n k at (omega arith)

-- ---- rising

-- the order of two pieces
abbrev pub below : List ℕ → List ℕ → Bool
below p q = s32 p 0 <ᶻ s32 q 0

all_below : (p : List ℕ) (ps : List (List ℕ)) → ((k : ℕ) → k < length ps → true ≡ below (get_or (p ∷ ps) k []) (get_or (p ∷ ps) (suc k) [])) → true ≡ rising_from (s32 p 0) (map pair_of ps)
all_below p [] h = refl
all_below p (q ∷ ps) h = rw (sym (h 0 (omega arith))) (all_below q ps (λ k l. h (suc k) (omega arith)))

some_above : (p : List ℕ) (ps : List (List ℕ)) (k : ℕ) → k < length ps → false ≡ below (get_or (p ∷ ps) k []) (get_or (p ∷ ps) (suc k) []) → false ≡ rising_from (s32 p 0) (map pair_of ps)
some_above p [] k h e = absurd (omega arith)
some_above p (q ∷ ps) zero h e = rw (sym e)
some_above p (q ∷ ps) (suc k) h e = go (below p q) (some_above q ps k (omega arith) e)
  where
    go : (t : Bool) → false ≡ rising_from (s32 q 0) (map pair_of ps) → false ≡ (t && rising_from (s32 q 0) (map pair_of ps))
    go true f = f
    go false f = refl

pub rising_answer : (ps : List (List ℕ)) (r : Bool) → IsAllAdjacentAnswer (λ x y b. b ≡ below x y) ps r → r ≡ rising (map pair_of ps)
rising_answer [] true h = refl
rising_answer [] false (k, l, h) = absurd (omega arith)
rising_answer (p ∷ ps) true h = all_below p ps (λ k l. rw (add-one k) at (h k [] (omega arith)))
rising_answer (p ∷ ps) false (k, l, h) = some_above p ps k (omega arith) (rw (add-one k) at (h []))
