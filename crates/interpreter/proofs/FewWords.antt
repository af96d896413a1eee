-- Up to four words of a list, read one by one. Assumes nothing.
use Prim.Native.Nat.{ℕ, zero, suc, ◌+◌, ◌≤◌, ◌<◌}
use mathlib.Core.Path.{◌≡◌, refl, ◌∙◌}
use mathlib.Core.List.{List, [], ◌∷◌}
use native.Mathlib.Omega.{arith}
use lib.ListN.{length, take, drop, get_or}
use lib.Seq.{drop-cons}
use Rattle.rules.proofs.Pasted.{part_front}

pub few_words : (ws : List ℕ) (at n : ℕ) → n ≤ 4 → (0 < n → at + n ≤ length ws)
    → take n (drop at ws) ≡ take n (get_or ws at 0 ∷ get_or ws (at + 1) 0 ∷ get_or ws (at + 2) 0 ∷ get_or ws (at + 3) 0 ∷ [])
few_words ws at n few there = go n few there
  where
    e1 : at + 1 ≡ suc at
    e1 = omega arith

    e2 : at + 2 ≡ suc (suc at)
    e2 = omega arith

    e3 : at + 3 ≡ suc (suc (suc at))
    e3 = omega arith

    go : (n : ℕ) → n ≤ 4 → (0 < n → at + n ≤ length ws)
        → take n (drop at ws) ≡ take n (get_or ws at 0 ∷ get_or ws (at + 1) 0 ∷ get_or ws (at + 2) 0 ∷ get_or ws (at + 3) 0 ∷ [])
    go zero f t = refl
    go (suc zero) f t =
        let h = t (omega arith) in
        let h0 : at < length ws = omega arith in
        rw (drop-cons ws at 0 h0)
    go (suc (suc zero)) f t =
        let h = t (omega arith) in
        let h0 : at < length ws = omega arith in
        let h1 : suc at < length ws = omega arith in
        rw (drop-cons ws at 0 h0, drop-cons ws (suc at) 0 h1, e1)
    go (suc (suc (suc zero))) f t =
        let h = t (omega arith) in
        let h0 : at < length ws = omega arith in
        let h1 : suc at < length ws = omega arith in
        let h2 : suc (suc at) < length ws = omega arith in
        rw (drop-cons ws at 0 h0, drop-cons ws (suc at) 0 h1, drop-cons ws (suc (suc at)) 0 h2, e1, e2)
    go (suc (suc (suc (suc zero)))) f t =
        let h = t (omega arith) in
        let h0 : at < length ws = omega arith in
        let h1 : suc at < length ws = omega arith in
        let h2 : suc (suc at) < length ws = omega arith in
        let h3 : suc (suc (suc at)) < length ws = omega arith in
        rw (drop-cons ws at 0 h0, drop-cons ws (suc at) 0 h1, drop-cons ws (suc (suc at)) 0 h2, drop-cons ws (suc (suc (suc at))) 0 h3, e1, e2, e3)
    go (suc (suc (suc (suc (suc n))))) f t = absurd (omega arith)

-- of a list's first m words, if they reach
pub few_of_first : (ws : List ℕ) (m at n : ℕ) → n ≤ 4 → m ≤ length ws → (0 < n → at + n ≤ m)
    → take n (drop at (take m ws)) ≡ take n (get_or ws at 0 ∷ get_or ws (at + 1) 0 ∷ get_or ws (at + 2) 0 ∷ get_or ws (at + 3) 0 ∷ [])
few_of_first ws m at zero few long there = refl
few_of_first ws m at (suc n) few long there =
    let h = there (omega arith) in
    part_front ws at (suc n) m h long ∙ few_words ws at (suc n) few (λ p. omega arith)
