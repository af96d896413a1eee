-- Laws of `paste`: words written over others and the others written back, a write inside a front part, and the entries of a log. Assumes nothing.
use Prim.Native.Nat.{ℕ, ◌+◌, ◌≤◌, ◌<◌}
use mathlib.Core.Path.{◌≡◌, sym, ap, ◌∙◌}
use mathlib.Core.List.{List, ◌++◌, append_assoc}
use native.Mathlib.Omega.{arith}
use lib.ListN.{length, take, drop, get_or, take-append-drop, length-drop}
use lib.Seq.{paste, drop-paste, length-paste, take-append-le, drop-append-le, take_at, drop_at, take-add, drop-drop, length-take-le, get_or-take, get_or-drop, take_all}

-- only the first n words count
pub paste_same : (l : List ℕ) (at n : ℕ) (ws vs : List ℕ) → take n ws ≡ take n vs → paste l at ws n ≡ paste l at vs n
paste_same l at n ws vs e = rw e

pub take_before : (l : List ℕ) (at n : ℕ) (ws : List ℕ) → at ≤ length l → take at (paste l at ws n) ≡ take at l
take_before l at n ws h =
    ap (take at) (append_assoc (take at l) (take n ws) (drop (at + n) l)) ∙ take_at (take at l) (take n ws ++ drop (at + n) l) at (length-take-le at l h)

-- THE RESTORE LEMMA: what stood there, written back
pub paste_back : (l : List ℕ) (at n : ℕ) (ws old : List ℕ) → at + n ≤ length l → n ≤ length ws
    → take n old ≡ take n (drop at l) → paste (paste l at ws n) at old n ≡ l
paste_back l at n ws old h hw e =
    let h₁ : at ≤ length l = omega arith in
    rw (take_before l at n ws h₁, drop-paste l at ws n h₁ hw, e, ← take-add at n l) (take-append-drop (at + n) l)

-- a write inside the first of two parts
pub paste_left : (a b : List ℕ) (at n : ℕ) (ws : List ℕ) → at + n ≤ length a → paste (a ++ b) at ws n ≡ paste a at ws n ++ b
paste_left a b at n ws h =
    let h₁ : at ≤ length a = omega arith in
    rw (take-append-le at a b h₁, drop-append-le (at + n) a b h) (sym (append_assoc (take at a ++ take n ws) (drop (at + n) a) b))

-- a write inside the front p words
module _ (l : List ℕ) (at n p : ℕ) (ws : List ℕ) (h : at + n ≤ p) (hp : p ≤ length l) (hw : n ≤ length ws) where
  pub length_front_paste : length (paste (take p l) at ws n) ≡ p
  length_front_paste = length-paste (take p l) at ws n (rw (length-take-le p l hp) h) hw ∙ length-take-le p l hp

  pub paste_front : paste l at ws n ≡ paste (take p l) at ws n ++ drop p l
  paste_front =
      ap (λ (x : List ℕ). paste x at ws n) (sym (take-append-drop p l)) ∙ paste_left (take p l) (drop p l) at n ws (rw (length-take-le p l hp) h)

  pub take_front : take p (paste l at ws n) ≡ paste (take p l) at ws n
  take_front = ap (take p) paste_front ∙ take_at (paste (take p l) at ws n) (drop p l) p length_front_paste

  pub drop_front : drop p (paste l at ws n) ≡ drop p l
  drop_front = ap (drop p) paste_front ∙ drop_at (paste (take p l) at ws n) (drop p l) p length_front_paste

-- what a part in the front p words reads
pub part_front : (l : List ℕ) (at n p : ℕ) → at + n ≤ p → p ≤ length l → take n (drop at (take p l)) ≡ take n (drop at l)
part_front l at n p h hp =
    let e : length (take p l) ≡ p = length-take-le p l hp in
    let h₁ : at ≤ length (take p l) = omega arith in
    let h₂ : n ≤ length (drop at (take p l)) = omega (arith, length-drop at (take p l)) in
    sym (ap (λ (x : List ℕ). take n (drop at x)) (sym (take-append-drop p l))
    ∙ ap (take n) (drop-append-le at (take p l) (drop p l) h₁)
    ∙ take-append-le n (drop at (take p l)) (drop p l) h₂)

-- ---- a log's entries: ten words at k

pub entry_put : (log e : List ℕ) (k : ℕ) → k + 10 ≤ length log → length e ≡ 10 → take 10 (drop k (paste log k e 10)) ≡ e
entry_put log e k h he =
    let h₁ : k ≤ length log = omega arith in
    let he' : length e ≤ 10 = omega arith in
    rw (take_all 10 e he', append_assoc (take k log) e (drop (k + 10) log), drop_at (take k log) (e ++ drop (k + 10) log) k (length-take-le k log h₁))
    (take_at e (drop (k + 10) log) 10 he)

-- an entry below the one that is written
pub entry_below : (log e : List ℕ) (k j : ℕ) → k + 10 ≤ j → j + 10 ≤ length log → length e ≡ 10 → take 10 (drop k (paste log j e 10)) ≡ take 10 (drop k log)
entry_below log e k j h hl he =
    let h₁ : j ≤ length log = omega arith in
    let h₂ : j ≤ length (paste log j e 10) = omega (arith, length-paste log j e 10 hl (omega arith)) in
    sym (part_front (paste log j e 10) k 10 j h h₂)
    ∙ ap (λ (x : List ℕ). take 10 (drop k x)) (take_before log j 10 e h₁)
    ∙ part_front log k 10 j h h₁

-- what is read of an entry
module _ (log e : List ℕ) (k : ℕ) (h : take 10 (drop k log) ≡ e) where
  pub entry_word : (j : ℕ) → j < 10 → get_or log (k + j) 0 ≡ get_or e j 0
  entry_word j hj = sym (get_or-drop k log j 0) ∙ sym (get_or-take 10 (drop k log) j 0 hj) ∙ ap (λ (x : List ℕ). get_or x j 0) h

  pub entry_words : (j n : ℕ) → j + n ≤ 10 → k + 10 ≤ length log → take n (drop (k + j) log) ≡ take n (drop j e)
  entry_words j n hn hk =
      let r : 10 ≤ length (drop k log) = omega (arith, length-drop k log) in
      ap (take n) (sym (drop-drop j k log)) ∙ sym (part_front (drop k log) j n 10 hn r) ∙ ap (λ (x : List ℕ). take n (drop j x)) h
