-- Words written one by one, and into a part of a list that is lent on. Assumes nothing.
use Prim.Native.Nat.{ℕ, ◌+◌, ◌-◌, ◌≤◌, ◌<◌}
use mathlib.Core.Path.{◌≡◌, sym, ap, ◌∙◌}
use mathlib.Core.List.{List, [], ◌∷◌, ◌++◌, append_assoc}
use native.Mathlib.Omega.{arith}
use native.Mathlib.Nat.{add_assoc, add-zero}
use borrow.Rule.Slice.PartMut.{put_mid}
use lib.Dec.{lit≤}
use lib.ListN.{length, take, drop, set, take-append-drop, length-drop}
use lib.Seq.{paste, paste-zero, paste-suc, length-take-le, take-append-add, drop-append-add}
use Rattle.rules.proofs.Pasted.{paste_left}

-- ---- one by one

pub one_written : (l : List ℕ) (at a : ℕ) → at < length l → set l at a ≡ paste l at (a ∷ []) 1
one_written l at a h =
    let h₀ : at + 0 < length l = omega arith in
    ap (λ (k : List ℕ). set k at a) (paste-zero l at (a ∷ []))
    ∙ ap (λ (i : ℕ). set (paste l at (a ∷ []) 0) i a) (sym (add-zero at))
    ∙ paste-suc l at (a ∷ []) 0 0 h₀ (lit≤ tt)

pub two_written : (l : List ℕ) (at a b : ℕ) → at + 2 ≤ length l → set (set l at a) (at + 1) b ≡ paste l at (a ∷ b ∷ []) 2
two_written l at a b h =
    let h₁ : at + 1 < length l = omega arith in
    ap (λ (k : List ℕ). set k (at + 1) b) (one_written l at a (omega arith)) ∙ paste-suc l at (a ∷ b ∷ []) 1 0 h₁ (lit≤ tt)

-- ---- into a part

-- the second of two
paste_right : (x y : List ℕ) (j n : ℕ) (ws : List ℕ) → paste (x ++ y) (length x + j) ws n ≡ x ++ paste y j ws n
paste_right x y j n ws = rw (take-append-add x y j, add_assoc (length x) j n, drop-append-add x y (j + n)) (simp append_assoc)

-- the part from a to e, `&mut l[a..e]`: from the part's place j on is from a + j on
pub paste_part : (l : List ℕ) (a e j n : ℕ) (ws : List ℕ) → a + j + n ≤ e → e ≤ length l
    → put_mid a (e - a) l (paste (take (e - a) (drop a l)) j ws n) ≡ paste l (a + j) ws n
paste_part l a e j n ws h k =
    let la : length (take a l) ≡ a = length-take-le a l (omega arith) in
    let lm : length (take (e - a) (drop a l)) ≡ e - a = length-take-le (e - a) (drop a l) (omega (arith, length-drop a l)) in
    let s : length (take a l) + j ≡ a + j = omega arith in
    sym (ap (λ (z : List ℕ). paste z (a + j) ws n) (sym (take-append-drop a l))
    ∙ ap (λ (i : ℕ). paste (take a l ++ drop a l) i ws n) (sym s)
    ∙ paste_right (take a l) (drop a l) j n ws
    ∙ ap (λ (z : List ℕ). take a l ++ paste z j ws n) (sym (take-append-drop (e - a) (drop a l)))
    ∙ ap (λ (z : List ℕ). take a l ++ z) (paste_left (take (e - a) (drop a l)) (drop (e - a) (drop a l)) j n ws (omega arith)))
