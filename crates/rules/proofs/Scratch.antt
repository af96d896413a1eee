-- Slots after the frame set to 0, once and again. Assumes nothing.
use Prim.Native.Nat.{ℕ, zero, suc, ◌-◌, ◌≤◌, max}
use mathlib.Core.Path.{◌≡◌, refl, sym, ap, ◌∙◌}
use mathlib.Core.List.{List, [], ◌∷◌, ◌++◌}
use native.Mathlib.Omega.{arith}
use lib.ListN.{length, drop, replicate, length-append, length-replicate, length-drop}
use lib.Seq.{take_at, drop_at, drop-nil, length-take-le}
use Rattle.rules.specs.declared.states.State.{State}
use Rattle.rules.specs.Questions.{frame_size}
use Rattle.rules.specs.Step.{frame, beyond, zeroed, cleared}

pub zeroed_length : (n : ℕ) (ws : List ℕ) → n ≤ length ws → length (zeroed n ws) ≡ length ws
zeroed_length n ws h = omega (arith, length-append (replicate n 0) (drop n ws), length-replicate {A = ℕ} n 0, length-drop n ws)

-- of two, the farther counts
pub zeroed_twice : (b a : ℕ) (ws : List ℕ) → zeroed a (zeroed b ws) ≡ zeroed (max b a) ws
zeroed_twice zero a ws = let e : max 0 a ≡ a = omega arith in rw e
zeroed_twice (suc b) zero ws = let e : max (suc b) 0 ≡ suc b = omega arith in rw e
zeroed_twice (suc b) (suc a) [] =
    let e : max (suc b) (suc a) ≡ suc (max b a) = omega arith in
    rw e (ap (λ (x : List ℕ). 0 ∷ x) (ap (λ (x : List ℕ). replicate a 0 ++ drop a (replicate b 0 ++ x)) (sym (drop-nil b)) ∙ zeroed_twice b a [] ∙ ap (λ (x : List ℕ). replicate (max b a) 0 ++ x) (drop-nil (max b a))))
zeroed_twice (suc b) (suc a) (w ∷ ws) =
    let e : max (suc b) (suc a) ≡ suc (max b a) = omega arith in
    rw e (ap (λ (x : List ℕ). 0 ∷ x) (zeroed_twice b a ws))

module _ (s : State) (slots : List ℕ) (room : frame_size s ≤ length slots) where
  pub frame_cleared : (n : ℕ) → frame s (cleared s n slots) ≡ frame s slots
  frame_cleared zero = refl
  frame_cleared (suc n) = take_at (frame s slots) (zeroed (suc n) (beyond s slots)) (frame_size s) (length-take-le (frame_size s) slots room)

  pub beyond_cleared : (n : ℕ) → beyond s (cleared s n slots) ≡ zeroed n (beyond s slots)
  beyond_cleared zero = refl
  beyond_cleared (suc n) = drop_at (frame s slots) (zeroed (suc n) (beyond s slots)) (frame_size s) (length-take-le (frame_size s) slots room)

  pub length_cleared : (n : ℕ) → n ≤ length slots - frame_size s → length (cleared s n slots) ≡ length slots
  length_cleared zero h = refl
  length_cleared (suc n) h =
      let d = length-drop (frame_size s) slots in
      omega (arith, length-append (frame s slots) (zeroed (suc n) (beyond s slots)), length-take-le (frame_size s) slots room, zeroed_length (suc n) (beyond s slots) (omega arith))
