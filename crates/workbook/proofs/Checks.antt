-- What is asked of the lent words before a call, and a call by the answers. Assumes nothing.
use Prim.Native.Nat.{ℕ, ◌^◌, ◌≤◌, ◌<◌}
use mathlib.Core.Path.{◌≡◌, refl, sym}
use mathlib.Core.Bool.{Bool, true, false}
use mathlib.Core.List.{List}
use native.Mathlib.Omega.{arith}
use lib.Dec.{ltb, leb}
use lib.ListN.{length, get_or}
use borrow.Author.Tests.{ltb-true, leb-true, leb-false, lt-leb, le-leb, lt-ltb, le-ltb}
use Rattle.rules.specs.declared.sheets.Reading.{Reading}
use Rattle.rules.specs.Check.{◌else◌, ◌>>◌, is_passed}
use Rattle.rules.specs.Sheet.{handlers_length}
use Rattle.rules.proofs.Check.{first_passed, last_passed, last_asked, is_passed_lem}
use Rattle.workbook.specs.StateWords.{state_size, lengths_check, sizes_check}
use Rattle.workbook.specs.Calls.{words_check}
use Rattle.std.specs.Prelude.{Ok, Err}
use Rattle.rules.specs.declared.refusals.Refusal.{Refusal}

-- two questions whose no is 1
two_no : (a b : Bool) → is_passed ((a else Refusal.Lengths) >> (b else Refusal.Lengths)) ≡ false → ((a else Refusal.Lengths) >> (b else Refusal.Lengths)) ≡ Err Refusal.Lengths
unfolding ◌else◌ ◌>>◌
two_no false b e = refl
two_no true false e = refl
two_no true true e = let z : ◌≡◌ {A = ℕ} 0 1 = cc in absurd (omega arith)

-- ---- the lengths

module _ (state answer : List ℕ) (n : ℕ) where
  pub short_state : length state < state_size → false ≡ is_passed (lengths_check state answer n)
  unfolding lengths_check ◌else◌ ◌>>◌
  short_state h = simp (lt-leb _ _ h)

  pub long_state : state_size ≤ length state → leb n (length answer) ≡ is_passed (lengths_check state answer n)
  unfolding lengths_check ◌else◌ ◌>>◌
  long_state h = simp (le-leb _ _ h) (last_asked _ _)

  pub lengths_no : is_passed (lengths_check state answer n) ≡ false → lengths_check state answer n ≡ Err Refusal.Lengths
  unfolding lengths_check
  lengths_no e = two_no _ _ e

  pub lengths_yes : is_passed (lengths_check state answer n) ≡ true → (state_size ≤ length state) × (n ≤ length answer)
  unfolding lengths_check
  lengths_yes e =
      let a = first_passed _ _ _ (is_passed_lem (lengths_check state answer n) e) in
      (leb-true _ _ a.0, leb-true _ _ (last_passed _ _ a.1))

-- ---- question 26 of the words of a load

-- a word is at most 2 ^ 32 - 1
pub word_most : (n : ℕ) → leb n 4294967295 ≡ ltb n (2 ^ 32)
word_most n = go (leb n 4294967295) refl
  where
    go : (t : Bool) → leb n 4294967295 ≡ t → t ≡ ltb n (2 ^ 32)
    go true e = sym (lt-ltb n (2 ^ 32) (omega (arith, leb-true n 4294967295 e)))
    go false e = sym (le-ltb n (2 ^ 32) (omega (arith, leb-false n 4294967295 e)))

module _ (state answer : List ℕ) (p : Reading) where
  pub words_short : is_passed (lengths_check state answer 4) ≡ false → words_check state answer p ≡ Err Refusal.LentMemory
  unfolding lengths_check words_check ◌else◌ ◌>>◌
  words_short e = go (leb state_size (length state)) (leb 4 (length answer)) e
    where
      go : (a b : Bool) → is_passed ((a else Refusal.Lengths) >> (b else Refusal.Lengths)) ≡ false → ((a else Refusal.LentMemory) >> (b else Refusal.LentMemory) >> (ltb (handlers_length p) (2 ^ 32) else Refusal.LentMemory)) ≡ Err Refusal.LentMemory
      go false b h = refl
      go true false h = refl
      go true true h = let z : ◌≡◌ {A = ℕ} 0 1 = cc in absurd (omega arith)

  pub words_long : is_passed (lengths_check state answer 4) ≡ true → words_check state answer p ≡ (ltb (handlers_length p) (2 ^ 32) else Refusal.LentMemory)
  unfolding words_check ◌else◌ ◌>>◌
  words_long e = let (h, k) = lengths_yes state answer 4 e in simp (le-leb _ _ h, le-leb _ _ k)

  pub words_no : is_passed (words_check state answer p) ≡ false → words_check state answer p ≡ Err Refusal.LentMemory
  unfolding words_check ◌else◌ ◌>>◌
  words_no e = go (leb state_size (length state)) (leb 4 (length answer)) (ltb (handlers_length p) (2 ^ 32)) e
    where
      go : (a b d : Bool) → is_passed ((a else Refusal.LentMemory) >> (b else Refusal.LentMemory) >> (d else Refusal.LentMemory)) ≡ false → ((a else Refusal.LentMemory) >> (b else Refusal.LentMemory) >> (d else Refusal.LentMemory)) ≡ Err Refusal.LentMemory
      go false b d h = refl
      go true false d h = refl
      go true true false h = refl
      go true true true h = let z : ◌≡◌ {A = ℕ} 0 1 = cc in absurd (omega arith)

  pub words_yes : words_check state answer p ≡ Ok tt → (state_size ≤ length state) × (4 ≤ length answer) × (handlers_length p < 2 ^ 32)
  unfolding words_check
  words_yes e =
      let a = first_passed _ _ _ e in
      let b = first_passed _ _ _ a.1 in
      (leb-true _ _ a.0, leb-true _ _ b.0, ltb-true _ _ (last_passed _ _ b.1))

-- what passes them
pub lengths_pass : (state answer : List ℕ) (n : ℕ) → state_size ≤ length state → n ≤ length answer → lengths_check state answer n ≡ Ok tt
unfolding lengths_check ◌else◌ ◌>>◌
lengths_pass state answer n h k = simp (le-leb _ _ h, le-leb _ _ k)

pub sizes_pass : (ws : List ℕ) → get_or ws 0 0 ≤ 65535 → get_or ws 1 0 ≤ 65535 → sizes_check ws ≡ Ok tt
unfolding sizes_check ◌else◌ ◌>>◌
sizes_pass ws h k = simp (le-leb _ _ h, le-leb _ _ k)
