-- A constant of one of two kinds that take as many places, by what stands at the index. Assumes nothing.
use Prim.Native.Nat.{ℕ, ◌+◌, ◌≤◌, ◌<◌}
use mathlib.Core.Path.{◌≡◌, refl, ◌∙◌}
use mathlib.Core.Bool.{Bool, true, false, ◌&&◌, ◌||◌}
use mathlib.Core.List.{List}
use native.Mathlib.Omega.{arith}
use native.Mathlib.Nat.{add-zero}
use lib.Dec.{lit≤}
use lib.ListN.{length, get_or, take, drop, length-take, get_or-eq_default}
use lib.Seq.{get_or-take, get_or-drop}
use borrow.Author.Tests.{le-leb, lt-leb}
use Rattle.values.specs.Kinds.{places}
use Rattle.rules.specs.Check.{Check, ◌else◌}
use Rattle.rules.specs.Questions.{tagged}
use Rattle.const_pool.specs.declared.Constant.{Constant}
use Rattle.const_pool.specs.declared.Width.{Width}
use Rattle.const_pool.specs.declared.Width.TheVariants.{One, Two}
use Rattle.const_pool.specs.Constant.{first_kind, second_kind, found, constant_of}
use Rattle.std.specs.Prelude.{Ok, Err}
use Rattle.rules.specs.declared.refusals.Refusal.{Refusal}

one_fits : (s t : Bool) → (s || t) ≡ true → (s && true || (t && true || false)) ≡ true
one_fits true t e = refl
one_fits false true e = refl
one_fits false false e = e

none_fits : (s t b : Bool) → (s || t) ≡ false → (s && b || (t && b || false)) ≡ false
none_fits true t b e = cc
none_fits false true b e = cc
none_fits false false b e = refl

no_room : (s t : Bool) → (s && false || (t && false || false)) ≡ false
no_room true true = refl
no_room true false = refl
no_room false true = refl
no_room false false = refl

-- both kinds of a width take as many places
same_places : (w : Width) → places (second_kind w) ≡ places (first_kind w)
same_places One = refl
same_places Two = refl

module _ (kinds words : List ℕ) (x : ℕ) (w : Width) where
  abbrev Answers : Check Constant → Type 0
  Answers r = r ≡ constant_of kinds words x (first_kind w) (second_kind w)

  abbrev has : Bool
  has = tagged (get_or kinds x 0) (first_kind w) || tagged (get_or kinds x 0) (second_kind w)

  pub no_entry : length kinds < x + places (first_kind w) → Answers (Err Refusal.Constant)
  unfolding constant_of ◌else◌
  no_entry h = rw (same_places w, lt-leb _ _ h, no_room)

  pub no_kind : has ≡ false → Answers (Err Refusal.Constant)
  unfolding constant_of ◌else◌
  no_kind e = rw (same_places w, none_fits _ _ _ e)

  constant_there : x + places (first_kind w) ≤ length kinds → has ≡ true → Answers (found (take (places (first_kind w)) (drop x words)) (Ok tt))
  unfolding constant_of ◌else◌
  constant_there h e = rw (same_places w, le-leb _ _ h, one_fits _ _ e)

-- ---- the words of a constant

word_of : (words : List ℕ) (x i n : ℕ) → i < n → get_or (take n (drop x words)) i 0 ≡ get_or words (x + i) 0
word_of words x i n l = get_or-take n (drop x words) i 0 l ∙ get_or-drop x words i 0

one_word : (words : List ℕ) (x : ℕ) → Ok (record { low = get_or words x 0; high = 0 }) ≡ found (take 1 (drop x words)) (Ok tt)
one_word words x = rw (word_of words x 0 1 (lit≤ tt), add-zero x, get_or-eq_default (take 1 (drop x words)) 0 {n = 1} (rw (length-take 1 (drop x words)) (omega arith)))

two_words : (words : List ℕ) (x : ℕ) → Ok (record { low = get_or words x 0; high = get_or words (x + 1) 0 }) ≡ found (take 2 (drop x words)) (Ok tt)
two_words words x = rw (word_of words x 0 2 (lit≤ tt), add-zero x, word_of words x 1 2 (lit≤ tt))

module _ (kinds words : List ℕ) (x : ℕ) where
  pub int_or_float : (w : Width) → w ≡ One → x + places (first_kind w) ≤ length kinds → has kinds words x w ≡ true → (low : ℕ) → low ≡ get_or words x 0 →
      Answers kinds words x w (Ok (record { low = low; high = 0 }))
  int_or_float One _ h t low e = rw e (one_word words x ∙ constant_there kinds words x One h t)
  int_or_float Two f h t low e = cc

  pub long_or_double : (w : Width) → w ≡ Two → x + places (first_kind w) ≤ length kinds → has kinds words x w ≡ true → (low high : ℕ) → low ≡ get_or words x 0 → high ≡ get_or words (x + 1) 0 →
      Answers kinds words x w (Ok (record { low = low; high = high }))
  long_or_double One f h t low high e g = cc
  long_or_double Two _ h t low high e g = rw (e, g) (two_words words x ∙ constant_there kinds words x Two h t)
