-- One turn of each loop, on what the called functions gave. Assumes nothing.
use Prim.Native.Nat.{ℕ, suc, ◌+◌, ◌-◌, ◌≤◌, ◌<◌}
use mathlib.Core.Path.{◌≡◌, refl, sym, ap, ◌∙◌}
use Rattle.std.specs.Prelude.{Option, Some, None}
use Rattle.std.specs.Option.{unwrap_or}
use mathlib.Core.Bool.{Bool, true, false, cond}
use mathlib.Core.List.{List}
use native.Mathlib.Omega.{arith}
use native.Mathlib.Nat.{zero-add, add-zero, add_assoc}
use lib.Dec.{eqb}
use lib.ListN.{length}
use borrow.Author.Tests.{eqb-true, eqb-false, eq-eqb, ne_eqb}
use Rattle.values.specs.Kinds.{Kind, int, long, float, double, reference, any, places, places_of}
use Rattle.rules.specs.Fetch.{u8}
use Rattle.rules.specs.Descriptor.{array_type, slash, semicolon, character_at, name_end, brackets_end, field_end, kind_of, parameter_kinds, parameters_end}
use Rattle.rules.proofs.Check.{cases}
use Rattle.rules.proofs.Characters.{character_stands}
use Rattle.rules.proofs.Names.{name_from, name_ended, name_goes_on, name_none}
use Rattle.rules.proofs.Fields.{one_bracket, no_bracket, field_forward}
use Rattle.rules.proofs.Descriptor.{no_more, kinds_at, fields_at, all_parameters, next_field}
use Rattle.descriptor.specs.declared.cursor.Cursor.{Cursor}
use Rattle.descriptor.specs.Answers.{some_offset, Counted}
use Rattle.descriptor.specs.Cursors.{StandsAt, EndsAt, after_byte, after_character}

-- ---- an offset, if there is one

pub offset_there : (m n : ℕ) → Some m ≡ some_offset n → (m ≡ n) × (0 < n)
offset_there m n = go (eqb n 0) refl
  where
    go : (t : Bool) → eqb n 0 ≡ t → Some m ≡ cond t None (Some n) → (m ≡ n) × (0 < n)
    go true e f = cc
    go false e f = (cc, omega (arith, eqb-false n 0 e))

pub no_offset : (n : ℕ) → None ≡ some_offset n → n ≡ 0
no_offset n = go (eqb n 0) refl
  where
    go : (t : Bool) → eqb n 0 ≡ t → None ≡ cond t None (Some n) → n ≡ 0
    go true e f = eqb-true n 0 e
    go false e f = cc

-- ---- a byte

module _ (d : List ℕ) (at b : ℕ) where
  pub byte_there : 0 < after_byte d at b → (u8 d at ≡ b) × (after_byte d at b ≡ at + 1)
  byte_there = go (eqb (u8 d at) b) refl
    where
      go : (t : Bool) → eqb (u8 d at) b ≡ t → 0 < cond t (at + 1) 0 → (u8 d at ≡ b) × (cond t (at + 1) 0 ≡ at + 1)
      go true e h = (eqb-true (u8 d at) b e, refl)
      go false e h = absurd (omega arith)

  pub no_byte : after_byte d at b ≡ 0 → u8 d at ≡ b → ⊥
  no_byte z e = let h : eqb (u8 d at) b ≡ true = eq-eqb (u8 d at) b e in omega (arith, rw h at z)

-- after a byte that stands at a cursor
pub byte_passed : (d : List ℕ) (b : ℕ) (s c : Cursor) → s.descriptor.now ≡ d → StandsAt s.descriptor.now (after_byte s.descriptor.now s.at b) c → (u8 d s.at ≡ b) × (c.descriptor.now ≡ d) × (c.at ≡ s.at + 1)
byte_passed d b s c e h =
    let k : StandsAt d (after_byte d s.at b) c = rw e at h in
    let (stands, after) = byte_there d s.at b k.begun in
    (stands, k.same, k.there ∙ after)

-- ---- a character of a name

module _ (d : List ℕ) (at : ℕ) where
  pub character_there : 0 < after_character d at → (0 < character_at d at) × (after_character d at ≡ at + character_at d at)
  character_there = go (eqb (character_at d at) 0) refl
    where
      go : (t : Bool) → eqb (character_at d at) 0 ≡ t → 0 < cond t 0 (at + character_at d at) → (0 < character_at d at) × (cond t 0 (at + character_at d at) ≡ at + character_at d at)
      go true e h = absurd (omega arith)
      go false e h = (omega (arith, eqb-false (character_at d at) 0 e), refl)

  pub no_character : after_character d at ≡ 0 → (n : ℕ) → name_end n d at ≡ 0
  no_character z n = name_none d n at (go (eqb (character_at d at) 0) refl z)
    where
      go : (t : Bool) → eqb (character_at d at) 0 ≡ t → cond t 0 (at + character_at d at) ≡ 0 → character_at d at ≡ 0
      go true e h = eqb-true (character_at d at) 0 e
      go false e h = omega arith

  -- of the size that is found
  module _ (size : ℕ) (found : Some size ≡ some_offset (character_at d at)) where
    pub size_within : at + size ≤ length d
    size_within = let (e, h) = offset_there size (character_at d at) found in rw e (character_stands d at h).2.within

    pub size_there : (at + size ≡ after_character d at) × (0 < after_character d at)
    size_there =
        let (e, h) = offset_there size (character_at d at) found in
        let some : eqb (character_at d at) 0 ≡ false = ne_eqb (character_at d at) 0 (λ z. omega arith) in
        (rw (some, e), rw some (omega arith))

  pub size_missing : None ≡ some_offset (character_at d at) → after_character d at ≡ 0
  size_missing e = rw (eq-eqb (character_at d at) 0 (no_offset (character_at d at) e))

  -- after a character that ends at next
  module _ (next : ℕ) (ends : next ≡ after_character d at) (begun : 0 < after_character d at) where
    some : 0 < character_at d at
    some = (character_there begun).0

    next_is : next ≡ at + character_at d at
    next_is = ends ∙ (character_there begun).1

    pub ended : u8 d next ≡ semicolon → name_from d at ≡ next + 1
    ended e = rw next_is (name_ended d at some (rw next_is at e))

    pub goes_on : (u8 d next ≡ semicolon → ⊥) → (then : ℕ) → then ≡ cond (eqb (u8 d next) slash) (next + 1) next → (at < then) × (name_from d then ≡ name_from d at)
    goes_on e then f =
        let a : at < next = omega (arith, some, next_is) in
        (rw f (cases (λ n. at < n) (eqb (u8 d next) slash) (next + 1) next (λ _. omega arith) (λ _. a)), rw (f, next_is) (sym (name_goes_on d at some (rw next_is at e))))

-- past a slash, if one stands there
pub slash_passed : (d : List ℕ) (next : Cursor) (r : Option Cursor) → next.descriptor.now ≡ d → EndsAt d (after_byte d next.at slash) r
    → ((unwrap_or r next).descriptor.now ≡ d) × ((unwrap_or r next).at ≡ cond (eqb (u8 d next.at) slash) (next.at + 1) next.at)
slash_passed d next None e z = (e, rw (ne_eqb (u8 d next.at) slash (no_byte d next.at slash z)))
slash_passed d next (Some c) e s =
    let (h, t) = byte_there d next.at slash s.begun in
    (s.same, s.there ∙ t ∙ rw (eq-eqb (u8 d next.at) slash h))

-- ---- a bracket

module _ (d : List ℕ) (at i : ℕ) where
  pub bracket_passed : i < 255 → u8 d at ≡ array_type → brackets_end (255 - (i + 1)) d (at + 1) ≡ brackets_end (255 - i) d at
  bracket_passed h bracket =
      let e : 255 - i ≡ suc (255 - (i + 1)) = omega arith in
      sym (ap (λ k. brackets_end k d at) e ∙ one_bracket d (255 - (i + 1)) at bracket)

  pub brackets_ended : (u8 d at ≡ array_type → ⊥) → brackets_end (255 - i) d at ≡ at
  brackets_ended h = no_bracket d (255 - i) at (ne_eqb (u8 d at) array_type h)

  pub brackets_done : i ≡ 255 → brackets_end (255 - i) d at ≡ at
  unfolding brackets_end
  brackets_done h = rw h

-- ---- the places of a field type

at_most_two : (k : Kind) → places k ≤ 2
at_most_two int = omega arith
at_most_two long = omega arith
at_most_two float = omega arith
at_most_two double = omega arith
at_most_two reference = omega arith
at_most_two any = omega arith

-- ---- a parameter

-- n places have been counted before this offset
pub record Counting (d : List ℕ) (at n : ℕ) : Type 0 where
  pub end_ahead : fields_at d at ≡ parameters_end d
  pub places_ahead : n + places_of (kinds_at d at) ≡ places_of (parameter_kinds d)

module _ (d : List ℕ) where
  pub counting_starts : Counting d 1 0
  counting_starts = let (k, e) = all_parameters d in record { end_ahead = e; places_ahead = zero-add _ ∙ ap places_of k }

  module _ (at n : ℕ) (before : Counting d at n) where
    module _ (next p : ℕ) (there : next ≡ field_end d at) (begun : 0 < field_end d at) (takes : p ≡ places (kind_of (u8 d at))) where
      pub forward : (at < next) × (next ≤ length d)
      forward = rw there (field_forward d at begun)

      pub two_at_most : p ≤ 2
      two_at_most = rw takes (at_most_two (kind_of (u8 d at)))

      pub counting_goes_on : Counting d next (n + p)
      counting_goes_on =
          let (k, e) = next_field d at begun in
          record {
            end_ahead = rw there (sym e ∙ before.end_ahead);
            places_ahead = rw (there, takes) (add_assoc n (places (kind_of (u8 d at))) (places_of (kinds_at d (field_end d at))) ∙ ap (λ (x : List Kind). n + places_of x) (sym k) ∙ before.places_ahead);
          }

    pub counted : n ≤ 255 → field_end d at ≡ 0 → (c : Cursor) → c.descriptor.now ≡ d → c.at ≡ at → Counted d (Some (record { end = c; places = n }))
    counted h e c same there =
        let (k, f) = no_more d (length d - at) at e in
        record {
          same = same;
          end_there = there ∙ sym f ∙ before.end_ahead;
          all_places = sym (add-zero n) ∙ ap (λ (x : List Kind). n + places_of x) (sym k) ∙ before.places_ahead;
          few = h;
        }

    pub counted_over : 255 < n → Counted d None
    counted_over h = omega (arith, before.places_ahead)
