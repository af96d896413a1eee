-- A field type (JVMS 4.3.2): one stands where the reader finds an end, and the reader finds the end of each. Assumes nothing.
use Prim.Native.Nat.{ℕ, zero, suc, ◌+◌, ◌-◌, ◌≤◌, ◌<◌}
use mathlib.Core.Path.{◌≡◌, refl, ap, ◌∙◌}
use mathlib.Core.Bool.{true, false}
use mathlib.Core.List.{List, [], ◌∷◌, ◌++◌, append_assoc}
use mathlib.Core.Logic.{⊎_elim}
use native.Mathlib.Omega.{arith}
use lib.Dec.{eqb}
use lib.ListN.{length, drop, length-append}
use borrow.Author.Tests.{eqb-true, eq-eqb}
use Rattle.values.specs.Kinds.{Kind}
use Rattle.std.proofs.lemmas.Bool.{cond_both, or_cases}
use Rattle.std.proofs.lemmas.Bool.Decides.{nat_tests}
use Rattle.rules.specs.Fetch.{u8}
use Rattle.rules.specs.Descriptor.{byte_type, char_type, double_type, float_type, int_type, long_type, class_type, short_type, boolean_type, array_type, semicolon, ClassName, BaseType, b_byte, c_char, d_double, f_float, i_int, j_long, s_short, z_boolean, FieldType, base_field, class_field, array_field, name_end, brackets_end, is_base, element_end, field_end, kind_of}
use Rattle.rules.proofs.Standing.{inside, first_byte, rest_after, Standing, one_stands, byte_stands, join}
use Rattle.rules.proofs.Names.{name_stands, name_enough, name_read}

-- ---- the base types

base : (c : ℕ) → is_base c ≡ true → BaseType c (kind_of c)
base c e =
    ⊎_elim (λ e. ⊎_elim (λ e. ⊎_elim (λ e. ⊎_elim (λ e. ⊎_elim (λ e. ⊎_elim (λ e. ⊎_elim
    (is byte_type b_byte) (is char_type c_char) (or_cases _ _ e))
    (is double_type d_double) (or_cases _ _ e))
    (is float_type f_float) (or_cases _ _ e))
    (is int_type i_int) (or_cases _ _ e))
    (is long_type j_long) (or_cases _ _ e))
    (is short_type s_short) (or_cases _ _ e))
    (is boolean_type z_boolean) (or_cases _ _ e)
  where
    is : (x : ℕ) → BaseType x (kind_of x) → eqb c x ≡ true → BaseType c (kind_of c)
    is x b t = rw (eqb-true c x t) b

base_above : (c : ℕ) → is_base c ≡ true → 0 < c
base_above c e = grind (arith, nat_tests)

is_base_lem : {c : ℕ} {k : Kind} → BaseType c k → (is_base c ≡ true) × (eqb c array_type ≡ false) × (kind_of c ≡ k)
is_base_lem b_byte = (refl, refl, refl)
is_base_lem c_char = (refl, refl, refl)
is_base_lem d_double = (refl, refl, refl)
is_base_lem f_float = (refl, refl, refl)
is_base_lem i_int = (refl, refl, refl)
is_base_lem j_long = (refl, refl, refl)
is_base_lem s_short = (refl, refl, refl)
is_base_lem z_boolean = (refl, refl, refl)

pub field_bytes : {n : ℕ} {b : List ℕ} {k : Kind} → FieldType n b k → 0 < length b
field_bytes (base_field t) = omega arith
field_bytes (class_field t) = omega arith
field_bytes (array_field h t) = omega arith

-- ---- whatever is read is a field type

-- where it is read up to this end after at most n brackets, a field type of this kind stands there
record FieldTo (d : List ℕ) (at n : ℕ) (k : Kind) (end : ℕ) : Type 0 where
  field_there : 0 < end → (m : ℕ) × (m ≤ n) × (b : List ℕ) × FieldType m b k × Standing d at b end

module _ (d : List ℕ) where
  element_to : (n at : ℕ) → FieldTo d at n (kind_of (u8 d at)) (element_end d at)
  unfolding element_end
  element_to n at =
      cond_both (is_base (u8 d at)) (at + 1) _ To
      (λ e. record { field_there = λ _. (0, omega arith, u8 d at ∷ [], base_field (base (u8 d at) e), one_stands d at (base_above (u8 d at) e)) })
      (λ _. cond_both (eqb (u8 d at) class_type) (name_end (length d) d (at + 1)) 0 To class (λ _. record { field_there = λ h. absurd (omega arith) }))
    where
      To : ℕ → Type 0
      To end = FieldTo d at n (kind_of (u8 d at)) end

      named : u8 d at ≡ class_type → ((b : List ℕ) × ClassName b × Standing d (at + 1) (b ++ semicolon ∷ []) (name_end (length d) d (at + 1)))
          → (m : ℕ) × (m ≤ n) × (b : List ℕ) × FieldType m b (kind_of (u8 d at)) × Standing d at b (name_end (length d) d (at + 1))
      named e (b, c, s) = (0, omega arith, class_type ∷ b ++ semicolon ∷ [], rw e (class_field c), join d (byte_stands d at class_type e (omega arith)) s)

      class : eqb (u8 d at) class_type ≡ true → To (name_end (length d) d (at + 1))
      class e = record { field_there = λ h. named (eqb-true (u8 d at) class_type e) (name_stands (length d) d (at + 1) h) }

  field_to : (n : ℕ) → n ≤ 255 → (at : ℕ) → FieldTo d at n (kind_of (u8 d at)) (element_end d (brackets_end n d at))
  unfolding brackets_end
  field_to zero h at = element_to zero at
  field_to (suc n) h at =
      cond_both (eqb (u8 d at) array_type) (brackets_end n d (at + 1)) at To (λ e. record { field_there = λ k. array (eqb-true (u8 d at) array_type e) ((field_to n (omega arith) (at + 1)).field_there k) }) (λ _. element_to (suc n) at)
    where
      To : ℕ → Type 0
      To at' = FieldTo d at (suc n) (kind_of (u8 d at)) (element_end d at')

      array : {k : Kind} {end : ℕ} → u8 d at ≡ array_type → ((m : ℕ) × (m ≤ n) × (b : List ℕ) × FieldType m b k × Standing d (at + 1) b end)
          → (m : ℕ) × (m ≤ suc n) × (b : List ℕ) × FieldType m b (kind_of (u8 d at)) × Standing d at b end
      array e (m, l, b, t, s) = (suc m, omega arith, array_type ∷ b, rw e (array_field {n = m} (omega arith) t), join d (byte_stands d at array_type e (omega arith)) s)

  pub field_stands : (at : ℕ) → 0 < field_end d at → (m : ℕ) × (b : List ℕ) × FieldType m b (kind_of (u8 d at)) × Standing d at b (field_end d at)
  unfolding field_end
  field_stands at h = let (m, l, b, t, s) = (field_to 255 (omega arith) at).field_there h in (m, b, t, s)

  pub field_forward : (at : ℕ) → 0 < field_end d at → (at < field_end d at) × (field_end d at ≤ length d)
  field_forward at h = let (m, b, t, s) = field_stands at h in omega (arith, s.ends, s.within, field_bytes t)

  pub field_past : (at : ℕ) → length d ≤ at → field_end d at ≡ 0
  field_past at h = grind (arith, field_forward at)

-- ---- every field type is read

module _ (d : List ℕ) where
  pub no_bracket : (n at : ℕ) → eqb (u8 d at) array_type ≡ false → brackets_end n d at ≡ at
  unfolding brackets_end
  no_bracket zero at e = refl
  no_bracket (suc n) at e = rw e

  -- a character with which none begins
  pub no_field : (at : ℕ) → is_base (u8 d at) ≡ false → eqb (u8 d at) class_type ≡ false → eqb (u8 d at) array_type ≡ false → field_end d at ≡ 0
  unfolding field_end element_end
  no_field at b c a = rw (no_bracket 255 at a, b, c)

  pub one_bracket : (n at : ℕ) → u8 d at ≡ array_type → brackets_end (suc n) d at ≡ brackets_end n d (at + 1)
  unfolding brackets_end
  one_bracket n at e = rw (eq-eqb (u8 d at) array_type e)

  pub base_element : (at : ℕ) → is_base (u8 d at) ≡ true → element_end d at ≡ at + 1
  unfolding element_end
  base_element at e = rw e

  pub class_element : (at : ℕ) → u8 d at ≡ class_type → element_end d at ≡ name_end (length d) d (at + 1)
  unfolding element_end
  class_element at e = rw e

  -- a bracket is a byte that is there
  pub brackets_within : (n at : ℕ) → at ≤ length d → brackets_end n d at ≤ length d
  unfolding brackets_end
  brackets_within zero at h = h
  brackets_within (suc n) at h =
      cond_both (eqb (u8 d at) array_type) (brackets_end n d (at + 1)) at (λ (x : ℕ). x ≤ length d)
      (λ e. brackets_within n (at + 1) (omega (arith, inside d at (omega (arith, eqb-true (u8 d at) array_type e))))) (λ _. h)

  element_read : {b : List ℕ} {k : Kind} (n at : ℕ) (rest : List ℕ) → FieldType 0 b k → drop at d ≡ b ++ rest
      → (element_end d (brackets_end n d at) ≡ at + length b) × (kind_of (u8 d at) ≡ k)
  element_read n at rest (base_field {c = c} t) e =
      let f : u8 d at ≡ c = first_byte d at (c ∷ rest) e in
      let i = is_base_lem t in
      (ap (element_end d) (no_bracket n at (rw f i.1)) ∙ base_element at (rw f i.0), rw f i.2)
  element_read n at rest (class_field {b = b} t) e =
      let f : u8 d at ≡ class_type = first_byte d at (class_type ∷ b ++ semicolon ∷ [] ++ rest) e in
      let g : drop (at + 1) d ≡ b ++ semicolon ∷ rest = rest_after d at (class_type ∷ []) (b ++ semicolon ∷ [] ++ rest) e ∙ append_assoc b (semicolon ∷ []) rest in (
        ap (element_end d) (no_bracket n at (rw f refl)) ∙ class_element at f ∙ name_enough d (length d) (length d - (at + 1)) (at + 1) (omega arith) (omega arith)
            ∙ name_read d (at + 1) rest t g ∙ omega (arith, length-append b (semicolon ∷ [])),
        rw f refl,
      )

  pub field_dimensions : {m : ℕ} {b : List ℕ} {k : Kind} → FieldType m b k → m ≤ 255
  field_dimensions (base_field t) = omega arith
  field_dimensions (class_field t) = omega arith
  field_dimensions (array_field h t) = omega arith

  element_end_read : {m : ℕ} {b : List ℕ} {k : Kind} (n at : ℕ) (rest : List ℕ) → m ≤ n → FieldType m b k → drop at d ≡ b ++ rest
      → (element_end d (brackets_end n d at) ≡ at + length b) × (kind_of (u8 d at) ≡ k)
  element_end_read n at rest h (base_field t) e = element_read n at rest (base_field t) e
  element_end_read n at rest h (class_field t) e = element_read n at rest (class_field t) e
  element_end_read zero at rest h (array_field l t) e = absurd (omega arith)
  element_end_read (suc n) at rest h (array_field {b = b} l t) e =
      let f : u8 d at ≡ array_type = first_byte d at (array_type ∷ b ++ rest) e in
      let g = rest_after d at (array_type ∷ []) (b ++ rest) e in
      (ap (element_end d) (one_bracket n at f) ∙ (element_end_read n (at + 1) rest (omega arith) t g).0 ∙ omega arith, rw f)

  pub field_read : {m : ℕ} {b : List ℕ} {k : Kind} (at : ℕ) (rest : List ℕ) → FieldType m b k → drop at d ≡ b ++ rest
      → (field_end d at ≡ at + length b) × (kind_of (u8 d at) ≡ k)
  unfolding field_end
  field_read at rest t e = element_end_read 255 at rest (field_dimensions t) t e
