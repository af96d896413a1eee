-- The method descriptor (JVMS 4.3.3): what is accepted is one, and every one is accepted, with its parameters' kinds and its return type. Assumes nothing.
use Prim.Native.Nat.{ℕ, zero, suc, ◌+◌, ◌-◌, ◌≤◌, ◌<◌}
use mathlib.Core.Path.{◌≡◌, refl, sym, ap, subst, ◌∙◌}
use mathlib.Core.Bool.{Bool, true, false}
use mathlib.Core.List.{List, [], ◌∷◌, ◌++◌, append_assoc, append-nil}
use native.Mathlib.Omega.{arith}
use lib.Dec.{eqb}
use lib.ListN.{length, drop, length-append, length-drop}
use borrow.Author.Tests.{leb-true, eqb-true, eqb-false, le-leb, lt-leb, eq-eqb, ne_eqb}
use Rattle.values.specs.Kinds.{Kind, places_of}
use Rattle.rules.specs.Check.{◌else◌, ◌>>◌}
use Rattle.rules.specs.Fetch.{u8}
use Rattle.rules.specs.Descriptor.{class_type, void_type, array_type, opening, closing, FieldType, Parameters, no_parameter, next_parameter, is_base, return_letter, Return, returns_field, returns_void, MethodDescriptor, descriptor, field_end, kind_of, kinds_from, fields_end, parameter_kinds, parameters_end, return_end, return_type, descriptor_check}
use Rattle.rules.specs.Returns.{is_return_type}
use Rattle.rules.proofs.Check.{first_passed, last_passed}
use Rattle.rules.proofs.Standing.{inside, first_byte, rest_after, Standing, byte_stands, join, to_the_end}
use Rattle.rules.proofs.Fields.{field_bytes, field_stands, field_forward, field_past, no_field, field_read}
use Rattle.std.specs.Prelude.{Ok, Err}
use Rattle.rules.specs.declared.refusals.Refusal.{Refusal}

-- ---- parameter by parameter: as many turns as there are bytes left are enough

module _ (d : List ℕ) where
  pub no_more : (n at : ℕ) → field_end d at ≡ 0 → (kinds_from n d at ≡ []) × (fields_end n d at ≡ at)
  unfolding kinds_from fields_end
  no_more zero at e = (refl, refl)
  no_more (suc n) at e = rw (eq-eqb (field_end d at) 0 e) (refl, refl)

  one_more : (n at : ℕ) → 0 < field_end d at
      → (kinds_from (suc n) d at ≡ kind_of (u8 d at) ∷ kinds_from n d (field_end d at)) × (fields_end (suc n) d at ≡ fields_end n d (field_end d at))
  unfolding kinds_from fields_end
  one_more n at h = rw (ne_eqb (field_end d at) 0 (λ e. omega arith)) (refl, refl)

  abbrev Same : ℕ → ℕ → ℕ → Type 0
  Same m n at = (kinds_from m d at ≡ kinds_from n d at) × (fields_end m d at ≡ fields_end n d at)

  both_end : (m n at : ℕ) → field_end d at ≡ 0 → Same m n at
  both_end m n at e =
      let (a, b) = no_more m at e in
      let (c, f) = no_more n at e in
      (a ∙ sym c, b ∙ sym f)

  pub turns_enough : (m n at : ℕ) → length d - at ≤ m → length d - at ≤ n → Same m n at
  turns_enough zero n at h k = both_end zero n at (field_past d at (omega arith))
  turns_enough (suc m) zero at h k = both_end (suc m) zero at (field_past d at (omega arith))
  turns_enough (suc m) (suc n) at h k =
      go (eqb (field_end d at) 0) refl (λ f. turns_enough m n (field_end d at) (omega (arith, field_forward d at f)) (omega (arith, field_forward d at f)))
    where
      go : (t : Bool) → eqb (field_end d at) 0 ≡ t → (0 < field_end d at → Same m n (field_end d at)) → Same (suc m) (suc n) at
      go true e same = both_end (suc m) (suc n) at (eqb-true (field_end d at) 0 e)
      go false e same =
          let f : 0 < field_end d at = omega (arith, eqb-false (field_end d at) 0 e) in
          let (a, b) = one_more m at f in
          let (c, g) = one_more n at f in
          (a ∙ ap (λ (x : List Kind). kind_of (u8 d at) ∷ x) (same f).0 ∙ sym c, b ∙ (same f).1 ∙ sym g)

-- with as many turns as are enough
abbrev pub kinds_at : List ℕ → ℕ → List Kind
kinds_at d at = kinds_from (length d - at) d at

abbrev pub fields_at : List ℕ → ℕ → ℕ
fields_at d at = fields_end (length d - at) d at

pub all_parameters : (d : List ℕ) → (kinds_at d 1 ≡ parameter_kinds d) × (fields_at d 1 ≡ parameters_end d)
all_parameters d = turns_enough d (length d - 1) (length d) 1 (omega arith) (omega arith)

pub next_field : (d : List ℕ) (at : ℕ) → 0 < field_end d at → (kinds_at d at ≡ kind_of (u8 d at) ∷ kinds_at d (field_end d at)) × (fields_at d at ≡ fields_at d (field_end d at))
next_field d at some =
    let f = field_forward d at some in
    let n : ℕ = length d - at - 1 in
    let e : length d - at ≡ suc n = omega arith in
    let (a, b) = one_more d n at some in
    let (k, l) = turns_enough d n (length d - field_end d at) (field_end d at) (omega arith) (omega arith) in
    rw e (a ∙ ap (λ (x : List Kind). kind_of (u8 d at) ∷ x) k, b ∙ l)

-- ---- whatever is read are parameters

module _ (d : List ℕ) where
  abbrev Read : ℕ → List Kind → ℕ → Type 0
  Read at ks end = (b : List ℕ) × Parameters b ks × Standing d at b end

  parameters_stand : (n at : ℕ) → at ≤ length d → Read at (kinds_from n d at) (fields_end n d at)
  unfolding kinds_from fields_end
  parameters_stand zero at h = ([], no_parameter, record { there = refl; ends = omega arith; within = h })
  parameters_stand (suc n) at h = go (eqb (field_end d at) 0) refl (λ k. parameters_stand n (field_end d at) (field_forward d at k).1)
    where
      next : 0 < field_end d at → Read (field_end d at) (kinds_from n d (field_end d at)) (fields_end n d (field_end d at)) → Read at (kinds_from (suc n) d at) (fields_end (suc n) d at)
      next k (bs, ps, s) =
          let (m, b, t, r) = field_stands d at k in
          let (p, q) = one_more d n at k in
          rw (p, q) (b ++ bs, next_parameter t ps, join d r s)

      go : (t : Bool) → eqb (field_end d at) 0 ≡ t → (0 < field_end d at → Read (field_end d at) (kinds_from n d (field_end d at)) (fields_end n d (field_end d at)))
          → Read at (kinds_from (suc n) d at) (fields_end (suc n) d at)
      go true e f = let (p, q) = no_more d (suc n) at (eqb-true (field_end d at) 0 e) in rw (p, q) ([], no_parameter, record { there = refl; ends = omega arith; within = h })
      go false e f = let k : 0 < field_end d at = omega (arith, eqb-false (field_end d at) 0 e) in next k (f k)

-- ---- every parameter is read

module _ (d : List ℕ) where
  at_closing : (at : ℕ) → u8 d at ≡ closing → field_end d at ≡ 0
  at_closing at e = no_field d at (rw e) (rw e) (rw e)

  parameters_read : {b : List ℕ} {ks : List Kind} (at : ℕ) (rest : List ℕ) → Parameters b ks → drop at d ≡ b ++ closing ∷ rest → (kinds_at d at ≡ ks) × (fields_at d at ≡ at + length b)
  parameters_read at rest no_parameter e =
      let (k, l) = no_more d (length d - at) at (at_closing at (first_byte d at (closing ∷ rest) e)) in
      (k, l ∙ omega arith)
  parameters_read at rest (next_parameter {b = b} {bs = bs} t ps) e =
      let f = e ∙ append_assoc b bs (closing ∷ rest) in
      let (l, k) = field_read d at (bs ++ closing ∷ rest) t f in
      let some : 0 < field_end d at = omega (arith, field_bytes t) in
      let g : drop (field_end d at) d ≡ bs ++ closing ∷ rest = rw l (rest_after d at b (bs ++ closing ∷ rest) f) in
      let (ks, m) = parameters_read (field_end d at) rest ps g in
      let (x, y) = next_field d at some in
      (x ∙ rw (k, ks), y ∙ m ∙ omega (arith, length-append b bs))

-- ---- the return descriptor, up to the end

module _ (d : List ℕ) (at : ℕ) where
  at_void : u8 d at ≡ void_type → field_end d at ≡ 0
  at_void e = no_field d at (rw e) (rw e) (rw e)

  return_void : u8 d at ≡ void_type → return_end d at ≡ at + 1
  return_void e = rw (eq-eqb (u8 d at) void_type e)

  return_field : (u8 d at ≡ void_type → ⊥) → return_end d at ≡ field_end d at
  return_field e = rw (ne_eqb (u8 d at) void_type e)

  return_stands : 0 < length d → return_end d at ≡ length d → (r : List ℕ) × Return r (return_letter (u8 d at)) × (drop at d ≡ r)
  return_stands h e = go (eqb (u8 d at) void_type) refl
    where
      field : (m : ℕ) (b : List ℕ) → FieldType m b (kind_of (u8 d at)) → drop at d ≡ b → (r : List ℕ) × Return r (return_letter (u8 d at)) × (drop at d ≡ r)
      field m [] t s = absurd (omega (arith, field_bytes t))
      field m (c ∷ b) t s = (c ∷ b, rw (first_byte d at (c ∷ b) s) (returns_field t), s)

      go : (t : Bool) → eqb (u8 d at) void_type ≡ t → (r : List ℕ) × Return r (return_letter (u8 d at)) × (drop at d ≡ r)
      go true f =
          let v : u8 d at ≡ void_type = eqb-true (u8 d at) void_type f in
          (void_type ∷ [], rw v returns_void, to_the_end d (byte_stands d at void_type v (omega arith)) (sym (return_void v) ∙ e))
      go false f =
          let g = sym (return_field (eqb-false (u8 d at) void_type f)) ∙ e in
          let (m, b, t, s) = field_stands d at (omega arith) in
          field m b t (to_the_end d s g)

  pub return_read : {r : List ℕ} {t : ℕ} → at ≤ length d → Return r t → drop at d ≡ r → (return_end d at ≡ length d) × (return_letter (u8 d at) ≡ t)
  return_read h returns_void e =
      let v : u8 d at ≡ void_type = first_byte d at (void_type ∷ []) e in
      let l : length d - at ≡ 1 = sym (length-drop at d) ∙ ap length e in
      (return_void v ∙ omega arith, rw v refl)
  return_read h (returns_field {c = c} {b = b} t) e =
      let f = (field_read d at [] t (e ∙ sym (append-nil (c ∷ b)))).0 in
      let l : length d - at ≡ suc (length b) = sym (length-drop at d) ∙ ap length e in
      let n : u8 d at ≡ void_type → ⊥ = λ v. omega (arith, at_void v) in
      (return_field n ∙ f ∙ omega arith, ap return_letter (first_byte d at (c ∷ b) e))

-- ---- the whole descriptor

module _ (d : List ℕ) where
  made : {b r : List ℕ} {ks : List Kind} {t end : ℕ} → Standing d 0 (opening ∷ []) 1 → Standing d 1 b end → Standing d end (closing ∷ []) (end + 1) → drop (end + 1) d ≡ r
      → Parameters b ks → places_of ks ≤ 255 → Return r t → MethodDescriptor d ks t
  made {b} {r} {ks} {t} {end} o s z e ps few returned =
      let whole : d ≡ opening ∷ b ++ closing ∷ r = (join d o (join d s z)).there ∙ append_assoc (opening ∷ b) (closing ∷ []) (drop (end + 1) d) ∙ ap (λ (x : List ℕ). opening ∷ b ++ closing ∷ x) e in
      subst (λ (x : List ℕ). MethodDescriptor x ks t) (sym whole) (descriptor ps few returned)

  -- what a descriptor that is accepted has been asked
  record Accepted : Type 0 where
    opened : u8 d 0 ≡ opening
    few : places_of (parameter_kinds d) ≤ 255
    closed : u8 d (parameters_end d) ≡ closing
    returned : return_end d (parameters_end d + 1) ≡ length d

  accepted : descriptor_check d ≡ Ok tt → Accepted
  unfolding descriptor_check
  accepted e =
      let (a, p) = first_passed _ _ _ e in
      let (b, q) = first_passed _ _ _ p in
      let (c, r) = first_passed _ _ _ q in
      record { opened = eqb-true _ _ a; few = leb-true _ _ b; closed = eqb-true _ _ c; returned = eqb-true _ _ (last_passed _ _ r) }

  pub descriptor_sound : descriptor_check d ≡ Ok tt → MethodDescriptor d (parameter_kinds d) (return_type d)
  descriptor_sound e = go (accepted e)
    where
      go : Accepted → MethodDescriptor d (parameter_kinds d) (return_type d)
      go a =
          let o = byte_stands d 0 opening a.opened (omega arith) in
          let z = byte_stands d (parameters_end d) closing a.closed (omega arith) in
          let (b, ps, s) = parameters_stand d (length d) 1 (omega (arith, o.within)) in
          let (r, t, f) = return_stands d (parameters_end d + 1) (omega (arith, o.within)) a.returned in
          made o s z f ps a.few t

  good : {b r : List ℕ} {ks : List Kind} {t : ℕ} → d ≡ opening ∷ b ++ closing ∷ r → Parameters b ks → places_of ks ≤ 255 → Return r t
      → (descriptor_check d ≡ Ok tt) × (parameter_kinds d ≡ ks) × (return_type d ≡ t)
  unfolding descriptor_check ◌else◌ ◌>>◌
  good {b} {r} {ks} {t} e ps few returned =
      let o : u8 d 0 ≡ opening = ap (λ (x : List ℕ). u8 x 0) e in
      let a : drop 1 d ≡ b ++ closing ∷ r = ap (drop 1) e in
      let (m, n) = parameters_read d 1 r ps a in
      let (p, q) = all_parameters d in
      let kinds : parameter_kinds d ≡ ks = sym p ∙ m in
      let end : parameters_end d ≡ 1 + length b = sym q ∙ n in
      let c : drop (parameters_end d) d ≡ closing ∷ r = rw end (rest_after d 1 b (closing ∷ r) a) in
      let z : u8 d (parameters_end d) ≡ closing = first_byte d (parameters_end d) (closing ∷ r) c in
      let (x, y) = return_read d (parameters_end d + 1) (omega (arith, inside d (parameters_end d) (omega arith))) returned (rest_after d (parameters_end d) (closing ∷ []) r c) in
      (rw (eq-eqb _ _ o, kinds, le-leb _ _ few, eq-eqb _ _ z, eq-eqb _ _ x), kinds, y)

pub descriptor_complete : (d : List ℕ) (ks : List Kind) (t : ℕ) → MethodDescriptor d ks t → (descriptor_check d ≡ Ok tt) × (parameter_kinds d ≡ ks) × (return_type d ≡ t)
descriptor_complete d ks t (descriptor {b = b} {r = r} ps few returned) = good (opening ∷ b ++ closing ∷ r) refl ps few returned

-- ---- question by question

module _ (d : List ℕ) where
  pub not_opened : (u8 d 0 ≡ opening → ⊥) → descriptor_check d ≡ Err Refusal.Descriptor
  unfolding descriptor_check ◌else◌ ◌>>◌
  not_opened h = rw (ne_eqb _ _ h)

  module _ (opened : u8 d 0 ≡ opening) where
    pub too_many_places : 255 < places_of (parameter_kinds d) → descriptor_check d ≡ Err Refusal.Descriptor
    unfolding descriptor_check ◌else◌ ◌>>◌
    too_many_places h = rw (eq-eqb _ _ opened, lt-leb _ _ h)

    module _ (few : places_of (parameter_kinds d) ≤ 255) where
      pub not_closed : (u8 d (parameters_end d) ≡ closing → ⊥) → descriptor_check d ≡ Err Refusal.Descriptor
      unfolding descriptor_check ◌else◌ ◌>>◌
      not_closed h = rw (eq-eqb _ _ opened, le-leb _ _ few, ne_eqb _ _ h)

      module _ (closed : u8 d (parameters_end d) ≡ closing) where
        pub no_return : (return_end d (parameters_end d + 1) ≡ length d → ⊥) → descriptor_check d ≡ Err Refusal.Descriptor
        unfolding descriptor_check ◌else◌ ◌>>◌
        no_return h = rw (eq-eqb _ _ opened, le-leb _ _ few, eq-eqb _ _ closed, ne_eqb _ _ h)

        pub is_descriptor : return_end d (parameters_end d + 1) ≡ length d → descriptor_check d ≡ Ok tt
        unfolding descriptor_check ◌else◌ ◌>>◌
        is_descriptor h = rw (eq-eqb _ _ opened, le-leb _ _ few, eq-eqb _ _ closed, eq-eqb _ _ h)

-- ---- what a state has of a good one is a return type, and so not 0

pub return_known : (d : List ℕ) → descriptor_check d ≡ Ok tt → is_return_type (return_type d) ≡ true
unfolding is_return_type
return_known d e = go (parameters_end d + 1) (accepted d e).returned _ _ _ _ refl refl refl refl
  where
    go : (at : ℕ) → return_end d at ≡ length d → (a b l v : Bool) → eqb (u8 d at) array_type ≡ a → is_base (u8 d at) ≡ b → eqb (u8 d at) class_type ≡ l → eqb (u8 d at) void_type ≡ v
        → is_return_type (return_letter (u8 d at)) ≡ true
    go at r true b l v f g h k = rw f
    go at r false true l v f g h k = rw (f, g)
    go at r false false true v f g h k = rw (f, g, h)
    go at r false false false true f g h k = rw (f, g, h, k)
    go at r false false false false f g h k =
        let none : return_end d at ≡ 0 = return_field d at (eqb-false (u8 d at) void_type k) ∙ no_field d at g h f in
        absurd (omega (arith, inside d 0 (omega (arith, (accepted d e).opened))))

pub return_above : (d : List ℕ) → descriptor_check d ≡ Ok tt → 0 < return_type d
unfolding is_return_type
return_above d e = go (return_type d) (return_known d e)
  where
    go : (t : ℕ) → is_return_type t ≡ true → 0 < t
    go zero f = let z : ◌≡◌ {A = ℕ} 0 1 = cc in absurd (omega arith)
    go (suc t) f = omega arith
