-- A return by what its return type's word is. Assumes nothing.
use Rattle.std.proofs.Common.{◌≡◌, ℕ, Bool, true, false, ◌||◌, Err, refl, sym, ap, ◌∙◌}
use Rattle.values.specs.declared.Value.{Value}
use Rattle.values.specs.declared.Value.TheVariants.{Void, Int, Float, Reference, Long, Double}
use Rattle.rules.specs.declared.halts.Halt.TheVariants.{Return, Refused}
use Rattle.rules.specs.declared.refusals.Refusal.{Refusal}
use Rattle.rules.specs.Descriptor.{byte_type, char_type, double_type, float_type, int_type, long_type, class_type, short_type, void_type, boolean_type, is_base}
use Rattle.rules.specs.Check.{◌=ⁿ◌}
use Rattle.rules.specs.Returns.{is_return_type, suits, narrowed, given_back}
use Rattle.rules.specs.Step.{return_of, decision}
use Rattle.rules.proofs.Returns.{of_another_kind, gives_back}
use Rattle.return_types.specs.declared.kinds.ReturnType.{ReturnType}
use Rattle.return_types.specs.declared.kinds.ReturnType.TheVariants as types
use Rattle.return_types.specs.Letters.{letter}

neither : (a b : Bool) → (a || b) ≡ false → (a ≡ false) × (b ≡ false)
neither true b e = cc
neither false b e = (refl, e)

not_base : (b c d f i j s z : Bool) → (b || c || d || f || i || j || s || z) ≡ false → (b ≡ false) × (c ≡ false) × (s ≡ false) × (z ≡ false)
not_base b c d f i j s z e =
    let (to_s, boolean) = neither (b || c || d || f || i || j || s) z e in
    let (to_j, short) = neither (b || c || d || f || i || j) s to_s in
    let (to_i, _) = neither (b || c || d || f || i) j to_j in
    let (to_f, _) = neither (b || c || d || f) i to_i in
    let (to_d, _) = neither (b || c || d) f to_f in
    let (to_c, _) = neither (b || c) d to_d in
    let (byte, char) = neither b c to_c in
    (byte, char, short, boolean)

-- no int is narrowed for a number that is no return type
all_kept : (t a : ℕ) → is_return_type t ≡ false → a ≡ narrowed t a
unfolding is_return_type narrowed
all_kept t a e =
    let base = (neither (is_base t) (t =ⁿ class_type) (neither (is_base t || (t =ⁿ class_type)) (t =ⁿ void_type) e).0).0 in
    let (byte, char, short, boolean) =
    not_base (t =ⁿ byte_type) (t =ⁿ char_type) (t =ⁿ double_type) (t =ⁿ float_type) (t =ⁿ int_type) (t =ⁿ long_type) (t =ⁿ short_type) (t =ⁿ boolean_type) base in
    rw (boolean, byte, char, short)

is_one : (t : ReturnType) → is_return_type (letter t) ≡ true
unfolding is_return_type
is_one types.Byte = refl
is_one types.Char = refl
is_one types.Double = refl
is_one types.Float = refl
is_one types.Int = refl
is_one types.Long = refl
is_one types.Reference = refl
is_one types.Short = refl
is_one types.Void = refl
is_one types.Boolean = refl

module _ (word : ℕ) where
  pub of_no_type : (v : Value) → is_return_type word ≡ false → Err (Return v) ≡ decision (return_of word v)
  of_no_type v e = ap (λ x. Err (Return x)) (kept v) ∙ sym (gives_back word v (rw e))
    where
      kept : (x : Value) → x ≡ given_back word x
      kept (Int a) = ap Int (all_kept word a e)
      kept (Long a) = refl
      kept (Float a) = refl
      kept (Double a) = refl
      kept (Reference a) = refl
      kept Void = refl

  module _ (t : ReturnType) (v : Value) (means : word ≡ letter t) where
    pub of_this_type : suits (letter t) v ≡ true → Err (Return (given_back (letter t) v)) ≡ decision (return_of word v)
    of_this_type e = rw means (sym (gives_back (letter t) v (rw (is_one t, e))))

    pub of_another_type : suits (letter t) v ≡ false → Err (Refused Refusal.ReturnType) ≡ decision (return_of word v)
    of_another_type e = rw means (sym (of_another_kind (letter t) v (rw (is_one t, e))))
