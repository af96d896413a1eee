-- What a descriptor answers, question by question, with the promise that the answer is the grammar's. Assumes nothing.
use Prim.Native.Nat.{ℕ, ◌+◌, ◌≤◌, ◌<◌}
use mathlib.Core.Path.{◌≡◌, refl, sym, subst}
use mathlib.Core.List.{List}
use native.Mathlib.Omega.{arith}
use lib.ListN.{length}
use Rattle.std.specs.Prelude.{Some, None, Ok, Err}
use Rattle.values.specs.Kinds.{places_of}
use Rattle.rules.specs.Check.{Check, ◌>>◌}
use Rattle.rules.specs.Fetch.{u8}
use Rattle.rules.specs.Descriptor.{descriptor_of, opening, closing, parameter_kinds, parameters_end, return_letter, return_end, return_type, descriptor_check}
use Rattle.rules.specs.declared.refusals.Refusal.{Refusal}
use Rattle.rules.proofs.Standing.{inside}
use Rattle.rules.proofs.Descriptor.{descriptor_sound, descriptor_complete, not_opened, too_many_places, not_closed, no_return, is_descriptor}
use Rattle.rules.specs.declared.descriptors.Descriptor.{Descriptor}
use Rattle.descriptor.specs.declared.descriptors.Parameters.{Parameters}
use Rattle.descriptor.specs.Answers.{described, Exact, Promise, Parsed, Whole}

module _ (d : List ℕ) where
  exact : (x : Check (Unit {0})) → descriptor_check d ≡ x → Exact d (x >> Ok (descriptor_of d))
  unfolding ◌>>◌
  exact (Ok t) e = (parameter_kinds d, descriptor_sound d e, refl)
  exact (Err n) e = λ ks t m. let (p, _, _) = descriptor_complete d ks t m in cc

  kept : (r : Check Descriptor) → r ≡ described d → Promise d r
  kept r e = (e, subst (Exact d) (sym e) (exact (descriptor_check d) refl))

  bad : descriptor_check d ≡ Err Refusal.Descriptor → Parsed d None
  unfolding ◌>>◌
  bad e = kept (Err Refusal.Descriptor) (rw e)

  pub unopened : (u8 d 0 ≡ opening → ⊥) → Parsed d None
  unopened h = bad (not_opened d h)

  module _ (opened : u8 d 0 ≡ opening) where
    pub over : 255 < places_of (parameter_kinds d) → Parsed d None
    over h = bad (too_many_places d opened h)

    module _ (p : Parameters) (w : Whole d p) where
      whole : places_of (parameter_kinds d) ≤ 255
      whole = omega (arith, w.all_places, w.few)

      pub unclosed : (u8 d p.end.at ≡ closing → ⊥) → Parsed d None
      unclosed h = bad (not_closed d opened whole (rw w.end_there at h))

      module _ (closed : u8 d p.end.at ≡ closing) (at : ℕ) (after : at ≡ p.end.at + 1) where
        closed_there : u8 d (parameters_end d) ≡ closing
        closed_there = rw w.end_there at closed

        begins : at ≡ parameters_end d + 1
        begins = rw w.end_there at after

        pub more_or_less : (return_end d at ≡ length d → ⊥) → Parsed d None
        more_or_less h = bad (no_return d opened whole closed_there (rw begins at h))

        -- at 0 nothing ends, and the descriptor has bytes
        pub no_end : return_end d at ≡ 0 → Parsed d None
        no_end e = more_or_less (λ f. omega (arith, inside d 0 (omega (arith, opened))))

        pub accepted : return_end d at ≡ length d → (n t : ℕ) → n ≡ p.places → t ≡ return_letter (u8 d at) → Parsed d (Some (record { places = n; return_type = t }))
        unfolding ◌>>◌
        accepted h n t k e =
            let ends : return_end d (parameters_end d + 1) ≡ length d = rw begins at h in
            let letter : t ≡ return_type d = rw begins at e in
            kept _ (rw (is_descriptor d opened whole closed_there ends, k, ← w.all_places, ← letter))
