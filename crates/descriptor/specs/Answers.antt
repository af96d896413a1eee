-- What a descriptor says, and that the answer is that of the grammar. Assumes nothing.
use Rattle.std.specs.Prelude.{ℕ, ◌≤◌, ◌<◌, ◌≡◌, Option, Some, None, cond, List, Ok, Err}
use Rattle.values.specs.Kinds.{Kind, places_of}
use Rattle.rules.specs.Check.{Check, ◌>>◌, ◌=ⁿ◌}
use Rattle.rules.specs.Descriptor.{MethodDescriptor, parameter_kinds, parameters_end, descriptor_of, descriptor_check}
use Rattle.rules.specs.declared.descriptors.Descriptor.{Descriptor}
use Rattle.descriptor.specs.declared.descriptors.Parameters.{Parameters}
use Rattle.rules.specs.declared.refusals.Refusal.{Refusal}

-- an offset, of which 0 says that nothing begins there (rules/specs/Descriptor)
abbrev pub some_offset : ℕ → Option ℕ
some_offset n = cond (n =ⁿ 0) None (Some n)

-- what it says where it is one
abbrev pub described : List ℕ → Check Descriptor
described d = do
  descriptor_check d
  Ok (descriptor_of d)

-- a good one is a method descriptor with these places and this return type; of a refused one there is no derivation
abbrev pub Exact : List ℕ → Check Descriptor → Type 0
Exact d (Ok x) = (ks : List Kind) × MethodDescriptor d ks x.return_type × (places_of ks ≡ x.places)
Exact d (Err r) = (ks : List Kind) (t : ℕ) → MethodDescriptor d ks t → ⊥

-- both
abbrev pub Promise : List ℕ → Check Descriptor → Type 0
Promise d r = (r ≡ described d) × Exact d r

-- the same with no refusal named
abbrev pub Parsed : List ℕ → Option Descriptor → Type 0
Parsed d None = Promise d (Err Refusal.Descriptor)
Parsed d (Some x) = Promise d (Ok x)

-- the parameters as they are read: whole, where they have no more places than a method may have
pub record Whole (d : List ℕ) (p : Parameters) : Type 0 where
  pub same : p.end.descriptor.now ≡ d
  pub end_there : p.end.at ≡ parameters_end d
  pub all_places : p.places ≡ places_of (parameter_kinds d)
  pub few : p.places ≤ 255

abbrev pub Counted : List ℕ → Option Parameters → Type 0
Counted d (Some p) = Whole d p
Counted d None = 255 < places_of (parameter_kinds d)
