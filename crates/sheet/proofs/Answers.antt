-- What the answers to a descriptor and to the memory say of the questions. Assumes nothing.
use Prim.Native.Nat.{ℕ, ◌+◌, ◌*◌, ◌≤◌}
use native.Mathlib.Omega.{arith}
use mathlib.Core.Path.{◌≡◌, subst}
use mathlib.Core.List.{List}
use lib.ListN.{length}
use borrow.Author.Tests.{leb-true}
use Rattle.std.specs.Prelude.{Some, Ok, Err}
use Rattle.rules.specs.declared.sheets.Mark.TheVariants.{DS}
use Rattle.rules.specs.declared.sheets.Reading.{Reading}
use Rattle.rules.specs.declared.refusals.Refusal.{Refusal}
use Rattle.rules.specs.Check.{Check, ◌>>◌}
use Rattle.rules.specs.Descriptor.{descriptor_of, descriptor_check}
use Rattle.rules.specs.Sheet.{descriptor_at, with_record, contents_check, contents_read, memory_check, last_number, sheet_check}
use Rattle.rules.proofs.Check.{first_passed}
use Rattle.rules.proofs.Placement.{sheet_within}
use Rattle.rules.specs.declared.descriptors.Descriptor.{Descriptor}
use Rattle.descriptor.specs.Answers.{described}

-- ---- a DS record, by what its descriptor says

module _ (sheet : List ℕ) (at : ℕ) (p : Reading) where
  pub types_read : (d : List ℕ) (x : Descriptor) → Ok x ≡ described d → d ≡ descriptor_at sheet at
      → Ok (record p { last = Some DS; descriptor = Some x }) ≡ contents_read sheet at p DS
  unfolding contents_check with_record ◌>>◌
  types_read d x e same = go (descriptor_check (descriptor_at sheet at)) (subst (λ (b : List ℕ). Ok x ≡ described b) same e)
    where
      go : (y : Check (Unit {0})) → Ok x ≡ (y >> Ok (descriptor_of (descriptor_at sheet at)))
          → Ok (record p { last = Some DS; descriptor = Some x }) ≡ (y >> Ok (with_record sheet at DS p))
      go (Ok t) e = let f : x ≡ descriptor_of (descriptor_at sheet at) = cc in rw f
      go (Err k) e = cc

  pub types_refused : (d : List ℕ) (r : Refusal) → Err r ≡ described d → d ≡ descriptor_at sheet at → Err r ≡ contents_read sheet at p DS
  unfolding contents_check ◌>>◌
  types_refused d r e same = go (descriptor_check (descriptor_at sheet at)) (subst (λ (b : List ℕ). Err r ≡ described b) same e)
    where
      go : (y : Check (Unit {0})) → Err r ≡ (y >> Ok (descriptor_of (descriptor_at sheet at))) → Err r ≡ (y >> Ok (with_record sheet at DS p))
      go (Ok t) e = cc
      go (Err k) e = cc

-- ---- the memory

pub slots_reach : (p : Reading) (slots kinds words : List ℕ) → memory_check p slots kinds words ≡ Ok tt → p.max_locals + p.max_stack ≤ length slots
unfolding memory_check
slots_reach p slots kinds words e = leb-true _ _ (first_passed _ Refusal.LentMemory _ e).0

-- ---- a sheet that is read: its parts lie in it, one after the other

pub record Whole (sheet : List ℕ) (p : Reading) : Type 0 where
  pub code_first : p.code + p.code_length ≤ p.handlers
  pub handlers_first : p.handlers + 4 ≤ p.arguments
  pub arguments_there : p.arguments + 4 * p.argument_count ≤ length sheet
  pub few_arguments : p.argument_count ≤ p.max_locals

pub whole : (sheet : List ℕ) (p : Reading) → sheet_check sheet ≡ Ok p → Whole sheet p
whole sheet p read =
    let (w, last) = sheet_within sheet p read in
    let all : 6 ≤ last_number p.last = omega arith in
    record { code_first = w.code_first; handlers_first = w.handlers_first all; arguments_there = w.arguments_there all; few_arguments = w.few_arguments all }
