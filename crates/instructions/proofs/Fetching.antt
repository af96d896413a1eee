-- The stages of decoding, on the entry of a row, give what questions 4 and 5 give. Assumes nothing.
use Prim.Native.Nat.{ℕ, ◌+◌, ◌*◌, ◌<◌}
use mathlib.Core.Path.{◌≡◌, refl, sym, ap, ◌∙◌}
use mathlib.Core.Bool.{Bool, true, false, cond}
use mathlib.Core.List.{List, [], map}
use native.Mathlib.Omega.{arith}
use lib.IntN.{ℤ, pos}
use lib.Dec.{leb, eqb}
use lib.ListN.{length}
use borrow.Author.Tests.{lt-ltb, eq-eqb, ne_eqb}
use Rattle.std.specs.Option.{ok_or}
use Rattle.values.specs.Integers.{low}
use Rattle.rules.specs.Check.{Check, ◌else◌, ◌>>◌, ◌>>=◌}
use Rattle.rules.specs.Forms.{Row, Operand, Format, alone, implied, byte, short, index, index2, index_const, branch, branch4, table, pairs, widened, length_of}
use Rattle.rules.specs.Instructions.{row_of}
use Rattle.rules.specs.Fetch.{Instruction, instruction, operands, u8, u16, s16, widens, wide_opcode, sized, table_check, lookup_check, wide_check, by_format, fetched}
use Rattle.rules.proofs.Rows.{own_opcode, below_256, up_to, agree, is_some}
use Rattle.rules.proofs.Questions.{of_core, not_core, wide_iinc, wide_local}
use Rattle.operands.specs.Switch.{switch_of}
use Rattle.instructions.specs.declared.forms.Entry.{Entry}
use Rattle.instructions.specs.declared.decoding.Decoded.{Decoded}
use Rattle.instructions.specs.Table.{format_of, length_in, entry_for, entry_of, core_entry}
use Rattle.instructions.specs.Decode.{instruction_by, decoded}
use Rattle.instructions.specs.Stages.{core_of, sized_of, fixed_of, switch_decoded, decoded_by}
use Rattle.instructions.proofs.Entries.{length_is, core_entry_lem}
use Rattle.std.specs.Prelude.{Ok, Some, None, Option, Err}
use Rattle.rules.specs.declared.refusals.Refusal.{Refusal}

-- e is the entry of the row r
module _ (code : List ℕ) (pc : ℕ) (e : Entry) (r : Row) (E : core_entry r.opcode ≡ e) where
  -- an instruction of n bytes
  sized_is : (n : ℕ) (o : Operand) → sized_of code pc e n o.index (low 32 o.constant) ≡ decoded (sized code pc r n o)
  unfolding decoded sized_of ◌else◌ ◌>>◌
  sized_is n o = go (leb (pc + n) (length code))
    where
      go : (t : Bool) → cond t (Ok (instruction_by e n o.index (low 32 o.constant))) (Err Refusal.OperandBytes) ≡ decoded ((t else Refusal.OperandBytes) >> Ok (instruction r n o))
      go true = rw E
      go false = refl

  -- a switch
  Alike : Check Instruction → Type 0
  Alike x = switch_decoded e (switch_of x) ≡ decoded x

  asked : (t : Bool) (n : Refusal) (x : Check Instruction) → Alike x → Alike ((t else n) >> x)
  unfolding Alike decoded switch_of ◌else◌ ◌>>◌
  asked true n x h = h
  asked false n x h = refl

  accepted : (n : ℕ) (c : ℤ) (ps : List (ℤ × ℤ)) → Alike (Ok (instruction r n (operands 0 c ps)))
  unfolding Alike decoded switch_of
  accepted n c ps = rw E

  table_is : switch_decoded e (switch_of (table_check code pc r)) ≡ decoded (table_check code pc r)
  unfolding Alike table_check
  table_is = asked _ _ _ (asked _ _ _ (asked _ _ _ (accepted _ _ _)))

  lookup_is : switch_decoded e (switch_of (lookup_check code pc r)) ≡ decoded (lookup_check code pc r)
  unfolding Alike lookup_check
  lookup_is = asked _ _ _ (asked _ _ _ (asked _ _ _ (asked _ _ _ (accepted _ _ _))))

  -- ---- by the format

  module _ (f : Format) (F : e.format ≡ format_of f) where
    fixed_is : (o : Operand) → fixed_of code pc e o.index (low 32 o.constant) ≡ decoded (sized code pc r (length_of f) o)
    fixed_is o = ap (λ (n : ℕ). sized_of code pc e n o.index (low 32 o.constant)) (ap length_in F ∙ length_is f) ∙ sized_is (length_of f) o

  by_format_is : (f : Format) → e.format ≡ format_of f → decoded_by code pc r e (format_of f) ≡ decoded (by_format code pc r f)
  unfolding low
  by_format_is alone F = fixed_is alone F _
  by_format_is (implied n) F = fixed_is (implied n) F _
  by_format_is byte F = fixed_is byte F _
  by_format_is short F = fixed_is short F _
  by_format_is index F = fixed_is index F _
  by_format_is index2 F = fixed_is index2 F _
  by_format_is index_const F = fixed_is index_const F _
  by_format_is branch F = fixed_is branch F _
  by_format_is branch4 F = fixed_is branch4 F _
  by_format_is table F = table_is
  by_format_is pairs F = lookup_is
  by_format_is widened F = refl

-- ---- question 4

-- what the answer to it says of a row
module _ (n : ℕ) where
  pub answered : (P : Type 0) (e : Entry) → core_of n ≡ Ok e → ((r : Row) → row_of n ≡ Some r → core_entry r.opcode ≡ e → e ≡ entry_for r → P) → P
  unfolding entry_of
  answered P e h k = go (row_of n) refl h
    where
      go : (o : Option Row) → row_of n ≡ o → ok_or (entry_of o) Refusal.Opcode ≡ Ok e → P
      go None a b = let z : ◌≡◌ {A = ℕ} 0 1 = cc in absurd (omega arith)
      go (Some r) a b =
          let s : e ≡ entry_for r = cc in
          k r a (ap core_entry (own_opcode n r a) ∙ core_entry_lem n r a ∙ sym s) s

  pub outside : (x : Refusal) → core_of n ≡ Err x → (row_of n ≡ None) × (x ≡ Refusal.Opcode)
  unfolding entry_of
  outside x h = go (row_of n) refl h
    where
      go : (o : Option Row) → row_of n ≡ o → ok_or (entry_of o) Refusal.Opcode ≡ Err x → (row_of n ≡ None) × (x ≡ Refusal.Opcode)
      go None a b = (a, cc)
      go (Some r) a b = let z : ◌≡◌ {A = ℕ} 0 1 = cc in absurd (omega arith)

module _ (code : List ℕ) (pc : ℕ) where
  pub no_instruction : (x : Refusal) → core_of (u8 code pc) ≡ Err x → Err x ≡ decoded (fetched code pc)
  unfolding decoded
  no_instruction x h = let o = outside (u8 code pc) x h in rw (not_core code pc o.0, o.1)

  pub instruction_is : (e : Entry) → core_of (u8 code pc) ≡ Ok e → (d : Check Decoded) → ((r : Row) → d ≡ decoded_by code pc r e e.format) → d ≡ decoded (fetched code pc)
  instruction_is e h d k = answered (u8 code pc) _ e h (λ r a c s.
      let F : e.format ≡ format_of r.format = ap (λ (x : Entry). x.format) s in
      k r ∙ ap (decoded_by code pc r e) F ∙ by_format_is code pc e r c r.format F ∙ ap decoded (sym (of_core code pc r a)))

-- ---- WIDE

-- what WIDE takes is core, and half as long by itself: computed over all 256
abbrev wide_length : ℕ → ℕ
wide_length n = cond (eqb n 132) 6 4

abbrev found_wide : ℕ → (Bool × ℕ)
found_wide n = cond (widens n) (is_some (row_of n), 2 * length_in (core_entry n).format) (true, 0)

abbrev expected_wide : ℕ → (Bool × ℕ)
expected_wide n = cond (widens n) (true, wide_length n) (true, 0)

wide_all : map found_wide (up_to 256) ≡ map expected_wide (up_to 256)
unfolding entry_of row_of
wide_all = refl

doubled : (n : ℕ) → widens n ≡ true → (r : Row) → row_of n ≡ Some r → 2 * length_in (entry_for r).format ≡ wide_length n
doubled n allowed r a =
    let both : ◌≡◌ {A = Bool × ℕ} (is_some (row_of n), 2 * length_in (core_entry n).format) (true, wide_length n) =
    rw allowed at (agree found_wide expected_wide 256 wide_all n (below_256 n r a)) in
    ap (λ (x : Entry). 2 * length_in x.format) (sym (core_entry_lem n r a)) ∙ ap (λ (p : Bool × ℕ). p.1) both

module _ (code : List ℕ) (pc : ℕ) where
  module _ (there : pc + 1 < length code) (allowed : widens (wide_opcode code pc) ≡ true) where
    pub no_wide : (x : Refusal) → core_of (wide_opcode code pc) ≡ Err x → Err x ≡ decoded (wide_check code pc)
    unfolding decoded wide_check ◌else◌ ◌>>◌ ◌>>=◌
    no_wide x h = let o = outside (wide_opcode code pc) x h in rw (lt-ltb (pc + 1) (length code) there, allowed, o.0, o.1)

    module _ (e : Entry) (found : core_of (wide_opcode code pc) ≡ Ok e) where
      -- an instruction of n bytes is of twice the entry's length
      twice : (n : ℕ) (o : Operand) → wide_length (wide_opcode code pc) ≡ n → ((r : Row) → row_of (wide_opcode code pc) ≡ Some r → wide_check code pc ≡ sized code pc r n o)
          → sized_of code pc e (2 * length_in e.format) o.index (low 32 o.constant) ≡ decoded (wide_check code pc)
      twice n o l k = answered (wide_opcode code pc) _ e found (λ r a c s.
          ap (λ (m : ℕ). sized_of code pc e m o.index (low 32 o.constant)) (ap (λ (x : Entry). 2 * length_in x.format) s ∙ doubled (wide_opcode code pc) allowed r a ∙ l)
          ∙ sized_is code pc e r c n o ∙ ap decoded (sym (k r a)))

      pub wide_increment : wide_opcode code pc ≡ 132 → sized_of code pc e (2 * length_in e.format) (u16 code (pc + 2)) (low 32 (s16 code (pc + 4))) ≡ decoded (wide_check code pc)
      wide_increment h = twice 6 (operands (u16 code (pc + 2)) (s16 code (pc + 4)) []) (rw (eq-eqb _ 132 h)) (λ r a. wide_iinc code pc there allowed r a h)

      pub wide_other : (wide_opcode code pc ≡ 132 → ⊥) → sized_of code pc e (2 * length_in e.format) (u16 code (pc + 2)) 0 ≡ decoded (wide_check code pc)
      unfolding low
      wide_other h = twice 4 (operands (u16 code (pc + 2)) (pos 0) []) (rw (ne_eqb _ 132 h)) (λ r a. wide_local code pc there allowed r a h)
