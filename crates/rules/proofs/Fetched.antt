-- What holds of each instruction that is fetched: its opcode's rule, its bytes in the code, its constant an int, a switch's operands. Assumes nothing.
use Prim.Native.Nat.{ℕ, suc, ◌+◌, ◌-◌, ◌^◌, ◌≤◌, ◌<◌}
use mathlib.Core.Path.{◌≡◌, refl, sym, ap, ◌∙◌}
use mathlib.Core.Bool.{Bool, true, false, cond}
use mathlib.Core.List.{List, []}
use native.Mathlib.Omega.{arith}
use lib.Dec.{ltb, eqb, leb}
use lib.Pow.{pow_pos}
use lib.IntN.{ℤ, pos, negsuc}
use lib.ListN.{length}
use borrow.Author.Tests.{leb-true, ltb-true, ltb-false}
use Rattle.values.specs.Integers.{signed, low, ◌≤ᶻ◌}
use Rattle.values.proofs.Integers.{signed_plus, signed_minus, low_plus, low_minus}
use Rattle.rules.specs.Forms.{Row, Format, alone, implied, byte, short, index, index2, index_const, branch, branch4, table, pairs, widened}
use Rattle.rules.specs.Instructions.{instructions, row_of}
use Rattle.rules.specs.Fetch.{Instruction, instruction, operands, u8, core, core_row, by_format, fetched, widens, wide_check, aligned, low_key, high_key, table_check, table_end, table_operand, pair_count, lookup_check, pairs_end, pairs_operand}
use Rattle.rules.proofs.Check.{Holds, asked, bound, held, either}
use Rattle.rules.proofs.Rows.{OfRow, every_row_lem, of_row, own_opcode}
use Rattle.std.specs.Prelude.{Ok, Some, None, Option}

core_row_lem : (o : Option Row) (r : Row) → core_row o ≡ Ok r → o ≡ Some r
core_row_lem None r e = absurd (cc)
core_row_lem (Some q) r e = cc

own_row : (n : ℕ) (r : Row) → row_of n ≡ Some r → row_of r.opcode ≡ Some r
own_row n r e = ap row_of (own_opcode n r e) ∙ e

-- ---- a number that is an int is what its 32 low bits mean

abbrev pub IsInt : ℤ → Type 0
IsInt z = signed 31 (low 32 z) ≡ z

int_plus : (n : ℕ) → n < 2 ^ 31 → IsInt (pos n)
int_plus n l = ap (signed 31) (low_plus 32 n (omega arith)) ∙ signed_plus 31 n l

int_minus : (n : ℕ) → n < 2 ^ 31 → IsInt (negsuc n)
int_minus n l = ap (signed 31) (low_minus 32 n (omega arith)) ∙ signed_minus 31 (2 ^ 32 - suc n) (omega arith) ∙ ap negsuc (omega arith)

int_signed : (h n : ℕ) → 2 ^ h ≤ 2 ^ 31 → 2 ^ suc h ≡ 2 ^ h + 2 ^ h → IsInt (signed h n)
int_signed h n l d = go (ltb n (2 ^ h)) refl
  where
    go : (t : Bool) → ltb n (2 ^ h) ≡ t → IsInt (signed h n)
    go true e = let k = ltb-true n (2 ^ h) e in rw (signed_plus h n k) (int_plus n (omega arith))
    go false e = let k = ltb-false n (2 ^ h) e in rw (signed_minus h n k) (int_minus (2 ^ suc h - suc n) (omega (arith, pow_pos h)))

int_8 : (n : ℕ) → IsInt (signed 7 n)
int_8 n = int_signed 7 n (omega arith) refl

int_16 : (n : ℕ) → IsInt (signed 15 n)
int_16 n = int_signed 15 n (omega arith) refl

int_32 : (n : ℕ) → IsInt (signed 31 n)
int_32 n = int_signed 31 n (omega arith) refl

int_0 : IsInt (pos 0)
int_0 = int_plus 0 (omega arith)

-- ---- what WIDE takes is no switch

is_switch : Format → Bool
is_switch alone = false
is_switch (implied n) = false
is_switch byte = false
is_switch short = false
is_switch index = false
is_switch index2 = false
is_switch index_const = false
is_switch branch = false
is_switch branch4 = false
is_switch table = true
is_switch pairs = true
is_switch widened = false

wide_all : (n : ℕ) → OfRow (λ r. cond (widens r.opcode) (is_switch r.format) false) (λ r. false) (row_of n)
unfolding instructions is_switch
wide_all n = every_row_lem (λ r. cond (widens r.opcode) (is_switch r.format) false) (λ r. false) refl n

wide_plain : (n : ℕ) (r : Row) → row_of n ≡ Some r → widens n ≡ true → is_switch r.format ≡ false
wide_plain n r e w =
    let taken : widens r.opcode ≡ true = ap (λ (m : ℕ). widens m) (own_opcode n r e) ∙ w in
    sym (ap (λ (t : Bool). cond t (is_switch r.format) false) taken) ∙ of_row (λ r. cond (widens r.opcode) (is_switch r.format) false) (λ r. false) (row_of n) r (wide_all n) e

-- ---- by one pass over the formats

-- what a fetch of an instruction at pc says of it
pub record Sound (code : List ℕ) (pc : ℕ) (i : Instruction) : Type 0 where
  pub row : Row
  pub found : row_of i.opcode ≡ Some row
  pub ruled : i.rule ≡ row.rule
  pub in_code : pc + i.size ≤ length code
  pub int_constant : IsInt i.operand.constant
  pub tables : row.format ≡ table → (i.operand ≡ table_operand code pc) × ((low_key code pc ≤ᶻ high_key code pc) ≡ true)
  pub lookups : row.format ≡ pairs → (i.operand ≡ pairs_operand code pc) × ((pos 0 ≤ᶻ pair_count code pc) ≡ true)

past : (pc : ℕ) → pc ≤ aligned pc
past pc = omega arith

no_switch : {A : Type 0} (f g : Format) → is_switch f ≡ false → is_switch g ≡ true → f ≡ g → A
no_switch f g h k e = let z : ◌≡◌ {A = Bool} true false = sym k ∙ ap is_switch (sym e) ∙ h in absurd (cc)

module _ (code : List ℕ) (pc : ℕ) where
  abbrev S : Instruction → Type 0
  S i = Sound code pc i

  plain : (r : Row) → row_of r.opcode ≡ Some r → is_switch r.format ≡ false → (n x : ℕ) (c : ℤ) → IsInt c → leb (pc + n) (length code) ≡ true
      → S (instruction r n (operands x c []))
  unfolding is_switch
  plain r own h n x c int l = record {
    row = r;
    found = own;
    ruled = refl;
    in_code = leb-true (pc + n) (length code) l;
    int_constant = int;
    tables = λ e. no_switch r.format table h refl e;
    lookups = λ e. no_switch r.format pairs h refl e;
  }

  by_table : (r : Row) → row_of r.opcode ≡ Some r → r.format ≡ table → (low_key code pc ≤ᶻ high_key code pc) ≡ true → leb (table_end code pc) (length code) ≡ true
      → S (instruction r (table_end code pc - pc) (table_operand code pc))
  by_table r own f k l =
      let end = leb-true (table_end code pc) (length code) l in
      let p = past pc in
      record {
        row = r;
        found = own;
        ruled = refl;
        in_code = omega arith;
        int_constant = int_32 _;
        tables = λ e. (refl, k);
        lookups = λ e. absurd (cc);
      }

  by_pairs : (r : Row) → row_of r.opcode ≡ Some r → r.format ≡ pairs → (pos 0 ≤ᶻ pair_count code pc) ≡ true → leb (pairs_end code pc) (length code) ≡ true
      → S (instruction r (pairs_end code pc - pc) (pairs_operand code pc))
  by_pairs r own f k l =
      let end = leb-true (pairs_end code pc) (length code) l in
      let p = past pc in
      record {
        row = r;
        found = own;
        ruled = refl;
        in_code = omega arith;
        int_constant = int_32 _;
        tables = λ e. absurd (cc);
        lookups = λ e. (refl, k);
      }

  by_format_lem : (r : Row) → row_of r.opcode ≡ Some r → (f : Format) → r.format ≡ f → Holds S (by_format code pc r f)
  unfolding Holds is_switch wide_check table_check lookup_check
  by_format_lem r own alone e = asked S _ _ _ (λ l. plain r own (ap is_switch e) _ _ _ int_0 l)
  by_format_lem r own (implied n) e = asked S _ _ _ (λ l. plain r own (ap is_switch e) _ _ _ int_0 l)
  by_format_lem r own byte e = asked S _ _ _ (λ l. plain r own (ap is_switch e) _ _ _ (int_8 _) l)
  by_format_lem r own short e = asked S _ _ _ (λ l. plain r own (ap is_switch e) _ _ _ (int_16 _) l)
  by_format_lem r own index e = asked S _ _ _ (λ l. plain r own (ap is_switch e) _ _ _ int_0 l)
  by_format_lem r own index2 e = asked S _ _ _ (λ l. plain r own (ap is_switch e) _ _ _ int_0 l)
  by_format_lem r own index_const e = asked S _ _ _ (λ l. plain r own (ap is_switch e) _ _ _ (int_8 _) l)
  by_format_lem r own branch e = asked S _ _ _ (λ l. plain r own (ap is_switch e) _ _ _ (int_16 _) l)
  by_format_lem r own branch4 e = asked S _ _ _ (λ l. plain r own (ap is_switch e) _ _ _ (int_32 _) l)
  by_format_lem r own table e = asked S _ _ _ (λ _. asked S _ _ _ (λ k. asked S _ _ _ (λ l. by_table r own e k l)))
  by_format_lem r own pairs e = asked S _ _ _ (λ _. asked S _ _ _ (λ k. asked S _ _ _ (λ l. asked S _ _ _ (λ _. by_pairs r own e k l))))
  by_format_lem r own widened e = asked S _ _ _ (λ _. asked S _ _ _ (λ w. bound S (core (u8 code (pc + 1))) _ (λ q c.
      let found = core_row_lem _ q c in
      let p = wide_plain (u8 code (pc + 1)) q found w in
      let of = own_row _ q found in
      either S (eqb (u8 code (pc + 1)) 132) _ _ (asked S _ _ _ (λ l. plain q of p _ _ _ (int_16 _) l)) (asked S _ _ _ (λ l. plain q of p _ _ _ int_0 l)))))

  pub fetched_sound : (i : Instruction) → fetched code pc ≡ Ok i → Sound code pc i
  unfolding fetched
  fetched_sound i e = held S (fetched code pc) i (bound S (core (u8 code pc)) _ (λ r c. by_format_lem r (own_row _ r (core_row_lem _ r c)) r.format refl)) e
