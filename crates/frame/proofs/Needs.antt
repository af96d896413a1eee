-- Questions 6 to 8 by the entry of an instruction are those of the rules. Assumes nothing.
use Prim.Native.Nat.{ℕ, ◌+◌, ◌-◌}
use mathlib.Core.Path.{◌≡◌, refl}
use mathlib.Core.Bool.{Bool, true, false, ◌&&◌}
use mathlib.Core.List.{List}
use Rattle.values.specs.Kinds.{Kind, int, long, float, double, reference, any, places_of}
use Rattle.rules.specs.declared.states.State.{State}
use Rattle.rules.specs.Check.{Check, ◌>>◌}
use Rattle.rules.specs.Instructions.{row_of}
use Rattle.rules.specs.Fetch.{Instruction}
use Rattle.rules.specs.Questions.{Method, popped, pushed, locals_below, constant_check, needs_check}
use Rattle.rules.specs.Step.{base}
use Rattle.rules.proofs.Fetched.{Sound}
use Rattle.rules.proofs.Rows.{of_row, small, small_row, OneLocal, no_local, one_local, one_named}
use Rattle.instructions.specs.Table.{core_entry}
use Rattle.instructions.proofs.Entries.{core_entry_lem}
use Rattle.frame.specs.declared.places.Placed.{Placed}
use Rattle.frame.specs.Place.{local_there, place_check, answer, place_of}
use Rattle.std.specs.Prelude.{Ok, Err}

and_yes : (t : Bool) → (t && true) ≡ t
and_yes true = refl
and_yes false = refl

one_local_below : (limit x : ℕ) {ks : List Kind} → OneLocal ks → locals_below limit x ks ≡ local_there (places_of ks) x limit
one_local_below limit x no_local = refl
one_local_below limit x (one_local int _) = and_yes _
one_local_below limit x (one_local long _) = and_yes _
one_local_below limit x (one_local float _) = and_yes _
one_local_below limit x (one_local double _) = and_yes _
one_local_below limit x (one_local reference _) = and_yes _
one_local_below limit x (one_local any _) = and_yes _

in_turn : (x y z : Check (Unit {0})) → ((x >> y) >> z) ≡ (x >> (y >> z))
unfolding ◌>>◌
in_turn (Ok t) y z = refl
in_turn (Err n) y z = refl

-- question 9
abbrev pub pool_asked : Method → Instruction → Check (Unit {0})
pool_asked l i = constant_check l.kinds i.operand.index i.rule.constants

-- what an answer to questions 6 to 8 says of all needs, of the first place and of the new depth
pub record Stands (l : Method) (s : State) (i : Instruction) (first depth : ℕ) : Type 0 where
  pub asked : needs_check l s i ≡ pool_asked l i
  pub based : base s i ≡ first
  pub deep : s.depth - popped i + pushed i ≡ depth

abbrev pub Says : Method → State → Instruction → Check Placed → Type 0
Says l s i (Ok p) = Stands l s i p.base p.depth
Says l s i (Err n) = needs_check l s i ≡ Err n

module _ (code : List ℕ) (pc : ℕ) (i : Instruction) (t : Sound code pc i) where
  pub popped_in : (core_entry i.opcode).pops ≡ popped i
  popped_in = rw (core_entry_lem i.opcode t.row t.found, t.ruled)

  pub pushed_in : (core_entry i.opcode).pushes ≡ pushed i
  pushed_in = rw (core_entry_lem i.opcode t.row t.found, t.ruled)

  pub locals_in_lem : (core_entry i.opcode).locals ≡ places_of i.rule.locals
  locals_in_lem = rw (core_entry_lem i.opcode t.row t.found, t.ruled)

  module _ (s : State) where
    local_below : locals_below s.max_locals i.operand.index i.rule.locals ≡ local_there (core_entry i.opcode).locals i.operand.index s.max_locals
    local_below =
        let few = of_row (λ r. small r.rule) (λ r. true) (row_of i.opcode) t.row (small_row i.opcode) t.found in
        rw locals_in_lem (one_local_below s.max_locals i.operand.index {ks = i.rule.locals} (rw t.ruled (one_named t.row.rule few)))

    module _ (l : Method) where
      pub needs_by_entry : needs_check l s i ≡ (place_check (core_entry i.opcode) i.operand.index s >> pool_asked l i)
      unfolding needs_check place_check
      needs_by_entry = rw (popped_in, pushed_in, local_below) (simp in_turn)

      answer_says : (x : Check (Unit {0})) → needs_check l s i ≡ (x >> pool_asked l i) → Says l s i (answer (core_entry i.opcode) s x)
      unfolding ◌>>◌
      answer_says (Ok u) e = record {
        asked = e;
        based = rw popped_in;
        deep = rw (popped_in, pushed_in);
      }
      answer_says (Err n) e = e

      pub place_says : Says l s i (place_of (core_entry i.opcode) i.operand.index s)
      unfolding place_of
      place_says = answer_says _ needs_by_entry
