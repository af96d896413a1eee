-- An instruction that is decoded and placed comes to what the rules decide, in a method without handlers. Assumes nothing.
use Prim.Native.Nat.{ℕ, ◌+◌, ◌-◌}
use mathlib.Core.Path.{◌≡◌, refl, sym, ap, ◌∙◌}
use mathlib.Core.Bool.{Bool, true, false, ◌||◌, cond}
use mathlib.Core.List.{List, [], ◌∷◌}
use lib.Dec.{eqb}
use lib.IntN.{ℤ}
use lib.ListN.{length, take}
use borrow.Author.Tests.{eqb-true}
use Rattle.values.specs.Kinds.{int, places_of}
use Rattle.values.specs.Integers.{signed, low}
use Rattle.values.specs.Words.{meaning}
use Rattle.rules.specs.declared.states.State.{State}
use Rattle.rules.specs.Check.{Check, ◌>>=◌}
use Rattle.rules.specs.Forms.{Rule, Operand, Result, offset_for, pushes, stores, divides, branches, returns}
use Rattle.rules.specs.Fetch.{Instruction, operands, fetched}
use Rattle.rules.specs.Questions.{Method, popped, pushed, frame_check, needs_check}
use Rattle.rules.specs.Handlers.{handler_from}
use Rattle.rules.specs.Step.{frame, base, words_at, six, update, inside, ordinary, following, target, thrown_at, outcome, decision, decide_of}
use Rattle.rules.proofs.Rows.{works}
use Rattle.rules.proofs.Fetched.{Sound}
use Rattle.rules.proofs.Step.{result, decided}
use Rattle.operands.specs.Switch.{offset_in, table_offset, lookup_offset}
use Rattle.instructions.specs.Table.{is_in, shared_of, core_entry}
use Rattle.instructions.proofs.Entries.{core_entry_lem}
use Rattle.effects.specs.declared.outcome.Effect.{Effect}
use Rattle.effects.specs.Effects.{effect_of, effect_at}
use Rattle.effects.specs.Families.{shared_opcodes}
use Rattle.effects.proofs.OwnRow.{own_effect_lem, shared_listed}
use Rattle.frame.proofs.Needs.{Stands, pushed_in, locals_in_lem}
use Rattle.return_types.specs.Settled.{settled}
use Rattle.interpreter.specs.declared.finishing.Located.{Located}
use Rattle.interpreter.specs.Stages.{located_of, ordinary_to, offset_at, branch_of, finish_of}
use Rattle.interpreter.proofs.Results.{does_four, is_store, row_stores_lem, offset_by, offset_of, row_offset_lem, row_table, row_pairs}
use Rattle.std.specs.Prelude.{Ok, Err}
use Rattle.rules.specs.declared.halts.Halt.TheVariants.{Throw}

-- ---- what a result comes to

module _ (l : Method) (s : State) (i : Instruction) where
  ordinary_is : (to : ℤ) (at n : ℕ) (ws : List ℕ)
      → decision (ordinary l s i to at n ws) ≡ settled s.return_type (ordinary_to (inside l.code to) (s.depth - popped i + pushed i) at n (six ws))
  unfolding ◌>>=◌
  ordinary_is to at n ws = go (inside l.code to)
    where
      go : (x : Check ℕ)
          → decision (x >>= λ pc. Ok (Ok (update pc (s.depth - popped i + pushed i) at n ws)))
          ≡ settled s.return_type (ordinary_to x (s.depth - popped i + pushed i) at n (six ws))
      go (Ok pc) = refl
      go (Err n) = refl

  -- a located instruction is this one, if it stores where `store` says and branches by z on a key
  record Locates (i' : Located) (store : Bool) (z : ℤ) (key : ℕ) : Type 0 where
    next : i'.next ≡ s.pc + i.size
    deep : i'.depth ≡ s.depth - popped i + pushed i
    first : i'.first ≡ cond store i.operand.index (base s i)
    many : i'.many ≡ cond store (places_of i.rule.locals) (pushed i)
    offset : offset_at l.code s.pc i'.op i'.constant key ≡ z

  module _ (bare : l.handlers ≡ []) (i' : Located) (key : ℕ) (z : ℤ) where
    uncaught : decision (thrown_at l s s.pc) ≡ (Err Throw)
    unfolding thrown_at handler_from
    uncaught = rw bare

    finished_by : (r : Result) → Locates i' (is_store r) (offset_by z r) key → settled s.return_type (finish_of l.code s.pc i' key (effect_of r)) ≡ decision (outcome l s i r)
    unfolding finish_of branch_of
    finished_by (pushes ws) h = rw (h.next, h.deep, h.first, h.many) (sym (ordinary_is (following s i) (base s i) (pushed i) ws))
    finished_by (stores ws) h = rw (h.next, h.deep, h.first, h.many) (sym (ordinary_is (following s i) i.operand.index (places_of i.rule.locals) ws))
    finished_by (divides by ws) h = go (eqb by 0)
      where
        go : (t : Bool) → settled s.return_type (finish_of l.code s.pc i' key (cond t Effect.Throw (Effect.Words (six ws)))) ≡ decision (cond t (thrown_at l s s.pc) (ordinary l s i (following s i) (base s i) (pushed i) ws))
        go true = sym uncaught
        go false = rw (h.next, h.deep, h.first, h.many) (sym (ordinary_is (following s i) (base s i) (pushed i) ws))
    finished_by (branches t y) h = rw (h.next, h.deep, h.offset) (sym (ordinary_is (cond t (target s y) (following s i)) 0 0 []))
    finished_by (returns v) h = refl

-- ---- an instruction that is fetched

abbrev pub located_at : State → Instruction → ℕ → ℕ → Located
located_at s i first depth = located_of (core_entry i.opcode) i.operand.index (low 32 i.operand.constant) (s.pc + i.size) first depth

module _ (l : Method) (s : State) (i : Instruction) (f : Sound l.code s.pc i) where
  pub shared_is : (core_entry i.opcode).shared ≡ shared_of f.row
  shared_is = rw (core_entry_lem i.opcode f.row f.found)

  pub listed : is_in shared_opcodes (core_entry i.opcode).shared ≡ true
  listed = rw shared_is (shared_listed i.opcode f.row f.found)

  -- its operand, with the constant taken from its word
  operand_is : operands i.operand.index (signed 31 (low 32 i.operand.constant)) i.operand.pairs ≡ i.operand
  operand_is = rw f.int_constant refl

  offset_is : (key : ℕ) → offset_at l.code s.pc (shared_of f.row) (low 32 i.operand.constant) key ≡ offset_of (shared_of f.row) i.operand key
  unfolding offset_at table_offset lookup_offset
  offset_is key = go (eqb (shared_of f.row) 170) refl (eqb (shared_of f.row) 171) refl
    where
      go : (t : Bool) → eqb (shared_of f.row) 170 ≡ t → (u : Bool) → eqb (shared_of f.row) 171 ≡ u
          → cond t (table_offset l.code s.pc (meaning int key)) (cond u (lookup_offset l.code s.pc (meaning int key)) (meaning int (low 32 i.operand.constant)))
          ≡ cond (t || u) (offset_for (meaning int key) i.operand.constant i.operand.pairs) i.operand.constant
      go true p u q =
          let t = f.tables (row_table i.opcode f.row f.found (eqb-true _ _ p)) in
          rw t.1 (ap (λ (o : Operand). offset_in o (meaning int key)) (sym t.0))
      go false p true q =
          let t = f.lookups (row_pairs i.opcode f.row f.found (eqb-true _ _ q)) in
          rw t.1 (ap (λ (o : Operand). offset_in o (meaning int key)) (sym t.0))
      go false p false q = f.int_constant

  module _ (first depth : ℕ) (st : Stands l s i first depth) where
    located : (a b c d : ℕ) → Locates l s i (located_at s i first depth) (is_store (does_four f.row i.operand a b c d)) (offset_by i.operand.constant (does_four f.row i.operand a b c d)) a
    unfolding located_of
    located a b c d =
        rw (row_stores_lem i.opcode f.row f.found i.operand a b c d, row_offset_lem i.opcode f.row f.found i.operand a b c d)
        (record {
          next = refl;
          deep = sym st.deep;
          first = rw (shared_is, st.based) refl;
          many = rw (shared_is, locals_in_lem _ _ i f, pushed_in _ _ i f) refl;
          offset = rw shared_is (offset_is a);
        })

    -- once four words are what it works on
    module _ (bare : l.handlers ≡ []) (slots : List ℕ) (framed : frame_check l s (length slots) ≡ Ok tt) (at : fetched l.code s.pc ≡ Ok i) (needed : needs_check l s i ≡ Ok tt) where
      pub from_words : (a b c d : ℕ) → words_at i.rule.reads l s (frame s slots) i ≡ take (works i.rule) (a ∷ b ∷ c ∷ d ∷ [])
          → settled s.return_type (finish_of l.code s.pc (located_at s i first depth) a (effect_at (core_entry i.opcode).shared (low 32 i.operand.constant) a b c d)) ≡ decide_of l s slots
      from_words a b c d w =
          let same : result l s (frame s slots) i ≡ does_four f.row i.operand a b c d =
          ap (i.rule.does i.operand) w ∙ ap (λ (r : Rule). r.does i.operand (take (works r) (a ∷ b ∷ c ∷ d ∷ []))) f.ruled in
          let own : effect_at (core_entry i.opcode).shared (low 32 i.operand.constant) a b c d ≡ effect_of (does_four f.row i.operand a b c d) =
          rw shared_is (sym (own_effect_lem i.opcode f.row f.found i.operand.index (low 32 i.operand.constant) i.operand.pairs a b c d)
          ∙ ap (λ (o : Operand). effect_of (does_four f.row o a b c d)) operand_is) in
          ap (λ (x : Effect). settled s.return_type (finish_of l.code s.pc (located_at s i first depth) a x)) own
          ∙ finished_by l s i bare (located_at s i first depth) a i.operand.constant (does_four f.row i.operand a b c d) (located a b c d)
          ∙ ap (λ (r : Result). decision (outcome l s i r)) (sym same)
          ∙ sym (decided l (length slots) s (frame s slots) framed i at needed)
