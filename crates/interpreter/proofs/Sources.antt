-- The four words that the code reads are those that the rules read, wherever they lie; so a located instruction comes to what the rules decide. Assumes nothing.
use Prim.Native.Nat.{ℕ, ◌+◌, ◌≤◌}
use mathlib.Core.Path.{◌≡◌, refl, sym, ap, ◌∙◌}
use mathlib.Core.Bool.{Bool, true, false, ◌||◌, cond}
use mathlib.Core.List.{List, [], ◌∷◌}
use native.Mathlib.Omega.{arith}
use lib.Dec.{eqb}
use lib.ListN.{length, take, drop, get_or, length-drop}
use lib.Seq.{length-take-le}
use Rattle.values.specs.Kinds.{Kind, int, long, float, double, places, places_of}
use Rattle.rules.specs.declared.states.State.{State}
use Rattle.rules.specs.Check.{Check, ◌else◌}
use Rattle.rules.specs.Forms.{Rule, Source, stack, local, pool}
use Rattle.rules.specs.Instructions.{row_of}
use Rattle.rules.specs.Fetch.{Instruction, fetched}
use Rattle.rules.specs.Questions.{Method, popped, pushed, constant_check, frame_check, needs_check}
use Rattle.rules.specs.Step.{frame, base, decide_of}
use Rattle.rules.proofs.Check.{last_passed}
use Rattle.rules.proofs.Rows.{of_row, small, small_row, one_named, local_within, works, works_few}
use Rattle.rules.proofs.Questions.{framed, needed}
use Rattle.rules.proofs.Fetched.{Sound, fetched_sound}
use Rattle.rules.proofs.Step.{refused_by_needs}
use Rattle.instructions.specs.Table.{shared_of}
use Rattle.const_pool.specs.Constant.{found, constant_of}
use Rattle.frame.proofs.Needs.{Stands}
use Rattle.return_types.specs.Settled.{settled}
use Rattle.interpreter.specs.Stages.{located_of, four_at, from_pool, read_of, read_decision, located_decision}
use Rattle.interpreter.proofs.Results.{source_of, row_reads, constant_kinds, row_constants, constant_given, row_given}
use Rattle.interpreter.proofs.FewWords.{few_of_first}
use Rattle.interpreter.proofs.Constants.{constant_within}
use Rattle.interpreter.proofs.Decision.{located_at, shared_is, from_words}
use Rattle.std.specs.Prelude.{Ok, Err}

-- one word or two, by their words
one_or_two : (ws : List ℕ) (n : ℕ) → length ws ≡ n → n ≤ 2 → ws ≡ take n (get_or ws 0 0 ∷ get_or ws 1 0 ∷ 0 ∷ 0 ∷ [])
one_or_two [] n e h = rw (sym e)
one_or_two (a ∷ []) n e h = rw (sym e)
one_or_two (a ∷ b ∷ []) n e h = rw (sym e)
one_or_two (a ∷ b ∷ c ∷ ws) n e h = absurd (omega arith)

module _ (l : Method) (bare : l.handlers ≡ []) (s : State) (slots : List ℕ) (passes : frame_check l s (length slots) ≡ Ok tt) (i : Instruction) (at : fetched l.code s.pc ≡ Ok i) (first depth : ℕ) (st : Stands l s i first depth) where
  sound : Sound l.code s.pc i
  sound = fetched_sound l.code s.pc i at

  reads_from : (p : Source) → source_of (shared_of sound.row) ≡ p → i.rule.reads ≡ p
  reads_from p e = ap (λ (r : Rule). r.reads) sound.ruled ∙ row_reads i.opcode sound.row sound.found ∙ e

  few : works i.rule ≤ 4
  few = rw sound.ruled (works_few i.opcode sound.row sound.found)

  -- ---- no constant

  module _ (none : constant_kinds (shared_of sound.row) ≡ []) where
    no_constant : i.rule.constants ≡ []
    no_constant = ap (λ (r : Rule). r.constants) sound.ruled ∙ row_constants i.opcode sound.row sound.found ∙ none

    needs_pass : needs_check l s i ≡ Ok tt
    unfolding ◌else◌
    needs_pass = st.asked ∙ rw no_constant refl

    on_stack : i.rule.reads ≡ stack → settled s.return_type (read_decision l.code s.pc (located_at s i first depth) (Ok (four_at slots first))) ≡ decide_of l s slots
    unfolding located_of
    on_stack e =
        let n = needed l s i needs_pass in
        let f = framed l s (length slots) passes in
        let k = rw e at few in
        from_words l s i sound first depth st bare slots passes at needs_pass _ _ _ _
        (rw (e, ← st.based) (few_of_first slots (s.max_locals + s.max_stack) (base s i) (popped i) k f.room (λ h. omega arith)))

    in_local : i.rule.reads ≡ local → settled s.return_type (read_decision l.code s.pc (located_at s i first depth) (Ok (four_at slots i.operand.index))) ≡ decide_of l s slots
    unfolding located_of
    in_local e =
        let n = needed l s i needs_pass in
        let f = framed l s (length slots) passes in
        let k = rw e at few in
        let one = one_named i.rule (rw sound.ruled (of_row (λ r. small r.rule) (λ r. true) (row_of i.opcode) sound.row (small_row i.opcode) sound.found)) in
        from_words l s i sound first depth st bare slots passes at needs_pass _ _ _ _
        (rw e (few_of_first slots (s.max_locals + s.max_stack) i.operand.index (places_of i.rule.locals) k f.room (λ h.
        let c = local_within s.max_locals i.operand.index one n.local_there_lem h in omega arith)))

  -- ---- a constant of one of two kinds

  module _ (j k : Kind) (alike : places k ≡ places j) (short : places j ≤ 2) (kinds : constant_kinds (shared_of sound.row) ≡ j ∷ k ∷ []) (gives : constant_given (shared_of sound.row) sound.row.rule.gives ≡ j ∷ [])
      (reads : i.rule.reads ≡ pool) where
    its_kinds : i.rule.constants ≡ j ∷ k ∷ []
    its_kinds = ap (λ (r : Rule). r.constants) sound.ruled ∙ row_constants i.opcode sound.row sound.found ∙ kinds

    its_places : pushed i ≡ places j
    its_places = ap (λ (r : Rule). places_of r.gives) sound.ruled ∙ ap places_of (row_given i.opcode sound.row sound.found ∙ gives) ∙ omega arith

    in_pool_lem : settled s.return_type (read_decision l.code s.pc (located_at s i first depth) (from_pool (constant_of l.kinds l.words i.operand.index j k))) ≡ decide_of l s slots
    unfolding located_of constant_of
    in_pool_lem = go (constant_check l.kinds i.operand.index (j ∷ k ∷ [])) refl
      where
        asks : (x : Check (Unit {0})) → constant_check l.kinds i.operand.index (j ∷ k ∷ []) ≡ x → needs_check l s i ≡ x
        asks x e = st.asked ∙ ap (constant_check l.kinds i.operand.index) its_kinds ∙ e

        go : (x : Check (Unit {0})) → constant_check l.kinds i.operand.index (j ∷ k ∷ []) ≡ x
            → settled s.return_type (read_decision l.code s.pc (located_at s i first depth) (from_pool (found (take (places j) (drop i.operand.index l.words)) x))) ≡ decide_of l s slots
        go (Ok t) e =
            let f = framed l s (length slots) passes in
            let c = constant_within l.kinds i.operand.index j k alike (last_passed _ _ e) in
            let long : length (take (places j) (drop i.operand.index l.words)) ≡ places j = length-take-le (places j) (drop i.operand.index l.words) (omega (arith, length-drop i.operand.index l.words)) in
            from_words l s i sound first depth st bare slots passes at (asks (Ok t) e) _ _ _ _
            (rw (reads, its_places) (one_or_two (take (places j) (drop i.operand.index l.words)) (places j) long short))
        go (Err n) e = sym (refused_by_needs l (length slots) s (frame s slots) passes i at n (asks (Err n) e))

  -- ---- THE LAW: a located instruction comes to what the rules decide

  pub located_decides : settled s.return_type (located_decision l slots s.pc (located_at s i first depth)) ≡ decide_of l s slots
  unfolding located_decision read_of located_of
  located_decides =
      ap (λ (op : ℕ). settled s.return_type (read_decision l.code s.pc (located_at s i first depth) (read_of l slots op i.operand.index first))) (shared_is l s i sound)
      ∙ go (eqb op 18) refl (eqb op 20) refl (eqb op 21 || eqb op 22 || eqb op 132) refl
    where
      op : ℕ
      op = shared_of sound.row

      go : (t : Bool) → eqb op 18 ≡ t → (u : Bool) → eqb op 20 ≡ u → (v : Bool) → (eqb op 21 || eqb op 22 || eqb op 132) ≡ v
          → settled s.return_type (read_decision l.code s.pc (located_at s i first depth)
          (cond t (from_pool (constant_of l.kinds l.words i.operand.index int float))
          (cond u (from_pool (constant_of l.kinds l.words i.operand.index long double))
          (cond v (Ok (four_at slots i.operand.index)) (Ok (four_at slots first))))))
          ≡ decide_of l s slots
      go true p u q v r = in_pool_lem int float refl (omega arith) (rw p refl) (rw p refl) (reads_from pool (rw p refl))
      go false p true q v r = in_pool_lem long double refl (omega arith) (rw (p, q) refl) (rw (p, q) refl) (reads_from pool (rw (p, q) refl))
      go false p false q true r = in_local (rw (p, q) refl) (reads_from local (rw (p, q, r) refl))
      go false p false q false r = on_stack (rw (p, q) refl) (reads_from stack (rw (p, q, r) refl))
