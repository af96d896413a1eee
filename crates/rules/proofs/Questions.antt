-- Questions 1 to 9 one by one: what a yes at all of them says, and the number that the first no gives. Assumes nothing.
use Prim.Native.Nat.{ℕ, ◌+◌, ◌-◌, ◌≤◌, ◌<◌}
use mathlib.Core.Path.{◌≡◌}
use mathlib.Core.Bool.{true, false}
use mathlib.Core.List.{List, []}
use lib.IntN.{pos}
use lib.ListN.{length}
use borrow.Author.Tests.{lt-ltb, le-ltb, le-leb, lt-leb, eq-eqb, ne_eqb, ltb-true, leb-true, eqb-true}
use Rattle.values.specs.Integers.{◌≤ᶻ◌}
use Rattle.rules.specs.declared.states.State.{State}
use Rattle.rules.specs.Check.{◌else◌, ◌>>◌, ◌>>=◌}
use Rattle.rules.specs.Forms.{Row, Operand}
use Rattle.rules.specs.Instructions.{row_of}
use Rattle.rules.specs.Fetch.{Instruction, instruction, operands, u8, u16, s16, sized, widens, wide_opcode, wide_check, aligned, low_key, high_key, table_end, table_operand, table_check, pair_count, key_pairs, pairs_end, pairs_operand, rising, lookup_check, by_format, fetched}
use Rattle.rules.specs.Questions.{Method, frame_size, popped, pushed, locals_below, constant_there, frame_check, needs_check}
use Rattle.rules.proofs.Check.{first_passed, last_passed}
use Rattle.std.specs.Prelude.{Ok, Err, Some, None}
use Rattle.rules.specs.declared.refusals.Refusal.{Refusal}

-- ---- questions 1 to 3

pub record Framed (l : Method) (s : State) (n : ℕ) : Type 0 where
  pub paired : length l.kinds ≡ length l.words
  pub pool : length l.kinds ≤ 65536
  pub room : frame_size s ≤ n
  pub some_code : 1 ≤ length l.code
  pub short_code : length l.code ≤ 65535
  pub in_code : s.pc < length l.code
  pub deep : s.depth ≤ s.max_stack

module _ (l : Method) (s : State) (n : ℕ) where
  pub framed : frame_check l s n ≡ Ok tt → Framed l s n
  unfolding frame_check
  framed e =
      let a = first_passed _ _ _ e in
      let b = first_passed _ _ _ a.1 in
      let c = first_passed _ _ _ b.1 in
      let d = first_passed _ _ _ c.1 in
      let f = first_passed _ _ _ d.1 in
      let g = first_passed _ _ _ f.1 in
      record {
        paired = eqb-true _ _ a.0;
        pool = leb-true _ _ b.0;
        room = leb-true _ _ c.0;
        some_code = leb-true _ _ d.0;
        short_code = leb-true _ _ f.0;
        in_code = ltb-true _ _ g.0;
        deep = leb-true _ _ (last_passed _ _ g.1);
      }

  pub frame_passed : Framed l s n → frame_check l s n ≡ Ok tt
  unfolding frame_check ◌else◌ ◌>>◌
  frame_passed f = simp (eq-eqb _ _ f.paired, le-leb _ _ f.pool, le-leb _ _ f.room, le-leb _ _ f.some_code, le-leb _ _ f.short_code, lt-ltb _ _ f.in_code, le-leb _ _ f.deep)

  -- 1
  pub unpaired : (length l.kinds ≡ length l.words → ⊥) → frame_check l s n ≡ Err Refusal.Lengths
  unfolding frame_check ◌else◌ ◌>>◌
  unpaired h = simp (ne_eqb _ _ h)

  module _ (paired : length l.kinds ≡ length l.words) where
    pub long_pool : 65536 < length l.kinds → frame_check l s n ≡ Err Refusal.Lengths
    unfolding frame_check ◌else◌ ◌>>◌
    long_pool h = simp (eq-eqb _ _ paired, lt-leb _ _ h)

    module _ (pool : length l.kinds ≤ 65536) where
      pub no_room : n < frame_size s → frame_check l s n ≡ Err Refusal.Lengths
      unfolding frame_check ◌else◌ ◌>>◌
      no_room h = simp (eq-eqb _ _ paired, le-leb _ _ pool, lt-leb _ _ h)

      -- 2
      module _ (room : frame_size s ≤ n) where
        pub no_code : length l.code < 1 → frame_check l s n ≡ Err Refusal.Code
        unfolding frame_check ◌else◌ ◌>>◌
        no_code h = simp (eq-eqb _ _ paired, le-leb _ _ pool, le-leb _ _ room, lt-leb _ _ h)

        module _ (some_code : 1 ≤ length l.code) where
          pub long_code : 65535 < length l.code → frame_check l s n ≡ Err Refusal.Code
          unfolding frame_check ◌else◌ ◌>>◌
          long_code h = simp (eq-eqb _ _ paired, le-leb _ _ pool, le-leb _ _ room, le-leb _ _ some_code, lt-leb _ _ h)

          module _ (short_code : length l.code ≤ 65535) where
            pub outside : length l.code ≤ s.pc → frame_check l s n ≡ Err Refusal.Code
            unfolding frame_check ◌else◌ ◌>>◌
            outside h = simp (eq-eqb _ _ paired, le-leb _ _ pool, le-leb _ _ room, le-leb _ _ some_code, le-leb _ _ short_code, le-ltb _ _ h)

            -- 3
            pub too_deep : s.pc < length l.code → s.max_stack < s.depth → frame_check l s n ≡ Err Refusal.Depth
            unfolding frame_check ◌else◌ ◌>>◌
            too_deep i h = simp (eq-eqb _ _ paired, le-leb _ _ pool, le-leb _ _ room, le-leb _ _ some_code, le-leb _ _ short_code, lt-ltb _ _ i, lt-leb _ _ h)

-- each answer of questions 1 to 3, for `grind`
pub ruleset frame_answers = (unpaired, long_pool, no_room, no_code, long_code, outside, too_deep, frame_passed)

-- ---- questions 4 and 5

module _ (code : List ℕ) (pc : ℕ) where
  pub not_core : row_of (u8 code pc) ≡ None → fetched code pc ≡ Err Refusal.Opcode
  unfolding fetched ◌>>=◌
  not_core e = rw e

  pub of_core : (r : Row) → row_of (u8 code pc) ≡ Some r → fetched code pc ≡ by_format code pc r r.format
  unfolding fetched ◌>>=◌
  of_core r e = rw e

  pub operands_there : (r : Row) (n : ℕ) (o : Operand) → pc + n ≤ length code → sized code pc r n o ≡ Ok (instruction r n o)
  unfolding ◌else◌ ◌>>◌
  operands_there r n o h = simp (le-leb _ _ h)

  pub operands_missing : (r : Row) (n : ℕ) (o : Operand) → length code < pc + n → sized code pc r n o ≡ Err Refusal.OperandBytes
  unfolding ◌else◌ ◌>>◌
  operands_missing r n o h = simp (lt-leb _ _ h)

  -- WIDE
  pub wide_cut : length code ≤ pc + 1 → wide_check code pc ≡ Err Refusal.OperandBytes
  unfolding wide_check ◌else◌ ◌>>◌
  wide_cut h = simp (le-ltb _ _ h)

  module _ (there : pc + 1 < length code) where
    pub wide_not_allowed : widens (wide_opcode code pc) ≡ false → wide_check code pc ≡ Err Refusal.Opcode
    unfolding wide_check ◌else◌ ◌>>◌
    wide_not_allowed h = simp (lt-ltb _ _ there, h)

    module _ (allowed : widens (wide_opcode code pc) ≡ true) (r : Row) (row : row_of (wide_opcode code pc) ≡ Some r) where
      pub wide_iinc : wide_opcode code pc ≡ 132 → wide_check code pc ≡ sized code pc r 6 (operands (u16 code (pc + 2)) (s16 code (pc + 4)) [])
      unfolding wide_check ◌else◌ ◌>>◌ ◌>>=◌
      wide_iinc h = rw (lt-ltb (pc + 1) (length code) there, allowed, row, eq-eqb (wide_opcode code pc) 132 h)

      pub wide_local : (wide_opcode code pc ≡ 132 → ⊥) → wide_check code pc ≡ sized code pc r 4 (operands (u16 code (pc + 2)) (pos 0) [])
      unfolding wide_check ◌else◌ ◌>>◌ ◌>>=◌
      wide_local h = rw (lt-ltb (pc + 1) (length code) there, allowed, row, ne_eqb (wide_opcode code pc) 132 h)

  -- TABLESWITCH
  module _ (r : Row) where
    pub table_cut : length code < aligned pc + 12 → table_check code pc r ≡ Err Refusal.OperandBytes
    unfolding table_check ◌else◌ ◌>>◌
    table_cut h = simp (lt-leb _ _ h)

    module _ (fields : aligned pc + 12 ≤ length code) where
      pub table_disordered : (low_key code pc ≤ᶻ high_key code pc) ≡ false → table_check code pc r ≡ Err Refusal.SwitchKeys
      unfolding table_check ◌else◌ ◌>>◌
      table_disordered h = simp (le-leb _ _ fields, h)

      module _ (ordered : (low_key code pc ≤ᶻ high_key code pc) ≡ true) where
        pub table_missing : length code < table_end code pc → table_check code pc r ≡ Err Refusal.OperandBytes
        unfolding table_check ◌else◌ ◌>>◌
        table_missing h = simp (le-leb _ _ fields, ordered, lt-leb _ _ h)

        pub table_there : table_end code pc ≤ length code → table_check code pc r ≡ Ok (instruction r (table_end code pc - pc) (table_operand code pc))
        unfolding table_check ◌else◌ ◌>>◌
        table_there h = simp (le-leb _ _ fields, ordered, le-leb _ _ h)

    -- LOOKUPSWITCH
    pub lookup_cut : length code < aligned pc + 8 → lookup_check code pc r ≡ Err Refusal.OperandBytes
    unfolding lookup_check ◌else◌ ◌>>◌
    lookup_cut h = simp (lt-leb _ _ h)

    module _ (fields : aligned pc + 8 ≤ length code) where
      pub lookup_negative : (pos 0 ≤ᶻ pair_count code pc) ≡ false → lookup_check code pc r ≡ Err Refusal.SwitchKeys
      unfolding lookup_check ◌else◌ ◌>>◌
      lookup_negative h = simp (le-leb _ _ fields, h)

      module _ (counted : (pos 0 ≤ᶻ pair_count code pc) ≡ true) where
        pub lookup_missing : length code < pairs_end code pc → lookup_check code pc r ≡ Err Refusal.OperandBytes
        unfolding lookup_check ◌else◌ ◌>>◌
        lookup_missing h = simp (le-leb _ _ fields, counted, lt-leb _ _ h)

        module _ (whole : pairs_end code pc ≤ length code) where
          pub lookup_unsorted : rising (key_pairs code pc) ≡ false → lookup_check code pc r ≡ Err Refusal.SwitchKeys
          unfolding lookup_check ◌else◌ ◌>>◌
          lookup_unsorted h = simp (le-leb _ _ fields, counted, le-leb _ _ whole, h)

          pub lookup_there : rising (key_pairs code pc) ≡ true → lookup_check code pc r ≡ Ok (instruction r (pairs_end code pc - pc) (pairs_operand code pc))
          unfolding lookup_check ◌else◌ ◌>>◌
          lookup_there h = simp (le-leb _ _ fields, counted, le-leb _ _ whole, h)

-- ---- questions 6 to 9

pub record Needed (l : Method) (s : State) (i : Instruction) : Type 0 where
  pub pops : popped i ≤ s.depth
  pub fits : s.depth - popped i + pushed i ≤ s.max_stack
  pub local_there_lem : locals_below s.max_locals i.operand.index i.rule.locals ≡ true
  pub constant_there_lem : constant_there l.kinds i.operand.index i.rule.constants ≡ true

module _ (l : Method) (s : State) (i : Instruction) where
  pub needed : needs_check l s i ≡ Ok tt → Needed l s i
  unfolding needs_check
  needed e =
      let a = first_passed _ _ _ e in
      let b = first_passed _ _ _ a.1 in
      let c = first_passed _ _ _ b.1 in
      record { pops = leb-true _ _ a.0; fits = leb-true _ _ b.0; local_there_lem = c.0; constant_there_lem = last_passed _ _ c.1 }

  pub needs_passed : Needed l s i → needs_check l s i ≡ Ok tt
  unfolding needs_check ◌else◌ ◌>>◌
  needs_passed n = simp (le-leb _ _ n.pops, le-leb _ _ n.fits, n.local_there_lem, n.constant_there_lem)

  -- 6
  pub pops_missing : s.depth < popped i → needs_check l s i ≡ Err Refusal.StackUnderflow
  unfolding needs_check ◌else◌ ◌>>◌
  pops_missing h = simp (lt-leb _ _ h)

  module _ (pops : popped i ≤ s.depth) where
    -- 7
    pub overflows : s.max_stack < s.depth - popped i + pushed i → needs_check l s i ≡ Err Refusal.StackOverflow
    unfolding needs_check ◌else◌ ◌>>◌
    overflows h = simp (le-leb _ _ pops, lt-leb _ _ h)

    module _ (fits : s.depth - popped i + pushed i ≤ s.max_stack) where
      -- 8
      pub local_missing : locals_below s.max_locals i.operand.index i.rule.locals ≡ false → needs_check l s i ≡ Err Refusal.Local
      unfolding needs_check ◌else◌ ◌>>◌
      local_missing h = simp (le-leb _ _ pops, le-leb _ _ fits, h)

      -- 9
      pub constant_missing : locals_below s.max_locals i.operand.index i.rule.locals ≡ true
          → constant_there l.kinds i.operand.index i.rule.constants ≡ false → needs_check l s i ≡ Err Refusal.Constant
      unfolding needs_check ◌else◌ ◌>>◌
      constant_missing k h = simp (le-leb _ _ pops, le-leb _ _ fits, k, h)
