-- Where what was read of a sheet lies: in the sheet, one part after the other, and code and handlers at offsets of 32 bits. Assumes nothing.
use Prim.Native.Nat.{ℕ, zero, suc, ◌+◌, ◌*◌, ◌%◌, ◌≤◌, ◌<◌}
use mathlib.Core.Path.{◌≡◌, refl}
use mathlib.Core.Bool.{true, ◌||◌}
use mathlib.Core.Logic.{⊎_elim}
use mathlib.Core.List.{List}
use native.Mathlib.Omega.{arith}
use lib.Dec.{leb, eqb}
use lib.ListN.{length}
use borrow.Author.Tests.{ltb-true, leb-true, eqb-true}
use Rattle.rules.specs.declared.sheets.Mark.{Mark}
use Rattle.rules.specs.declared.sheets.Mark.TheVariants.{LM, DS, CD, KI, EX, AR}
use Rattle.rules.specs.declared.sheets.Reading.{Reading}
use Rattle.rules.specs.Fetch.{u8, u16}
use Rattle.rules.specs.Sheet.{last_number, last_used, body_length, body_at, record_end, known_mark, follows, right_length, pool_index, last_index, is_wide, unread, with_record, contents_check, marked_check, record_check, end_check, read_from, sheet_check}
use Rattle.rules.proofs.Check.{first_passed, last_passed, or_true, cases, Holds, asked, after, bound, held, either}
use Rattle.std.specs.Prelude.{Ok}

abbrev pub Bytes : List ℕ → Type 0
Bytes sheet = (i : ℕ) → u8 sheet i < 256

-- of the code once it is read, and of the arguments once they are. Before the code stand LM, which has four bytes, and at most one DS; between the
-- code and the handlers stand KI records of at most fifteen bytes, each with an index of its own
pub record Within (sheet : List ℕ) (p : Reading) : Type 0 where
  pub code_near : Bytes sheet → 3 ≤ last_number p.last → p.code ≤ 65551
  pub some_code : 3 ≤ last_number p.last → 1 ≤ p.code_length
  pub short_code : Bytes sheet → p.code_length ≤ 65535
  pub code_first : p.code + p.code_length ≤ p.handlers
  pub pool_short : 3 ≤ last_number p.last → p.handlers ≤ p.code + p.code_length + 15 * last_used p
  pub indices_short : last_used p ≤ 65535
  pub handlers_first : 6 ≤ last_number p.last → p.handlers + 4 ≤ p.arguments
  pub arguments_there : 6 ≤ last_number p.last → p.arguments + 4 * p.argument_count ≤ length sheet
  pub few_arguments : 6 ≤ last_number p.last → p.argument_count ≤ p.max_locals
  pub small_stack : Bytes sheet → p.max_stack ≤ 65535
  pub small_locals : Bytes sheet → p.max_locals ≤ 65535

-- and where the next record begins
pub record Placed (sheet : List ℕ) (at : ℕ) (p : Reading) : Type 0 where
  pub within : Within sheet p
  pub first : last_number p.last ≡ 0 → at ≡ 0
  pub second : last_number p.last ≡ 1 → at ≡ 8
  pub third : Bytes sheet → last_number p.last ≡ 2 → at ≤ 65547
  pub handlers_here : 3 ≤ last_number p.last → last_number p.last ≤ 4 → at ≡ p.handlers
  pub handlers_before : p.handlers ≤ at

-- ---- what a record may come after

after_lm : (last : ℕ) → (eqb last 1 || eqb last 2) ≡ true → (1 ≤ last) × (last ≤ 2)
after_lm last e = ⊎_elim (λ h. omega (arith, eqb-true last 1 h)) (λ h. omega (arith, eqb-true last 2 h)) (or_true _ _ e)

after_code : (last : ℕ) → (eqb last 3 || eqb last 4) ≡ true → (3 ≤ last) × (last ≤ 4)
after_code last e = ⊎_elim (λ h. omega (arith, eqb-true last 3 h)) (λ h. omega (arith, eqb-true last 4 h)) (or_true _ _ e)

after_pool : (last : ℕ) → (eqb last 3 || eqb last 4 || eqb last 5) ≡ true → (3 ≤ last) × (last ≤ 5)
after_pool last e = ⊎_elim (λ h. let k = after_code last h in omega arith) (λ h. omega (arith, eqb-true last 5 h)) (or_true _ _ e)

module _ (sheet : List ℕ) where
  body_short : (at : ℕ) → Bytes sheet → body_length sheet at ≤ 65535
  body_short at bytes = omega (arith, bytes (at + 2), bytes (at + 2 + 1))

  index_last : (at : ℕ) → pool_index sheet at ≤ last_index sheet at
  unfolding last_index
  index_last at = cases (λ (n : ℕ). pool_index sheet at ≤ n) (is_wide sheet at) _ _ (λ _. omega arith) (λ _. omega arith)

  constant_short : (n : ℕ) → (eqb n 7 || eqb n 11) ≡ true → n ≤ 11
  constant_short n e = ⊎_elim (λ h. omega (arith, eqb-true n 7 h)) (λ h. omega (arith, eqb-true n 11 h)) (or_true _ _ e)

  -- ---- each record

  After : ℕ → Reading → Type 0
  After at p = Placed sheet (record_end sheet at) p

  module _ (at : ℕ) (p : Reading) (h : Placed sheet at p) (there : record_end sheet at ≤ length sheet) where
    with_placed : (m : Mark) → follows m p.last ≡ true → right_length m (body_length sheet at) ≡ true → contents_check sheet at p m ≡ Ok tt → After at (with_record sheet at m p)
    unfolding After contents_check with_record
    with_placed LM f r c = record {
      within = record {
        code_near = λ b k. absurd (omega arith);
        some_code = λ k. absurd (omega arith);
        short_code = h.within.short_code;
        code_first = h.within.code_first;
        pool_short = λ k. absurd (omega arith);
        indices_short = h.within.indices_short;
        handlers_first = λ k. absurd (omega arith);
        arguments_there = λ k. absurd (omega arith);
        few_arguments = λ k. absurd (omega arith);
        small_stack = λ b. omega (arith, b (body_at at), b (body_at at + 1));
        small_locals = λ b. omega (arith, b (body_at at + 2), b (body_at at + 2 + 1));
      };
      first = λ e. absurd (omega arith);
      second = λ e. omega (arith, h.first (eqb-true (last_number p.last) 0 f), eqb-true (body_length sheet at) 4 r);
      third = λ b e. absurd (omega arith);
      handlers_here = λ k j. absurd (omega arith);
      handlers_before = omega (arith, h.handlers_before);
    }
    with_placed DS f r c = record {
      within = record {
        code_near = λ b k. absurd (omega arith);
        some_code = λ k. absurd (omega arith);
        short_code = h.within.short_code;
        code_first = h.within.code_first;
        pool_short = λ k. absurd (omega arith);
        indices_short = h.within.indices_short;
        handlers_first = λ k. absurd (omega arith);
        arguments_there = λ k. absurd (omega arith);
        few_arguments = λ k. absurd (omega arith);
        small_stack = h.within.small_stack;
        small_locals = h.within.small_locals;
      };
      first = λ e. absurd (omega arith);
      second = λ e. absurd (omega arith);
      third = λ b e. omega (arith, h.second (eqb-true (last_number p.last) 1 f), body_short at b);
      handlers_here = λ k j. absurd (omega arith);
      handlers_before = omega (arith, h.handlers_before);
    }
    with_placed CD f r c = record {
      within = record {
        code_near = λ b k. ⊎_elim (λ e. omega (arith, h.second (eqb-true (last_number p.last) 1 e))) (λ e. omega (arith, h.third b (eqb-true (last_number p.last) 2 e))) (or_true _ _ f);
        some_code = λ k. leb-true _ _ r;
        short_code = body_short at;
        code_first = omega arith;
        pool_short = λ k. omega arith;
        indices_short = h.within.indices_short;
        handlers_first = λ k. absurd (omega arith);
        arguments_there = λ k. absurd (omega arith);
        few_arguments = λ k. absurd (omega arith);
        small_stack = h.within.small_stack;
        small_locals = h.within.small_locals;
      };
      first = λ e. absurd (omega arith);
      second = λ e. absurd (omega arith);
      third = λ b e. absurd (omega arith);
      handlers_here = λ k j. refl;
      handlers_before = omega arith;
    }
    with_placed KI f r c =
        let (since, until) = after_code (last_number p.last) f in
        let w = h.within in
        let here = h.handlers_here since until in
        let indexed = first_passed _ _ _ (first_passed _ _ _ (first_passed _ _ _ c).1).1 in
        let above = ltb-true (last_used p) (pool_index sheet at) indexed.0 in
        record {
          within = record {
            code_near = λ b k. w.code_near b since;
            some_code = λ k. w.some_code since;
            short_code = w.short_code;
            code_first = omega (arith, w.code_first);
            pool_short = λ k. omega (arith, w.pool_short since, constant_short (body_length sheet at) r, index_last at);
            indices_short = leb-true (last_index sheet at) 65535 (last_passed _ _ indexed.1);
            handlers_first = λ k. absurd (omega arith);
            arguments_there = λ k. absurd (omega arith);
            few_arguments = λ k. absurd (omega arith);
            small_stack = w.small_stack;
            small_locals = w.small_locals;
          };
          first = λ e. absurd (omega arith);
          second = λ e. absurd (omega arith);
          third = λ b e. absurd (omega arith);
          handlers_here = λ k j. refl;
          handlers_before = omega arith;
        }
    with_placed EX f r c =
        let (since, until) = after_pool (last_number p.last) f in
        let w = h.within in
        record {
          within = record {
            code_near = λ b k. w.code_near b since;
            some_code = λ k. w.some_code since;
            short_code = w.short_code;
            code_first = w.code_first;
            pool_short = λ k. w.pool_short since;
            indices_short = w.indices_short;
            handlers_first = λ k. absurd (omega arith);
            arguments_there = λ k. absurd (omega arith);
            few_arguments = λ k. absurd (omega arith);
            small_stack = w.small_stack;
            small_locals = w.small_locals;
          };
          first = λ e. absurd (omega arith);
          second = λ e. absurd (omega arith);
          third = λ b e. absurd (omega arith);
          handlers_here = λ k j. absurd (omega arith);
          handlers_before = omega (arith, h.handlers_before);
        }
    with_placed AR f r c =
        let (since, until) = after_pool (last_number p.last) f in
        let w = h.within in
        record {
          within = record {
            code_near = λ b k. w.code_near b since;
            some_code = λ k. w.some_code since;
            short_code = w.short_code;
            code_first = w.code_first;
            pool_short = λ k. w.pool_short since;
            indices_short = w.indices_short;
            handlers_first = λ k. omega (arith, h.handlers_before);
            arguments_there = λ k. let e = eqb-true (body_length sheet at % 4) 0 r in omega arith;
            few_arguments = λ k. leb-true _ _ (first_passed _ _ _ c).0;
            small_stack = w.small_stack;
            small_locals = w.small_locals;
          };
          first = λ e. absurd (omega arith);
          second = λ e. absurd (omega arith);
          third = λ b e. absurd (omega arith);
          handlers_here = λ k j. absurd (omega arith);
          handlers_before = omega (arith, h.handlers_before);
        }

  record_placed : (at : ℕ) (p : Reading) → Placed sheet at p → Holds (After at) (record_check sheet at p)
  unfolding record_check marked_check Holds
  record_placed at p h = asked (After at) _ _ _ (λ _. asked (After at) _ _ _ (λ there. bound (After at) (known_mark (u16 sheet at)) _ (λ m e.
      asked (After at) _ _ _ (λ f. asked (After at) _ _ _ (λ r. after (After at) (contents_check sheet at p m) _ (λ c. with_placed at p h (leb-true (record_end sheet at) (length sheet) there) m f r c))))))

  pub next_placed : (at : ℕ) (p q : Reading) → Placed sheet at p → record_check sheet at p ≡ Ok q → Placed sheet (record_end sheet at) q
  unfolding After
  next_placed at p q h e = held (After at) (record_check sheet at p) q (record_placed at p h) e

  -- ---- the whole sheet

  Complete : Reading → Type 0
  Complete p = (Within sheet p) × (last_number p.last ≡ 6)

  end_placed : (at : ℕ) (p : Reading) → Placed sheet at p → Holds Complete (end_check p)
  unfolding Holds Complete
  end_placed at p h = asked Complete _ _ _ (λ e. (h.within, eqb-true _ _ e))

  read_placed : (n at : ℕ) (p : Reading) → Placed sheet at p → Holds Complete (read_from n sheet at p)
  unfolding read_from
  read_placed zero at p h = end_placed at p h
  read_placed (suc n) at p h =
      either Complete (leb (length sheet) at) _ _ (end_placed at p h) (bound Complete (record_check sheet at p) _ (λ q e. read_placed n (record_end sheet at) q (next_placed at p q h e)))

  pub nothing_read : Placed sheet 0 unread
  nothing_read = record {
    within = record {
      code_near = λ b k. absurd (omega arith);
      some_code = λ k. absurd (omega arith);
      short_code = λ b. omega arith;
      code_first = omega arith;
      pool_short = λ k. absurd (omega arith);
      indices_short = omega arith;
      handlers_first = λ k. absurd (omega arith);
      arguments_there = λ k. absurd (omega arith);
      few_arguments = λ k. absurd (omega arith);
      small_stack = λ b. omega arith;
      small_locals = λ b. omega arith;
    };
    first = λ e. refl;
    second = λ e. absurd (omega arith);
    third = λ b e. absurd (omega arith);
    handlers_here = λ k j. absurd (omega arith);
    handlers_before = omega arith;
  }

  pub sheet_within : (p : Reading) → sheet_check sheet ≡ Ok p → (Within sheet p) × (last_number p.last ≡ 6)
  unfolding sheet_check Complete
  sheet_within p e = held Complete (sheet_check sheet) p (read_placed (length sheet) 0 unread nothing_read) e
