-- The plain walk of a sheet: from the sheet and the lengths of the lent slices, and nothing else (RULES, 'The plain walk'). What the sheet gives is said
-- place by place here, apart from how a load fills it in, so that demand 3 measures the load too. Assumes nothing.
use Rattle.std.specs.Prelude.{ℕ, zero, suc, ◌+◌, ◌-◌, ◌*◌, cond, List, [], ◌∷◌, take, drop, Ok, Err}
use Rattle.rules.specs.declared.sheets.Reading.{Reading}
use Rattle.rules.specs.Check.{Check, ◌≤ⁿ◌, ◌<ⁿ◌, ◌=ⁿ◌}
use Rattle.rules.specs.Fetch.{u32}
use Rattle.rules.specs.Questions.{Method, method}
use Rattle.rules.specs.Step.{Decider, machine_by}
use Rattle.rules.specs.Sheet.{body_at, record_end, pool_index, pool_tag, is_wide, unread, sheet_check, pool_start, handlers_length, state_type, loaded_state}
use Rattle.rules.specs.PlainWalk.{Stage, PlainWalk}

-- how long the lent slices are
pub record Lengths : Type 0 where
  pub slots : ℕ
  pub kinds : ℕ
  pub words : ℕ
  pub log : ℕ

-- n places, each by its index from k on
unfoldable pub places_from : ℕ → ℕ → (ℕ → ℕ) → List ℕ
places_from k zero f = []
places_from k (suc n) f = f k ∷ places_from (k + 1) n f

abbrev pub places_by : ℕ → (ℕ → ℕ) → List ℕ
places_by n f = places_from 0 n f

-- ---- the pool: tag and word at the index; a long's low word there and its high word, with kind 0, at the next; 0 elsewhere

-- what a KI record puts at a pool index, where d stood
abbrev pub kind_by : List ℕ → ℕ → ℕ → ℕ → ℕ
kind_by sheet at i d = cond (pool_index sheet at =ⁿ i) (pool_tag sheet at) d

-- of eight bytes the first four are the high word
abbrev pub word_by : List ℕ → ℕ → ℕ → ℕ → ℕ
word_by sheet at i d =
    cond (is_wide sheet at)
    (cond (pool_index sheet at + 1 =ⁿ i) (u32 sheet (body_at at + 3)) (cond (pool_index sheet at =ⁿ i) (u32 sheet (body_at at + 7)) d))
    (cond (pool_index sheet at =ⁿ i) (u32 sheet (body_at at + 3)) d)

-- the records from an offset on up to an end
unfoldable pub through_records : (List ℕ → ℕ → ℕ → ℕ → ℕ) → ℕ → List ℕ → ℕ → ℕ → ℕ → ℕ → ℕ
through_records by zero sheet at end i d = d
through_records by (suc n) sheet at end i d = cond (end ≤ⁿ at) d (through_records by n sheet (record_end sheet at) end i (by sheet at i d))

abbrev pub in_pool : (List ℕ → ℕ → ℕ → ℕ → ℕ) → List ℕ → Reading → ℕ → ℕ
in_pool by sheet p i = through_records by (p.handlers - pool_start p) sheet (pool_start p) p.handlers i 0

-- ---- the method, its state and stage 0: offset 0, depth 0, the arguments, then zeros

abbrev pub sheet_method : List ℕ → Reading → Lengths → Method
sheet_method sheet p n =
    method
    (take p.code_length (drop p.code sheet))
    (places_by n.kinds (in_pool kind_by sheet p))
    (places_by n.words (in_pool word_by sheet p))
    (take (handlers_length p) (drop p.handlers sheet))

abbrev pub argument_or_zero : List ℕ → Reading → ℕ → ℕ
argument_or_zero sheet p i = cond (i <ⁿ p.argument_count) (u32 sheet (p.arguments + 4 * i)) 0

abbrev pub stage0 : List ℕ → Reading → Stage
stage0 sheet p = record { pc = 0; depth = 0; frame = places_by (p.max_locals + p.max_stack) (argument_or_zero sheet p) }

abbrev pub plain_walk_by : (Method → Decider) → List ℕ → Lengths → Reading → PlainWalk
plain_walk_by rules sheet n p =
    record {
      machine = machine_by rules (sheet_method sheet p n);
      slots = n.slots;
      log = n.log;
      state = loaded_state p.max_stack p.max_locals (state_type p.descriptor);
      first = stage0 sheet p;
    }

-- a sheet that is refused has no walk, so that the second clause is never met
abbrev pub reading_of : Check Reading → Reading
reading_of (Ok p) = p
reading_of (Err n) = unread

abbrev pub plain_walk_of : (Method → Decider) → List ℕ → Lengths → PlainWalk
plain_walk_of rules sheet n = plain_walk_by rules sheet n (reading_of (sheet_check sheet))
