-- What an accepted load leaves is what the sheet gives, place by place, and depends on the sheet and the lengths alone; and so DEMAND 3 from any accepted load.
-- Assumes nothing.
use Prim.Native.Nat.{ℕ, zero, suc, ◌+◌, ◌-◌, ◌*◌, ◌<◌}
use mathlib.Core.Path.{◌≡◌, refl, sym, ap, subst, ◌∙◌}
use mathlib.Core.Bool.{Bool, true, false, cond}
use mathlib.Core.List.{List}
use native.Mathlib.Omega.{arith}
use native.Mathlib.Nat.{add-zero}
use borrow.Author.Tests.{eqb-true, eqb-false, ltb-true, ltb-false}
use lib.Dec.{leb, eqb, ltb}
use lib.ListN.{length, take, drop, set, get_or, replicate, length-set, length-append, length-replicate, get_or-replicate, get_or-append}
use lib.Seq.{get_or-set_same, get_or-set_other, get_or-append-add, ext_get_or}
use Rattle.rules.specs.declared.sheets.Reading.{Reading}
use Rattle.rules.specs.Fetch.{u8, u32}
use Rattle.rules.specs.Questions.{Method, method}
use Rattle.rules.specs.Step.{Decider, machine_by}
use Rattle.rules.specs.Sheet.{record_end, pool_index, pool_tag, is_wide, sheet_check, memory_check, Pool, with_words, with_value, pool_from, pool_start, loaded_pool, arguments_from, loaded_frame, loaded_slots, state_type, loaded_state, accepted_load, AfterLoad, load_of, code_of, handlers_of}
use Rattle.rules.specs.PlainWalk.{Stage, stage_of, PlainWalk, Press}
use Rattle.rules.specs.Walk.{Walked, walk_of, Demand3}
use Rattle.rules.specs.FromSheet.{Lengths, places_from, places_by, kind_by, word_by, through_records, in_pool, sheet_method, argument_or_zero, stage0, plain_walk_by, reading_of, plain_walk_of}
use Rattle.rules.specs.Presses.{loaded_method, plain_walk_in}
use Rattle.rules.proofs.Sheet.{load_accepted}
use Rattle.rules.proofs.AcceptedLoad.{length_words, pool_kinds, pool_words, length_arguments, code_is, handlers_is, frame_length, frame_is, loaded_framed, was_read}
use Rattle.rules.proofs.Lawful.{Lawful}
use Rattle.rules.proofs.Walk.{walk_from, whole_list}
use Rattle.std.specs.Prelude.{Ok}

-- ---- places by their index

length_places : (n k : ℕ) (f : ℕ → ℕ) → length (places_from k n f) ≡ n
unfolding places_from
length_places zero k f = refl
length_places (suc n) k f = ap suc (length_places n (k + 1) f)

place_at : (n k i : ℕ) (f : ℕ → ℕ) → i < n → get_or (places_from k n f) i 0 ≡ f (k + i)
unfolding places_from
place_at zero k i f h = absurd (omega arith)
place_at (suc n) k zero f h = rw (add-zero k)
place_at (suc n) k (suc i) f h = let e : k + 1 + i ≡ k + suc i = omega arith in place_at n (k + 1) i f (omega arith) ∙ ap f e

-- a list whose places are these is made of them
places_are : (l : List ℕ) (f : ℕ → ℕ) → ((i : ℕ) → i < length l → get_or l i 0 ≡ f i) → l ≡ places_by (length l) f
places_are l f h = ext_get_or 0 l (places_by (length l) f) (sym (length_places (length l) 0 f)) (λ i k. h i k ∙ sym (place_at (length l) 0 i f k ∙ ap f (omega arith)))

-- ---- the pool

set_at : (l : List ℕ) (k v i : ℕ) → i < length l → get_or (set l k v) i 0 ≡ cond (eqb k i) v (get_or l i 0)
set_at l k v i h = go (eqb k i) refl
  where
    go : (b : Bool) → eqb k i ≡ b → get_or (set l k v) i 0 ≡ cond b v (get_or l i 0)
    go true e = let q = eqb-true k i e in rw (← q) (get_or-set_same l k v 0 (omega arith))
    go false e = get_or-set_other l k i v 0 (λ q. eqb-false k i e (sym q))

either_at : (t : Bool) (x y : List ℕ) (i a b : ℕ) → get_or x i 0 ≡ a → get_or y i 0 ≡ b → get_or (cond t x y) i 0 ≡ cond t a b
either_at true x y i a b h k = h
either_at false x y i a b h k = k

-- of two writes the later counts
set_twice : (l : List ℕ) (k v j w i : ℕ) → i < length l → get_or (set (set l k v) j w) i 0 ≡ cond (eqb j i) w (cond (eqb k i) v (get_or l i 0))
set_twice l k v j w i h = set_at (set l k v) j w i (omega (arith, length-set l k v)) ∙ ap (cond (eqb j i) w) (set_at l k v i h)

word_at : (sheet : List ℕ) (at : ℕ) (words : List ℕ) (i : ℕ) → i < length words → get_or (with_words sheet at words) i 0 ≡ word_by sheet at i (get_or words i 0)
unfolding with_words
word_at sheet at words i h = either_at (is_wide sheet at) _ _ i _ _ (set_twice words _ _ _ _ i h) (set_at words _ _ i h)

module _ (sheet : List ℕ) (end : ℕ) where
  kinds_through : (n at : ℕ) (p : Pool) (i : ℕ) → i < length p.kinds → get_or (pool_from n sheet at end p).kinds i 0 ≡ through_records kind_by n sheet at end i (get_or p.kinds i 0)
  unfolding pool_from through_records
  kinds_through zero at p i h = refl
  kinds_through (suc n) at p i h =
      go (leb end at)
      (kinds_through n (record_end sheet at) (with_value sheet at p) i (omega (arith, length-set p.kinds (pool_index sheet at) (pool_tag sheet at)))
      ∙ ap (through_records kind_by n sheet (record_end sheet at) end i) (set_at p.kinds (pool_index sheet at) (pool_tag sheet at) i h))
    where
      go : (b : Bool) → get_or (pool_from n sheet (record_end sheet at) end (with_value sheet at p)).kinds i 0 ≡ through_records kind_by n sheet (record_end sheet at) end i (kind_by sheet at i (get_or p.kinds i 0))
          → get_or (cond b p (pool_from n sheet (record_end sheet at) end (with_value sheet at p))).kinds i 0
          ≡ cond b (get_or p.kinds i 0) (through_records kind_by n sheet (record_end sheet at) end i (kind_by sheet at i (get_or p.kinds i 0)))
      go true e = refl
      go false e = e

  words_through : (n at : ℕ) (p : Pool) (i : ℕ) → i < length p.words → get_or (pool_from n sheet at end p).words i 0 ≡ through_records word_by n sheet at end i (get_or p.words i 0)
  unfolding pool_from through_records
  words_through zero at p i h = refl
  words_through (suc n) at p i h =
      go (leb end at)
      (words_through n (record_end sheet at) (with_value sheet at p) i (omega (arith, length_words sheet at p.words))
      ∙ ap (through_records word_by n sheet (record_end sheet at) end i) (word_at sheet at p.words i h))
    where
      go : (b : Bool) → get_or (pool_from n sheet (record_end sheet at) end (with_value sheet at p)).words i 0 ≡ through_records word_by n sheet (record_end sheet at) end i (word_by sheet at i (get_or p.words i 0))
          → get_or (cond b p (pool_from n sheet (record_end sheet at) end (with_value sheet at p))).words i 0
          ≡ cond b (get_or p.words i 0) (through_records word_by n sheet (record_end sheet at) end i (word_by sheet at i (get_or p.words i 0)))
      go true e = refl
      go false e = e

-- ---- the frame

argument_at : (sheet : List ℕ) (n at i : ℕ) → i < n → get_or (arguments_from sheet at n) i 0 ≡ u32 sheet (at + 4 * i)
unfolding arguments_from
argument_at sheet zero at i h = absurd (omega arith)
argument_at sheet (suc n) at zero h = let e : at + 4 * 0 ≡ at = omega arith in rw e
argument_at sheet (suc n) at (suc i) h = let e : at + 4 + 4 * i ≡ at + 4 * suc i = omega arith in argument_at sheet n (at + 4) i (omega arith) ∙ ap (u32 sheet) e

frame_at : (sheet : List ℕ) (p : Reading) (i : ℕ) → i < length (loaded_frame sheet p) → get_or (loaded_frame sheet p) i 0 ≡ argument_or_zero sheet p i
frame_at sheet p i h = go (ltb i p.argument_count) refl
  where
    go : (b : Bool) → ltb i p.argument_count ≡ b → get_or (loaded_frame sheet p) i 0 ≡ cond b (u32 sheet (p.arguments + 4 * i)) 0
    go true e =
        let k = ltb-true i p.argument_count e in
        get_or-append (arguments_from sheet p.arguments p.argument_count) _ 0 i (omega (arith, length_arguments sheet p.arguments p.argument_count))
        ∙ argument_at sheet p.argument_count p.arguments i k
    go false e =
        let k = ltb-false i p.argument_count e in
        let a = length_arguments sheet p.arguments p.argument_count in
        let z = length-replicate {A = ℕ} (p.max_locals + p.max_stack - p.argument_count) 0 in
        let l = length-append (arguments_from sheet p.arguments p.argument_count) (replicate (p.max_locals + p.max_stack - p.argument_count) 0) in
        let m : i ≡ length (arguments_from sheet p.arguments p.argument_count) + (i - p.argument_count) = omega arith in
        ap (λ (x : ℕ). get_or (loaded_frame sheet p) x 0) m
        ∙ get_or-append-add (arguments_from sheet p.arguments p.argument_count) (replicate (p.max_locals + p.max_stack - p.argument_count) 0) (i - p.argument_count) 0
        ∙ get_or-replicate (p.max_locals + p.max_stack - p.argument_count) (i - p.argument_count) 0 0 (omega arith)

-- ---- an accepted load

rewalked : {f g : PlainWalk} (slots : List ℕ) (presses : List Press) (w : Walked) → f ≡ g → Demand3 f slots presses w → Demand3 g slots presses w
rewalked slots presses w e h = subst (λ (f : PlainWalk). Demand3 f slots presses w) e h

module _ (sheet slots kinds words : List ℕ) (bytes : (i : ℕ) → u8 sheet i < 256) (p : Reading) (read : sheet_check sheet ≡ Ok p) (fits : memory_check p slots kinds words ≡ Ok tt) where
  abbrev pool : Pool
  pool = loaded_pool sheet p kinds words

  -- how long the slices are that it leaves, with a log of so many words
  abbrev lengths : ℕ → Lengths
  lengths log = record { slots = length (loaded_slots sheet p slots); kinds = length (loaded_pool sheet p kinds words).kinds; words = length (loaded_pool sheet p kinds words).words; log = log }

  long_kinds : length (loaded_pool sheet p kinds words).kinds ≡ length kinds
  long_kinds = pool_kinds _ sheet _ _ _ ∙ length-replicate (length kinds) 0

  long_words : length (loaded_pool sheet p kinds words).words ≡ length words
  long_words = pool_words _ sheet _ _ _ ∙ length-replicate (length words) 0

  kinds_given : (loaded_pool sheet p kinds words).kinds ≡ places_by (length (loaded_pool sheet p kinds words).kinds) (in_pool kind_by sheet p)
  kinds_given = places_are _ (in_pool kind_by sheet p) (λ i h.
      let k : i < length kinds = omega (arith, long_kinds) in
      kinds_through sheet p.handlers (p.handlers - pool_start p) (pool_start p) _ i (omega (arith, length-replicate {A = ℕ} (length kinds) 0))
      ∙ ap (through_records kind_by (p.handlers - pool_start p) sheet (pool_start p) p.handlers i) (get_or-replicate (length kinds) i 0 0 k))

  words_given : (loaded_pool sheet p kinds words).words ≡ places_by (length (loaded_pool sheet p kinds words).words) (in_pool word_by sheet p)
  words_given = places_are _ (in_pool word_by sheet p) (λ i h.
      let k : i < length words = omega (arith, long_words) in
      words_through sheet p.handlers (p.handlers - pool_start p) (pool_start p) _ i (omega (arith, length-replicate {A = ℕ} (length words) 0))
      ∙ ap (through_records word_by (p.handlers - pool_start p) sheet (pool_start p) p.handlers i) (get_or-replicate (length words) i 0 0 k))

  -- THE LAW: the method that it leaves is what the sheet gives over these lengths
  pub method_given : (log : ℕ)
      → method (code_of sheet (accepted_load p)) (loaded_pool sheet p kinds words).kinds (loaded_pool sheet p kinds words).words (handlers_of sheet (accepted_load p)) ≡ sheet_method sheet p (lengths log)
  method_given log =
      ap (λ (c : List ℕ). method c (loaded_pool sheet p kinds words).kinds (loaded_pool sheet p kinds words).words (handlers_of sheet (accepted_load p))) (code_is sheet slots kinds words bytes p read fits)
      ∙ ap (λ (k : List ℕ). method code k (loaded_pool sheet p kinds words).words (handlers_of sheet (accepted_load p))) kinds_given
      ∙ ap (λ (w : List ℕ). method code (places_by (length (loaded_pool sheet p kinds words).kinds) (in_pool kind_by sheet p)) w (handlers_of sheet (accepted_load p))) words_given
      ∙ ap (λ (h : List ℕ).
      method code (places_by (length (loaded_pool sheet p kinds words).kinds) (in_pool kind_by sheet p)) (places_by (length (loaded_pool sheet p kinds words).words) (in_pool word_by sheet p)) h)
      (handlers_is sheet slots kinds words bytes p read fits)
    where
      code : List ℕ
      code = take p.code_length (drop p.code sheet)

  -- and so is stage 0
  pub stage_given : stage_of (loaded_state p.max_stack p.max_locals (state_type p.descriptor)) (loaded_slots sheet p slots) ≡ stage0 sheet p
  stage_given = ap (λ (f : List ℕ). record { pc = 0; depth = 0; frame = f })
      (frame_is sheet slots kinds words bytes p read fits
      ∙ places_are (loaded_frame sheet p) (argument_or_zero sheet p) (frame_at sheet p)
      ∙ ap (λ (n : ℕ). places_by n (argument_or_zero sheet p)) (frame_length sheet slots kinds words bytes p read fits))

  module _ (rules : Method → Decider) (law : (l : Method) → Lawful (machine_by rules l)) where
    -- the plain walk on these slots, by its method and stage 0
    abbrev build : List ℕ → Method → Stage → PlainWalk
    build log l t = record { machine = machine_by rules l; slots = length (loaded_slots sheet p slots); log = length log; state = loaded_state p.max_stack p.max_locals (state_type p.descriptor); first = t }

    walk_given : (log : List ℕ)
        → walk_from (machine_by rules (method (code_of sheet (accepted_load p)) (loaded_pool sheet p kinds words).kinds (loaded_pool sheet p kinds words).words (handlers_of sheet (accepted_load p))))
        (loaded_state p.max_stack p.max_locals (state_type p.descriptor)) (loaded_slots sheet p slots) log
        ≡ plain_walk_of rules sheet (lengths (length log))
    walk_given log =
        ap (λ (l : Method). build log l (stage_of (loaded_state p.max_stack p.max_locals (state_type p.descriptor)) (loaded_slots sheet p slots))) (method_given (length log))
        ∙ ap (build log (sheet_method sheet p (lengths (length log)))) stage_given
        ∙ ap (plain_walk_by rules sheet (lengths (length log))) (sym (ap reading_of read))

    by_reading : (log : List ℕ) (presses : List Press) (m : AfterLoad)
        → record { loaded = accepted_load p; slots = loaded_slots sheet p slots; kinds = (loaded_pool sheet p kinds words).kinds; words = (loaded_pool sheet p kinds words).words } ≡ m
        → Demand3 (plain_walk_in rules sheet (loaded_method sheet m) m.slots log) m.slots presses
        (walk_of (machine_by rules (loaded_method sheet m)) presses m.loaded.state m.slots log)
    by_reading log presses m e =
        rw (← e) (rewalked _ _ _ (walk_given log)
        (whole_list _ (law _) _ (loaded_slots sheet p slots) log (loaded_framed sheet slots kinds words bytes p read fits) refl presses))

-- DEMAND 3, of any lawful rules: for every sheet that is accepted, whatever the lent memory held, every log and every list of presses
pub demand3 : (rules : Method → Decider) → ((l : Method) → Lawful (machine_by rules l))
    → (sheet slots kinds words : List ℕ) → ((i : ℕ) → u8 sheet i < 256) → (load_of sheet slots kinds words).loaded.answer ≡ Ok tt → (log : List ℕ) (presses : List Press)
    → let m = load_of sheet slots kinds words in
    Demand3 (plain_walk_in rules sheet (loaded_method sheet m) m.slots log) m.slots presses
    (walk_of (machine_by rules (loaded_method sheet m)) presses m.loaded.state m.slots log)
demand3 rules law sheet slots kinds words bytes accepted log presses =
    let r = was_read sheet slots kinds words accepted in
    by_reading sheet slots kinds words bytes r.reading r.read r.fits rules law log presses (load_of sheet slots kinds words)
    (load_accepted sheet slots kinds words r.reading r.read r.fits (loaded_pool sheet r.reading kinds words) refl)
