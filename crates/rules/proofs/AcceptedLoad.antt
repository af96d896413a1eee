-- What an accepted load leaves: questions 1 to 3 pass, the frame is the arguments and then zeros, and the slots beyond it are as they were. Assumes nothing.
use Prim.Native.Nat.{ℕ, zero, suc, ◌+◌, ◌-◌, ◌≤◌, ◌<◌}
use mathlib.Core.Path.{◌≡◌, refl, sym, ap, ◌∙◌}
use mathlib.Core.Bool.{Bool, true, false, cond}
use mathlib.Core.List.{List}
use native.Mathlib.Omega.{arith}
use lib.Dec.{leb}
use lib.ListN.{length, take, drop, length-set, length-append, length-drop, length-replicate}
use lib.Seq.{length-take-le, take_at, drop_at}
use borrow.Author.Tests.{leb-true, le-leb, eqb-true}
use Rattle.rules.specs.declared.sheets.Reading.{Reading}
use Rattle.rules.specs.declared.states.State.{State}
use Rattle.rules.specs.declared.sheets.Loaded.{Loaded}
use Rattle.rules.specs.Check.{Check, ◌>>=◌, ◌>>◌}
use Rattle.rules.specs.Fetch.{u8}
use Rattle.rules.specs.Questions.{method}
use Rattle.rules.specs.Step.{frame}
use Rattle.rules.specs.Sheet.{last_number, record_end, is_wide, sheet_check, memory_check, Pool, with_words, with_value, pool_from, loaded_pool, arguments_from, loaded_frame, loaded_slots, state_type, loaded_state, handlers_length, accepted_load, load_by, load_of, code_of, handlers_of}
use Rattle.rules.proofs.RefusalNumbers.{number_above}
use Rattle.rules.proofs.Check.{first_passed, last_passed}
use Rattle.rules.proofs.Questions.{Framed}
use Rattle.rules.proofs.Sheet.{load_accepted}
use Rattle.rules.proofs.Placement.{Within, sheet_within}
use Rattle.std.specs.Prelude.{Ok, Err}
use Rattle.rules.specs.declared.refusals.Refusal.{Refusal}
use Rattle.rules.specs.Refusals.{number_of}

-- ---- lengths

either_long : (t : Bool) (x y : List ℕ) (n : ℕ) → length x ≡ n → length y ≡ n → length (cond t x y) ≡ n
either_long true x y n h k = h
either_long false x y n h k = k

pub length_words : (sheet : List ℕ) (at : ℕ) (words : List ℕ) → length (with_words sheet at words) ≡ length words
unfolding with_words
length_words sheet at words = either_long (is_wide sheet at) _ _ (length words) (simp length-set) (simp length-set)

pub pool_kinds : (n : ℕ) (sheet : List ℕ) (at end : ℕ) (p : Pool) → length (pool_from n sheet at end p).kinds ≡ length p.kinds
unfolding pool_from
pool_kinds zero sheet at end p = refl
pool_kinds (suc n) sheet at end p = go (pool_kinds n sheet (record_end sheet at) end (with_value sheet at p) ∙ simp length-set) (leb end at)
  where
    go : length (pool_from n sheet (record_end sheet at) end (with_value sheet at p)).kinds ≡ length p.kinds → (t : Bool)
        → length (cond t p (pool_from n sheet (record_end sheet at) end (with_value sheet at p))).kinds ≡ length p.kinds
    go h true = refl
    go h false = h

pub pool_words : (n : ℕ) (sheet : List ℕ) (at end : ℕ) (p : Pool) → length (pool_from n sheet at end p).words ≡ length p.words
unfolding pool_from
pool_words zero sheet at end p = refl
pool_words (suc n) sheet at end p = go (pool_words n sheet (record_end sheet at) end (with_value sheet at p) ∙ length_words sheet at p.words) (leb end at)
  where
    go : length (pool_from n sheet (record_end sheet at) end (with_value sheet at p)).words ≡ length p.words → (t : Bool)
        → length (cond t p (pool_from n sheet (record_end sheet at) end (with_value sheet at p))).words ≡ length p.words
    go h true = refl
    go h false = h

pub length_arguments : (sheet : List ℕ) (at n : ℕ) → length (arguments_from sheet at n) ≡ n
unfolding arguments_from
length_arguments sheet at zero = refl
length_arguments sheet at (suc n) = ap suc (length_arguments sheet (at + 4) n)

-- ---- an accepted load

module _ (sheet slots kinds words : List ℕ) (bytes : (i : ℕ) → u8 sheet i < 256) (p : Reading) (read : sheet_check sheet ≡ Ok p) (fits : memory_check p slots kinds words ≡ Ok tt) where
  abbrev state : State
  state = loaded_state p.max_stack p.max_locals (state_type p.descriptor)

  abbrev code : List ℕ
  code = code_of sheet (accepted_load p)

  within : Within sheet p
  within = (sheet_within sheet p read).0

  last : last_number p.last ≡ 6
  last = (sheet_within sheet p read).1

  code_there : p.code + p.code_length ≤ length sheet
  code_there = let e = last in omega (arith, within.code_first, within.handlers_first (omega arith), within.arguments_there (omega arith))

  pub code_is : code ≡ take p.code_length (drop p.code sheet)
  code_is = rw (le-leb (p.code + p.code_length) (length sheet) code_there)

  pub handlers_is : handlers_of sheet (accepted_load p) ≡ take (handlers_length p) (drop p.handlers sheet)
  handlers_is =
      let e = last in
      rw (le-leb (p.handlers + handlers_length p) (length sheet) (omega (arith, within.handlers_first (omega arith), within.arguments_there (omega arith))))

  code_length_lem : length code ≡ p.code_length
  code_length_lem =
      ap length code_is ∙ length-take-le p.code_length (drop p.code sheet) (omega (arith, code_there, length-drop p.code sheet))

  pub frame_length : length (loaded_frame sheet p) ≡ p.max_locals + p.max_stack
  frame_length =
      let e = last in
      length-append (arguments_from sheet p.arguments p.argument_count) _
      ∙ omega (arith, length_arguments sheet p.arguments p.argument_count, length-replicate {A = ℕ} (p.max_locals + p.max_stack - p.argument_count) 0, within.few_arguments (omega arith))

  pub frame_is : frame state (loaded_slots sheet p slots) ≡ loaded_frame sheet p
  frame_is = take_at (loaded_frame sheet p) (drop (p.max_locals + p.max_stack) slots) (p.max_locals + p.max_stack) frame_length

  pub beyond_is : drop (p.max_locals + p.max_stack) (loaded_slots sheet p slots) ≡ drop (p.max_locals + p.max_stack) slots
  beyond_is = drop_at (loaded_frame sheet p) (drop (p.max_locals + p.max_stack) slots) (p.max_locals + p.max_stack) frame_length

  pub loaded_framed : Framed (method code (loaded_pool sheet p kinds words).kinds (loaded_pool sheet p kinds words).words (handlers_of sheet (accepted_load p))) state (length (loaded_slots sheet p slots))
  unfolding memory_check
  loaded_framed =
      let e = last in
      let a = first_passed _ _ _ fits in
      let b = first_passed _ _ _ a.1 in
      let c = first_passed _ _ _ b.1 in
      let paired = eqb-true (length kinds) (length words) c.0 in
      let few = leb-true (length kinds) 65536 (last_passed _ _ c.1) in
      let room = leb-true (p.max_locals + p.max_stack) (length slots) a.0 in
      let k : length (loaded_pool sheet p kinds words).kinds ≡ length kinds = pool_kinds _ sheet _ _ _ ∙ length-replicate (length kinds) 0 in
      let w : length (loaded_pool sheet p kinds words).words ≡ length words = pool_words _ sheet _ _ _ ∙ length-replicate (length words) 0 in
      record {
        paired = k ∙ paired ∙ sym w;
        pool = omega arith;
        room = omega (arith, frame_length, length-append (loaded_frame sheet p) (drop (p.max_locals + p.max_stack) slots));
        some_code = omega (arith, code_length_lem, within.some_code (omega arith));
        short_code = omega (arith, code_length_lem, within.short_code bytes);
        in_code = omega (arith, code_length_lem, within.some_code (omega arith));
        deep = omega arith;
      }

-- ---- an accepted load is of a sheet that was read, with memory that reaches

pub record Read (sheet slots kinds words : List ℕ) : Type 0 where
  pub reading : Reading
  pub read : sheet_check sheet ≡ Ok reading
  pub fits : memory_check reading slots kinds words ≡ Ok tt

module _ (sheet slots kinds words : List ℕ) where
  by_memory : (p : Reading) → sheet_check sheet ≡ Ok p → (x : Check (Unit {0})) → memory_check p slots kinds words ≡ x
      → (load_by sheet slots kinds words (x >> Ok p)).loaded.answer ≡ Ok tt → Read sheet slots kinds words
  unfolding ◌>>◌
  by_memory p q (Ok t) m h = record { reading = p; read = q; fits = m }
  by_memory p q (Err k) m h = let z : ◌≡◌ {A = ℕ} 0 1 = cc in absurd (omega arith)

  pub was_read : (load_of sheet slots kinds words).loaded.answer ≡ Ok tt → Read sheet slots kinds words
  unfolding load_of ◌>>=◌
  was_read h = go (sheet_check sheet) refl h
    where
      go : (x : Check Reading) → sheet_check sheet ≡ x → (load_by sheet slots kinds words (x >>= λ p. memory_check p slots kinds words >> Ok p)).loaded.answer ≡ Ok tt → Read sheet slots kinds words
      go (Ok p) q k = by_memory p q (memory_check p slots kinds words) refl k
      go (Err m) q k = let z : ◌≡◌ {A = ℕ} 0 1 = cc in absurd (omega arith)

-- ---- what an accepted load says: where code and handlers lie, and its sizes

pub record Said (sheet : List ℕ) (x : Loaded) : Type 0 where
  pub starts : x.code ≤ 65551
  pub short : x.code_length ≤ 65535
  pub is_part : code_of sheet x ≡ take x.code_length (drop x.code sheet)
  -- at most 65,535 constants of fifteen bytes stand between the code's end and the handlers
  pub handlers_near : x.handlers ≤ 1114111
  pub handlers_long : (p : Reading) → sheet_check sheet ≡ Ok p → x.handlers_length ≡ handlers_length p
  pub handlers_part : handlers_of sheet x ≡ take x.handlers_length (drop x.handlers sheet)
  pub small_stack : x.state.max_stack ≤ 65535
  pub small_locals : x.state.max_locals ≤ 65535

pub accepted_said : (sheet slots kinds words : List ℕ) → ((i : ℕ) → u8 sheet i < 256) → (load_of sheet slots kinds words).loaded.answer ≡ Ok tt → Said sheet (load_of sheet slots kinds words).loaded
accepted_said sheet slots kinds words bytes h =
    let r = was_read sheet slots kinds words h in
    let p = r.reading in
    let (w, last) = sheet_within sheet p r.read in
    let read_whole : 3 ≤ last_number p.last = omega arith in
    rw (← load_accepted sheet slots kinds words p r.read r.fits (loaded_pool sheet p kinds words) refl)
    (record {
      starts = w.code_near bytes read_whole;
      short = w.short_code bytes;
      is_part = code_is sheet slots kinds words bytes p r.read r.fits;
      handlers_near = omega (arith, w.code_near bytes read_whole, w.short_code bytes, w.pool_short read_whole, w.indices_short);
      handlers_long = λ q e. let same : q ≡ p = cc in ap handlers_length (sym same);
      handlers_part = handlers_is sheet slots kinds words bytes p r.read r.fits;
      small_stack = w.small_stack bytes;
      small_locals = w.small_locals bytes;
    })

-- a load that is refused is refused with a number above 0
pub refused_above : (sheet slots kinds words : List ℕ) (k : Refusal) → (load_of sheet slots kinds words).loaded.answer ≡ Err k → 0 < number_of k
refused_above sheet slots kinds words k h = number_above k
