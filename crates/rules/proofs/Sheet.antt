-- A sheet question by question and record by record, the numbers of its refusals, and the load by the answers to its questions. Assumes nothing.
use Prim.Native.Nat.{ℕ, zero, suc, ◌-◌, ◌≤◌, ◌<◌}
use mathlib.Core.Path.{◌≡◌, refl, sym, ap, ◌∙◌}
use mathlib.Core.Bool.{Bool, true, false, ◌||◌, cond}
use mathlib.Core.List.{List}
use native.Mathlib.Omega.{arith}
use lib.Dec.{leb, eqb}
use lib.ListN.{length}
use borrow.Author.Tests.{leb-true, le-leb, lt-leb, le-ltb, lt-ltb}
use Rattle.rules.specs.declared.sheets.Mark.{Mark}
use Rattle.rules.specs.declared.sheets.Mark.TheVariants.{KI, EX, AR}
use Rattle.rules.specs.declared.sheets.Reading.{Reading}
use Rattle.rules.specs.Check.{Check, ◌else◌, ◌>>=◌, ◌>>◌}
use Rattle.rules.specs.Fetch.{u16}
use Rattle.rules.specs.Handlers.{start_pc, end_pc, handler_pc, catch_type}
use Rattle.rules.specs.Sheet.{body_length, body_at, record_end, known_mark, follows, right_length, are_taken, last_used, with_record, pool_index, pool_tag, pool_word, tag_suits, word_suits, is_catch_type, class_from, is_class_at, last_index, argument_count, contents_check, contents_read, marked_check, record_check, end_check, read_from, sheet_check, Pool, with_value, pool_from, loaded_pool, loaded_slots, accepted_load, refused_load, memory_check, load_of}
use Rattle.rules.proofs.Check.{Holds, asked, held, bind_same}
use Rattle.std.specs.Prelude.{Ok, Err}
use Rattle.rules.specs.declared.refusals.Refusal.{Refusal}

-- ---- a record, question by question

module _ (sheet : List ℕ) (at : ℕ) (p : Reading) where
  -- 21
  pub head_cut : length sheet < body_at at → record_check sheet at p ≡ Err Refusal.RecordCut
  unfolding record_check ◌else◌ ◌>>◌
  head_cut h = simp (lt-leb _ _ h)

  pub body_cut : body_at at ≤ length sheet → length sheet < record_end sheet at → record_check sheet at p ≡ Err Refusal.RecordCut
  unfolding record_check ◌else◌ ◌>>◌
  body_cut h k = simp (le-leb _ _ h, lt-leb _ _ k)

  module _ (head : body_at at ≤ length sheet) (there : record_end sheet at ≤ length sheet) where
    -- 22
    pub unknown : (k : Refusal) → known_mark (u16 sheet at) ≡ Err k → record_check sheet at p ≡ Err k
    unfolding record_check ◌else◌ ◌>>◌ ◌>>=◌
    unknown k e = simp (le-leb _ _ head, le-leb _ _ there, e)

    pub marked : (m : Mark) → known_mark (u16 sheet at) ≡ Ok m → record_check sheet at p ≡ marked_check sheet at p m
    unfolding record_check ◌else◌ ◌>>◌ ◌>>=◌
    marked m e = simp (le-leb _ _ head, le-leb _ _ there, e)

  module _ (m : Mark) where
    -- 23
    pub disordered : follows m p.last ≡ false → marked_check sheet at p m ≡ Err Refusal.RecordOrder
    unfolding marked_check ◌else◌ ◌>>◌
    disordered h = simp h

    module _ (ordered : follows m p.last ≡ true) where
      -- 24
      pub wrong_length : right_length m (body_length sheet at) ≡ false → marked_check sheet at p m ≡ Err Refusal.RecordLength
      unfolding marked_check ◌else◌ ◌>>◌
      wrong_length h = simp (ordered, h)

      pub read_on : right_length m (body_length sheet at) ≡ true → marked_check sheet at p m ≡ contents_read sheet at p m
      unfolding marked_check ◌else◌ ◌>>◌
      read_on h = simp (ordered, h)

    pub bad_contents : (k : Refusal) → contents_check sheet at p m ≡ Err k → contents_read sheet at p m ≡ Err k
    unfolding ◌>>◌
    bad_contents k h = simp h

    pub good_contents : contents_check sheet at p m ≡ Ok tt → contents_read sheet at p m ≡ Ok (with_record sheet at m p)
    unfolding ◌>>◌
    good_contents h = simp h

  -- 25
  pub tag_unfit : tag_suits (pool_tag sheet at) (body_length sheet at) ≡ false → contents_check sheet at p KI ≡ Err Refusal.ConstantRecord
  unfolding contents_check ◌else◌ ◌>>◌
  tag_unfit h = simp h

  module _ (suits : tag_suits (pool_tag sheet at) (body_length sheet at) ≡ true) where
    pub word_unfit : word_suits (pool_tag sheet at) (pool_word sheet at) ≡ false → contents_check sheet at p KI ≡ Err Refusal.ConstantRecord
    unfolding contents_check ◌else◌ ◌>>◌
    word_unfit h = simp (suits, h)

    module _ (worded : word_suits (pool_tag sheet at) (pool_word sheet at) ≡ true) where
      pub index_used : pool_index sheet at ≤ last_used p → contents_check sheet at p KI ≡ Err Refusal.ConstantRecord
      unfolding contents_check ◌else◌ ◌>>◌
      index_used h = simp (suits, worded, le-ltb _ _ h)

      module _ (above : last_used p < pool_index sheet at) where
        pub index_past : 65535 < last_index sheet at → contents_check sheet at p KI ≡ Err Refusal.ConstantRecord
        unfolding contents_check ◌else◌ ◌>>◌
        index_past h = simp (suits, worded, lt-ltb _ _ above, lt-leb _ _ h)

        pub constant_read : last_index sheet at ≤ 65535 → contents_check sheet at p KI ≡ Ok tt
        unfolding contents_check ◌else◌ ◌>>◌
        constant_read h = simp (suits, worded, lt-ltb _ _ above, le-leb _ _ h)

  -- 33
  pub handler_cut : eqb (body_length sheet at) 8 ≡ false → contents_check sheet at p EX ≡ Err Refusal.HandlerRecord
  unfolding contents_check ◌else◌ ◌>>◌
  handler_cut h = simp h

  module _ (eight : eqb (body_length sheet at) 8 ≡ true) where
    pub no_range : end_pc sheet at ≤ start_pc sheet at → contents_check sheet at p EX ≡ Err Refusal.HandlerRecord
    unfolding contents_check ◌else◌ ◌>>◌
    no_range h = simp (eight, le-ltb _ _ h)

    module _ (some : start_pc sheet at < end_pc sheet at) where
      pub start_past : p.code_length ≤ start_pc sheet at → contents_check sheet at p EX ≡ Err Refusal.HandlerRecord
      unfolding contents_check ◌else◌ ◌>>◌
      start_past h = simp (eight, lt-ltb _ _ some, le-ltb _ _ h)

      module _ (start_inside : start_pc sheet at < p.code_length) where
        pub handler_past : p.code_length ≤ handler_pc sheet at → contents_check sheet at p EX ≡ Err Refusal.HandlerRecord
        unfolding contents_check ◌else◌ ◌>>◌
        handler_past h = simp (eight, lt-ltb _ _ some, lt-ltb _ _ start_inside, le-ltb _ _ h)

        module _ (handler_inside : handler_pc sheet at < p.code_length) where
          pub end_past : p.code_length < end_pc sheet at → contents_check sheet at p EX ≡ Err Refusal.HandlerRecord
          unfolding contents_check ◌else◌ ◌>>◌
          end_past h = simp (eight, lt-ltb _ _ some, lt-ltb _ _ start_inside, lt-ltb _ _ handler_inside, lt-leb _ _ h)

          module _ (whole : end_pc sheet at ≤ p.code_length) where
            pub no_catch_type : is_catch_type sheet p (catch_type sheet at) ≡ false → contents_check sheet at p EX ≡ Err Refusal.HandlerRecord
            unfolding contents_check ◌else◌ ◌>>◌
            no_catch_type h = simp (eight, lt-ltb _ _ some, lt-ltb _ _ start_inside, lt-ltb _ _ handler_inside, le-leb _ _ whole, h)

            pub handler_read : is_catch_type sheet p (catch_type sheet at) ≡ true → contents_check sheet at p EX ≡ Ok tt
            unfolding contents_check ◌else◌ ◌>>◌
            handler_read h = simp (eight, lt-ltb _ _ some, lt-ltb _ _ start_inside, lt-ltb _ _ handler_inside, le-leb _ _ whole, h)

  -- 27
  pub too_many : p.max_locals < argument_count sheet at → contents_check sheet at p AR ≡ Err Refusal.TooManyArguments
  unfolding contents_check ◌else◌ ◌>>◌
  too_many h = simp (lt-leb _ _ h)

  module _ (few : argument_count sheet at ≤ p.max_locals) where
    -- 31
    pub wrong_count : are_taken p.descriptor (argument_count sheet at) ≡ false → contents_check sheet at p AR ≡ Err Refusal.Descriptor
    unfolding contents_check ◌else◌ ◌>>◌
    wrong_count h = simp (le-leb _ _ few, h)

    pub arguments_read : are_taken p.descriptor (argument_count sheet at) ≡ true → contents_check sheet at p AR ≡ Ok tt
    unfolding contents_check ◌else◌ ◌>>◌
    arguments_read h = simp (le-leb _ _ few, h)

-- a record that is read ends in the sheet
Ends : List ℕ → ℕ → Reading → Type 0
Ends sheet at r = record_end sheet at ≤ length sheet

always : (sheet : List ℕ) (at : ℕ) (x : Check Reading) → record_end sheet at ≤ length sheet → Holds (Ends sheet at) x
unfolding Holds Ends
always sheet at (Ok r) h = h
always sheet at (Err n) h = tt

pub record_there : (sheet : List ℕ) (at : ℕ) (p q : Reading) → record_check sheet at p ≡ Ok q → record_end sheet at ≤ length sheet
unfolding record_check Ends
record_there sheet at p q e =
    held (Ends sheet at) (record_check sheet at p) q (asked (Ends sheet at) _ _ _ (λ _. asked (Ends sheet at) _ _ _ (λ h. always sheet at _ (leb-true _ _ h)))) e

-- ---- record by record: as many turns as there are bytes left are enough

module _ (sheet : List ℕ) where
  pub read_end : (n at : ℕ) (p : Reading) → length sheet ≤ at → read_from n sheet at p ≡ end_check p
  unfolding read_from
  read_end zero at p h = refl
  read_end (suc n) at p h = rw (le-leb (length sheet) at h)

  read_enough : (m n at : ℕ) (p : Reading) → length sheet - at ≤ m → length sheet - at ≤ n → read_from m sheet at p ≡ read_from n sheet at p
  unfolding read_from
  read_enough zero n at p h k = sym (read_end n at p (omega arith))
  read_enough (suc m) zero at p h k = read_end (suc m) at p (omega arith)
  read_enough (suc m) (suc n) at p h k =
      ap (λ (x : Check Reading). cond (leb (length sheet) at) (end_check p) x)
      (bind_same (record_check sheet at p) _ _ (λ q. read_enough m n (record_end sheet at) q (omega arith) (omega arith)))

  module _ (at : ℕ) (p : Reading) (more : at < length sheet) where
    one_record : read_from (length sheet - at) sheet at p ≡ (record_check sheet at p >>= λ q. read_from (length sheet - record_end sheet at) sheet (record_end sheet at) q)
    unfolding read_from
    one_record =
        let n = length sheet - at - 1 in
        let e : length sheet - at ≡ suc (length sheet - at - 1) = omega arith in
        ap (λ (k : ℕ). read_from k sheet at p) e
        ∙ ap (λ (t : Bool). cond t (end_check p) (record_check sheet at p >>= λ q. read_from n sheet (record_end sheet at) q)) (lt-leb (length sheet) at more)
        ∙ bind_same (record_check sheet at p) _ _ (λ q. read_enough n (length sheet - record_end sheet at) (record_end sheet at) q (omega arith) (omega arith))

    pub next_record : (q : Reading) → record_check sheet at p ≡ Ok q
        → read_from (length sheet - at) sheet at p ≡ read_from (length sheet - record_end sheet at) sheet (record_end sheet at) q
    unfolding ◌>>=◌
    next_record q e = rw e at one_record

    pub bad_record : (k : Refusal) → record_check sheet at p ≡ Err k → read_from (length sheet - at) sheet at p ≡ Err k
    unfolding ◌>>=◌
    bad_record k e = rw e at one_record

-- ---- constant by constant

module _ (sheet : List ℕ) (end : ℕ) where
  pub pool_end : (n at : ℕ) (p : Pool) → end ≤ at → pool_from n sheet at end p ≡ p
  unfolding pool_from
  pool_end zero at p h = refl
  pool_end (suc n) at p h = rw (le-leb end at h)

  pool_enough : (m n at : ℕ) (p : Pool) → end - at ≤ m → end - at ≤ n → pool_from m sheet at end p ≡ pool_from n sheet at end p
  unfolding pool_from
  pool_enough zero n at p h k = sym (pool_end n at p (omega arith))
  pool_enough (suc m) zero at p h k = pool_end (suc m) at p (omega arith)
  pool_enough (suc m) (suc n) at p h k =
      ap (λ (x : Pool). cond (leb end at) p x) (pool_enough m n (record_end sheet at) (with_value sheet at p) (omega arith) (omega arith))

  pub next_constant : (at : ℕ) (p : Pool) → at < end → pool_from (end - at) sheet at end p ≡ pool_from (end - record_end sheet at) sheet (record_end sheet at) end (with_value sheet at p)
  unfolding pool_from
  next_constant at p more =
      let n = end - at - 1 in
      let e : end - at ≡ suc (end - at - 1) = omega arith in
      ap (λ (k : ℕ). pool_from k sheet at end p) e
      ∙ ap (λ (t : Bool). cond t p (pool_from n sheet (record_end sheet at) end (with_value sheet at p))) (lt-leb end at more)
      ∙ pool_enough n (end - record_end sheet at) (record_end sheet at) (with_value sheet at p) (omega arith) (omega arith)

-- ---- class by class

module _ (sheet : List ℕ) (end index : ℕ) where
  pub class_end : (n at : ℕ) → end ≤ at → class_from n sheet at end index ≡ false
  unfolding class_from
  class_end zero at h = refl
  class_end (suc n) at h = rw (le-leb end at h)

  class_enough : (m n at : ℕ) → end - at ≤ m → end - at ≤ n → class_from m sheet at end index ≡ class_from n sheet at end index
  unfolding class_from
  class_enough zero n at h k = sym (class_end n at (omega arith))
  class_enough (suc m) zero at h k = class_end (suc m) at (omega arith)
  class_enough (suc m) (suc n) at h k =
      ap (λ (x : Bool). cond (leb end at) false (is_class_at sheet at index || x)) (class_enough m n (record_end sheet at) (omega arith) (omega arith))

  pub next_class : (at : ℕ) → at < end → class_from (end - at) sheet at end index ≡ (is_class_at sheet at index || class_from (end - record_end sheet at) sheet (record_end sheet at) end index)
  unfolding class_from
  next_class at more =
      let n = end - at - 1 in
      let e : end - at ≡ suc (end - at - 1) = omega arith in
      ap (λ (k : ℕ). class_from k sheet at end index) e
      ∙ ap (λ (t : Bool). cond t false (is_class_at sheet at index || class_from n sheet (record_end sheet at) end index)) (lt-leb end at more)
      ∙ ap (λ (x : Bool). is_class_at sheet at index || x) (class_enough n (end - record_end sheet at) (record_end sheet at) (omega arith) (omega arith))

-- ---- the load by the answers to its questions

module _ (sheet slots kinds words : List ℕ) where
  pub load_refused : (n : Refusal) → sheet_check sheet ≡ Err n → record { loaded = refused_load n; slots = slots; kinds = kinds; words = words } ≡ load_of sheet slots kinds words
  unfolding load_of ◌>>=◌
  load_refused n e = rw e

  module _ (p : Reading) (read : sheet_check sheet ≡ Ok p) where
    pub load_short : (n : Refusal) → memory_check p slots kinds words ≡ Err n → record { loaded = refused_load n; slots = slots; kinds = kinds; words = words } ≡ load_of sheet slots kinds words
    unfolding load_of ◌>>=◌ ◌>>◌
    load_short n e = rw (read, e)

    pub load_accepted : memory_check p slots kinds words ≡ Ok tt → (filled : Pool) → filled ≡ loaded_pool sheet p kinds words
        → record { loaded = accepted_load p; slots = loaded_slots sheet p slots; kinds = filled.kinds; words = filled.words } ≡ load_of sheet slots kinds words
    unfolding load_of ◌>>=◌ ◌>>◌
    load_accepted e filled f = rw (read, e, f)
