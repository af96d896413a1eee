-- An entry of the log: its words as a chunk; its old words; and by what was read of it, whether it is sound. Assumes nothing.
use Prim.Native.Nat.{ℕ, zero, suc, ◌+◌, ◌-◌, ◌*◌, ◌/◌, ◌≤◌, ◌<◌}
use mathlib.Core.Path.{◌≡◌, ap, ◌∙◌}
use mathlib.Core.Bool.{true, false}
use mathlib.Core.List.{List, ◌∷◌}
use native.Mathlib.Omega.{arith}
use lib.Dec.{leb, lit<}
use lib.ListN.{length, get_or, take, drop, length-drop, length-take}
use lib.Seq.{paste, length-paste, get_or-take, get_or-drop}
use borrow.Rule.Slice.PartMut.{put_mid}
use Rattle.std.specs.Simd.{first_chunks}
use Rattle.std.proofs.lemmas.List.{drop-drop, drop-take, take-take, length-take-le}
use borrow.Author.Tests.{lt-ltb, le-ltb, le-leb, lt-leb, ne_eqb}
use Rattle.rules.specs.declared.states.State.{State}
use Rattle.rules.specs.Check.{◌else◌, ◌>>◌, is_passed}
use Rattle.rules.specs.History.{entry_at, zeros6, old_words, undo_record, entry_check}
use Rattle.rules.proofs.Check.{last_asked}
use Rattle.history.specs.declared.undo_log.Entry.{Entry}
use Rattle.history.specs.Left.{IsEntry}

-- a chunk by its index
pub chunk_at : (m c k : ℕ) (xs d : List ℕ) → k < c → get_or (first_chunks m c xs) k d ≡ take m (drop (m * k) xs)
chunk_at m zero k xs d h = absurd (omega arith)
chunk_at m (suc c) zero xs d h = let start : m * 0 ≡ 0 = omega arith in rw start
chunk_at m (suc c) (suc k) xs d h =
    let next : m + m * k ≡ m * suc k = omega arith in
    chunk_at m c k (drop m xs) d (omega arith) ∙ ap (take m) (drop-drop (m * k) m xs ∙ ap (λ (i : ℕ). drop i xs) next)

pub entry_read : (log : List ℕ) (n : ℕ) (entries : List (List ℕ)) (e : Entry) → entries ≡ first_chunks 10 (length log / 10) log → n < length log / 10
    → (words : List ℕ) → words ≡ get_or entries n words
    → e.pc ≡ get_or words 0 0 → e.depth ≡ get_or words 1 0 → e.first ≡ get_or words 2 0 → e.many ≡ get_or words 3 0 → e.old ≡ take 6 (drop 4 words) → IsEntry e log (entry_at n)
entry_read log n entries e chunks h words at pc depth first many old =
    let chunk : words ≡ take 10 (drop (10 * n) log) = at ∙ rw chunks (chunk_at 10 (length log / 10) n log words h) in
    let word : (i : ℕ) → i < 10 → get_or words i 0 ≡ get_or log (10 * n + i) 0 = λ i below. rw chunk (get_or-take 10 (drop (10 * n) log) i 0 below ∙ get_or-drop (10 * n) log i 0) in
    let start : 10 * n + 0 ≡ 10 * n = omega arith in
    record {
      whole = omega arith;
      pc = pc ∙ word 0 (lit< tt) ∙ ap (λ (i : ℕ). get_or log i 0) start;
      depth = depth ∙ word 1 (lit< tt);
      first = first ∙ word 2 (lit< tt);
      many = many ∙ word 3 (lit< tt);
      old = old ∙ ap (λ (xs : List ℕ). take 6 (drop 4 xs)) chunk ∙ ap (take 6) (drop-take 4 6 (drop (10 * n) log) ∙ ap (take 6) (drop-drop 4 (10 * n) log)) ∙ take-take 6 6 (drop (10 * n + 4) log) (omega arith);
    }

-- the old words of an entry, written back
pub put_back : (slots words old : List ℕ) (at many : ℕ) → many ≤ length old → old ≡ take 6 words → let back = take many old in paste slots at back (length back) ≡ paste slots at words many
put_back slots words old at many h is =
    let few : many ≤ 6 = omega (arith, h, ap length is, length-take 6 words) in
    rw (length-take-le many old h, take-take many many old (omega arith), is, take-take many 6 words few)

-- the old words of an undo record, copied into an entry over zeros, of which those past them are left
pub recorded : (slots log : List ℕ) (at pc depth first many : ℕ) (old : List ℕ) → many ≤ 6 → first + many ≤ length slots → old ≡ take (first + many - first) (drop first slots)
    → let entry = put_mid 4 (4 + many - 4) (pc ∷ depth ∷ first ∷ many ∷ zeros6) old in paste log at entry (length entry) ≡ paste log at (undo_record pc depth first many slots) 10
recorded slots log at pc depth first many old few fits h =
    let count : first + many - first ≡ many = omega arith in
    let width : 4 + many - 4 ≡ many = omega arith in
    let from : 0 + many ≡ many = omega arith in
    let entry : put_mid 4 (4 + many - 4) (pc ∷ depth ∷ first ∷ many ∷ zeros6) old ≡ undo_record pc depth first many slots = rw (h, count, width, from) in
    let six : length (old_words slots first many) ≡ 6 = length-paste zeros6 0 (drop first slots) many (omega arith) (omega (arith, length-drop first slots)) in
    let ten : length (undo_record pc depth first many slots) ≡ 10 = omega arith in
    ap (λ (x : List ℕ). paste log at x (length x)) entry ∙ ap (paste log at (undo_record pc depth first many slots)) ten

module _ (log : List ℕ) (k : ℕ) (e : Entry) (is : IsEntry e log k) where
  -- it has as many old words as places, where these are at most six
  pub old_many : e.many ≤ 6 → e.many ≤ length e.old
  old_many h = rw (is.old, length-take-le 6 (drop (k + 4) log) (omega (arith, is.whole, length-drop (k + 4) log))) h

  -- ---- whether it is sound

  module _ (code : List ℕ) (s : State) where
    pub outside : length code ≤ e.pc → false ≡ is_passed (entry_check code s log k)
    unfolding entry_check ◌else◌ ◌>>◌
    outside h = simp (← is.pc, le-ltb _ _ h)

    module _ (offset : e.pc < length code) where
      pub too_deep : s.max_stack < e.depth → false ≡ is_passed (entry_check code s log k)
      unfolding entry_check ◌else◌ ◌>>◌
      too_deep h = simp (← is.pc, ← is.depth, lt-ltb _ _ offset, lt-leb _ _ h)

      module _ (depth : e.depth ≤ s.max_stack) where
        pub too_many : 6 < e.many → false ≡ is_passed (entry_check code s log k)
        unfolding entry_check ◌else◌ ◌>>◌
        too_many h = simp (← is.pc, ← is.depth, ← is.many, lt-ltb _ _ offset, le-leb _ _ depth, lt-leb _ _ h)

        pub no_places : e.many ≡ 0 → true ≡ is_passed (entry_check code s log k)
        unfolding entry_check ◌else◌ ◌>>◌
        no_places h = simp (← is.pc, ← is.depth, ← is.many, lt-ltb _ _ offset, le-leb _ _ depth, h)

        pub some_places : e.many ≤ 6 → (e.many ≡ 0 → ⊥) → leb (e.first + e.many) (s.max_locals + s.max_stack) ≡ is_passed (entry_check code s log k)
        unfolding entry_check ◌else◌ ◌>>◌
        some_places few h = simp (← is.pc, ← is.depth, ← is.first, ← is.many, lt-ltb _ _ offset, le-leb _ _ depth, le-leb _ _ few, ne_eqb _ _ h) (last_asked _ _)
