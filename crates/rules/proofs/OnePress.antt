-- One press keeps the walk's invariant, of any lawful machine: the state stands at stage net, and the log's first net entries undo the steps that led there.
-- Assumes nothing.
use Prim.Native.Nat.{ℕ, zero, suc, ◌+◌, ◌-◌, ◌*◌, ◌≤◌, ◌<◌, max}
use mathlib.Core.Path.{◌≡◌, refl, sym, ap, ◌∙◌}
use mathlib.Core.Bool.{Bool, true, false, cond}
use mathlib.Core.List.{List, [], ◌∷◌}
use native.Mathlib.Omega.{arith}
use native.Mathlib.Nat.{add-zero, zero-add}
use native.Mathlib.Numerals.{add-one}
use borrow.Author.Tests.{ltb-true, leb-true, le-leb, lt-ltb, ltb-false}
use lib.ListN.{length, get_or, take, drop, length-drop}
use lib.Seq.{paste, take-paste, length-paste}
use lib.Dec.{ltb, leb, eqb}
use Rattle.std.proofs.lemmas.Bool.{or_right}
use Rattle.rules.specs.declared.states.State.{State}
use Rattle.rules.specs.declared.updates.Update.{Update}
use Rattle.rules.specs.Check.{◌else◌, ◌>>◌}
use Rattle.rules.specs.Questions.{frame_size, frame_check}
use Rattle.rules.specs.Step.{frame, beyond, Decided, decide_on, moved, update_words, written, zeroed, cleared}
use Rattle.rules.specs.Run.{uncounted}
use Rattle.rules.specs.History.{AfterPress, kept, zeros6, old_words, undo_record, granted, granted_by, forward_by, forward_of, entry_check, back_check, restored, back_by, back_of}
use Rattle.rules.specs.PlainWalk.{Stage, stage_of, PlainWalk, decision_at, follow_by, next, stage_from, stage, Press, forward, back, check_answer, forward_answer, plain_answer, net_after, press_scratch}
use Rattle.rules.specs.Walk.{press_of}
use Rattle.rules.proofs.Questions.{Framed, frame_passed}
use Rattle.rules.proofs.Legal.{Legal, written_length, still_framed}
use Rattle.rules.proofs.Lawful.{Lawful, ordinary_by}
use Rattle.rules.proofs.Pasted.{paste_same, paste_back, take_front, drop_front, part_front, entry_put, entry_below, entry_word, entry_words}
use Rattle.rules.proofs.Scratch.{zeroed_twice, frame_cleared, beyond_cleared, length_cleared}
use Rattle.std.specs.Prelude.{Ok, Err, Some, None, Option}
use Rattle.rules.specs.declared.refusals.Refusal.{Refusal}
use Rattle.rules.specs.declared.halts.Halt.TheVariants.{Return, Throw, Refused}
use Rattle.rules.specs.Decisions.{Decision, Pressed}

-- what no step and no press changes of a state: the sizes and the return type
pub record SameMethod (s t : State) : Type 0 where
  pub stacked : s.max_stack ≡ t.max_stack
  pub localed : s.max_locals ≡ t.max_locals
  pub typed : s.return_type ≡ t.return_type

-- what is decided of a state is what is decided of its stage, in a walk of the same method, with as many slots
pub decides : (f : PlainWalk) → Lawful f.machine → (s : State) (slots : List ℕ) → SameMethod s f.state → length slots ≡ f.slots
    → decide_on f.machine s slots ≡ decision_at f (stage_of s slots)
decides f law s slots same n =
    ap (λ (k : ℕ). f.machine.decides k s (frame s slots)) n
    ∙ sym (law.unseen f.slots s (frame s slots))
    ∙ ap (λ (t : State). f.machine.decides f.slots t (frame s slots)) here
  where
    here : uncounted s ≡ moved f.state s.pc s.depth 0
    here = rw (same.stacked, same.localed, same.typed)

-- ---- the steps between stages

-- the ten words that undo the step that the rules make of a stage
abbrev pub undo_by : Stage → Decision → List ℕ
undo_by t (Ok u) = undo_record t.pc t.depth u.first u.many t.frame
undo_by t (Err (Return v)) = []
undo_by t (Err Throw) = []
undo_by t (Err (Refused n)) = []

abbrev pub undo_of : PlainWalk → Option Stage → List ℕ
undo_of f None = []
undo_of f (Some t) = undo_by t (decision_at f t).decision

-- the step that led to a stage
record Led (f : PlainWalk) (o : Option Stage) (b : Stage) : Type 0 where
  from : Stage
  by : Update
  is_stage : o ≡ Some from
  is_decision : (decision_at f from).decision ≡ Ok by
  is_next : record { pc = by.pc; depth = by.depth; frame = written by from.frame } ≡ b

led : (f : PlainWalk) (o : Option Stage) (b : Stage) → next f o ≡ Some b → Led f o b
led f None b e = absurd (cc)
led f (Some t) b e = go (decision_at f t).decision refl e
  where
    go : (d : Decision) → (decision_at f t).decision ≡ d → follow_by t d ≡ Some b → Led f (Some t) b
    go (Ok u) q h = record { from = t; by = u; is_stage = refl; is_decision = q; is_next = cc }
    go (Err (Return v)) q h = absurd (cc)
    go (Err Throw) q h = absurd (cc)
    go (Err (Refused n)) q h = absurd (cc)

led_legal : (f : PlainWalk) → Lawful f.machine → (t : Stage) (u : Update) → (decision_at f t).decision ≡ Ok u → Legal f.machine.runs (moved f.state t.pc t.depth 0) f.slots u
led_legal f law t u e = ordinary_by f.machine law f.slots (moved f.state t.pc t.depth 0) t.frame u e

-- every stage's frame has as many places as the first
frames : (f : PlainWalk) → Lawful f.machine → length f.first.frame ≡ frame_size f.state → (n : ℕ) (t : Stage) → stage f n ≡ Some t → length t.frame ≡ frame_size f.state
unfolding stage_from
frames f law h zero t q = let z : f.first ≡ t = cc in rw (← z) h
frames f law h (suc n) t q =
    let e = led f (stage f n) t q in
    let k : length e.from.frame ≡ frame_size f.state = frames f law h n e.from e.is_stage in
    let g = led_legal f law e.from e.by e.is_decision in
    sym (ap (λ (x : Stage). length x.frame) e.is_next) ∙ length-paste e.from.frame e.by.first (update_words e.by) e.by.many (omega (arith, g.within)) g.few ∙ k

-- ---- undo records

record_length : (pc depth first many : ℕ) (words : List ℕ) → many ≤ 6 → first + many ≤ length words → length (undo_record pc depth first many words) ≡ 10
record_length pc depth first many words h w =
    let n : length (old_words words first many) ≡ 6 = length-paste zeros6 0 (drop first words) many (omega arith) (omega (arith, length-drop first words)) in
    omega arith

-- the record that is made of all the slots is that of the frame
record_frame : (pc depth first many p : ℕ) (words : List ℕ) → first + many ≤ p → p ≤ length words → undo_record pc depth first many words ≡ undo_record pc depth first many (take p words)
record_frame pc depth first many p words h k =
    ap (λ (x : List ℕ). pc ∷ depth ∷ first ∷ many ∷ x) (paste_same zeros6 0 many (drop first words) (drop first (take p words)) (sym (part_front words first many p h k)))

-- ---- THE INVARIANT: a walk that began on these slots stands at net, its presses having taken `far` slots after the frame as scratch

pub record Stands (f : PlainWalk) (slots₀ : List ℕ) (far net : ℕ) (s : State) (slots log : List ℕ) : Type 0 where
  pub at_stage : stage f net ≡ Some (stage_of s slots)
  pub outside : beyond f.state slots ≡ zeroed far (beyond f.state slots₀)
  pub long : length slots ≡ f.slots
  pub counted : s.count ≡ net
  pub same_method : SameMethod s f.state
  pub roomy : length log ≡ f.log
  pub framed : Framed f.machine.runs s f.slots
  pub reached : 10 * net ≤ f.log
  pub undoes : (i : ℕ) → i < net → take 10 (drop (10 * i) log) ≡ undo_of f (stage f i)

-- a press's answer is a, and the walk stands at net afterwards
pub record Agrees (f : PlainWalk) (slots₀ : List ℕ) (far net : ℕ) (a : Pressed) (o : AfterPress) : Type 0 where
  pub answered : o.answer ≡ a
  pub stands : Stands f slots₀ far net o.state o.slots o.log

module _ (f : PlainWalk) (law : Lawful f.machine) (slots₀ : List ℕ) (whole : length f.first.frame ≡ frame_size f.state) where
  -- scratch moves nothing but `far`
  recleared : (far net : ℕ) (s : State) (slots log : List ℕ) → Stands f slots₀ far net s slots log → (n : ℕ) → n ≤ f.slots - frame_size s
      → Stands f slots₀ (max far n) net s (cleared s n slots) log
  recleared far net s slots log c n h =
      let a = c.same_method.stacked in
      let b = c.same_method.localed in
      let g = c.framed in
      let same : frame_size s ≡ frame_size f.state = omega arith in
      let room : frame_size s ≤ length slots = omega (arith, g.room, c.long) in
      record {
        at_stage = c.at_stage ∙ ap (λ (x : List ℕ). Some (record { pc = s.pc; depth = s.depth; frame = x })) (sym (frame_cleared s slots room n));
        outside =
            ap (λ (k : ℕ). drop k (cleared s n slots)) (sym same)
            ∙ beyond_cleared s slots room n
            ∙ ap (λ (k : ℕ). zeroed n (drop k slots)) same
            ∙ ap (zeroed n) c.outside
            ∙ zeroed_twice far n (beyond f.state slots₀);
        long = length_cleared s slots room n (omega (arith, c.long)) ∙ c.long;
        counted = c.counted;
        same_method = c.same_method;
        roomy = c.roomy;
        framed = g;
        reached = c.reached;
        undoes = c.undoes;
      }

  module _ (far net : ℕ) (s : State) (slots log : List ℕ) (c : Stands f slots₀ far net s slots log) where
    same_size : frame_size s ≡ frame_size f.state
    same_size = let a = c.same_method.stacked in let b = c.same_method.localed in omega arith

    room_here : frame_size s ≤ length slots
    room_here = let g = c.framed in omega (arith, g.room, c.long)

    staged : decide_on f.machine s slots ≡ decision_at f (stage_of s slots)
    staged = decides f law s slots c.same_method c.long

    -- how far this step writes after the frame
    abbrev here : ℕ
    here = (decision_at f (stage_of s slots)).scratch

    near : (decision_at f (stage_of s slots)).scratch ≤ f.slots - frame_size s
    near = rw same_size (law.near f.slots _ _)

    stays : (a : Pressed) → Agrees f slots₀ (max far here) net a (kept s slots log here a)
    stays a = record { answered = refl; stands = recleared far net s slots log c here near }

    module _ (u : Update) (q : (decision_at f (stage_of s slots)).decision ≡ Ok u) where
      legal : Legal f.machine.runs s (length slots) u
      legal = ordinary_by f.machine law (length slots) s (frame s slots) u (ap (λ (d : Decided). d.decision) staged ∙ q)

      in_slots : u.first + u.many ≤ length slots
      in_slots = let g = legal in omega (arith, g.within, room_here)

      new_frame : frame s (written u slots) ≡ written u (frame s slots)
      new_frame = let g = legal in take_front slots u.first u.many (frame_size s) (update_words u) g.within room_here g.few

      new_stage : stage f (net + 1) ≡ Some (record { pc = u.pc; depth = u.depth; frame = written u (frame s slots) })
      unfolding stage_from
      new_stage = rw (add-one, c.at_stage, q)

      undo_here : undo_of f (stage f net) ≡ undo_record s.pc s.depth u.first u.many (frame s slots)
      undo_here = rw (c.at_stage, q)

      entry_length : length (undo_record s.pc s.depth u.first u.many slots) ≡ 10
      entry_length = record_length s.pc s.depth u.first u.many slots legal.few in_slots

      module _ (space : 10 * net + 10 ≤ f.log) where
        undone : (i : ℕ) → i < net + 1 → (b : Bool) → ltb i net ≡ b
            → take 10 (drop (10 * i) (paste log (10 * s.count) (undo_record s.pc s.depth u.first u.many slots) 10)) ≡ undo_of f (stage f i)
        undone i h true t =
            let k : i < net = ltb-true i net t in
            entry_below log (undo_record s.pc s.depth u.first u.many slots) (10 * i) (10 * s.count) (omega (arith, c.counted)) (omega (arith, c.counted, c.roomy)) entry_length
            ∙ c.undoes i k
        undone i h false t =
            let k : i ≡ net = omega (arith, ltb-false i net t) in
            ap (λ (n : ℕ). take 10 (drop (10 * n) (paste log (10 * s.count) (undo_record s.pc s.depth u.first u.many slots) 10))) (k ∙ sym c.counted)
            ∙ entry_put log (undo_record s.pc s.depth u.first u.many slots) (10 * s.count) (omega (arith, c.counted, c.roomy)) entry_length
            ∙ record_frame s.pc s.depth u.first u.many (frame_size s) slots legal.within room_here
            ∙ sym undo_here
            ∙ ap (λ (n : ℕ). undo_of f (stage f n)) (sym k)

        goes : Agrees f slots₀ (max far here) (net + 1) (Ok tt) (granted s slots log here u)
        goes = record {
          answered = refl;
          stands = recleared far (net + 1) (moved s u.pc u.depth (s.count + 1)) (written u slots) _ (record {
            at_stage = new_stage ∙ ap (λ (x : List ℕ). Some (record { pc = u.pc; depth = u.depth; frame = x })) (sym new_frame);
            outside = rw (sym same_size) (drop_front slots u.first u.many (frame_size s) (update_words u) legal.within room_here legal.few) ∙ c.outside;
            long = written_length f.machine.runs s slots u legal ∙ c.long;
            counted = ap (λ (n : ℕ). n + 1) c.counted;
            same_method = record { stacked = c.same_method.stacked; localed = c.same_method.localed; typed = c.same_method.typed };
            roomy = length-paste log (10 * s.count) (undo_record s.pc s.depth u.first u.many slots) 10 (omega (arith, c.counted, c.roomy)) (omega (arith, entry_length)) ∙ c.roomy;
            framed = rw (← c.long) (still_framed f.machine.runs s (length slots) u legal (s.count + 1));
            reached = omega arith;
            undoes = λ i h. undone i h (ltb i net) refl;
          }) here near;
        }

    forward_by_lem : (d : Decision) → (decision_at f (stage_of s slots)).decision ≡ d
        → Agrees f slots₀ (max far here) (net_after forward net (forward_answer f.log net d)) (forward_answer f.log net d) (forward_by s slots log here d)
    unfolding ◌else◌
    forward_by_lem (Ok u) q =
        let e : leb (10 * s.count + 10) (length log) ≡ leb (10 * net + 10) f.log = rw (c.counted, c.roomy) in
        rw e (go (leb (10 * net + 10) f.log) refl)
      where
        go : (b : Bool) → leb (10 * net + 10) f.log ≡ b
            → Agrees f slots₀ (max far here) (net_after forward net (check_answer (b else Refusal.LogFull))) (check_answer (b else Refusal.LogFull)) (granted_by s slots log here u (b else Refusal.LogFull))
        go true t = goes u q (leb-true _ _ t)
        go false t = stays (Err (Refused Refusal.LogFull))
    forward_by_lem (Err (Return v)) q = stays (Err (Return v))
    forward_by_lem (Err Throw) q = stays (Err Throw)
    forward_by_lem (Err (Refused n)) q = stays (Err (Refused n))

    forward_agrees : Agrees f slots₀ (max far (press_scratch f forward net)) (net_after forward net (plain_answer f forward net)) (plain_answer f forward net) (forward_of f.machine s slots log)
    unfolding forward_of plain_answer
    forward_agrees = rw (c.at_stage, staged) (forward_by_lem (decision_at f (stage_of s slots)).decision refl)

    -- the step that led here, for a net above 0
    module _ (k : ℕ) (n : net ≡ suc k) where
      last : Led f (stage f k) (stage_of s slots)
      unfolding stage_from
      last = led f (stage f k) (stage_of s slots) (rw n at c.at_stage)

      last_frame : length last.from.frame ≡ frame_size f.state
      last_frame = frames f law whole k last.from last.is_stage

      last_legal : Legal f.machine.runs (moved f.state last.from.pc last.from.depth 0) f.slots last.by
      last_legal = led_legal f law last.from last.by last.is_decision

      last_entry : take 10 (drop (10 * k) log) ≡ undo_record last.from.pc last.from.depth last.by.first last.by.many last.from.frame
      last_entry = c.undoes k (omega arith) ∙ rw (last.is_stage, last.is_decision)

      long_log : 10 * k + 10 ≤ length log
      long_log = let a = c.reached in let b = c.roomy in omega arith

      back_pc : get_or log (10 * k) 0 ≡ last.from.pc
      back_pc = ap (λ (x : ℕ). get_or log x 0) (sym (add-zero (10 * k))) ∙ entry_word log _ (10 * k) last_entry 0 (omega arith)

      back_depth : get_or log (10 * k + 1) 0 ≡ last.from.depth
      back_depth = entry_word log _ (10 * k) last_entry 1 (omega arith)

      back_first : get_or log (10 * k + 2) 0 ≡ last.by.first
      back_first = entry_word log _ (10 * k) last_entry 2 (omega arith)

      back_many : get_or log (10 * k + 3) 0 ≡ last.by.many
      back_many = entry_word log _ (10 * k) last_entry 3 (omega arith)

      back_old : take last.by.many (drop (10 * k + 4) log) ≡ take last.by.many (drop last.by.first last.from.frame)
      back_old =
          let g = last_legal in
          entry_words log _ (10 * k) last_entry 4 last.by.many (omega (arith, g.few)) long_log
          ∙ ap (λ (x : ℕ). take x (old_words last.from.frame last.by.first last.by.many)) (sym (zero-add last.by.many))
          ∙ take-paste zeros6 0 (drop last.by.first last.from.frame) last.by.many (omega arith) (omega (arith, last_frame, g.within, length-drop last.by.first last.from.frame))

      back_sound : entry_check f.machine.runs.code s log (10 * k) ≡ Ok tt
      unfolding entry_check ◌else◌ ◌>>◌
      back_sound =
          let g = last_legal in
          let e = g.frame_there in
          simp (back_pc, back_depth, back_first, back_many, lt-ltb _ _ e.in_code, le-leb last.from.depth s.max_stack (omega (arith, e.deep, c.same_method.stacked)), le-leb last.by.many 6 g.few, le-leb (last.by.first + last.by.many) (s.max_locals + s.max_stack) (omega (arith, g.within, same_size)), or_right (eqb last.by.many 0) true refl)

      back_frame : take (frame_size s) (paste slots last.by.first (drop (10 * k + 4) log) last.by.many) ≡ last.from.frame
      back_frame =
          let g = last_legal in
          take_front slots last.by.first last.by.many (frame_size s) (drop (10 * k + 4) log) (omega (arith, g.within, same_size)) room_here (omega (arith, g.few, long_log, length-drop (10 * k + 4) log))
          ∙ ap (λ (x : List ℕ). paste x last.by.first (drop (10 * k + 4) log) last.by.many) (sym (ap (λ (x : Stage). x.frame) last.is_next))
          ∙ paste_back last.from.frame last.by.first last.by.many (update_words last.by) (drop (10 * k + 4) log) (omega (arith, g.within, last_frame)) g.few back_old

      back_long : length (paste slots last.by.first (drop (10 * k + 4) log) last.by.many) ≡ length slots
      back_long =
          let g = last_legal in
          length-paste slots last.by.first (drop (10 * k + 4) log) last.by.many (omega (arith, g.within, same_size, room_here)) (omega (arith, g.few, long_log, length-drop (10 * k + 4) log))

      back_framed : Framed f.machine.runs (moved s last.from.pc last.from.depth (s.count - 1)) f.slots
      back_framed =
          let g = last_legal.frame_there in
          let r = c.framed in
          record { paired = r.paired; pool = r.pool; room = r.room; some_code = r.some_code; short_code = r.short_code; in_code = g.in_code; deep = omega (arith, g.deep, c.same_method.stacked) }

      returns : Agrees f slots₀ far k (Ok tt) (restored s slots log (10 * k))
      returns =
          let g = last_legal in
          rw (back_pc, back_depth, back_first, back_many) (record {
            answered = refl;
            stands = record {
              at_stage = last.is_stage ∙ ap (λ (x : List ℕ). Some (record { pc = last.from.pc; depth = last.from.depth; frame = x })) (sym back_frame);
              outside = rw (sym same_size) (drop_front slots last.by.first last.by.many (frame_size s) (drop (10 * k + 4) log) (omega (arith, g.within, same_size)) room_here (omega (arith, g.few, long_log, length-drop (10 * k + 4) log))) ∙ c.outside;
              long = back_long ∙ c.long;
              counted = omega (arith, c.counted);
              same_method = record { stacked = c.same_method.stacked; localed = c.same_method.localed; typed = c.same_method.typed };
              roomy = c.roomy;
              framed = back_framed;
              reached = omega (arith, c.reached);
              undoes = λ i h. c.undoes i (omega arith);
            };
          })

    passes : frame_check f.machine.runs s (length slots) ≡ Ok tt
    passes = rw c.long (frame_passed f.machine.runs s f.slots c.framed)

    back_none : ltb 0 net ≡ false → back_check f.machine.runs s slots log ≡ Err Refusal.NothingToTakeBack
    unfolding back_check ◌else◌ ◌>>◌
    back_none t = rw (passes, ap (ltb 0) c.counted ∙ t)

    back_some : (k : ℕ) → net ≡ suc k → s.count - 1 ≡ k → back_check f.machine.runs s slots log ≡ Ok tt
    unfolding back_check ◌else◌ ◌>>◌
    back_some k n e =
        rw (passes, lt-ltb 0 s.count (omega (arith, c.counted)), le-leb (10 * s.count) (length log) (omega (arith, c.counted, c.reached, c.roomy)), e) (back_sound k n)

    back_agrees : Agrees f slots₀ far (net_after back net (plain_answer f back net)) (plain_answer f back net) (back_of f.machine.runs s slots log)
    unfolding back_of plain_answer
    back_agrees = go (ltb 0 net) refl
      where
        go : (b : Bool) → ltb 0 net ≡ b → Agrees f slots₀ far (net_after back net (cond b (Ok tt) (Err (Refused Refusal.NothingToTakeBack)))) (cond b (Ok tt) (Err (Refused Refusal.NothingToTakeBack))) (back_by s slots log (back_check f.machine.runs s slots log))
        go true t =
            let p = ltb-true 0 net t in
            let n : net ≡ suc (s.count - 1) = omega (arith, c.counted) in
            let e : net - 1 ≡ s.count - 1 = omega (arith, c.counted) in
            rw (back_some (s.count - 1) n refl, e) (returns (s.count - 1) n)
        go false t = rw (back_none t) (record { answered = refl; stands = c })

    pub press_agrees : (p : Press) → Agrees f slots₀ (max far (press_scratch f p net)) (net_after p net (plain_answer f p net)) (plain_answer f p net) (press_of f.machine p s slots log)
    unfolding press_of
    press_agrees forward = forward_agrees
    press_agrees back = let e : max far 0 ≡ far = omega arith in rw e back_agrees
