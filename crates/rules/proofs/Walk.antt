-- THE THEOREM on a whole list of presses, of any lawful machine: whatever the presses, the words in the slots and the log. Assumes nothing.
use Prim.Native.Nat.{ℕ, zero, suc, ◌+◌, ◌-◌, ◌*◌, ◌≤◌, max}
use mathlib.Core.Path.{◌≡◌, refl, sym, ap, ◌∙◌}
use mathlib.Core.Bool.{Bool, true, false, cond}
use mathlib.Core.List.{List, [], ◌∷◌, ◌++◌}
use native.Mathlib.Omega.{arith}
use native.Mathlib.Nat.{zero-add, add-zero}
use borrow.Author.Tests.{ltb-true}
use lib.ListN.{length, take-append-drop}
use lib.Seq.{length-take-le}
use lib.Dec.{ltb, leb}
use Rattle.rules.specs.declared.states.State.{State}
use Rattle.rules.specs.Check.{◌else◌}
use Rattle.rules.specs.Questions.{frame_size}
use Rattle.rules.specs.Step.{frame, beyond, Decided, Machine, decide_on, moved, update_words, written, zeroed, cleared}
use Rattle.rules.specs.Run.{run_from, run_of}
use Rattle.rules.specs.PlainWalk.{Stage, stage_of, PlainWalk, decision_at, next, stage_from, stage, Press, forward, back, check_answer, forward_answer, decision_of, plain_answer, net_after, plain_answers, plain_net, scratch_at, scratch_from, press_scratch, plain_scratch}
use Rattle.rules.specs.Walk.{press_of, Walked, walk_of, one, grants, refused_with, refusals, Demand3}
use Rattle.rules.proofs.Questions.{Framed, frame_passed}
use Rattle.rules.proofs.Step.{run_ordinary}
use Rattle.rules.proofs.Legal.{written_length, still_framed}
use Rattle.rules.proofs.Numbers.{IfRefused, Not14}
use Rattle.rules.proofs.Lawful.{Lawful, ordinary_by}
use Rattle.rules.proofs.Pasted.{take_front, drop_front}
use Rattle.rules.proofs.Scratch.{zeroed_twice, frame_cleared, beyond_cleared, length_cleared}
use Rattle.rules.proofs.OnePress.{SameMethod, decides, Stands, press_agrees}
use Rattle.std.specs.Prelude.{Ok, Err, None, Some, Option}
use Rattle.rules.specs.declared.refusals.Refusal.{Refusal}
use Rattle.rules.specs.declared.halts.Halt.TheVariants.{Return, Throw, Refused}
use Rattle.rules.specs.Decisions.{Decision, Pressed}

-- ---- a list of presses follows the plain walk, from any net on

record Follows (f : PlainWalk) (slots₀ : List ℕ) (far net : ℕ) (answers : List Pressed) (w : Walked) : Type 0 where
  answered : w.answers ≡ answers
  stands : Stands f slots₀ far net w.state w.slots w.log

module _ (f : PlainWalk) (law : Lawful f.machine) where
  follows : (slots₀ : List ℕ) → length f.first.frame ≡ frame_size f.state → (presses : List Press) (far net : ℕ) (s : State) (slots log : List ℕ) → Stands f slots₀ far net s slots log
      → Follows f slots₀ (plain_scratch f presses net far) (plain_net f presses net) (plain_answers f presses net) (walk_of f.machine presses s slots log)
  unfolding plain_net plain_answers plain_scratch walk_of
  follows slots₀ whole [] far net s slots log c = record { answered = refl; stands = c }
  follows slots₀ whole (x ∷ xs) far net s slots log c =
      let o = press_of f.machine x s slots log in
      let g = press_agrees f law slots₀ whole far net s slots log c x in
      let r = follows slots₀ whole xs (max far (press_scratch f x net)) (net_after x net (plain_answer f x net)) o.state o.slots o.log g.stands in
      record { answered = cc; stands = r.stands }

  -- net and the granted backs make the granted forwards
  moves : (p : Press) (net : ℕ) → net_after p net (plain_answer f p net) + one back p (plain_answer f p net) ≡ net + one forward p (plain_answer f p net)
  unfolding plain_answer
  moves forward net = go (plain_answer f forward net)
    where
      go : (a : Pressed) → net_after forward net a + one back forward a ≡ net + one forward forward a
      go (Ok t) = omega arith
      go (Err (Return v)) = refl
      go (Err Throw) = refl
      go (Err (Refused n)) = refl
  moves back net = go (ltb 0 net) refl
    where
      go : (b : Bool) → ltb 0 net ≡ b → net_after back net (cond b (Ok tt) (Err (Refused Refusal.NothingToTakeBack))) + one back back (cond b (Ok tt) (Err (Refused Refusal.NothingToTakeBack))) ≡ net + 0
      go true e = omega (arith, ltb-true 0 net e)
      go false e = refl

  tally : (ps : List Press) (net : ℕ) → plain_net f ps net + grants back ps (plain_answers f ps net) ≡ net + grants forward ps (plain_answers f ps net)
  unfolding plain_net plain_answers grants
  tally [] net = refl
  tally (p ∷ ps) net =
      let h = tally ps (net_after p net (plain_answer f p net)) in
      let m = moves p net in
      omega arith

  -- no answer of the plain walk is 14: no step's is, question 11's is 12, and back's is 13
  not_14 : (p : Press) (net : ℕ) → refused_with 14 (plain_answer f p net) ≡ 0
  unfolding plain_answer ◌else◌
  not_14 forward net = of_stage (stage f net)
    where
      of_log : (b : Bool) → refused_with 14 (check_answer (b else Refusal.LogFull)) ≡ 0
      of_log true = refl
      of_log false = refl

      of_decision : (d : Decision) → IfRefused Not14 d → refused_with 14 (forward_answer f.log net d) ≡ 0
      of_decision (Ok u) h = of_log (leb (10 * net + 10) f.log)
      of_decision (Err (Return v)) h = refl
      of_decision (Err Throw) h = refl
      of_decision (Err (Refused n)) h = rw h

      of_stage : (o : Option Stage) → refused_with 14 (forward_answer f.log net (decision_of f o)) ≡ 0
      of_stage None = refl
      of_stage (Some t) = of_decision (decision_at f t).decision (law.numbered f.slots (moved f.state t.pc t.depth 0) t.frame)
  not_14 back net = of_net (ltb 0 net)
    where
      of_net : (b : Bool) → refused_with 14 (cond b (Ok tt) (Err (Refused Refusal.NothingToTakeBack))) ≡ 0
      of_net true = refl
      of_net false = refl

  no_14 : (ps : List Press) (net : ℕ) → refusals 14 (plain_answers f ps net) ≡ 0
  unfolding plain_answers refusals
  no_14 [] net = refl
  no_14 (p ∷ ps) net = rw (not_14 p net, zero-add) (no_14 ps (net_after p net (plain_answer f p net)))

  -- ---- a run of n steps, from where stage n exists, ends there

  -- stages counted from the next one, and the scratch between them
  stage_shift : (t u : Stage) → next f (Some t) ≡ Some u → (n : ℕ) → stage_from f t (suc n) ≡ stage_from f u n
  unfolding stage_from
  stage_shift t u q zero = q
  stage_shift t u q (suc n) = ap (next f) (stage_shift t u q n)

  stage_none : (t : Stage) → next f (Some t) ≡ None → (n : ℕ) → stage_from f t (suc n) ≡ None
  unfolding stage_from
  stage_none t q zero = q
  stage_none t q (suc n) = ap (next f) (stage_none t q n)

  scratch_shift : (t u : Stage) → next f (Some t) ≡ Some u → (n : ℕ) → scratch_from f t (suc n) ≡ max (decision_at f t).scratch (scratch_from f u n)
  unfolding scratch_from stage_from
  scratch_shift t u q zero = omega arith
  scratch_shift t u q (suc n) =
      let h = scratch_shift t u q n in
      let k : scratch_at f (stage_from f t (suc n)) ≡ scratch_at f (stage_from f u n) = ap (scratch_at f) (stage_shift t u q n) in
      ap (λ (x : ℕ). max x (scratch_at f (stage_from f t (suc n)))) h ∙ ap (λ (x : ℕ). max (max (decision_at f t).scratch (scratch_from f u n)) x) k
      ∙ grouped (decision_at f t).scratch (scratch_from f u n) (scratch_at f (stage_from f u n))
    where
      grouped : (a b c : ℕ) → max (max a b) c ≡ max a (max b c)
      grouped a b c = omega arith

  RunsTo : ℕ → Type 0
  RunsTo n =
      (k : ℕ) (s : State) (slots : List ℕ) (u : Stage) → SameMethod s f.state → Framed f.machine.runs s (length slots) → length slots ≡ f.slots
      → stage_from f (stage_of s slots) n ≡ Some u
      → run_from f.machine n k s slots ≡ record { state = moved s u.pc u.depth 0; steps = k + n; end = None; slots = u.frame ++ zeroed (scratch_from f (stage_of s slots) n) (beyond s slots) }

  one_more_run : (n : ℕ) → RunsTo n → RunsTo (suc n)
  unfolding RunsTo
  one_more_run n ih k s slots u m g long q = go (decide_on f.machine s slots).decision refl
    where
      staged : decide_on f.machine s slots ≡ decision_at f (stage_of s slots)
      staged = decides f law s slots m long

      ends_here : next f (Some (stage_of s slots)) ≡ None → ⊥
      ends_here e = let x = stage_none (stage_of s slots) e n in let z : ◌≡◌ {A = ℕ} 0 1 = cc in omega arith

      go : (d : Decision) → (decide_on f.machine s slots).decision ≡ d
          → run_from f.machine (suc n) k s slots ≡ record { state = moved s u.pc u.depth 0; steps = k + suc n; end = None; slots = u.frame ++ zeroed (scratch_from f (stage_of s slots) (suc n)) (beyond s slots) }
      go (Ok v) e =
          let h = ordinary_by f.machine law (length slots) s (frame s slots) v e in
          let room = g.room in
          let same : (decide_on f.machine s slots).scratch ≡ (decision_at f (stage_of s slots)).scratch = ap (λ (d : Decided). d.scratch) staged in
          let near : (decide_on f.machine s slots).scratch ≤ length slots - frame_size s = law.near (length slots) s (frame s slots) in
          let n₁ : length (written v slots) ≡ length slots = written_length f.machine.runs s slots v h in
          let w : frame_size s ≤ length (written v slots) = omega arith in
          let n₂ : length (cleared s (decide_on f.machine s slots).scratch (written v slots)) ≡ length slots = length_cleared s (written v slots) w (decide_on f.machine s slots).scratch (omega arith) ∙ n₁ in
          let t : Stage = record { pc = v.pc; depth = v.depth; frame = written v (frame s slots) } in
          let there : frame s (cleared s (decide_on f.machine s slots).scratch (written v slots)) ≡ written v (frame s slots) =
          frame_cleared s (written v slots) w (decide_on f.machine s slots).scratch ∙ take_front slots v.first v.many (frame_size s) (update_words v) h.within room h.few in
          let at : stage_of (moved s v.pc v.depth 0) (cleared s (decide_on f.machine s slots).scratch (written v slots)) ≡ record { pc = v.pc; depth = v.depth; frame = written v (frame s slots) } =
          ap (λ (x : List ℕ). record { pc = v.pc; depth = v.depth; frame = x }) there in
          let leads : next f (Some (stage_of s slots)) ≡ Some (record { pc = v.pc; depth = v.depth; frame = written v (frame s slots) }) = rw (sym (ap (λ (d : Decided). d.decision) staged) ∙ e) in
          let shifted : stage_from f (record { pc = v.pc; depth = v.depth; frame = written v (frame s slots) }) n ≡ Some u = sym (stage_shift (stage_of s slots) t leads n) ∙ q in
          let steps : suc k + n ≡ k + suc n = omega arith in
          run_ordinary f.machine n k s slots v e
          ∙ ih (suc k) (moved s v.pc v.depth 0) (cleared s (decide_on f.machine s slots).scratch (written v slots)) u (record { stacked = m.stacked; localed = m.localed; typed = m.typed })
          (rw n₂ (still_framed f.machine.runs s (length slots) v h 0)) (n₂ ∙ long) (rw at shifted)
          ∙ rw (at, beyond_cleared s (written v slots) w (decide_on f.machine s slots).scratch, drop_front slots v.first v.many (frame_size s) (update_words v) h.within room h.few, zeroed_twice, same, ← scratch_shift (stage_of s slots) t leads n, steps)
      go (Err (Return v)) e = absurd (ends_here (rw (sym (ap (λ (d : Decided). d.decision) staged) ∙ e)))
      go (Err Throw) e = absurd (ends_here (rw (sym (ap (λ (d : Decided). d.decision) staged) ∙ e)))
      go (Err (Refused m)) e = absurd (ends_here (rw (sym (ap (λ (d : Decided). d.decision) staged) ∙ e)))

  runs_to : (n : ℕ) → RunsTo n
  unfolding RunsTo run_from stage_from scratch_from
  runs_to zero k s slots u m g long q =
      let z : stage_of s slots ≡ u = cc in
      rw (← z, take-append-drop, add-zero)
  runs_to (suc n) k s slots u m g long q = one_more_run n (runs_to n) k s slots u m g long q

-- ---- the whole list

-- a state of the same method by its count
state_is : (s r : State) (n : ℕ) → SameMethod r s → r.count ≡ n → r ≡ moved s r.pc r.depth n
state_is s r n m c = rw (← m.stacked, ← m.localed, ← m.typed, ← c)

-- the plain walk that begins at a state and slots
abbrev pub walk_from : Machine → State → List ℕ → List ℕ → PlainWalk
walk_from x s slots log = record { machine = x; slots = length slots; log = length log; state = s; first = stage_of s slots }

module _ (x : Machine) (law : Lawful x) (s : State) (slots log : List ℕ) (g : Framed x.runs s (length slots)) (fresh : s.count ≡ 0) where
  begins : Stands (walk_from x s slots log) slots 0 0 s slots log
  unfolding stage_from
  begins = record {
    at_stage = refl;
    outside = refl;
    long = refl;
    counted = fresh;
    same_method = record { stacked = refl; localed = refl; typed = refl };
    roomy = refl;
    framed = g;
    reached = omega arith;
    undoes = λ i h. absurd (omega arith);
  }

  pub whole_list : (presses : List Press) → Demand3 (walk_from x s slots log) slots presses (walk_of x presses s slots log)
  unfolding run_of RunsTo
  whole_list presses =
      let f = walk_from x s slots log in
      let w = walk_of x presses s slots log in
      let net = plain_net f presses 0 in
      let r = follows f law slots (length-take-le (frame_size s) slots g.room) presses 0 0 s slots log begins in
      let c = r.stands in
      record {
        answered = r.answered;
        sound = rw r.answered (no_14 f law presses 0);
        at_net = c.at_stage;
        difference = rw r.answered (tally f law presses 0 ∙ zero-add _);
        sized = state_is s w.state net c.same_method c.counted;
        outside = c.outside;
        ran = λ _. rw (frame_passed x.runs s (length slots) g) (runs_to f law net 0 s slots (stage_of w.state w.slots) (record { stacked = refl; localed = refl; typed = refl }) g refl c.at_stage ∙ rw (zero-add, c.same_method.stacked, c.same_method.localed, c.same_method.typed));
      }
