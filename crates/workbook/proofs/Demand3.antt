-- DEMAND 3 at the boundary: single calls follow the walk of the rules, the words that a load left are what the rules' load left, and so both promises. Assumes nothing.
use Prim.Native.Nat.{ℕ, ◌+◌, ◌*◌, ◌/◌, ◌%◌, ◌^◌, ◌≤◌, ◌<◌}
use mathlib.Core.Path.{◌≡◌, refl, sym, ap, subst, ◌∙◌}
use mathlib.Core.Bool.{Bool, true, false}
use mathlib.Core.List.{List, [], ◌∷◌, ◌++◌, map}
use native.Mathlib.Omega.{arith}
use lib.Dec.{leb}
use borrow.Author.Tests.{le-leb}
use lib.ListN.{length, get_or, take, drop}
use lib.Seq.{paste, length-paste}
use Rattle.rules.specs.declared.states.State.{State}
use Rattle.rules.specs.declared.sheets.Reading.{Reading}
use Rattle.rules.specs.Check.{Check, ◌else◌, ◌>>=◌, ◌>>◌}
use Rattle.rules.specs.Fetch.{u8}
use Rattle.rules.specs.Questions.{Method, method}
use Rattle.rules.specs.Step.{Machine, core_rules, core_machine, frame, beyond, zeroed, decide_on}
use Rattle.rules.specs.Run.{uncounted}
use Rattle.rules.specs.Sheet.{sheet_check, loaded_pool, load_of, code_of}
use Rattle.rules.specs.History.{AfterPress, granted_by, forward_by, forward_of, back_check, back_by, back_of}
use Rattle.rules.specs.PlainWalk.{PlainWalk, Press, forward, back, plain_answers, plain_net, scratch_from}
use Rattle.rules.specs.Walk.{press_of, Walked, walk_of, Demand3}
use Rattle.rules.specs.Answers.{value_answer, end_answer, pressed_answer, load_answer}
use Rattle.rules.specs.Presses.{replay_of, loaded_method, LeftBy, plain_walk_in}
use Rattle.rules.proofs.Lawful.{core_lawful}
use Rattle.rules.proofs.RefusalNumbers.{number_above}
use Rattle.rules.proofs.Sheet.{load_accepted}
use Rattle.rules.proofs.AcceptedLoad.{was_read, Said, accepted_said, refused_above}
use Rattle.rules.proofs.FromSheet.{demand3}
use Rattle.rules.proofs.Replay.{from_any_load}
use Rattle.workbook.specs.StateWords.{state_words, state_in, state_size, with_state, sizes_check}
use Rattle.workbook.specs.Calls.{Called, state_after, answer_after, forward_call, back_call, with_steps, run_call, presses_made, presses_call, LoadCalled, parts_of, words_check, load_by, load_for, load_call}
use Rattle.workbook.specs.Demand3.{method_left, Calls, press_call, calls_of, answers_left, Demand3OfCalls, FromThisLoad, LeftByLoad, FromAnyLoadCall}
use Rattle.workbook.proofs.Checks.{lengths_pass, words_yes, sizes_pass}
use Rattle.std.specs.Prelude.{Ok, Err, None}
use Rattle.rules.specs.declared.refusals.Refusal.{Refusal}
use Rattle.rules.specs.declared.halts.Halt.TheVariants.{Return, Throw, Refused}
use Rattle.rules.specs.Decisions.{Decision, Pressed}

-- ---- a state, written and read again, is the state

pub state_again : (ws : List ℕ) (s : State) → state_in (with_state ws s) ≡ s
state_again ws s = let e : s.count % 2 ^ 32 + s.count / 2 ^ 32 * 2 ^ 32 ≡ s.count = omega arith in rw e

long_again : (ws : List ℕ) (s : State) → state_size ≤ length ws → length (with_state ws s) ≡ length ws
long_again ws s h = length-paste ws 0 (state_words s) state_size h (omega arith)

-- ---- a press keeps the sizes, and one that is not granted keeps the state

abbrev IfNotGranted : Pressed → Type 0 → Type 0
IfNotGranted (Ok t) P = Unit {0}
IfNotGranted (Err h) P = P

record Keeps (s : State) (o : AfterPress) : Type 0 where
  stack : o.state.max_stack ≡ s.max_stack
  locals : o.state.max_locals ≡ s.max_locals
  state : IfNotGranted o.answer (o.state ≡ s)

module _ (s : State) (slots log : List ℕ) where
  granted_keeps : (n : ℕ) (u : _) (b : Bool) → Keeps s (granted_by s slots log n u (b else Refusal.LogFull))
  unfolding ◌else◌
  granted_keeps n u true = record { stack = refl; locals = refl; state = tt }
  granted_keeps n u false = record { stack = refl; locals = refl; state = refl }

  forward_keeps : (n : ℕ) (d : Decision) → Keeps s (forward_by s slots log n d)
  forward_keeps n (Ok u) = granted_keeps n u (leb (10 * s.count + 10) (length log))
  forward_keeps n (Err h) = record { stack = refl; locals = refl; state = refl }

  back_keeps : (x : Check (Unit {0})) → Keeps s (back_by s slots log x)
  back_keeps (Ok t) = record { stack = refl; locals = refl; state = tt }
  back_keeps (Err k) = record { stack = refl; locals = refl; state = refl }

  -- back gives no value
  back_valueless : (answer : List ℕ) (x : Check (Unit {0})) → answer ≡ answer_after answer (back_by s slots log x).answer
  back_valueless answer (Ok t) = refl
  back_valueless answer (Err k) = refl

press_keeps : (x : Machine) (p : Press) (s : State) (slots log : List ℕ) → Keeps s (press_of x p s slots log)
unfolding press_of forward_of back_of
press_keeps x forward s slots log = forward_keeps s slots log (decide_on x s slots).scratch (decide_on x s slots).decision
press_keeps x back s slots log = back_keeps s slots log (back_check x.runs s slots log)

-- ---- one call

-- the words that a state stands in: they are enough, and its sizes fit
record Held (state : List ℕ) : Type 0 where
  enough : state_size ≤ length state
  stack : get_or state 0 0 ≤ 65535
  locals : get_or state 1 0 ≤ 65535

sizes_held : (state : List ℕ) → Held state → sizes_check state ≡ Ok tt
sizes_held state h = sizes_pass state h.stack h.locals

abbrev made_call : List ℕ → List ℕ → AfterPress → Called
made_call state answer o =
    record { number = (pressed_answer o.answer).number; slots = o.slots; log = o.log; state = state_after state o.state o.answer; answer = answer_after answer o.answer }

press_made : (x : Machine) (p : Press) (slots log state answer : List ℕ) → Held state → 4 ≤ length answer → press_call x p slots log state answer ≡ made_call state answer (press_of x p (state_in state) slots log)
unfolding press_of forward_call back_call back_of ◌>>◌ ◌else◌
press_made x forward slots log state answer h k = rw (lengths_pass state answer 4 h.enough k, sizes_held state h)
press_made x back slots log state answer h k =
    let c = back_check x.runs (state_in state) slots log in
    rw (le-leb state_size (length state) h.enough, sizes_held state h)
    (ap (λ (ws : List ℕ). record { number = (pressed_answer (back_by (state_in state) slots log c).answer).number; slots = (back_by (state_in state) slots log c).slots; log = (back_by (state_in state) slots log c).log; state = state_after state (back_by (state_in state) slots log c).state (back_by (state_in state) slots log c).answer; answer = ws })
    (back_valueless (state_in state) slots log answer c))

-- the state in the words after it
state_after_lem : (state : List ℕ) (o : AfterPress) → Keeps (state_in state) o → state_in (state_after state o.state o.answer) ≡ o.state
state_after_lem state o k = go o.answer k.state
  where
    go : (a : Pressed) → IfNotGranted a (o.state ≡ state_in state) → state_in (state_after state o.state a) ≡ o.state
    go (Ok t) h = state_again state o.state
    go (Err k) h = sym h

held_after : (state : List ℕ) (o : AfterPress) → Held state → Keeps (state_in state) o → Held (state_after state o.state o.answer)
held_after state o h k = go o.answer
  where
    written : Held (with_state state o.state)
    written = record { enough = omega (arith, long_again state o.state h.enough, h.enough); stack = omega (arith, k.stack, h.stack); locals = omega (arith, k.locals, h.locals) }

    go : (a : Pressed) → Held (state_after state o.state a)
    go (Ok t) = written
    go (Err (Return v)) = h
    go (Err Throw) = h
    go (Err (Refused n)) = h

long_answer : (answer : List ℕ) (a : Pressed) → 4 ≤ length answer → 4 ≤ length (answer_after answer a)
long_answer answer (Ok t) h = h
long_answer answer (Err (Return v)) h = omega (arith, length-paste answer 0 ((value_answer v).low ∷ (value_answer v).high ∷ []) 2 (omega arith) (omega arith))
long_answer answer (Err Throw) h = h
long_answer answer (Err (Refused n)) h = h

-- ---- a list of calls follows the walk

record Follows (answer : List ℕ) (w : Walked) (c : Calls) : Type 0 where
  numbers : c.numbers ≡ map (λ a. (pressed_answer a).number) w.answers
  slots : c.slots ≡ w.slots
  log : c.log ≡ w.log
  state : state_in c.state ≡ w.state
  values : c.answer ≡ answers_left answer w.answers

calls_follow : (x : Machine) (presses : List Press) (slots log state answer : List ℕ) → Held state → 4 ≤ length answer
    → Follows answer (walk_of x presses (state_in state) slots log) (calls_of x presses slots log state answer)
unfolding walk_of calls_of answers_left
calls_follow x [] slots log state answer h k = record { numbers = refl; slots = refl; log = refl; state = refl; values = refl }
calls_follow x (p ∷ ps) slots log state answer h k =
    let o = press_of x p (state_in state) slots log in
    let keeps = press_keeps x p (state_in state) slots log in
    let r = calls_follow x ps o.slots o.log (state_after state o.state o.answer) (answer_after answer o.answer) (held_after state o h keeps) (long_answer answer o.answer k) in
    let q : Follows (answer_after answer o.answer) (walk_of x ps o.state o.slots o.log) (calls_of x ps o.slots o.log (state_after state o.state o.answer) (answer_after answer o.answer)) =
    rw (state_after_lem state o keeps) at r in
    rw (press_made x p slots log state answer h k)
    (record { numbers = ap (λ (ns : List ℕ). (pressed_answer o.answer).number ∷ ns) q.numbers; slots = q.slots; log = q.log; state = q.state; values = q.values })

-- ---- what an accepted load left in the words

record LoadLeft (sheet slots kinds words state answer : List ℕ) : Type 0 where
  enough : state_size ≤ length state
  accepted : (load_of sheet slots kinds words).loaded.answer ≡ Ok tt
  is : let m = load_of sheet slots kinds words in
      load_call sheet slots kinds words state answer
      ≡ record { number = 0; slots = m.slots; kinds = m.kinds; words = m.words; state = with_state state m.loaded.state; answer = paste answer 0 (parts_of m.loaded) 4 }

module _ (sheet slots kinds words state answer : List ℕ) where
  load_numbered : (a : Check (Unit {0})) → (load_by state answer (load_of sheet slots kinds words) a).number ≡ (load_answer a).number
  load_numbered (Ok t) = refl
  load_numbered (Err k) = refl

  left_by_answer : (p : Reading) → sheet_check sheet ≡ Ok p → words_check state answer p ≡ Ok tt → (a : Check (Unit {0})) → (load_of sheet slots kinds words).loaded.answer ≡ a → (load_answer a).number ≡ 0
      → LoadLeft sheet slots kinds words state answer
  unfolding load_call ◌>>=◌
  left_by_answer p r w (Ok t) e z = record { enough = (words_yes state answer p w).0; accepted = e; is = rw (r, w, e) }
  left_by_answer p r w (Err k) e z = absurd (omega (arith, refused_above sheet slots kinds words k e))

  left_by_words : (p : Reading) → sheet_check sheet ≡ Ok p → (x : Check (Unit {0})) → words_check state answer p ≡ x → (load_for sheet slots kinds words state answer x).number ≡ 0
      → LoadLeft sheet slots kinds words state answer
  left_by_words p r (Ok t) w z = left_by_answer p r w (load_of sheet slots kinds words).loaded.answer refl (sym (load_numbered (load_of sheet slots kinds words).loaded.answer) ∙ z)
  left_by_words p r (Err n) w z = absurd (omega (arith, number_above n))

  load_left : (load_call sheet slots kinds words state answer).number ≡ 0 → LoadLeft sheet slots kinds words state answer
  unfolding load_call ◌>>=◌
  load_left h = go (sheet_check sheet) refl h
    where
      go : (x : Check Reading) → sheet_check sheet ≡ x → (load_for sheet slots kinds words state answer (x >>= λ p. words_check state answer p)).number ≡ 0 → LoadLeft sheet slots kinds words state answer
      go (Ok p) r z = left_by_words p r (words_check state answer p) refl z
      go (Err n) r z = absurd (omega (arith, number_above n))

module _ (sheet slots kinds words state answer : List ℕ) (bytes : (i : ℕ) → u8 sheet i < 256) (left : LoadLeft sheet slots kinds words state answer) where
  said : Said sheet (load_of sheet slots kinds words).loaded
  said = accepted_said sheet slots kinds words bytes left.accepted

  -- the parts of the sheet at the answer words are the code and the handlers
  method_left_lem : method_left sheet (load_call sheet slots kinds words state answer) ≡ loaded_method sheet (load_of sheet slots kinds words)
  method_left_lem = rw (left.is, said.is_part, said.handlers_part)

  state_left : state_in (load_call sheet slots kinds words state answer).state ≡ (load_of sheet slots kinds words).loaded.state
  state_left = rw left.is (state_again state (load_of sheet slots kinds words).loaded.state)

  slots_left : (load_call sheet slots kinds words state answer).slots ≡ (load_of sheet slots kinds words).slots
  slots_left = rw left.is

  held_left : Held (load_call sheet slots kinds words state answer).state
  held_left = rw left.is (record {
    enough = omega (arith, long_again state (load_of sheet slots kinds words).loaded.state left.enough, left.enough);
    stack = said.small_stack;
    locals = said.small_locals;
  })

  -- the state of the plain walk is the load's
  state_given : (l : Method) (after log : List ℕ) → (plain_walk_in core_rules sheet l after log).state ≡ (load_of sheet slots kinds words).loaded.state
  state_given l after log =
      let r = was_read sheet slots kinds words left.accepted in
      rw (r.read, ← load_accepted sheet slots kinds words r.reading r.read r.fits (loaded_pool sheet r.reading kinds words) refl)

-- ---- DEMAND 3 of a list of calls that follows a walk

module _ (f : PlainWalk) (slots state answer : List ℕ) (presses : List Press) (w : Walked) (c : Calls) (d : Demand3 f slots presses w) (follows : Follows answer w c) where
  walked : w ≡ record { state = state_in c.state; slots = c.slots; log = c.log; answers = plain_answers f presses 0 }
  walked = rw (follows.state, follows.slots, follows.log, ← d.answered)

  -- what the run's call leaves, by the state that it reached
  abbrev with_end : State → List ℕ → Called
  with_end t after =
      record {
        number = (end_answer None).number;
        slots = frame f.state after ++ zeroed (scratch_from f f.first (plain_net f presses 0)) (beyond f.state slots);
        log = [];
        state = with_state state (uncounted t);
        answer = with_steps answer 0 0 (plain_net f presses 0);
      }

  of_calls : Held state → 4 ≤ length answer → state_in state ≡ f.state → Demand3OfCalls f slots state answer presses c
  unfolding run_call
  of_calls h k s =
      record {
        numbers = follows.numbers ∙ ap (map (λ a. (pressed_answer a).number)) d.answered;
        values = follows.values ∙ ap (answers_left answer) d.answered;
        demand3 = subst (λ (v : Walked). Demand3 f slots presses v) walked d;
        ran = λ b. rw (lengths_pass state answer 4 h.enough k, sizes_held state h, s, d.ran b, follows.slots) (ap (λ (t : State). with_end t w.slots) (sym follows.state));
      }

module _ (sheet slots kinds words state answer : List ℕ) (bytes : (i : ℕ) → u8 sheet i < 256) where
  abbrev taken_at : ℕ → ℕ → List ℕ
  taken_at at n = take n (drop at sheet)

  module _ (log : List ℕ) (presses : List Press) where
    -- demand 3 of a walk on the slots that the load left, by its method and its state
    abbrev OfWalk : Method → State → List ℕ → Type 0
    OfWalk l s after = Demand3 (plain_walk_in core_rules sheet l after log) after presses (walk_of (core_machine l) presses s after log)

    walk_left : LoadLeft sheet slots kinds words state answer
        → let c = load_call sheet slots kinds words state answer in OfWalk (method_left sheet c) (state_in c.state) c.slots
    walk_left left =
        let m = load_of sheet slots kinds words in
        let said = accepted_said sheet slots kinds words bytes left.accepted in
        subst (λ (c : LoadCalled). OfWalk (method_left sheet c) (state_in c.state) c.slots) (sym left.is)
        (subst (λ (s : State). OfWalk (method (taken_at m.loaded.code m.loaded.code_length) m.kinds m.words (taken_at m.loaded.handlers m.loaded.handlers_length)) s m.slots) (sym (state_again state m.loaded.state))
        (subst (λ (code : List ℕ). OfWalk (method code m.kinds m.words (taken_at m.loaded.handlers m.loaded.handlers_length)) m.loaded.state m.slots) said.is_part
        (subst (λ (handlers : List ℕ). OfWalk (method (code_of sheet m.loaded) m.kinds m.words handlers) m.loaded.state m.slots) said.handlers_part
        (demand3 core_rules core_lawful sheet slots kinds words bytes left.accepted log presses))))

  pub from_this_load : FromThisLoad sheet (load_call sheet slots kinds words state answer)
  from_this_load z log lent presses k =
      let left = load_left sheet slots kinds words state answer z in
      let c = load_call sheet slots kinds words state answer in
      let l = method_left sheet c in
      let held = held_left sheet slots kinds words state answer bytes left in
      of_calls _ c.slots c.state lent presses _ _ (walk_left log presses left) (calls_follow (core_machine l) presses c.slots log c.state lent held k) held k
      (state_left sheet slots kinds words state answer bytes left ∙ sym (state_given sheet slots kinds words state answer bytes left l c.slots log))

  pub load_promised : (c : LoadCalled) → c ≡ load_call sheet slots kinds words state answer → (c ≡ load_call sheet slots kinds words state answer) × FromThisLoad sheet c
  load_promised c e = (e, subst (FromThisLoad sheet) (sym e) from_this_load)

-- ---- DEMAND 3 of workbook_presses

module _ (l : Method) (slots log state bytes answers : List ℕ) where
  replay_call : Held state → 3 * length bytes ≤ length answers
      → presses_call (core_machine l) slots log state bytes answers ≡ presses_made state (replay_of (core_machine l) bytes (state_in state) slots log answers)
  unfolding presses_call ◌else◌ ◌>>◌
  replay_call h room = rw (le-leb (3 * length bytes) (length answers) room, le-leb state_size (length state) h.enough, sizes_held state h)

  pub from_any_load_call : (c : Called) → c ≡ presses_call (core_machine l) slots log state bytes answers → FromAnyLoadCall l slots log state bytes answers c
  from_any_load_call c e sheet from room =
      let left = load_left sheet from.slots₀ from.kinds₀ from.words₀ from.state₀ from.answer₀ from.accepted in
      let held : Held state = rw from.same_state (held_left sheet from.slots₀ from.kinds₀ from.words₀ from.state₀ from.answer₀ from.bytes left) in
      let loaded : LeftBy sheet l (state_in state) slots =
      record {
        bytes = from.bytes;
        slots₀ = from.slots₀;
        kinds₀ = from.kinds₀;
        words₀ = from.words₀;
        accepted = left.accepted;
        same_method = from.same_method ∙ method_left_lem sheet from.slots₀ from.kinds₀ from.words₀ from.state₀ from.answer₀ from.bytes left;
        same_state = ap state_in from.same_state ∙ state_left sheet from.slots₀ from.kinds₀ from.words₀ from.state₀ from.answer₀ from.bytes left;
        same_slots = from.same_slots ∙ slots_left sheet from.slots₀ from.kinds₀ from.words₀ from.state₀ from.answer₀ from.bytes left;
      } in
      let d = from_any_load core_rules core_lawful l bytes (state_in state) slots log answers sheet loaded room in
      let r = replay_of (core_machine l) bytes (state_in state) slots log answers in
      rw (e ∙ replay_call held room, state_again state r.state) (record { all_made = refl; answers_written = d.answers_written; demand3 = d.demand3 })

  pub list_promised : (c : Called) → c ≡ presses_call (core_machine l) slots log state bytes answers
      → (c ≡ presses_call (core_machine l) slots log state bytes answers) × FromAnyLoadCall l slots log state bytes answers c
  list_promised c e = (e, from_any_load_call c e)

-- its premise holds of what every accepted call of workbook_load left
left_by_load : (sheet slots kinds words state answer : List ℕ) → ((i : ℕ) → u8 sheet i < 256) → (load_call sheet slots kinds words state answer).number ≡ 0
    → let c = load_call sheet slots kinds words state answer in LeftByLoad sheet (method_left sheet c) c.slots c.state
left_by_load sheet slots kinds words state answer b a =
    record { bytes = b; slots₀ = slots; kinds₀ = kinds; words₀ = words; state₀ = state; answer₀ = answer; accepted = a; same_method = refl; same_slots = refl; same_state = refl }
