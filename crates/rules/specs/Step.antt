-- One step, decided before anything is written, with question 10; then taken, without history, by any machine. Assumes nothing.
use Rattle.std.specs.Prelude.{ℕ, zero, suc, ◌+◌, ◌-◌, cond, List, [], ◌∷◌, ◌++◌, ℤ, pos, negsuc, ◌+ℤ◌, length, get_or, take, drop, replicate, Ok, Err, Some, None, Option}
use Rattle.std.proofs.Math.Seq.{paste}
use Rattle.values.specs.declared.Value.{Value}
use Rattle.values.specs.Kinds.{places_of}
use Rattle.rules.specs.declared.states.State.{State}
use Rattle.rules.specs.declared.updates.Six.{Six}
use Rattle.rules.specs.declared.updates.Update.{Update}
use Rattle.rules.specs.Check.{Check, ◌else◌, ◌>>=◌, ◌>>◌, ◌≤ⁿ◌, ◌<ⁿ◌, ◌=ⁿ◌}
use Rattle.rules.specs.Forms.{Result, pushes, stores, divides, branches, returns, Source, stack, local, pool}
use Rattle.rules.specs.Fetch.{Instruction, fetched}
use Rattle.rules.specs.Returns.{returned}
use Rattle.rules.specs.Questions.{Method, method, frame_size, popped, pushed, frame_check, needs_check}
use Rattle.rules.specs.Handlers.{handler_at}
use Rattle.rules.specs.declared.refusals.Refusal.{Refusal}
use Rattle.rules.specs.declared.halts.Halt.TheVariants.{Return, Throw, Refused}
use Rattle.rules.specs.Decisions.{Decision}

-- ---- the words that an instruction works on

-- the words of the frame (RULES, 'Terms'): all locals and stack places
abbrev pub frame : State → List ℕ → List ℕ
frame s slots = take (frame_size s) slots

-- and the slots after it
abbrev pub beyond : State → List ℕ → List ℕ
beyond s slots = drop (frame_size s) slots

-- its first place on the stack, counted from the first local
abbrev pub base : State → Instruction → ℕ
base s i = s.max_locals + (s.depth - popped i)

abbrev pub words_at : Source → Method → State → List ℕ → Instruction → List ℕ
words_at stack l s words i = take (popped i) (drop (base s i) words)
words_at local l s words i = take (places_of i.rule.locals) (drop i.operand.index words)
words_at pool l s words i = take (pushed i) (drop i.operand.index l.words)

-- ---- what the step comes to

-- nothing written: first place and how many are both 0
abbrev pub first_place : ℕ → ℕ → ℕ
first_place at zero = 0
first_place at (suc n) = at

-- the first six of some words; those past their end are 0
abbrev pub six : List ℕ → Six
six ws = record { w0 = get_or ws 0 0; w1 = get_or ws 1 0; w2 = get_or ws 2 0; w3 = get_or ws 3 0; w4 = get_or ws 4 0; w5 = get_or ws 5 0 }

-- n words written from place `at` on
abbrev pub update : ℕ → ℕ → ℕ → ℕ → List ℕ → Update
update pc depth at n ws = record { pc = pc; depth = depth; first = first_place at n; many = n; words = six ws }

-- 10. Is the next pc inside the code?
abbrev pub inside : List ℕ → ℤ → Check ℕ
inside code (pos n) = do
  n <ⁿ length code else Refusal.Target
  Ok n
inside code (negsuc n) = Err Refusal.Target

-- an ordinary step to an offset, with n words written from a place on
abbrev pub ordinary : Method → State → Instruction → ℤ → ℕ → ℕ → List ℕ → Check Decision
ordinary l s i to at n ws = do
  pc ← inside l.code to
  Ok (Ok (update pc (s.depth - popped i + pushed i) at n ws))

-- the offset of the next instruction; the target of a branch, which is counted from the opcode; that of a handler, which is counted from the code's start
abbrev pub following : State → Instruction → ℤ
following s i = pos (s.pc + i.size)

abbrev pub target : State → ℤ → ℤ
target s z = pos s.pc +ℤ z

abbrev pub handler_target : State → ℕ → ℤ
handler_target s handler = pos handler

-- a return of a value, with question 32
abbrev pub return_of : ℕ → Value → Check Decision
return_of t v = do
  r ← returned t v
  Ok (Err (Return r))

-- an exception that is caught (JVMS 2.10, and 6.5 of athrow): the stack is emptied and the exception pushed, a reference with the word 1, with question 7; then
-- question 10 of the handler
abbrev pub caught_at : List ℕ → State → ℕ → Check Decision
caught_at code s handler = do
  1 ≤ⁿ s.max_stack else Refusal.StackOverflow
  pc ← inside code (handler_target s handler)
  Ok (Ok (update pc 1 s.max_locals 1 (1 ∷ [])))

-- an ArithmeticException that is thrown at an offset: caught by the method's handlers, or the outcome
abbrev pub thrown_to : List ℕ → State → Option ℕ → Check Decision
thrown_to code s None = Ok (Err Throw)
thrown_to code s (Some handler) = caught_at code s handler

unfoldable pub thrown_at : Method → State → ℕ → Check Decision
thrown_at l s pc = thrown_to l.code s (handler_at l.kinds l.words l.handlers pc)

-- all that it pushes, from its first place on the stack on; or the local stored. A zero divisor throws at the opcode's offset. A return ends before question 10
abbrev pub outcome : Method → State → Instruction → Result → Check Decision
outcome l s i (pushes ws) = ordinary l s i (following s i) (base s i) (pushed i) ws
outcome l s i (stores ws) = ordinary l s i (following s i) i.operand.index (places_of i.rule.locals) ws
outcome l s i (divides by ws) = cond (by =ⁿ 0) (thrown_at l s s.pc) (ordinary l s i (following s i) (base s i) (pushed i) ws)
outcome l s i (branches t z) = ordinary l s i (cond t (target s z) (following s i)) 0 0 []
outcome l s i (returns v) = return_of s.return_type v

abbrev pub decision : Check Decision → Decision
decision (Ok d) = d
decision (Err n) = Err (Refused n)

-- questions 1 to 10 in their order, and what the instruction does. It is given the number of slots, the state and the words of the frame: that a step looks at no
-- other slot is this type
unfoldable pub decide_frame : Method → ℕ → State → List ℕ → Decision
decide_frame l n s words = decision (do
  frame_check l s n
  i ← fetched l.code s.pc
  needs_check l s i
  outcome l s i (i.rule.does i.operand (words_at i.rule.reads l s words i)))

abbrev pub decide_of : Method → State → List ℕ → Decision
decide_of l s slots = decide_frame l (length slots) s (frame s slots)

-- ---- a machine: a method and a way to decide its steps. What follows, up to demand 3, is said of any machine

-- a decision, and how many slots after the frame it took as scratch: these are 0 afterwards, whatever was decided. The 164 instructions take none
pub record Decided : Type 0 where
  pub decision : Decision
  pub scratch : ℕ

-- by the number of slots, the state and the words of the frame
abbrev pub Decider : Type 0
Decider = ℕ → State → List ℕ → Decided

pub record Machine : Type 0 where
  pub runs : Method
  pub decides : Decider

-- by rules that are given the method whose steps they are to decide
abbrev pub machine_by : (Method → Decider) → Method → Machine
machine_by rules l = record { runs = l; decides = rules l }

abbrev pub decide_on : Machine → State → List ℕ → Decided
decide_on x s slots = x.decides (length slots) s (frame s slots)

-- the rules of the 164 instructions
abbrev pub core_rules : Method → Decider
core_rules l n s words = record { decision = decide_frame l n s words; scratch = 0 }

abbrev pub core_machine : Method → Machine
core_machine l = machine_by core_rules l

abbrev pub machine : List ℕ → List ℕ → List ℕ → List ℕ → Machine
machine code kinds words handlers = core_machine (method code kinds words handlers)

-- ---- what a step leaves

-- the state at another offset, depth and count
abbrev pub moved : State → ℕ → ℕ → ℕ → State
moved s pc depth count =
    record {
      max_stack = s.max_stack;
      max_locals = s.max_locals;
      pc = pc;
      depth = depth;
      count = count;
      return_type = s.return_type;
    }

abbrev pub update_words : Update → List ℕ
update_words u = u.words.w0 ∷ u.words.w1 ∷ u.words.w2 ∷ u.words.w3 ∷ u.words.w4 ∷ u.words.w5 ∷ []

abbrev pub written : Update → List ℕ → List ℕ
written u slots = paste slots u.first (update_words u) u.many

-- the first n words set to 0
abbrev pub zeroed : ℕ → List ℕ → List ℕ
zeroed n words = replicate n 0 ++ drop n words

-- n words after the first k set to 0
abbrev pub zeroed_after : ℕ → ℕ → List ℕ → List ℕ
zeroed_after k zero words = words
zeroed_after k (suc n) words = take k words ++ zeroed (suc n) (drop k words)

-- n slots after the frame set to 0
abbrev pub cleared : State → ℕ → List ℕ → List ℕ
cleared s n slots = zeroed_after (frame_size s) n slots

-- ---- the step without history

pub record Stepped : Type 0 where
  pub state : State
  pub decision : Decision
  pub slots : List ℕ

-- an ordinary step gives count 0; an outcome or a refusal changes nothing but its scratch
abbrev pub step_by : State → List ℕ → ℕ → Decision → Stepped
step_by s slots n (Ok u) = record { state = moved s u.pc u.depth 0; decision = Ok u; slots = cleared s n (written u slots) }
step_by s slots n (Err (Return v)) = record { state = s; decision = Err (Return v); slots = cleared s n slots }
step_by s slots n (Err Throw) = record { state = s; decision = (Err Throw); slots = cleared s n slots }
step_by s slots n (Err (Refused k)) = record { state = s; decision = Err (Refused k); slots = cleared s n slots }

unfoldable pub step_of : Machine → State → List ℕ → Stepped
step_of x s slots = step_by s slots (decide_on x s slots).scratch (decide_on x s slots).decision
