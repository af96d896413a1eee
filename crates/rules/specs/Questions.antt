-- Questions 1 to 3 and 6 to 9 (RULES, 'Questions and refusals') in their order, each with the number that a no gives. 4 and 5 are in Fetch, 10 in Step. Assumes nothing.
use Rattle.std.specs.Prelude.{ℕ, ◌+◌, ◌-◌, Bool, true, false, ◌&&◌, ◌||◌, List, [], ◌∷◌, length, get_or}
use Rattle.values.specs.Kinds.{Kind, int, long, float, double, reference, any, places, places_of}
use Rattle.rules.specs.declared.states.State.{State}
use Rattle.rules.specs.Check.{Check, ◌else◌, ◌>>◌, ◌≤ⁿ◌, ◌<ⁿ◌, ◌=ⁿ◌}
use Rattle.rules.specs.Fetch.{Instruction}
use Rattle.rules.specs.declared.refusals.Refusal.{Refusal}

-- a method as it is lent, and never written: its code, the constant pool as kinds and words, and its handlers (Handlers)
pub record Method : Type 0 where
  pub code : List ℕ
  pub kinds : List ℕ
  pub words : List ℕ
  pub handlers : List ℕ

abbrev pub method : List ℕ → List ℕ → List ℕ → List ℕ → Method
method code kinds words handlers = record { code = code; kinds = kinds; words = words; handlers = handlers }

-- how many places a frame has (RULES, 'Terms'): all locals and stack places
abbrev pub frame_size : State → ℕ
frame_size s = s.max_locals + s.max_stack

-- ---- questions 1 to 3, with n slots

unfoldable pub frame_check : Method → State → ℕ → Check (Unit {0})
frame_check l s n = do
  -- 1. Are kinds and words equally long, at most 65,536, and slots at least max_locals + max_stack?
  length l.kinds =ⁿ length l.words else Refusal.Lengths
  length l.kinds ≤ⁿ 65536 else Refusal.Lengths
  frame_size s ≤ⁿ n else Refusal.Lengths
  -- 2. Is the code 1 to 65,535 bytes and pc inside?
  1 ≤ⁿ length l.code else Refusal.Code
  length l.code ≤ⁿ 65535 else Refusal.Code
  s.pc <ⁿ length l.code else Refusal.Code
  -- 3. Is depth at most max_stack?
  s.depth ≤ⁿ s.max_stack else Refusal.Depth

-- ---- questions 6 to 9

abbrev pub popped : Instruction → ℕ
popped i = places_of i.rule.takes

abbrev pub pushed : Instruction → ℕ
pushed i = places_of i.rule.gives

-- each local that it names is below the limit, both places of a long
abbrev pub locals_below : ℕ → ℕ → List Kind → Bool
locals_below limit x [] = true
locals_below limit x (k ∷ ks) = (x + places k ≤ⁿ limit) && locals_below limit x ks

-- the tags of JVMS 4.4
abbrev pub tagged : ℕ → Kind → Bool
tagged t int = t =ⁿ 3
tagged t float = t =ⁿ 4
tagged t long = t =ⁿ 5
tagged t double = t =ⁿ 6
tagged t reference = false
tagged t any = false

-- one of the kinds stands at the index, with a following entry for a long
abbrev pub one_stands_at : List ℕ → ℕ → List Kind → Bool
one_stands_at tags x [] = false
one_stands_at tags x (k ∷ ks) = tagged (get_or tags x 0) k && (x + places k ≤ⁿ length tags) || one_stands_at tags x ks

-- an instruction that names no constant asks nothing of the pool
abbrev pub constant_there : List ℕ → ℕ → List Kind → Bool
constant_there tags x [] = true
constant_there tags x (k ∷ ks) = one_stands_at tags x (k ∷ ks)

-- question 9
abbrev pub constant_check : List ℕ → ℕ → List Kind → Check (Unit {0})
constant_check tags x ks = constant_there tags x ks else Refusal.Constant

unfoldable pub needs_check : Method → State → Instruction → Check (Unit {0})
needs_check l s i = do
  -- 6. Is what it pops there?
  popped i ≤ⁿ s.depth else Refusal.StackUnderflow
  -- 7. Does what it pushes fit max_stack?
  s.depth - popped i + pushed i ≤ⁿ s.max_stack else Refusal.StackOverflow
  -- 8. Are its locals, both for a long, below max_locals?
  locals_below s.max_locals i.operand.index i.rule.locals else Refusal.Local
  -- 9. Has the pool the right kind at the index, and a following entry for a long?
  constant_check l.kinds i.operand.index i.rule.constants
