-- What each answer says, case by case: a number, and the value that goes with it as two words. The refusals have 1 to 99 (RULES, 'Questions and
-- refusals'); the others are numbers of the exported functions. Assumes nothing.
use Rattle.std.specs.Prelude.{ℕ, ◌/◌, ◌%◌, ◌^◌, Ok, Err, Some, None}
use Rattle.values.specs.declared.Value.{Value}
use Rattle.values.specs.declared.Value.TheVariants.{Void, Int, Float, Reference, Long, Double}
use Rattle.rules.specs.declared.Answer.{Answer}
use Rattle.rules.specs.Check.{Check}
use Rattle.rules.specs.declared.halts.Halt.TheVariants.{Return, Throw, Refused}
use Rattle.rules.specs.Decisions.{Decision, End, Pressed}
use Rattle.rules.specs.Refusals.{number_of}
use Rattle.rules.specs.declared.halts.Halt.{Halt}

-- a number and the bits of a value
abbrev pub answer : ℕ → ℕ → Answer
answer n v = record { number = n; low = v % 2 ^ 32; high = v / 2 ^ 32 }

-- a return: int, float, ref, long, double, void
abbrev pub value_answer : Value → Answer
value_answer (Int v) = answer 101 v
value_answer (Float v) = answer 102 v
value_answer (Reference v) = answer 103 v
value_answer (Long v) = answer 104 v
value_answer (Double v) = answer 105 v
value_answer Void = answer 106 0

-- what halts: a return, an ArithmeticException, a refusal
abbrev pub halt_answer : Halt → Answer
halt_answer (Return v) = value_answer v
halt_answer Throw = answer 110 0
halt_answer (Refused r) = answer (number_of r) 0

-- a step: ordinary, or what halts there
abbrev pub decision_answer : Decision → Answer
decision_answer (Ok u) = answer 0 0
decision_answer (Err h) = halt_answer h

-- a run: stopped, or as the step at which it ended
abbrev pub end_answer : End → Answer
end_answer None = answer 120 0
end_answer (Some h) = halt_answer h

-- a press: granted, or as the step at which it ended
abbrev pub pressed_answer : Pressed → Answer
pressed_answer (Ok t) = answer 0 0
pressed_answer (Err h) = halt_answer h

-- a load: accepted, or its refusal
abbrev pub load_answer : Check (Unit {0}) → Answer
load_answer (Ok t) = answer 0 0
load_answer (Err r) = answer (number_of r) 0
