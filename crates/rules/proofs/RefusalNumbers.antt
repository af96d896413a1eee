-- The number of a refusal. Assumes nothing.
use Rattle.std.specs.Prelude.{◌<◌}
use native.Mathlib.Omega.{arith}
use Rattle.rules.specs.declared.refusals.Refusal.{Refusal}
use Rattle.rules.specs.Refusals.{number_of}

pub number_above : (r : Refusal) → 0 < number_of r
number_above Refusal.Lengths = omega arith
number_above Refusal.Code = omega arith
number_above Refusal.Depth = omega arith
number_above Refusal.Opcode = omega arith
number_above Refusal.OperandBytes = omega arith
number_above Refusal.SwitchKeys = omega arith
number_above Refusal.StackUnderflow = omega arith
number_above Refusal.StackOverflow = omega arith
number_above Refusal.Local = omega arith
number_above Refusal.Constant = omega arith
number_above Refusal.Target = omega arith
number_above Refusal.LogFull = omega arith
number_above Refusal.NothingToTakeBack = omega arith
number_above Refusal.LogEntry = omega arith
number_above Refusal.RecordCut = omega arith
number_above Refusal.UnknownMark = omega arith
number_above Refusal.RecordOrder = omega arith
number_above Refusal.RecordLength = omega arith
number_above Refusal.ConstantRecord = omega arith
number_above Refusal.LentMemory = omega arith
number_above Refusal.TooManyArguments = omega arith
number_above Refusal.Descriptor = omega arith
number_above Refusal.ReturnType = omega arith
number_above Refusal.HandlerRecord = omega arith
