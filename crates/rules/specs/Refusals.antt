-- The number of each refusal (RULES, 'Questions and refusals', 'The sheet'). Assumes nothing.
use Rattle.std.specs.Prelude.{ℕ}
use Rattle.rules.specs.declared.refusals.Refusal.{Refusal}

abbrev pub number_of : Refusal → ℕ
number_of Refusal.Lengths = 1
number_of Refusal.Code = 2
number_of Refusal.Depth = 3
number_of Refusal.Opcode = 4
number_of Refusal.OperandBytes = 5
number_of Refusal.SwitchKeys = 6
number_of Refusal.StackUnderflow = 7
number_of Refusal.StackOverflow = 8
number_of Refusal.Local = 9
number_of Refusal.Constant = 10
number_of Refusal.Target = 11
number_of Refusal.LogFull = 12
number_of Refusal.NothingToTakeBack = 13
number_of Refusal.LogEntry = 14
number_of Refusal.RecordCut = 21
number_of Refusal.UnknownMark = 22
number_of Refusal.RecordOrder = 23
number_of Refusal.RecordLength = 24
number_of Refusal.ConstantRecord = 25
number_of Refusal.LentMemory = 26
number_of Refusal.TooManyArguments = 27
number_of Refusal.Descriptor = 31
number_of Refusal.ReturnType = 32
number_of Refusal.HandlerRecord = 33
