-- What a step, a press and a run come to (rules/src/halts): an ordinary step, a granted press and a used budget, or what halts there. Assumes nothing.
use Rattle.std.specs.Prelude.{Result, Option}
use Rattle.rules.specs.declared.updates.Update.{Update}
use Rattle.rules.specs.declared.halts.Halt.{Halt}

abbrev pub Decision : Type 0
Decision = Result Update Halt

abbrev pub Pressed : Type 0
Pressed = Result (Unit {0}) Halt

abbrev pub End : Type 0
End = Option Halt
