-- What ends a run, in a word (RULES, 'The printed walk').
use Rattle.std.specs.Prelude.{ℕ, List, codes, Some, None}
use Rattle.rules.specs.declared.halts.Halt.TheVariants.{Return, Throw, Refused}
use Rattle.rules.specs.Decisions.{End}

abbrev pub name_of : End → List ℕ
name_of None = codes "stopped"
name_of (Some (Return v)) = codes "return"
name_of (Some Throw) = codes "throw"
name_of (Some (Refused r)) = codes "refused"
