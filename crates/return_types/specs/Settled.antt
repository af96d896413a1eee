-- A decision whose return has not been asked question 32 yet, by the return type. Assumes nothing.
use Rattle.std.specs.Prelude.{ℕ, Ok, Err}
use Rattle.rules.specs.Step.{return_of, decision}
use Rattle.rules.specs.declared.halts.Halt.TheVariants.{Return, Throw, Refused}
use Rattle.rules.specs.Decisions.{Decision}

abbrev pub settled : ℕ → Decision → Decision
settled t (Ok u) = Ok u
settled t (Err (Return v)) = decision (return_of t v)
settled t (Err Throw) = Err Throw
settled t (Err (Refused n)) = Err (Refused n)
