-- The parts that a load leaves, as the rules have them. Assumes nothing.
use Rattle.std.specs.Prelude.{ℕ, List}
use Rattle.rules.specs.declared.sheets.Loaded.{Loaded}
use Rattle.rules.specs.Sheet.{Pool, AfterLoad}

abbrev pub pool : List ℕ → List ℕ → Pool
pool kinds words = record { kinds = kinds; words = words }

abbrev pub after_load : Loaded → List ℕ → List ℕ → List ℕ → AfterLoad
after_load x slots kinds words = record { loaded = x; slots = slots; kinds = kinds; words = words }
