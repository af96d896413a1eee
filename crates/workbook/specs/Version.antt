-- The version of the exported functions. Assumes nothing.
use Rattle.std.specs.Prelude.{ℕ}

-- the number of the last request that has landed (docs/changes), 0 before the first
abbrev pub version : ℕ
version = 3
