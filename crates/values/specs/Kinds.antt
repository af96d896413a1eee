-- The kinds of values (JVMS 2.2, 2.11.1) and the places they take in locals and on the operand stack (2.6.1, 2.6.2). Assumes nothing.
use Rattle.std.specs.Prelude.{ℕ, ◌+◌, List, [], ◌∷◌}

-- `any` is one word of whatever kind: what the stack instructions of 2.11.6 move
pub data Kind : Type 0 where
  int long float double reference any : Kind

-- a long and a double take two places
abbrev pub places : Kind → ℕ
places int = 1
places long = 2
places float = 1
places double = 2
places reference = 1
places any = 1

abbrev pub places_of : List Kind → ℕ
places_of [] = 0
places_of (k ∷ ks) = places k + places_of ks
