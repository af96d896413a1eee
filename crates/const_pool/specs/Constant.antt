-- What loading a constant answers: its words where question 9 says yes for one of two kinds, which take as many places. Assumes nothing.
use Rattle.std.specs.Prelude.{ℕ, List, [], ◌∷◌, get_or, take, drop, Ok, Err}
use Rattle.values.specs.Kinds.{Kind, int, long, float, double, places}
use Rattle.rules.specs.Check.{Check}
use Rattle.rules.specs.Questions.{constant_check}
use Rattle.const_pool.specs.declared.Constant.{Constant}
use Rattle.const_pool.specs.declared.Width.{Width}
use Rattle.const_pool.specs.declared.Width.TheVariants.{One, Two}

-- the two kinds of constants of a width
abbrev pub first_kind : Width → Kind
first_kind One = int
first_kind Two = long

abbrev pub second_kind : Width → Kind
second_kind One = float
second_kind Two = double

abbrev pub found : List ℕ → Check (Unit {0}) → Check Constant
found ws (Ok t) = Ok (record { low = get_or ws 0 0; high = get_or ws 1 0 })
found ws (Err n) = Err n

unfoldable pub constant_of : List ℕ → List ℕ → ℕ → Kind → Kind → Check Constant
constant_of kinds words index j k = found (take (places j) (drop index words)) (constant_check kinds index (j ∷ k ∷ []))
