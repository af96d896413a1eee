-- The order of two floats as the language has it, and what a comparison makes of it: -1, 0 or 1, and an answer of its own where there is no order. Assumes nothing.
use mathlib.Core.Path.{◌≡◌, refl, ap, ◌∙◌}
use mathlib.Core.Bool.{Bool, true, false, cond}
use lib.Dec.{T}
use lib.IntN.{ℤ, pos}
use lib.Ieee.{Float, lt, eq}
use Rattle.std.specs.Prelude.{Option, Some, None}
use Rattle.std.specs.Option.{unwrap_or}
use Rattle.std.specs.Ordering.{float_partial_cmp, match_ordering}
use Rattle.std.specs.declared.cmp.Ordering.{Ordering}
use Rattle.std.specs.declared.cmp.Ordering.TheVariants.{Less, Equal, Greater}
use Rattle.std.proofs.lemmas.Float.{eq_flip, eq-not_lt}
use Rattle.values.specs.Integers.{−1}
use Rattle.values.specs.Floats.{order_or}

abbrev pub number_of : Ordering → ℤ
number_of o = match_ordering o −1 (pos 0) (pos 1)

-- which of the tests is tried first does not matter: what is equal is not less
by_tests : (u : Ordering) (less equal greater : Bool) → (T equal → T greater → ⊥)
    → number_of (unwrap_or (cond less (Some Less) (cond equal (Some Equal) (cond greater (Some Greater) None))) u) ≡ cond less −1 (cond greater (pos 1) (cond equal (pos 0) (number_of u)))
by_tests u true equal greater apart = refl
by_tests u false true true apart = absurd (apart tt tt)
by_tests u false true false apart = refl
by_tests u false false true apart = refl
by_tests u false false false apart = refl

pub compared : (u : Ordering) (x y : Float) (r : Option Ordering) → r ≡ float_partial_cmp x y → number_of (unwrap_or r u) ≡ order_or (number_of u) x y
compared u x y r e =
    ap (λ (o : Option Ordering). number_of (unwrap_or o u)) e ∙ by_tests u (lt x y) (eq x y) (lt y x) (λ same less. eq-not_lt y x (eq_flip x y same) less)
