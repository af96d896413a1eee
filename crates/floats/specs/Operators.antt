-- What the operators of a format give on its values: IEEE 754's results, whatever the values are. Assumes nothing.
use Rattle.std.specs.Prelude.{◌≡◌, refl, Bool, Option, Float}
use Rattle.std.specs.Ordering.{float_partial_cmp}
use Rattle.std.specs.declared.cmp.Ordering.{Ordering}
use Rattle.std.specs.Float.{Format}
use Rattle.std.specs.Float.Ieee.{add, sub, mul, div, eq}

-- by what the values of a type stand for, and what its operators give
pub record IsIeee {V : Type 0} (f : Format) (value : V → Float) (sum difference product quotient : V → V → V → Type 0) (equal : V → V → Bool) (order : V → V → Option Ordering) : Type 0 where
  pub adds : (x y z : V) → sum x y z → value z ≡ add f (value x) (value y)
  pub subtracts : (x y z : V) → difference x y z → value z ≡ sub f (value x) (value y)
  pub multiplies : (x y z : V) → product x y z → value z ≡ mul f (value x) (value y)
  pub divides : (x y z : V) → quotient x y z → value z ≡ div f (value x) (value y)
  pub equates : (x y : V) → equal x y ≡ eq (value x) (value y)
  pub orders : (x y : V) → order x y ≡ float_partial_cmp (value x) (value y)

-- those of f32 and f64, as the language states them; here, since an impl cites of its own crate only specs/
pub machine_ieee : (f : Format) → IsIeee f (λ x. x) (λ x y z. z ≡ add f x y) (λ x y z. z ≡ sub f x y) (λ x y z. z ≡ mul f x y) (λ x y z. z ≡ div f x y) eq float_partial_cmp
machine_ieee f = record {
  adds = λ x y z e. e;
  subtracts = λ x y z e. e;
  multiplies = λ x y z e. e;
  divides = λ x y z e. e;
  equates = λ x y. refl;
  orders = λ x y. refl;
}
