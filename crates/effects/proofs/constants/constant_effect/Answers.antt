-- `constant_effect` meets its contract: the constants of floats and doubles are computed by their bits. Assumes nothing.
use mathlib.Core.Path.{◌≡◌}
use mathlib.Core.Logic.{inl, inr}
use lib.Ieee as Ieee
use Rattle.std.proofs.Common.{arith}
use Rattle.std.proofs.lemmas.Grind.{common_steps}
use Rattle.values.specs.Integers.{low}
use Rattle.values.proofs.LowBits.{low_word}
use Rattle.rules.specs.Instructions.{row_of}
use Rattle.effects.specs.Effects.{effect_at}
use Rattle.effects.proofs.constants.constant_effect.Goals as goal

pub returns-in-1 : goal.returns-in-1
unfolding effect_at row_of low Ieee.to_bits Ieee.of_int
returns-in-1 c a' b' c' d' = let is = c.one.ensures in
    elim c.in-1.is [ inl null ↦ rw null is | inr (inl int) ↦ rw int is | inr (inr float) ↦ rw float is ]

pub returns-in-9 : goal.returns-in-9
unfolding effect_at row_of low Ieee.to_bits Ieee.of_int
returns-in-9 c a' b' c' d' = elim c.in-9.is [ inl long ↦ rw long c.two.ensures | inr double ↦ rw double c.two.ensures ]

pub returns-in-12 : goal.returns-in-12
unfolding effect_at row_of Ieee.to_bits Ieee.of_int
returns-in-12 c a' b' c' d' = rw c.in-12.is c.one-in-12.ensures

pub returns-in-13 : goal.returns-in-13
unfolding effect_at row_of Ieee.to_bits Ieee.of_int
returns-in-13 c a' b' c' d' = rw c.in-13.is c.one-in-13.ensures

pub returns-in-15 : goal.returns-in-15
unfolding effect_at row_of Ieee.to_bits Ieee.of_int
returns-in-15 c a' b' c' d' = rw c.in-15.is c.two-in-15.ensures

pub returns-in_default : goal.returns-in_default
unfolding effect_at row_of
returns-in_default c a' b' c' d' = let only : c.args.op ≡ 16 = grind (arith, common_steps) in
    rw (only, low_word 31 c.args.constant c.ranges.constant.fits) c.one-in_default.ensures
