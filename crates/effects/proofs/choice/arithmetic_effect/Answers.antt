-- `arithmetic_effect` meets its contract. Assumes nothing.
use Rattle.std.proofs.Common.{sym, ap, ◌∙◌, arith}
use Rattle.std.proofs.lemmas.Grind.{common_steps}
use Rattle.values.specs.Kinds.{int}
use Rattle.integers.specs.Widths.{number, low_bits}
use Rattle.rules.specs.Instructions.{row_of}
use Rattle.effects.specs.Effects.{effect_of, effect_at}
use Rattle.effects.specs.Operations.{result_of}
use Rattle.effects.proofs.Floats.{of_floats, of_doubles}
use Rattle.effects.proofs.Operations.{int_row, long_row}
use Rattle.effects.proofs.choice.arithmetic_effect.Goals as goal

pub returns-then-op-eq-IINC : goal.returns-then-op-eq-IINC
unfolding effect_at row_of number low_bits
returns-then-op-eq-IINC c = rw (c.if-op-eq-IINC.true, ← c.add.ensures) c.one.ensures

pub returns-in-Ints : goal.returns-in-Ints
returns-in-Ints c = let x = c.args in
    c.integer_effect.ensures ∙ ap (λ f. effect_of (result_of int f x.a x.b x.b)) c.operation_of.ensures ∙ sym (int_row x.op x.constant x.a x.b x.c x.d (grind (arith, common_steps)))

pub returns-in-Longs : goal.returns-in-Longs
returns-in-Longs c = let x = c.args in
    rw (c.popped-x.ensures.first, c.popped-x.ensures.second, c.operation_of-in-Longs.ensures) at c.integer_effect-in-Longs.ensures ∙ sym (long_row x.op x.constant x.a x.b x.c x.d (grind (arith, common_steps)))

pub returns-in-Floats : goal.returns-in-Floats
returns-in-Floats c = let x = c.args in
    c.float_effect.ensures ∙ sym (of_floats x.op (grind (arith, common_steps)) x.constant x.a x.b x.c x.d)

pub returns-in-Doubles : goal.returns-in-Doubles
returns-in-Doubles c = let x = c.args in
    c.float_effect-in-Doubles.ensures ∙ sym (of_doubles x.op (grind (arith, common_steps)) x.constant x.a x.b x.c x.d)
