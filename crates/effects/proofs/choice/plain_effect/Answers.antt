-- `plain_effect` meets its contract. Assumes nothing.
use mathlib.Core.Path.{refl}
use native.Mathlib.Omega.{arith}
use Rattle.effects.specs.Families.{shared_opcodes, constant_opcodes, move_opcodes, stack_opcodes}
use Rattle.effects.proofs.Families.{from}
use Rattle.effects.proofs.choice.plain_effect.Goals as goal

pub constant_effect-requires : goal.constant_effect-requires
unfolding shared_opcodes
constant_effect-requires c = from 0 18 constant_opcodes refl c.args.op (omega arith) (omega arith) c.requires.op_value

pub move_effect-requires : goal.move_effect-requires
unfolding shared_opcodes
move_effect-requires c = from 18 79 move_opcodes refl c.args.op (omega arith) (omega arith) c.requires.op_value

pub stack_effect-requires : goal.stack_effect-requires
unfolding shared_opcodes
stack_effect-requires c = from 79 96 stack_opcodes refl c.args.op (omega arith) (omega arith) c.requires.op_value
