-- `Instruction::sized` meets its contract. Assumes nothing.
use borrow.Author.Tests.{le-leb, lt-leb}
use Rattle.instructions.specs.Stages.{sized_of}
use Rattle.instructions.proofs.decoding.Instruction.sized.Goals as goal

pub returns-then-self-size : goal.returns-then-self-size
unfolding sized_of
returns-then-self-size c = simp (lt-leb _ _ c.if-self-size.true)

pub returns : goal.returns
unfolding sized_of
returns c = simp (le-leb _ _ c.if-self-size.false)
