-- `Instruction::by_format` meets its contract. Assumes nothing.
use mathlib.Core.Path.{◌≡◌}
use native.Mathlib.Omega.{arith}
use Rattle.values.specs.Integers.{signed, low}
use Rattle.values.proofs.LowBits.{low_word}
use Rattle.instructions.proofs.decoding.Instruction.by_format.Goals as goal

pub returns-in-Branch4 : goal.returns-in-Branch4
returns-in-Branch4 c = λ row.
    let word = c.read_code_u32.result in
    let own : low 32 (signed 31 word) ≡ word = low_word 31 word (omega (arith, c.read_code_u32.type_inv)) in
    simp (c.fixed-in-Branch4.ensures, c.in-Branch4.is, ← c.read_code_u32.ensures, own)
