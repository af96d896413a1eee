-- `control_effect` meets its contract: of the shared opcodes from 153 on, all but WIDE's and those that return are branches. Assumes nothing.
use Prim.Native.Nat.{ℕ}
use mathlib.Core.Path.{◌≡◌, refl}
use mathlib.Core.Bool.{Bool, true, not, ◌&&◌, ◌||◌}
use Rattle.std.proofs.Common.{arith}
use Rattle.std.proofs.lemmas.Grind.{common_steps}
use lib.Dec.{eqb, leb}
use Rattle.effects.specs.Families.{shared_opcodes, branch_opcodes}
use Rattle.effects.proofs.Families.{of_family}
use Rattle.effects.proofs.choice.control_effect.Goals as goal

abbrev is_branch : ℕ → Bool
is_branch n = leb 153 n && (leb n 171 || leb 178 n) && not (eqb n 196)

pub branch_effect-requires : goal.branch_effect-requires
unfolding shared_opcodes
branch_effect-requires c = let n = c.args.op in
    let test : is_branch n ≡ true = grind (arith, common_steps) in
    of_family is_branch 256 branch_opcodes refl n (omega arith) test c.requires.op_value
