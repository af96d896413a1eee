-- `neg` of an int meets its contract. Assumes nothing.
use Rattle.std.proofs.Common.{◌≡◌, ◌-◌, ◌%◌, ◌^◌, sym, ◌∙◌, arith}
use Rattle.values.specs.Kinds.{int}
use Rattle.integers.proofs.Sums.{negative}
use Rattle.integers.proofs.int.U32Integer.neg.Goals as goal

pub returns : goal.returns
returns c = let r : c.wrapping_neg.result ≡ (2 ^ 32 - c.args.self) % 2 ^ 32 = omega (arith, c.wrapping_neg.ensures, c.wrapping_neg.type_inv) in r ∙ sym (negative int c.args.self c.ranges.self.fits)
