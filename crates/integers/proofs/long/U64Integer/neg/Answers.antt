-- `neg` of a long meets its contract. Assumes nothing.
use Rattle.std.proofs.Common.{◌≡◌, ◌-◌, ◌%◌, ◌^◌, sym, ◌∙◌, arith}
use Rattle.values.specs.Kinds.{long}
use Rattle.integers.proofs.Sums.{negative}
use Rattle.integers.proofs.long.U64Integer.neg.Goals as goal

pub returns : goal.returns
returns c = let r : c.wrapping_neg.result ≡ (2 ^ 64 - c.args.self) % 2 ^ 64 = omega (arith, c.wrapping_neg.ensures, c.wrapping_neg.type_inv) in r ∙ sym (negative long c.args.self c.ranges.self.fits)
