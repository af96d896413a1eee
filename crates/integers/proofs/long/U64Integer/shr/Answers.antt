-- `shr` of a long meets its contract. Assumes nothing.
use Rattle.std.proofs.Common.{ℕ, ◌%◌, ◌^◌, sym, ap, ◌∙◌}
use Rattle.std.specs.Int.Signed.{shr_z}
use Rattle.values.specs.Kinds.{long}
use Rattle.std.specs.Int.{w64}
use Rattle.integers.specs.Widths.{number, low_bits}
use Rattle.integers.proofs.Shift.{count_is}
use Rattle.integers.proofs.Signed.{shift_right}
use Rattle.integers.proofs.long.U64Integer.shr.Goals as goal

pub returns : goal.returns
unfolding number low_bits
returns c = shift_right w64 c.args.self c.ranges.self.fits c.cast_signed.ensures (2 ^ (c.args.count % 64)) c.cast_unsigned.ensures ∙ ap (λ (n : ℕ). low_bits long (shr_z (number long c.args.self) (2 ^ n))) (sym (count_is long c.args.count c.ranges.count.fits))
