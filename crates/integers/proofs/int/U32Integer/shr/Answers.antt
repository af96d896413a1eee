-- `shr` of an int meets its contract. Assumes nothing.
use Rattle.std.proofs.Common.{ℕ, ◌%◌, ◌^◌, sym, ap, ◌∙◌}
use Rattle.std.specs.Int.Signed.{shr_z}
use Rattle.values.specs.Kinds.{int}
use Rattle.std.specs.Int.{w32}
use Rattle.integers.specs.Widths.{number, low_bits}
use Rattle.integers.proofs.Shift.{count_is}
use Rattle.integers.proofs.Signed.{shift_right}
use Rattle.integers.proofs.int.U32Integer.shr.Goals as goal

pub returns : goal.returns
unfolding number low_bits
returns c = shift_right w32 c.args.self c.ranges.self.fits c.cast_signed.ensures (2 ^ (c.args.count % 32)) c.cast_unsigned.ensures ∙ ap (λ (n : ℕ). low_bits int (shr_z (number int c.args.self) (2 ^ n))) (sym (count_is int c.args.count c.ranges.count.fits))
