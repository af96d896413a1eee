use Rattle.std.proofs.Common.{◌≡◌}
use Rattle.printing.specs.Checksum.{checksum_of}
use Rattle.printing.proofs.sums.checksum.Given as goal

abbrev pub invariant-loop-word : goal.invariant-loop-word
invariant-loop-word g l = l.sum ≡ checksum_of l.yielded
