-- The laws of the machine's own operations on words, together: the check tries them at each method. Assumes nothing.
use Rattle.integers.proofs.Sums.{sum, difference, product}
use Rattle.integers.proofs.Shift.{shift_left}
use Rattle.integers.proofs.Bitwise.{and_is, or_is, xor_is}

pub ruleset machine_laws = (sum, difference, product, shift_left, and_is, or_is, xor_is)
