-- `enter_constants` meets its contract. The loop's invariant: what is left to enter gives what all of it gives. Assumes nothing.
use Rattle.std.proofs.Common.{◌≡◌}
use Rattle.sheet.specs.Filled.{pool}
use Rattle.sheet.specs.Records.{with_constants}
use Rattle.sheet.proofs.filling.enter_constants.Given as goal

abbrev pub invariant-loop-constant : goal.invariant-loop-constant
invariant-loop-constant l = with_constants l.constant-iterator (pool l.kinds l.words) ≡ with_constants l.fn.constants (pool l.fn.kinds l.fn.words)
