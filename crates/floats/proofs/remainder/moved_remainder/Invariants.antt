-- What `moved_remainder` keeps: the remainder of the digits, moved up as often as turns were taken. Assumes nothing.
use Rattle.std.proofs.Common.{◌≡◌, ◌*◌, ◌%◌, ◌^◌}
use Rattle.floats.proofs.remainder.moved_remainder.Given as goal

abbrev pub invariant-loop : goal.invariant-loop
invariant-loop l = l.rest ≡ l.m * 2 ^ l.counter % l.n
