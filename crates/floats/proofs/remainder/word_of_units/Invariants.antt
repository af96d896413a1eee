-- What `word_of_units` keeps: the number of units. Assumes nothing.
use Rattle.std.proofs.Common.{◌≡◌, ◌*◌, ◌-◌, ◌<◌, ◌^◌}
use lib.Ieee.{hid}
use Rattle.floats.proofs.remainder.word_of_units.Given as goal

abbrev pub invariant-loop-i : goal.invariant-loop-i
invariant-loop-i g l = record {
  field : l.hidden ≡ hid g.F.Format.format;
  units : l.moved * 2 ^ (l.place - l.i) ≡ l.digits * 2 ^ l.place;
  few : l.moved < 2 * l.hidden;
}
