-- `word_of_units` meets its contract. Assumes nothing.
use Rattle.std.proofs.Common.{◌*◌, ◌^◌, ◌∙◌, arith}
use lib.Ieee.{hid}
use Rattle.floats.proofs.UnitWords.{doubled, in_place}
use Rattle.floats.proofs.remainder.word_of_units.Goals as goal

pub loop-i-preserved : goal.loop-i-preserved
loop-i-preserved g c = record {
  field = c.loop-i.invariant.field;
  units = doubled c.loop-i.moved c.args.place c.loop-i.i c.loop-i-test.true ∙ c.loop-i.invariant.units;
  few = omega arith;
}

pub returns : goal.returns
returns g c =
    let at = c.loop-i in
    in_place (hid g.F.Format.format) at.moved at.i c.args.place (c.args.digits * 2 ^ c.args.place) c.loop-i-test.false at.invariant.units (rw at.invariant.field at at.invariant.few)
