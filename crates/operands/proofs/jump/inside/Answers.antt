-- `inside` meets its contract. Assumes nothing.
use Rattle.operands.proofs.Targets.{place_inside, place_outside}
use Rattle.operands.proofs.jump.inside.Goals as goal

pub returns-then-place-code : goal.returns-then-place-code
returns-then-place-code c = place_inside c.args.code.now c.args.place c.if-place-code.true

pub returns-else-place-code : goal.returns-else-place-code
returns-else-place-code c = place_outside c.args.code.now c.args.place c.if-place-code.false
