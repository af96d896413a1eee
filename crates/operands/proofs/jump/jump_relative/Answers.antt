-- `jump_relative` meets its contract. Assumes nothing.
use Rattle.std.proofs.Common.{ℤ, ap, ◌∙◌}
use Rattle.rules.specs.Step as rules
use Rattle.operands.proofs.Targets.{before_the_code, from_the_start}
use Rattle.operands.proofs.jump.jump_relative.Goals as goal

pub returns-then-raised-lt2147483648 : goal.returns-then-raised-lt2147483648
returns-then-raised-lt2147483648 c = let s = c.before.before in
    before_the_code s.args.code.now s.args.base s.args.offset s.ranges.offset.fits c.if-raised-lt2147483648.true

pub returns : goal.returns
returns c = let s = c.before.before.before in
    let code = s.args.code.now in
    c.inside.ensures ∙ ap (λ (z : ℤ). rules.inside code z) (from_the_start code s.args.base s.args.offset s.ranges.offset.fits c.if-raised-lt2147483648.false)
