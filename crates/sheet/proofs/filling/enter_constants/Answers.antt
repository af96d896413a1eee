-- `enter_constants` meets its contract. The loop's invariant: what is left to enter gives what all of it gives. Assumes nothing.
use Rattle.std.proofs.Common.{sym, ◌∙◌}
use Rattle.sheet.specs.Filled.{pool}
use Rattle.sheet.proofs.Passed.{constant_passed, no_constant_left}
use Rattle.sheet.proofs.filling.enter_constants.Goals as goal

pub loop-constant-preserved : goal.loop-constant-preserved
loop-constant-preserved c = rw (c.enter_kind.ensures, c.enter_words.ensures) (sym (constant_passed c.loop-constant.constant-iterator c.next.new.self c.in-Some.constant c.in-Some.ensures.steps (pool c.loop-constant.kinds c.loop-constant.words)) ∙ c.loop-constant.invariant)

pub returns : goal.returns
returns c = sym (no_constant_left c.loop-constant.constant-iterator c.in-None.ensures.steps (pool c.loop-constant.kinds c.loop-constant.words)) ∙ c.loop-constant.invariant
