-- `jump` meets its contract. Assumes nothing.
use mathlib.Core.Path.{sym, ◌∙◌}
use Rattle.interpreter.proofs.Answers.{target_small}
use Rattle.interpreter.proofs.instruction.Instruction.jump.Goals as goal

pub update_to-requires : goal.update_to-requires
update_to-requires c = target_small _ _ _ (sym c.jump_relative.ensures ∙ c.in_ok-to.was) c.args.self.now.short
