-- `branch` meets its contract. Assumes nothing.
use lib.IntN.{pos}
use mathlib.Core.Path.{sym, ◌∙◌}
use Rattle.interpreter.proofs.Answers.{target_small}
use Rattle.interpreter.proofs.instruction.Instruction.branch.Goals as goal

pub update_to-requires : goal.update_to-requires
update_to-requires c = target_small _ (pos c.args.self.now.located.next) _ (sym c.inside.ensures ∙ c.in_ok-to.was) c.args.self.now.short
