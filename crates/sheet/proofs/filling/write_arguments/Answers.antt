-- `write_arguments` meets its contract. The loop's invariant: the first i words are arguments. Assumes nothing.
use Rattle.std.proofs.Common.{ℕ, ◌+◌, ◌<◌, List, ◌++◌, length, drop, refl, ap, ◌∙◌, arith}
use Rattle.rules.specs.Sheet.{arguments_from}
use Rattle.rules.proofs.AcceptedLoad.{length_arguments}
use Rattle.sheet.proofs.Fronts.{front_set, one_more_argument}
use Rattle.sheet.proofs.filling.write_arguments.Goals as goal

pub loop-i-init : goal.loop-i-init
unfolding arguments_from
loop-i-init c = (omega arith, refl)

pub loop-i-preserved : goal.loop-i-preserved
loop-i-preserved c = let t = c.loop-i in
    let a = c.args in
    let h : t.i < length a.slots.now = omega arith in (
      omega arith,
      rw (t.invariant.1, c.read_code_u32.ensures)
          (front_set (arguments_from a.sheet.now a.at t.i) a.slots.now t.i _ (length_arguments a.sheet.now a.at t.i) h
          ∙ ap (λ (ws : List ℕ). ws ++ drop (t.i + 1) a.slots.now) (one_more_argument a.sheet.now a.at t.i)),
    )
