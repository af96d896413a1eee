-- `commit` meets its contract. Assumes nothing.
use Prim.Native.Nat.{ℕ, ◌+◌, ◌-◌}
use mathlib.Core.Path.{◌≡◌, ap, ◌∙◌}
use native.Mathlib.Omega.{arith}
use lib.Seq.{paste}
use Rattle.rules.specs.Step.{update_words}
use Rattle.frame.proofs.Parts.{paste_part}
use Rattle.frame.proofs.slots.commit.Goals as goal

pub returns : goal.returns
returns c = let a = c.args in
    let l = c.from-locals.result in
    let place : l + (a.u.first - l) ≡ a.u.first = omega arith in
    rw c.write_update-2.ensures
    (paste_part a.slots.now l c.frame_size.result (a.u.first - l) a.u.many (update_words a.u) (omega arith) (omega arith)
    ∙ ap (λ (at : ℕ). paste a.slots.now at (update_words a.u) a.u.many) place)
