-- `restore` meets its contract. Assumes nothing.
use native.Mathlib.Omega.{arith}
use Prim.Native.Nat.{ℕ, ◌+◌, ◌-◌}
use mathlib.Core.Path.{◌≡◌}
use mathlib.Core.List.{List}
use lib.ListN.{drop}
use lib.Seq.{paste-zero}
use Rattle.rules.specs.History.{entry_at}
use Rattle.history.proofs.Entries.{put_back}
use Rattle.history.proofs.undo_log.Entry.restore.Goals as goal
use Rattle.history.proofs.undo_log.Entry.restore.Goals.{then-self-gt0, else-self-gt0}

pub returns : goal.returns
returns c = λ log is.
    let a = c.args in
    let e = a.self in
    let words : List ℕ = drop (entry_at (a.s.count - 1) + 4) log in
    elim c.if-self-gt0.branch [
      | then-self-gt0 w ↦ rw (w.slots-is, w.write_words.ensures, c.moved.ensures, ← is.pc, ← is.depth, ← is.first, ← is.many, put_back a.slots.now words e.old e.first e.many c.requires.count_bound is.old)
      | else-self-gt0 w ↦
          let none : e.many ≡ 0 = omega (arith, w.if-self-gt0.false) in
          rw (w.slots-is, c.moved.ensures, ← is.pc, ← is.depth, ← is.first, ← is.many, none, ← paste-zero a.slots.now e.first words)
    ]
