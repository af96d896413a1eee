-- `is_sound` meets its contract. Assumes nothing.
use native.Mathlib.Omega.{arith}
use borrow.Author.Tests.{eq-eqb}
use Rattle.history.proofs.Entries.{outside, too_deep, too_many, no_places, some_places}
use Rattle.history.proofs.undo_log.Entry.is_sound.Goals as goal
use Rattle.history.proofs.undo_log.Entry.is_sound.Goals.{then-code-self-via-then-code-self, then-code-self-via-else-code-self+then-self-from, then-code-self-via-else-code-self+else-self-from+then-self-gt6}

pub returns-then-code-self : goal.returns-then-code-self
returns-then-code-self c = λ log k is.
    let s = c.args.s in
    elim c.then-code-self.branch [
      | then-code-self-via-then-code-self w ↦ outside log k _ is _ s w.if-code-self.true
      | then-code-self-via-else-code-self+then-self-from w ↦ too_deep log k _ is _ s w.if-code-self.false (omega arith)
      | then-code-self-via-else-code-self+else-self-from+then-self-gt6 w ↦ too_many log k _ is _ s w.if-code-self.false (omega arith) w.if-self-gt6.true
    ]

pub returns-then-self-eq0 : goal.returns-then-self-eq0
returns-then-self-eq0 c = λ log k is. rw (eq-eqb _ _ c.if-self-eq0.true) (no_places log k _ is _ c.args.s c.if-code-self.false (omega arith) c.if-self-eq0.true)

pub returns-else-self-eq0 : goal.returns-else-self-eq0
returns-else-self-eq0 c = λ log k is.
    rw (c.from-else-self-eq0.ensures, c.from-else-self-eq0-2.ensures, c.frame_size-size.ensures)
    (some_places log k _ is _ c.args.s c.if-code-self.false (omega arith) c.if-self-gt6.false c.if-self-eq0.false)
