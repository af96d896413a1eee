-- `brackets` meets its contract. The loop's invariant: what is left to pass gives what all brackets give. Assumes nothing.
use Rattle.std.proofs.Common.{sym, ◌∙◌, arith}
use Rattle.rules.specs.Descriptor.{array_type}
use Rattle.descriptor.specs.Cursors.{StandsAt, after_byte}
use Rattle.descriptor.proofs.Turns.{byte_there, no_byte, bracket_passed, brackets_ended, brackets_done}
use Rattle.descriptor.proofs.cursor.Cursor.brackets.Goals as goal

pub returns-in_default-clause-after : goal.returns-in_default-clause-after
returns-in_default-clause-after c = let d = c.args.self.descriptor.now in
    let t = c.loop in
    sym (brackets_ended d t.cursor.at t.counter (no_byte d t.cursor.at array_type (rw t.invariant.same at c.in_default.ensures))) ∙ t.invariant.left

pub loop-preserved : goal.loop-preserved
loop-preserved c = let d = c.args.self.descriptor.now in
    let t = c.loop in
    let next : StandsAt d (after_byte d t.cursor.at array_type) c.in-Some.next = rw t.invariant.same at c.in-Some.ensures in
    let (stands, after) = byte_there d t.cursor.at array_type next.begun in
    record { same = next.same; left = rw (next.there, after) (bracket_passed d t.cursor.at t.counter (omega arith) stands ∙ t.invariant.left) }

pub returns-clause-after : goal.returns-clause-after
returns-clause-after c = let t = c.loop in
    sym (brackets_done c.args.self.descriptor.now t.cursor.at t.counter (omega arith)) ∙ t.invariant.left
