-- `make_presses` meets its contract. The loop's invariant is `Replaying`. Assumes nothing.
use native.Mathlib.Omega.{arith}
use Rattle.rules.specs.Lent.{lent}
use Rattle.rules.specs.Step.{core_machine}
use Prim.Native.Nat.{◌+◌, ◌*◌, ◌≤◌}
use lib.ListN.{length}
use Rattle.rules.proofs.Replay.{one_more, all_made}
use Rattle.history.proofs.press_list.make_presses.Goals as goal

pub loop-i-preserved : goal.loop-i-preserved
loop-i-preserved c = let a = c.args in
    let l = core_machine (lent a.method.now) in
    let t = c.loop-i in
    let p = c.press-p in
    let room : 3 * t.i + 3 ≤ length t.answers = omega (arith, c.loop-i-test.true, c.requires, t.invariant.long_answers) in
    rw c.write_answer.ensures
    (one_more l a.bytes.now a.s a.slots.now a.log.now a.answers.now t.i t.t t.slots t.log t.answers t.invariant c.loop-i-test.true room _ p.ensures p.auto.slots p.auto.log)

pub returns : goal.returns
returns c = let a = c.args in
    let l = core_machine (lent a.method.now) in
    let t = c.loop-i in
    all_made l a.bytes.now a.s a.slots.now a.log.now a.answers.now t.i t.t t.slots t.log t.answers t.invariant c.loop-i-test.false c.requires
