-- `check_frame` meets its contract: a law of the questions for each way to a refusal. Assumes nothing.
use Prim.Native.Nat.{◌≤◌, ◌<◌}
use mathlib.Core.Path.{sym}
use native.Mathlib.Omega.{arith}
use lib.ListN.{length}
use Rattle.std.proofs.lemmas.Bool.Decides.{nat_tests}
use Rattle.rules.specs.Questions.{frame_size}
use Rattle.rules.proofs.Questions.{unpaired, long_pool, no_room, no_code, long_code, outside, too_deep, frame_passed}
use Rattle.frame.proofs.questions.check_frame.Goals as goal
use Rattle.frame.proofs.questions.check_frame.Goals.{then-is_empty-via-then-is_empty, then-is_empty-via-else-is_empty+then-code-gt-MAX_CODE, then-is_empty-via-else-is_empty+else-code-gt-MAX_CODE+then-code-s}
use Rattle.frame.proofs.questions.check_frame.Goals.{then-kinds-method-via-then-kinds-method, then-kinds-method-via-else-kinds-method+then-kinds-gt-MAX_POOL, then-kinds-method-via-else-kinds-method+else-kinds-gt-MAX_POOL+then-slots-size}

pub returns-then-kinds-method : goal.returns-then-kinds-method
returns-then-kinds-method c = λ _.
    let a = c.args in
    elim c.then-kinds-method.branch [
      | then-kinds-method-via-then-kinds-method w ↦ sym (unpaired _ _ _ w.if-kinds-method.true)
      | then-kinds-method-via-else-kinds-method+then-kinds-gt-MAX_POOL w ↦ sym (long_pool _ _ _ w.if-kinds-method.false w.if-kinds-gt-MAX_POOL.true)
      | then-kinds-method-via-else-kinds-method+else-kinds-gt-MAX_POOL+then-slots-size w ↦ let short : length a.slots.now < frame_size a.s = omega arith in
          sym (no_room _ _ _ w.if-kinds-method.false w.if-kinds-gt-MAX_POOL.false short)
    ]

pub returns-then-is_empty : goal.returns-then-is_empty
returns-then-is_empty c = λ _.
    let a = c.args in
    let code = a.method.now.code.now in
    let room : frame_size a.s ≤ length a.slots.now = omega arith in
    elim c.then-is_empty.branch [
      | then-is_empty-via-then-is_empty w ↦ let none : length code < 1 = grind (arith, nat_tests) in
          sym (no_code _ _ _ c.if-kinds-method.false c.if-kinds-gt-MAX_POOL.false room none)
      | then-is_empty-via-else-is_empty+then-code-gt-MAX_CODE w ↦ let some : 1 ≤ length code = grind (arith, nat_tests) in
          sym (long_code _ _ _ c.if-kinds-method.false c.if-kinds-gt-MAX_POOL.false room some w.if-code-gt-MAX_CODE.true)
      | then-is_empty-via-else-is_empty+else-code-gt-MAX_CODE+then-code-s w ↦ let some : 1 ≤ length code = grind (arith, nat_tests) in
          sym (outside _ _ _ c.if-kinds-method.false c.if-kinds-gt-MAX_POOL.false room some w.if-code-gt-MAX_CODE.false w.if-code-s.true)
    ]

pub returns-then-s-from : goal.returns-then-s-from
returns-then-s-from c = λ _.
    let a = c.args in
    let room : frame_size a.s ≤ length a.slots.now = omega arith in
    let some_code : 1 ≤ length a.method.now.code.now = grind (arith, nat_tests) in
    let deep : a.s.max_stack < a.s.depth = omega arith in
    sym (too_deep _ _ _ c.if-kinds-method.false c.if-kinds-gt-MAX_POOL.false room some_code c.if-code-gt-MAX_CODE.false c.if-code-s.false deep)

pub returns : goal.returns
returns c = λ _.
    let a = c.args in
    let some_code : 1 ≤ length a.method.now.code.now = grind (arith, nat_tests) in
    sym (frame_passed _ _ _ record {
      paired = c.if-kinds-method.false;
      pool = c.if-kinds-gt-MAX_POOL.false;
      room = omega arith;
      some_code = some_code;
      short_code = c.if-code-gt-MAX_CODE.false;
      in_code = c.if-code-s.false;
      deep = omega arith;
    })
