-- `catch_at` meets its contract. Assumes nothing.
use Rattle.std.proofs.Common.{◌≡◌, ◌≤◌, Ok, pos, arith, sym, ap, ◌∙◌}
use Rattle.std.proofs.lemmas.Result.{err_from_is_err_and}
use borrow.Author.Tests.{le-leb}
use Rattle.rules.specs.Check.{◌else◌, ◌>>◌, ◌>>=◌}
use Rattle.rules.specs.Step.{inside, decision}
use Rattle.rules.proofs.Step.{inside_place}
use Rattle.rules.proofs.Handlers.{no_room_to_catch}
use Rattle.handlers.proofs.catching.catch_at.Goals as goal

pub returns-then-s-eq0 : goal.returns-then-s-eq0
returns-then-s-eq0 c = let a = c.args in
    sym (ap decision (no_room_to_catch a.code.now a.s a.handler c.if-s-eq0.true))

pub returns-in_err-inside : goal.returns-in_err-inside
unfolding ◌else◌ ◌>>◌ ◌>>=◌
returns-in_err-inside c = let a = c.args in
    let room : 1 ≤ a.s.max_stack = omega arith in
    let p = err_from_is_err_and c.from_residual.result c.from_residual.ensures.1 in
    rw (p.1, p.2) (simp (le-leb _ _ room, ← c.from.ensures, ← c.inside.ensures, c.in_err-inside.was))

pub returns : goal.returns
unfolding ◌else◌ ◌>>◌ ◌>>=◌
returns c = let a = c.args in
    let room : 1 ≤ a.s.max_stack = omega arith in
    let answer : inside a.code.now (pos a.handler) ≡ Ok c.in_ok-inside.field-0 = rw (← c.from.ensures) (sym c.inside.ensures ∙ c.in_ok-inside.was) in
    let zeros = c.default.ensures.1 in
    rw (c.from-2.ensures, c.from-3.ensures, zeros.0, zeros.1.0, zeros.1.1.0, zeros.1.1.1.0, zeros.1.1.1.1) (simp (le-leb _ _ room, answer, ← inside_place a.code.now a.handler _ answer))
