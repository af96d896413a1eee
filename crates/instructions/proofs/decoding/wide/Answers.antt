-- `wide` meets its contract. Assumes nothing.
use mathlib.Core.Path.{sym, ap, ◌∙◌}
use borrow.Author.Tests.{not-true}
use Rattle.std.proofs.lemmas.Result.{err_from_is_err_and}
use Rattle.rules.specs.Fetch.{widens}
use Rattle.rules.proofs.Questions.{wide_cut, wide_not_allowed}
use Rattle.instructions.specs.Stages.{core_of}
use Rattle.instructions.specs.Decode.{decoded}
use Rattle.instructions.proofs.Fetching.{no_wide, wide_increment, wide_other}
use Rattle.instructions.proofs.decoding.wide.Goals as goal

pub returns-then-code-at : goal.returns-then-code-at
unfolding decoded
returns-then-code-at c = sym (ap decoded (wide_cut c.args.code.now c.args.pc c.if-code-at.true))

pub returns-then-not-is_widened : goal.returns-then-not-is_widened
unfolding decoded
returns-then-not-is_widened c =
    let refused = sym (ap widens c.read_code_u8-opcode.ensures) ∙ sym c.is_widened.ensures ∙ not-true c.is_widened.result c.if-not-is_widened.true-raw in
    sym (ap decoded (wide_not_allowed c.args.code.now c.args.pc c.if-code-at.false refused))

pub returns-in_err-entry : goal.returns-in_err-entry
returns-in_err-entry c =
    let allowed = sym (ap widens c.read_code_u8-opcode.ensures) ∙ sym c.is_widened.ensures ∙ c.if-not-is_widened.false in
    let p = err_from_is_err_and c.from_residual.result c.from_residual.ensures.1 in
    rw (p.1, p.2) (no_wide c.args.code.now c.args.pc c.if-code-at.false allowed _ (ap core_of (sym c.read_code_u8-opcode.ensures) ∙ sym c.core.ensures ∙ c.in_err-entry.was))

pub returns-then-opcode : goal.returns-then-opcode
returns-then-opcode c =
    let allowed = sym (ap widens c.read_code_u8-opcode.ensures) ∙ sym c.is_widened.ensures ∙ c.if-not-is_widened.false in
    let found = ap core_of (sym c.read_code_u8-opcode.ensures) ∙ sym c.core.ensures ∙ c.in_ok-entry.was in
    c.sized.ensures ∙ rw (c.from-size.ensures, c.length.ensures, c.from-index.ensures, c.read_code_u16.ensures, c.read_code_i16.ensures)
    (wide_increment c.args.code.now c.args.pc c.if-code-at.false allowed _ found (sym c.read_code_u8-opcode.ensures ∙ c.if-opcode.true))

pub returns : goal.returns
returns c =
    let allowed = sym (ap widens c.read_code_u8-opcode.ensures) ∙ sym c.is_widened.ensures ∙ c.if-not-is_widened.false in
    let found = ap core_of (sym c.read_code_u8-opcode.ensures) ∙ sym c.core.ensures ∙ c.in_ok-entry.was in
    c.sized-2.ensures ∙ rw (c.from-size.ensures, c.length.ensures, c.from-index.ensures, c.read_code_u16.ensures)
    (wide_other c.args.code.now c.args.pc c.if-code-at.false allowed _ found (λ z. c.if-opcode.false (c.read_code_u8-opcode.ensures ∙ z)))
