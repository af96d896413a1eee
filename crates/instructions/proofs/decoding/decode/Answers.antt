-- `decode` meets its contract. Assumes nothing.
use mathlib.Core.Path.{sym, ap, ◌∙◌}
use Rattle.std.proofs.lemmas.Result.{err_from_is_err_and}
use Rattle.instructions.specs.Stages.{core_of}
use Rattle.instructions.proofs.Fetching.{no_instruction, instruction_is}
use Rattle.instructions.proofs.decoding.decode.Goals as goal

pub returns-in_err-entry : goal.returns-in_err-entry
returns-in_err-entry c =
    let p = err_from_is_err_and c.from_residual.result c.from_residual.ensures.1 in
    rw (p.1, p.2) (no_instruction c.args.code.now c.args.pc _ (ap core_of (sym c.read_code_u8.ensures) ∙ sym c.core.ensures ∙ c.in_err-entry.was))

pub returns : goal.returns
returns c =
    instruction_is c.args.code.now c.args.pc _ (ap core_of (sym c.read_code_u8.ensures) ∙ sym c.core.ensures ∙ c.in_ok-entry.was) c.by_format.result c.by_format.ensures
