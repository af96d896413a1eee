-- `load_read` meets its contract. Assumes nothing.
use native.Mathlib.Omega.{arith}
use Rattle.rules.proofs.Sheet.{load_short, load_accepted}
use Rattle.sheet.specs.Filled.{pool}
use Rattle.sheet.proofs.Rows.{yes, no, memory_row}
use Rattle.sheet.proofs.Answers.{slots_reach, whole}
use Rattle.sheet.proofs.loading.load_read.Goals as goal

pub returns-then-not-is_enough : goal.returns-then-not-is_enough
returns-then-not-is_enough c = let a = c.args in
    rw c.refused_load.ensures (load_short a.sheet.now a.slots.now a.kinds.now a.words.now a.p c.requires _
    (no _ _ _ _ (memory_row a.p a.slots.now a.kinds.now a.words.now) c.is_enough.ensures c.if-not-is_enough.true))

pub constants-requires : goal.constants-requires
constants-requires c = let w = whole c.args.sheet.now c.args.p c.requires in (omega arith, omega arith)

pub fill_slots-requires : goal.fill_slots-requires
fill_slots-requires c = let a = c.args in
    let w = whole a.sheet.now a.p c.requires in
    (w.arguments_there, w.few_arguments, slots_reach a.p a.slots.now a.kinds.now a.words.now (yes _ _ _ _ (memory_row a.p a.slots.now a.kinds.now a.words.now) c.is_enough.ensures c.if-not-is_enough.false))

pub accepted_load-requires : goal.accepted_load-requires
accepted_load-requires c = (whole c.args.sheet.now c.args.p c.requires).handlers_first

pub returns : goal.returns
returns c = let a = c.args in
    rw (c.accepted_load.ensures, c.fill_slots.ensures)
    (load_accepted a.sheet.now a.slots.now a.kinds.now a.words.now a.p c.requires (yes _ _ _ _ (memory_row a.p a.slots.now a.kinds.now a.words.now) c.is_enough.ensures c.if-not-is_enough.false) (pool _ _) (rw (c.constants.ensures.sheet, c.constants.ensures.at, c.constants.ensures.end) at c.fill_pool.ensures))
