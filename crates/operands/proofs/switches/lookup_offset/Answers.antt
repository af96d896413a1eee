-- `lookup_offset` meets its contract. Assumes nothing.
use Rattle.std.proofs.Common.{◌+◌, refl, ap, ◌∙◌, arith}
use Rattle.rules.specs.Fetch.{u32, aligned}
use Rattle.operands.proofs.Counts.{count_there, count_negative}
use Rattle.operands.proofs.Search.{no_pairs_read, pair_read, default_read}
use Rattle.operands.proofs.switches.lookup_offset.Goals as goal

pub returns-in_default : goal.returns-in_default
returns-in_default c = let a = c.args in
    let w = u32 a.code.now (aligned a.pc + 4) in
    no_pairs_read a.code.now a.pc (aligned a.pc) w a.key refl refl (count_negative w c.in_default.ensures) c.default.result c.default.ensures

pub returns-then-i-n : goal.returns-then-i-n
returns-then-i-n c = let a = c.args in
    let (same, few) = count_there c.in-Some.n (u32 a.code.now (aligned a.pc + 4)) c.in-Some.ensures in
    pair_read a.code.now a.pc (aligned a.pc) c.in-Some.n a.key refl same c.key_index-i.result (rw c.start.ensures at c.key_index-i.ensures) (rw same few)
    c.word.result (c.word.ensures ∙ ap (u32 a.code.now) (omega arith)) c.if-i-n.true

pub returns-else-i-n : goal.returns-else-i-n
returns-else-i-n c = let a = c.args in
    let (same, few) = count_there c.in-Some.n (u32 a.code.now (aligned a.pc + 4)) c.in-Some.ensures in
    default_read a.code.now a.pc (aligned a.pc) c.in-Some.n a.key refl same c.key_index-i.result (rw c.start.ensures at c.key_index-i.ensures) (rw same few)
    c.default-else-i-n.result c.default-else-i-n.ensures c.if-i-n.false
