-- `load_lent` meets its contract. Assumes nothing.
use Prim.Native.Nat.{◌≤◌}
use mathlib.Core.Path.{sym, ◌∙◌}
use native.Mathlib.Omega.{arith}
use borrow.Author.Tests.{not-true, not-false}
use Rattle.rules.proofs.Check.{is_passed_lem}
use Rattle.rules.specs.Sheet.{last_number}
use Rattle.rules.proofs.Placement.{sheet_within}
use Rattle.workbook.proofs.Checks.{words_no, words_yes}
use Rattle.workbook.proofs.LoadedWords.{parts_lie, load_short, load_refused, load_accepted}
use Rattle.workbook.proofs.loads.load_lent.Goals as goal

pub has_words-requires : goal.has_words-requires
has_words-requires c = let a = c.args in
    let (w, last) = sheet_within a.sheet.now a.p c.requires in
    let whole : 6 ≤ last_number a.p.last = omega arith in
    w.handlers_first whole

pub returns-then-not-has_words : goal.returns-then-not-has_words
returns-then-not-has_words c = let a = c.args in
    let read = c.requires in
    rw c.number.ensures (load_short a.sheet.now a.slots.now a.kinds.now a.words.now a.state.now a.answer.now a.p read (words_no a.state.now a.answer.now a.p (sym c.has_words.ensures ∙ not-true _ c.if-not-has_words.true-raw)))

pub write_state-requires : goal.write_state-requires
write_state-requires c = let a = c.args in
    (words_yes a.state.now a.answer.now a.p (is_passed_lem _ (sym c.has_words.ensures ∙ not-false _ c.if-not-has_words.false-raw))).0

pub write_parts-requires : goal.write_parts-requires
write_parts-requires c = let a = c.args in
    let read = c.requires in
    let (enough, room, short) = words_yes a.state.now a.answer.now a.p (is_passed_lem _ (sym c.has_words.ensures ∙ not-false _ c.if-not-has_words.false-raw)) in
    let k = parts_lie a.sheet.now a.slots.now a.kinds.now a.words.now a.state.now a.answer.now a.p read _ _ _ _ c.load_read-loaded.ensures (λ i. (c.shared_slice_known-1.given i).fits) short c.in-Ok.is in
    record { in_bounds = room; code_bound = (k.code, k.code_length_lem, k.handlers, k.handlers_length_lem) }

pub returns-in-Err : goal.returns-in-Err
returns-in-Err c = let a = c.args in
    let read = c.requires in
    rw c.number-in-Err.ensures (load_refused a.sheet.now a.slots.now a.kinds.now a.words.now a.state.now a.answer.now a.p read _ _ _ _ c.load_read-loaded.ensures (is_passed_lem _ (sym c.has_words.ensures ∙ not-false _ c.if-not-has_words.false-raw)) _ c.in-Err.is)

pub returns-in-Ok : goal.returns-in-Ok
returns-in-Ok c = let a = c.args in
    let read = c.requires in
    load_accepted a.sheet.now a.slots.now a.kinds.now a.words.now a.state.now a.answer.now a.p read _ _ _ _ c.load_read-loaded.ensures (is_passed_lem _ (sym c.has_words.ensures ∙ not-false _ c.if-not-has_words.false-raw)) c.in-Ok.is _ _ c.write_state.ensures c.write_parts.ensures
