-- `check_sheet` meets its contract. The loop's invariant: what was read lies before the next record, and what is left to read gives what the whole sheet gives.
-- Assumes nothing.
use Rattle.std.proofs.Common.{refl, sym, ◌∙◌, length}
use Rattle.std.proofs.lemmas.Result.{err_from_is_err_and}
use native.Mathlib.Nat.{sub-zero}
use Rattle.rules.specs.Check.{◌else◌, ◌>>◌}
use Rattle.rules.specs.Sheet.{sheet_check}
use Rattle.rules.proofs.Sheet.{read_end}
use Rattle.rules.proofs.Placement.{nothing_read}
use Rattle.sheet.proofs.Passed.{record_passed, record_refused, placed_next}
use Rattle.sheet.proofs.checking.check_sheet.Goals as goal

pub loop-record-init : goal.loop-record-init
unfolding sheet_check
loop-record-init c = let sheet = c.args.sheet.now in
    rw c.into_iter-record-iterator.ensures.into_iter_gives (record {
      whole = refl;
      same = rw (c.unread-p.ensures, sub-zero (length sheet));
      placed = rw c.unread-p.ensures (nothing_read sheet);
    })

pub returns-in_err-p : goal.returns-in_err-p
returns-in_err-p c = let t = c.loop-record in
    let e = err_from_is_err_and c.from_residual.result c.from_residual.ensures.1 in
    rw (e.1, e.2) (sym (record_refused c.loop-record.record-iterator c.next.new.self c.in-Some.record c.in-Some.ensures.steps t.invariant.whole t.p _ c.in_err-p.ensures) ∙ t.invariant.same)

pub loop-record-preserved : goal.loop-record-preserved
loop-record-preserved c = let t = c.loop-record in
    let g = c.in-Some.ensures.steps in
    record {
      whole = g.end_kept ∙ t.invariant.whole ∙ rw g.sheet_kept refl;
      same = sym (record_passed t.record-iterator c.next.new.self c.in-Some.record g t.invariant.whole t.p _ c.in_ok-p.ensures) ∙ t.invariant.same;
      placed = placed_next t.record-iterator c.next.new.self c.in-Some.record g t.invariant.whole t.p _ c.in_ok-p.ensures t.invariant.placed;
    }

pub returns-then-not-ends_sheet : goal.returns-then-not-ends_sheet
unfolding ◌else◌ ◌>>◌
returns-then-not-ends_sheet c = let t = c.loop-record in
    sym (sym t.invariant.same ∙ read_end t.record-iterator.sheet.now _ t.record-iterator.at t.p (rw t.invariant.whole at c.in-None.ensures.steps) ∙ simp (sym c.ends_sheet.ensures ∙ c.if-not-ends_sheet.true))

pub returns : goal.returns
unfolding ◌else◌ ◌>>◌
returns c = let t = c.loop-record in
    sym (sym t.invariant.same ∙ read_end t.record-iterator.sheet.now _ t.record-iterator.at t.p (rw t.invariant.whole at c.in-None.ensures.steps) ∙ simp (sym c.ends_sheet.ensures ∙ c.if-not-ends_sheet.false))
