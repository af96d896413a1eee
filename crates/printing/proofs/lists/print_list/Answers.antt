-- One more item is printed, and at the end all of them are. Assumes nothing.
use Rattle.std.proofs.Common.{All, Ok, subst}
use Rattle.std.proofs.lemmas.List.{take_all}
use Rattle.std.proofs.lemmas.List.Elements.{All-more}
use Rattle.std.specs.Prelude.{Result, Err, IfOk}
use Rattle.std.specs.Fn.{FnReturnsAt}
use Rattle.printing.proofs.lists.print_list.Goals as goal

on_ok : {X E : Type 0} (r : Result X E) (P : Type 0) → P → IfOk r (λ x. P)
on_ok (Ok x) P p = p
on_ok (Err e) P p = tt

pub loop-item-preserved : goal.loop-item-preserved
loop-item-preserved g c =
    All-more (λ item. FnReturnsAt g.F.Fn c.args.print_item item (Ok tt)) c.args.items.now c.loop-item.item-index c.item-item.result c.loop-item-test.true c.loop-item.invariant
    (record { shown = _; shows = c.item-item.is; says = record { met = c.in_ok-print_item.ensures } })

pub returns : goal.returns
returns g c =
    let printed = subst (All (λ item. FnReturnsAt g.F.Fn c.args.print_item item (Ok tt))) (take_all c.loop-item.item-index c.args.items.now c.loop-item-test.false) c.loop-item.invariant in
    on_ok c.println.result _ printed
