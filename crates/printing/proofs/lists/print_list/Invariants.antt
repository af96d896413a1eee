use Rattle.std.proofs.Common.{All, take}
use Rattle.std.specs.Prelude.{Ok}
use Rattle.std.specs.Fn.{FnReturnsAt}
use Rattle.printing.proofs.lists.print_list.Given as goal

-- what has been printed of the items
abbrev pub invariant-loop-item : goal.invariant-loop-item
invariant-loop-item g l = All (λ item. FnReturnsAt g.F.Fn l.print_item item (Ok tt)) (take l.item-index l.items)
