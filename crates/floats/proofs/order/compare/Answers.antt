-- `compare` meets its contract: by the order of what the words mean. Assumes nothing.
use Rattle.std.proofs.Common.{ap, ap₂, ◌∙◌}
use Rattle.std.specs.Ordering.{float_partial_cmp}
use Rattle.std.specs.declared.cmp.Ordering.{Ordering}
use Rattle.values.specs.Integers.{low}
use Rattle.floats.proofs.Orders.{number_of, compared}
use Rattle.floats.proofs.order.compare.Goals as goal

pub returns : goal.returns
returns g c =
    let ordered = c.partial_cmp.ensures
    ∙ g.met.F.Arithmetic.ieee.orders c.float_of.result c.float_of-2.result
    ∙ ap₂ float_partial_cmp c.float_of.ensures c.float_of-2.ensures in
    c.order_number.ensures ∙ ap (λ (o : Ordering). low 32 (number_of o)) c.unwrap_or.ensures ∙ ap (low 32) (compared c.args.unordered _ _ _ ordered)
