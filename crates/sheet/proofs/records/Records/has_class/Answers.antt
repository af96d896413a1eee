-- `has_class` meets its contract. Assumes nothing.
use Rattle.std.proofs.Common.{rules, tests}
use Rattle.sheet.proofs.Passed.{any_class}
use Rattle.sheet.proofs.records.Records.has_class.Goals as goal

pub returns : goal.returns
returns c = any_class _ c.args.index _ c.args.self _ _ c.any.ensures.ran (λ r b h call. search (rules, tests))
