-- `key_index` meets its contract. Assumes nothing.
use Rattle.std.proofs.Common.{rules, tests, refl, ◌∙◌, arith}
use Rattle.std.proofs.lemmas.Iterator.{YieldsList-from_range}
use Rattle.std.proofs.lemmas.Iterator.Search.{position_from_yields_List}
use Rattle.values.specs.Integers.{signed}
use Rattle.operands.proofs.Search.{has_key, index_found}
use Rattle.operands.proofs.switches.key_index.Goals as goal

pub returns : goal.returns
returns c = let a = c.args in
    c.unwrap_or.ensures
    ∙ index_found a.code.now (signed 31 a.key) a.at a.n c.position.result
    (position_from_yields_List (has_key a.code.now (signed 31 a.key) a.at) _ _ c.position.result c.position.ensures.ran (YieldsList-from_range 0 a.n a.n refl (omega arith)) (λ x b q k. search (rules, tests)))
