-- `keys_rise` meets its contract. Assumes nothing.
use Rattle.std.proofs.Common.{rules, tests}
use Rattle.std.proofs.lemmas.List.Sorted.{answers_always}
use Rattle.operands.proofs.Pairs.{below, rising_answer}
use Rattle.operands.proofs.switches.keys_rise.Goals as goal

pub returns : goal.returns
returns c = rising_answer c.args.pairs.now c.is_sorted_by.result (c.is_sorted_by.ensures.cases below (answers_always _ _ _ (λ f a r g k. search (rules, tests))))
