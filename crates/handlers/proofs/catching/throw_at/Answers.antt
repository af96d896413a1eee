-- `throw_at` meets its contract. Assumes nothing.
use Rattle.std.proofs.Common.{ℕ, Option, sym, ap, ◌∙◌}
use Rattle.rules.specs.Step.{thrown_to, thrown_at, decision}
use Rattle.handlers.proofs.catching.throw_at.Goals as goal

pub returns-in-None : goal.returns-in-None
unfolding thrown_at
returns-in-None c = let a = c.args in
    sym (ap (λ (x : Option ℕ). decision (thrown_to a.method.now.code.now a.s x)) (sym c.find_handler.ensures ∙ c.in-None.is))

pub returns-in-Some : goal.returns-in-Some
unfolding thrown_at
returns-in-Some c = let a = c.args in
    c.catch_at.ensures ∙ sym (ap (λ (x : Option ℕ). decision (thrown_to a.method.now.code.now a.s x)) (sym c.find_handler.ensures ∙ c.in-Some.is))
