-- `give_back` meets its contract. Assumes nothing.
use Rattle.std.proofs.Common.{sym, ap, ◌∙◌, Err}
use Rattle.rules.specs.declared.halts.Halt.TheVariants.{Return}
use Rattle.return_types.proofs.Words.{of_no_type, of_this_type, of_another_type}
use Rattle.return_types.proofs.give_back.Goals as goal

pub returns-in_default : goal.returns-in_default
returns-in_default c = of_no_type c.args.return_type c.args.v c.in_default.ensures

pub returns-then-not-suits : goal.returns-then-not-suits
returns-then-not-suits c = of_another_type c.args.return_type c.in-Some.t c.args.v c.in-Some.ensures (sym c.suits.ensures ∙ c.if-not-suits.true)

pub returns : goal.returns
returns c = ap (λ v. Err (Return v)) c.given_back.ensures ∙ of_this_type c.args.return_type c.in-Some.t c.args.v c.in-Some.ensures (sym c.suits.ensures ∙ c.if-not-suits.false)
