-- `find_handler` meets its contract. Assumes nothing.
use Rattle.std.proofs.Common.{ℕ, ◌≡◌, ◌/◌, length, rules, tests, ap, ◌∙◌}
use Rattle.std.proofs.lemmas.Iterator.{YieldsList-from_slice}
use Rattle.std.proofs.lemmas.Iterator.Search.{find_from_yields_List}
use Rattle.std.specs.Option.{option_map}
use Rattle.std.specs.Simd.{first_chunks}
use Rattle.rules.specs.Handlers.{catches, handler_pc}
use Rattle.handlers.proofs.Pieces.{first_that_catches, handler_read}
use Rattle.handlers.proofs.entries.find_handler.Goals as goal

pub returns : goal.returns
returns c = let m = c.args.method.now in
    let n : ℕ = length m.handlers.now / 12 in
    let mapped : c.map.result ≡ option_map (λ e. handler_pc e.now 0) c.find.result = search rules in
    mapped ∙ handler_read c.find.result
    ∙ ap (option_map (λ e. handler_pc e 0)) (find_from_yields_List (λ e. catches m.kinds.now m.words.now e 0 c.args.pc) _ _ c.find.result c.find.ensures.ran (YieldsList-from_slice (first_chunks 12 n m.handlers.now) cc) (λ x b q k. search (rules, tests)))
    ∙ first_that_catches m.kinds.now m.words.now m.handlers.now c.args.pc n 0
