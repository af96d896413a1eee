-- `load_constant` meets its contract. Assumes nothing.
use Rattle.std.proofs.Common.{rules, sym, ◌∙◌}
use Rattle.const_pool.proofs.Constants.{no_entry, no_kind, int_or_float, long_or_double}
use Rattle.const_pool.proofs.load_constant.Goals as goal
use Rattle.const_pool.proofs.load_constant.Goals.{then-method-at-via-then-method-at, then-method-at-via-else-method-at+then-not-has}

pub returns-then-method-at : goal.returns-then-method-at
returns-then-method-at c = let m = c.args.method.now in
    elim c.then-method-at.branch [
      | then-method-at-via-then-method-at w ↦ no_entry m.kinds.now m.words.now c.args.index c.args.width (rw (sym c.places.ensures) (w.if-method-at.true))
      | then-method-at-via-else-method-at+then-not-has w ↦ no_kind m.kinds.now m.words.now c.args.index c.args.width (sym w.has.ensures ∙ w.if-not-has.true)
    ]

pub returns-in-One : goal.returns-in-One
returns-in-One c = let m = c.args.method.now in
    int_or_float m.kinds.now m.words.now c.args.index c.args.width c.in-One.is (rw (sym c.places.ensures) c.if-method-at.false) (sym c.has.ensures ∙ c.if-not-has.false) _ (search rules)

pub returns-in-Two : goal.returns-in-Two
returns-in-Two c = let m = c.args.method.now in
    long_or_double m.kinds.now m.words.now c.args.index c.args.width c.in-Two.is (rw (sym c.places.ensures) c.if-method-at.false) (sym c.has.ensures ∙ c.if-not-has.false) _ _ (search rules) (search rules)
