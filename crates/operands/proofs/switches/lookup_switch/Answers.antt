-- `lookup_switch` meets its contract. Assumes nothing.
use Rattle.std.proofs.Common.{ℕ, ◌≡◌, ◌+◌, ◌-◌, ◌*◌, Ok, refl, sym, ap, ◌∙◌, arith, leb-true, leb-false}
use Rattle.values.specs.Integers.{low}
use Rattle.rules.specs.Fetch.{u32, s32, aligned, pairs_end, rising}
use Rattle.rules.proofs.Questions.{lookup_cut, lookup_negative, lookup_missing, lookup_unsorted, lookup_there}
use Rattle.operands.specs.Switch.{switch_of}
use Rattle.operands.proofs.Counts.{count_negative, negative, counted_pairs}
use Rattle.operands.proofs.Pairs.{table_pairs}
use Rattle.operands.proofs.switches.lookup_switch.Goals as goal

pub returns-then-not-has : goal.returns-then-not-has
unfolding switch_of
returns-then-not-has c = let a = c.args in
    let cut = leb-false _ _ (sym c.has.ensures ∙ c.if-not-has.true) in
    λ row. sym (ap switch_of (lookup_cut a.code.now a.pc row cut))

pub returns-in_default : goal.returns-in_default
unfolding switch_of
returns-in_default c = let a = c.args in
    let fields = leb-true _ _ (sym c.has.ensures ∙ c.if-not-has.false) in
    let w = u32 a.code.now (aligned a.pc + 4) in
    λ row. sym (ap switch_of (lookup_negative a.code.now a.pc row fields (negative a.code.now a.pc (aligned a.pc) w refl refl (count_negative w c.in_default.ensures))))

pub returns-then-not-has-2 : goal.returns-then-not-has-2
unfolding switch_of
returns-then-not-has-2 c = let a = c.args in
    let fields = leb-true _ _ (sym c.has.ensures ∙ c.if-not-has.false) in
    let n = counted_pairs a.code.now a.pc c.in-Some.n c.in-Some.ensures in
    let short = leb-false _ _ (sym c.has-2.ensures ∙ c.if-not-has-2.true) in
    λ row. sym (ap switch_of (lookup_missing a.code.now a.pc row fields n.counted (omega (arith, n.many, short))))

pub returns-then-not-keys_rise : goal.returns-then-not-keys_rise
unfolding switch_of
returns-then-not-keys_rise c = let a = c.args in
    let fields = leb-true _ _ (sym c.has.ensures ∙ c.if-not-has.false) in
    let n = counted_pairs a.code.now a.pc c.in-Some.n c.in-Some.ensures in
    let whole = leb-true _ _ (sym c.has-2.ensures ∙ c.if-not-has-2.false) in
    let pairs = rw c.start-start.ensures at (table_pairs a.code.now (c.start-start.result + 8) c.in-Some.n _ c.as_chunks.result.0.now (omega arith) (omega (arith, c.start-start.ensures, whole)) c.as_chunks.ensures.front) in
    let unsorted = sym (c.keys_rise.ensures ∙ ap rising (pairs ∙ n.pairs)) ∙ c.if-not-keys_rise.true in
    λ row. sym (ap switch_of (lookup_unsorted a.code.now a.pc row fields n.counted (omega (arith, n.many, whole)) unsorted))

pub returns : goal.returns
unfolding switch_of
returns c = let a = c.args in
    let fields = leb-true _ _ (sym c.has.ensures ∙ c.if-not-has.false) in
    let n = counted_pairs a.code.now a.pc c.in-Some.n c.in-Some.ensures in
    let whole = leb-true _ _ (sym c.has-2.ensures ∙ c.if-not-has-2.false) in
    let pairs = rw c.start-start.ensures at (table_pairs a.code.now (c.start-start.result + 8) c.in-Some.n _ c.as_chunks.result.0.now (omega arith) (omega (arith, c.start-start.ensures, whole)) c.as_chunks.ensures.front) in
    let sorted = sym (c.keys_rise.ensures ∙ ap rising (pairs ∙ n.pairs)) ∙ c.if-not-keys_rise.false in
    let size : aligned a.pc + (8 + 8 * c.in-Some.n) - a.pc ≡ pairs_end a.code.now a.pc - a.pc = omega (arith, n.many) in
    λ row. ap Ok (c.switch.ensures ∙ ap (λ (n : ℕ). record { size = n; default = low 32 (s32 a.code.now (aligned a.pc)) }) size) ∙ sym (ap switch_of (lookup_there a.code.now a.pc row fields n.counted (omega (arith, n.many, whole)) sorted))
