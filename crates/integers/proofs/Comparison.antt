-- Words of a kind compared as numbers: equal words are equal numbers, and at most is not above. Assumes nothing.
use Rattle.std.proofs.Common.{◌≡◌, ℕ, suc, ◌+◌, ◌-◌, ◌^◌, ◌<◌, ◌≤◌, Bool, true, false, cond, not, eqb, ltb, ℤ, pos, negsuc, sym, refl, arith, ltb-false, ltb-true, ne_eqb}
use Rattle.std.proofs.lemmas.Bool.Decides.{nat_tests}
use Rattle.values.specs.Integers.{signed, ◌=ᶻ◌, ◌≤ᶻ◌, ◌<ᶻ◌}

-- a word of h bits and a sign by its sign
data Signs (h a : ℕ) : ℤ → Type 0 where
  plus : a < 2 ^ h → Signs h a (pos a)
  minus : (k : ℕ) → 2 ^ h ≤ a → k + suc a ≡ 2 ^ suc h → Signs h a (negsuc k)

signs : (h a : ℕ) → a < 2 ^ suc h → Signs h a (signed h a)
unfolding signed
signs h a l = go (ltb a (2 ^ h)) refl
  where
    go : (t : Bool) → ltb a (2 ^ h) ≡ t → Signs h a (cond t (pos a) (negsuc (2 ^ suc h - suc a)))
    go true e = plus (ltb-true a (2 ^ h) e)
    go false e = minus (2 ^ suc h - suc a) (ltb-false a (2 ^ h) e) (omega arith)

equal : (h a b : ℕ) (x y : ℤ) → Signs h a x → Signs h b y → (x =ᶻ y) ≡ eqb a b
equal h a b _ _ (plus p) (plus q) = refl
equal h a b _ _ (plus p) (minus k q e) = sym (ne_eqb a b (λ z. omega arith))
equal h a b _ _ (minus j p d) (plus q) = sym (ne_eqb a b (λ z. omega arith))
equal h a b _ _ (minus j p d) (minus k q e) = grind (arith, nat_tests)

pub signed_eq : (h a b : ℕ) → a < 2 ^ suc h → b < 2 ^ suc h → (signed h a =ᶻ signed h b) ≡ eqb a b
signed_eq h a b A B = equal h a b (signed h a) (signed h b) (signs h a A) (signs h b B)

pub le_is : (x y : ℤ) → (x ≤ᶻ y) ≡ not (y <ᶻ x)
le_is (pos a) (pos b) = grind (arith, nat_tests)
le_is (pos a) (negsuc b) = refl
le_is (negsuc a) (pos b) = refl
le_is (negsuc a) (negsuc b) = grind (arith, nat_tests)
