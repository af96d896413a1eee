-- Words of h bits and a sign as differences of natural numbers, for `omega`: what a word means, by the number that is 2 ^ h more. Assumes nothing.
use Rattle.std.proofs.Common.{◌≡◌, ℕ, suc, ◌+◌, ◌-◌, ◌%◌, ◌^◌, ◌<◌, ◌≤◌, Bool, true, false, cond, ltb, pos, negsuc, ap, ◌∙◌, mod-eq_of_lt, arith, ltb-false, ltb-true, refl}
use borrow.Author.Differences.{up, down, ints}
use native.Mathlib.Nat.{pow-succ', add-mod_right}
use Rattle.values.specs.Integers.{signed, ◌≤ᶻ◌}

-- 2 ^ h more than what a word of h bits and a sign means
abbrev pub raised : ℕ → ℕ → ℕ
raised h a = (a + 2 ^ h) % 2 ^ suc h

pub signed_difference : (h a : ℕ) → a < 2 ^ suc h → up (signed h a) + 2 ^ h ≡ down (signed h a) + raised h a
unfolding signed
signed_difference h a l = go (ltb a (2 ^ h)) refl
  where
    twice : 2 ^ suc h ≡ 2 ^ h + 2 ^ h
    twice = pow-succ' 2 h ∙ omega arith

    go : (t : Bool) → ltb a (2 ^ h) ≡ t → let z = cond t (pos a) (negsuc (2 ^ suc h - suc a)) in up z + 2 ^ h ≡ down z + raised h a
    go true e =
        let t = twice in
        let k = ltb-true a (2 ^ h) e in
        let s : a + 2 ^ h < 2 ^ suc h = omega arith in
        let m = mod-eq_of_lt s in
        omega arith
    go false e =
        let t = twice in
        let k = ltb-false a (2 ^ h) e in
        let s : a + 2 ^ h ≡ a - 2 ^ h + 2 ^ suc h = omega arith in
        let u : a - 2 ^ h < 2 ^ suc h = omega arith in
        let m : raised h a ≡ a - 2 ^ h = ap (λ (n : ℕ). n % 2 ^ suc h) s ∙ add-mod_right (a - 2 ^ h) (2 ^ suc h) ∙ mod-eq_of_lt u in
        omega arith

module _ (h a b : ℕ) (A : a < 2 ^ suc h) (B : b < 2 ^ suc h) where
  pub word_order : (signed h a ≤ᶻ signed h b) ≡ true → raised h a ≤ raised h b
  word_order e = omega (arith, ints, signed_difference h a A, signed_difference h b B)

  pub word_unordered : (signed h a ≤ᶻ signed h b) ≡ false → raised h b < raised h a
  word_unordered e = omega (arith, ints, signed_difference h a A, signed_difference h b B)
