-- One more digit, whose value joins the others. Assumes nothing.
use Rattle.std.proofs.Common.{◌≡◌, ℕ, ◌+◌, ◌*◌, ◌%◌, ◌^◌, ◌<◌, ◌≤◌, List, [], ◌∷◌, ◌++◌, take, length, get_or, arith, refl, sym, ap, ◌∙◌, bit_or}
use Rattle.std.proofs.Math.Pow.{pow_mono}
use Rattle.std.proofs.lemmas.Nat.{pow-add}
use Rattle.std.proofs.lemmas.Grind.{or_after_shift}
use Rattle.std.proofs.lemmas.List.{take_more, map-append}
use Rattle.std.proofs.lemmas.List.Elements.{All-push}
use Rattle.std.proofs.lemmas.List.Sums.{fold-append}
use Rattle.reading.specs.Digits.{digit_of, number_of, AreDigits}
use Rattle.reading.proofs.digits.hexadecimal.Goals as goal

-- a digit behind a number that has room for it
joined : (n d i : ℕ) → n < 2 ^ (4 * i) → d < 16 → i + 1 ≤ 16 → bit_or (n * 16 % 2 ^ 64) d ≡ n * 16 + d
joined n d i small digit short =
    let most : 2 ^ (4 * i) ≤ 2 ^ 60 = pow_mono {i = 4 * i} {j = 60} (omega arith) in
    or_after_shift n 16 (2 ^ 64) d refl digit (omega arith)

-- and it is not too large for one digit more
grown : (n d i : ℕ) → n < 2 ^ (4 * i) → d < 16 → n * 16 + d < 2 ^ (4 * (i + 1))
grown n d i small digit =
    let e : 2 ^ (4 * i + 4) ≡ 2 ^ (4 * i) * 2 ^ 4 = pow-add 2 (4 * i) 4 in
    let same : 4 * (i + 1) ≡ 4 * i + 4 = omega arith in
    rw same (rw e (omega arith))

-- the values read, with one more
more : (values bytes : List ℕ) (i d : ℕ) → AreDigits values (take i bytes) → d < 16 → i < length bytes → get_or bytes i 0 ≡ digit_of d → AreDigits (values ++ d ∷ []) (take (i + 1) bytes)
more values bytes i d before digit inside is = (
  All-push (λ value. value < 16) values d before.0 digit,
  take_more bytes i 0 inside ∙ ap (λ (b : ℕ). take i bytes ++ b ∷ []) is ∙ ap (λ (xs : List ℕ). xs ++ digit_of d ∷ []) before.1 ∙ sym (map-append digit_of values (d ∷ [])),
)

-- the number of the values, with one more
number_more : (values : List ℕ) (n d : ℕ) → n ≡ number_of values → n * 16 + d ≡ number_of (values ++ d ∷ [])
number_more values n d is = ap (λ (m : ℕ). m * 16 + d) is ∙ sym (fold-append (λ m v. m * 16 + v) 0 values (d ∷ []))

pub loop-byte-preserved : goal.loop-byte-preserved
loop-byte-preserved c =
    let before = c.loop-byte.invariant in
    let digit = c.in_ok-digit_value.ensures in
    let read : c.from.result ≡ c.in_ok-digit_value.field-0 = c.from.ensures in
    let small : c.from.result < 16 = rw read digit.0 in
    let is : get_or c.args.digits.now c.loop-byte.byte-index 0 ≡ digit_of c.from.result = rw read digit.1 in (
      before.0 ++ c.from.result ∷ [],
      more before.0 c.args.digits.now c.loop-byte.byte-index c.from.result before.1 small c.loop-byte-test.true is,
      λ short. let known = before.2 (omega arith) in
          let e = joined c.loop-byte.number c.from.result c.loop-byte.byte-index known.1 small short in
          (e ∙ number_more before.0 c.loop-byte.number c.from.result known.0, rw e (grown c.loop-byte.number c.from.result c.loop-byte.byte-index known.1 small)),
    )
