-- The sign bit: a negative value's pattern is the positive one's and the sign's weight, and a pattern's highest bit is its value's sign. Over the format. Assumes nothing.
use mathlib.Core.Path.{◌≡◌, refl, sym, ap, ◌∙◌, subst}
use Prim.Native.Nat.{ℕ, zero, suc, ◌+◌, ◌-◌, ◌*◌, ◌/◌, ◌%◌, ◌^◌, ◌<◌}
use native.Mathlib.Nat.{zero-add, add_assoc}
use mathlib.Core.Bool.{Bool, true, false, cond}
use lib.Dec.{ltb, leb, eqb}
use lib.IntN.{ℤ, pos}
use lib.Count.{count_trailing_zeros}
use lib.Ieee.{Float, nan, inf, fin, Format, prec, emax, low, up, down, minus, size, odd, units, round, hid, ones, top, to_bits, of_fields, of_bits}
use lib.Ieee.Fits.{round-fits}
use lib.Ieee.Bits.{to_bits-lt}
use lib.Ieee.Exact.{HasValue, odd_sign}
use lib.Ieee.Nearest.{closest}

-- ---- the sign stands apart
fin_sign : (f : Format) (m : ℕ) (e : ℤ) → to_bits f (fin true m e) ≡ top f + to_bits f (fin false m e)
unfolding to_bits
fin_sign f m e =
    let n = m * up e * 2 ^ low f / down e in
    let a = (size n - prec f) * hid f in
    let b = n / 2 ^ (size n - prec f) in
    add_assoc (top f) a b ∙ ap (λ (x : ℕ). top f + (x + b)) (sym (zero-add a))

pub inf_sign : (f : Format) → to_bits f (inf true) ≡ top f + to_bits f (inf false)
unfolding to_bits
inf_sign f = ap (λ (x : ℕ). top f + x) (sym (zero-add (ones f * hid f)))

pub odd_negative : (f : Format) (d q k l : ℕ) → to_bits f (odd d true q k l) ≡ top f + to_bits f (odd d false q k l)
unfolding odd
odd_negative f d zero k l = fin_sign f 0 (pos 0)
odd_negative f d (suc q) k l = fin_sign f (suc q / 2 ^ count_trailing_zeros d (suc q)) (minus (k + count_trailing_zeros d (suc q)) l)

units_sign : (f : Format) (q k : ℕ) → to_bits f (units f true q k) ≡ top f + to_bits f (units f false q k)
unfolding units
units_sign f q k = go (ltb (q * 2 ^ k) (2 ^ (low f + suc (emax f))))
  where
    go : (b : Bool) → to_bits f (cond b (odd (suc (prec f)) true q k (low f)) (inf true)) ≡ top f + to_bits f (cond b (odd (suc (prec f)) false q k (low f)) (inf false))
    go true = odd_negative f (suc (prec f)) q k (low f)
    go false = inf_sign f

pub round_sign : (f : Format) (a c : ℕ) → to_bits f (round f true a c) ≡ top f + to_bits f (round f false a c)
unfolding round
round_sign f a c =
    let n = a * 2 ^ low f in
    let k = size (n / c) - prec f in
    units_sign f (closest n (c * 2 ^ k)) k

-- the sum does not wrap
pub round_sign_lt : (f : Format) (a c : ℕ) {r : ℕ} → r ≡ to_bits f (round f false a c) → top f + r < 2 * top f
round_sign_lt f a c e =
    subst (λ (x : ℕ). x < 2 * top f) (round_sign f a c ∙ ap (λ (x : ℕ). top f + x) (sym e)) (to_bits-lt f (round f true a c) (round-fits f true a c))

-- ---- the sign of what a pattern stands for
abbrev pub HasSign : Float → Bool → Type 0
HasSign nan s = Unit
HasSign (inf t) s = t ≡ s
HasSign (fin t m e) s = t ≡ s

value_sign : (v : Float) (s : Bool) (a c : ℕ) → HasValue v s a c → HasSign v s
value_sign nan s a c h = tt
value_sign (inf t) s a c h = absurd h
value_sign (fin t m e) s a c h = h.0

odd_has_sign : (d : ℕ) (s : Bool) (q k l : ℕ) → HasSign (odd d s q k l) s
odd_has_sign d s q k l = value_sign (odd d s q k l) s (q * 2 ^ k) (2 ^ l) (odd_sign d s q k l)

fields_sign : (f : Format) (s : Bool) (x t : ℕ) → HasSign (of_fields f s x t) s
unfolding of_fields
fields_sign f s zero t = odd_has_sign (prec f) s t 0 (low f)
fields_sign f s (suc x) t = go (eqb (suc x) (ones f)) (eqb t 0)
  where
    go : (a b : Bool) → HasSign (cond a (cond b (inf s) nan) (odd (prec f) s (hid f + t) x (low f))) s
    go true true = refl
    go true false = tt
    go false b = odd_has_sign (prec f) s (hid f + t) x (low f)

pub bits_sign : (f : Format) (b : ℕ) → HasSign (of_bits f b) (leb (top f) b)
unfolding of_bits
bits_sign f b = fields_sign f (leb (top f) b) (b % top f / hid f) (b % hid f)
