-- Whole numbers and their bits: two's complement (JVMS 2.3.1), order, and the operations on single bits (2.11.3). Assumes nothing.
use Rattle.std.specs.Prelude.{ℕ, zero, suc, ◌+◌, ◌-◌, ◌*◌, ◌/◌, ◌%◌, ◌^◌, min, max, Bool, false, cond, ℤ, pos, negsuc, ltb, eqb}
use Rattle.std.specs.Int.Signed.{lt_z, le_z}

-- ---- two's complement

-- the number that h bits and a sign bit stand for
unfoldable pub signed : ℕ → ℕ → ℤ
signed h n = cond (ltb n (2 ^ h)) (pos n) (negsuc (2 ^ suc h - suc n))

-- the w low bits of a number, all that a result keeps
unfoldable pub low : ℕ → ℤ → ℕ
low w (pos n) = n % 2 ^ w
low w (negsuc n) = 2 ^ w - suc (n % 2 ^ w)

-- the low 8 or 16 bits, with their sign, and as a char without (2.11.4)
abbrev pub to_byte : ℤ → ℤ
to_byte a = signed 7 (low 8 a)

abbrev pub to_char : ℤ → ℤ
to_char a = pos (low 16 a)

abbrev pub to_short : ℤ → ℤ
to_short a = signed 15 (low 16 a)

-- ---- order

infix 4 ◌=ᶻ◌ ◌<ᶻ◌ ◌≤ᶻ◌
abbrev pub ◌<ᶻ◌ : ℤ → ℤ → Bool
a <ᶻ b = lt_z a b

abbrev pub ◌≤ᶻ◌ : ℤ → ℤ → Bool
a ≤ᶻ b = le_z a b

abbrev pub ◌=ᶻ◌ : ℤ → ℤ → Bool
pos a =ᶻ pos b = eqb a b
pos a =ᶻ negsuc b = false
negsuc a =ᶻ pos b = false
negsuc a =ᶻ negsuc b = eqb a b

abbrev pub −1 : ℤ
−1 = negsuc 0

-- -1, 0 or 1: a is less than b, equal, greater (lcmp)
abbrev pub order : ℤ → ℤ → ℤ
order a b = cond (a <ᶻ b) −1 (cond (b <ᶻ a) (pos 1) (pos 0))

-- ---- single bits

-- an operation on each of the w low bits of two numbers
unfoldable pub bitwise : ℕ → (ℕ → ℕ → ℕ) → ℕ → ℕ → ℕ
bitwise zero f a b = 0
bitwise (suc w) f a b = bitwise w f (a / 2) (b / 2) * 2 + f (a % 2) (b % 2)

abbrev pub and : ℕ → ℕ → ℕ
and x y = min x y

abbrev pub or : ℕ → ℕ → ℕ
or x y = max x y

abbrev pub xor : ℕ → ℕ → ℕ
xor x y = (x + y) % 2

-- the bit of weight 2 ^ h turned over, in a number of h + 1 bits
unfoldable pub flipped : ℕ → ℕ → ℕ
flipped h n = cond (ltb n (2 ^ h)) (n + 2 ^ h) (n - 2 ^ h)
