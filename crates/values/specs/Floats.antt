-- What JVMS asks of floats beyond the operations of `lib.Ieee`, the toolchain's account of IEEE 754 (JVMS 2.3.2, 2.8). Assumes nothing.
use Rattle.std.specs.Prelude.{◌*◌, cond, ℤ, pos, Float}
use Rattle.std.specs.Float.{nan, inf, fin, Format}
use Rattle.std.specs.Float.Ieee.{lt, eq, up, down, round}
use Rattle.values.specs.Integers.{−1}

-- -1, 0 or 1 as x is less than y, equal or greater, and n where one of them is a NaN (fcmpl, fcmpg, dcmpl, dcmpg)
abbrev pub order_or : ℤ → Float → Float → ℤ
order_or n x y = cond (lt x y) −1 (cond (lt y x) (pos 1) (cond (eq x y) (pos 0) n))

-- the nearest value of a format, ties to even: rounded once (d2f)
unfoldable pub nearest : Format → Float → Float
nearest f nan = nan
nearest f (inf s) = inf s
nearest f (fin s m e) = round f s (m * up e) (down e)
