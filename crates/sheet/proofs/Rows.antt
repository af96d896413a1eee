-- A row of questions that have one refusal is passed where all of them are, and else has that refusal. Assumes nothing.
use Prim.Native.Nat.{ℕ}
use mathlib.Core.Path.{◌≡◌, refl}
use mathlib.Core.Bool.{Bool, true, false, ◌&&◌}
use mathlib.Core.List.{List}
use Rattle.std.specs.Prelude.{Ok, Err}
use Rattle.rules.specs.declared.refusals.Refusal.{Refusal}
use Rattle.rules.specs.declared.sheets.Reading.{Reading}
use Rattle.rules.specs.declared.sheets.Mark.TheVariants.{KI, EX}
use Rattle.rules.specs.Check.{Check, ◌else◌, ◌>>◌}
use Rattle.rules.specs.Sheet.{contents_check, memory_check}
use Rattle.sheet.specs.Rows.{is_constant, is_handler, is_enough}

four : (a b c d : Bool) (r : Refusal) → ((a else r) >> (b else r) >> (c else r) >> (d else r)) ≡ ((a && b && c && d) else r)
unfolding ◌else◌ ◌>>◌
four false b c d r = refl
four true false c d r = refl
four true true false d r = refl
four true true true d r = refl

six : (a b c d e f : Bool) (r : Refusal) → ((a else r) >> (b else r) >> (c else r) >> (d else r) >> (e else r) >> (f else r)) ≡ ((a && b && c && d && e && f) else r)
unfolding ◌else◌ ◌>>◌
six false b c d e f r = refl
six true false c d e f r = refl
six true true false d e f r = refl
six true true true false e f r = refl
six true true true true false f r = refl
six true true true true true f r = refl

-- one test, by its outcome
pub yes : (t b : Bool) (r : Refusal) (x : Check (Unit {0})) → x ≡ (t else r) → b ≡ t → b ≡ true → x ≡ Ok tt
unfolding ◌else◌
yes true b r x e f g = e
yes false b r x e f g = cc

pub no : (t b : Bool) (r : Refusal) (x : Check (Unit {0})) → x ≡ (t else r) → b ≡ t → b ≡ false → x ≡ Err r
unfolding ◌else◌
no true b r x e f g = cc
no false b r x e f g = e

module _ (sheet : List ℕ) (at : ℕ) (p : Reading) where
  pub constant_row : contents_check sheet at p KI ≡ (is_constant sheet at p else Refusal.ConstantRecord)
  unfolding contents_check
  constant_row = four _ _ _ _ Refusal.ConstantRecord

  pub handler_row : contents_check sheet at p EX ≡ (is_handler sheet at p else Refusal.HandlerRecord)
  unfolding contents_check
  handler_row = six _ _ _ _ _ _ Refusal.HandlerRecord

pub memory_row : (p : Reading) (slots kinds words : List ℕ) → memory_check p slots kinds words ≡ (is_enough p slots kinds words else Refusal.LentMemory)
unfolding memory_check
memory_row p slots kinds words = four _ _ _ _ Refusal.LentMemory
