-- Where what begins at a place of a descriptor ends, by an offset of which 0 says that nothing begins there (rules/specs/Descriptor). Assumes nothing.
use Rattle.std.specs.Prelude.{ℕ, ◌+◌, ◌<◌, ◌≡◌, Option, Some, None, cond, List}
use Rattle.rules.specs.Check.{◌=ⁿ◌}
use Rattle.rules.specs.Fetch.{u8}
use Rattle.rules.specs.Descriptor.{character_at}
use Rattle.descriptor.specs.declared.cursor.Cursor.{Cursor}

pub record StandsAt (d : List ℕ) (n : ℕ) (c : Cursor) : Type 0 where
  pub same : c.descriptor.now ≡ d
  pub there : c.at ≡ n
  pub begun : 0 < n

abbrev pub EndsAt : List ℕ → ℕ → Option Cursor → Type 0
EndsAt d n None = n ≡ 0
EndsAt d n (Some c) = StandsAt d n c

-- the offset after a byte, and after a character of a name
abbrev pub after_byte : List ℕ → ℕ → ℕ → ℕ
after_byte d at b = cond (u8 d at =ⁿ b) (at + 1) 0

abbrev pub after_character : List ℕ → ℕ → ℕ
after_character d at = cond (character_at d at =ⁿ 0) 0 (at + character_at d at)
