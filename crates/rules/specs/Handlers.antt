-- The handlers of a method (JVMS 2.10, 4.7.3) as a lent part of bytes, and which of them takes an ArithmeticException that is thrown at an offset. Assumes nothing.
use Rattle.std.specs.Prelude.{ℕ, zero, suc, ◌+◌, ◌/◌, Bool, ◌&&◌, ◌||◌, cond, List, length, get_or, Some, None, Option}
use Rattle.rules.specs.Check.{◌≤ⁿ◌, ◌<ⁿ◌, ◌=ⁿ◌}
use Rattle.rules.specs.Fetch.{u16}

-- ---- an entry at an offset of the part: an EX record of the sheet, whose mark and length are not looked at

abbrev pub entry_size : ℕ
entry_size = 12

-- start_pc, end_pc, handler_pc and catch_type of JVMS 4.7.3
abbrev pub start_pc : List ℕ → ℕ → ℕ
start_pc part at = u16 part (at + 4)

abbrev pub end_pc : List ℕ → ℕ → ℕ
end_pc part at = u16 part (at + 6)

abbrev pub handler_pc : List ℕ → ℕ → ℕ
handler_pc part at = u16 part (at + 8)

abbrev pub catch_type : List ℕ → ℕ → ℕ
catch_type part at = u16 part (at + 10)

-- ---- the entry that catches

-- the end is excluded
unfoldable pub covers : List ℕ → ℕ → ℕ → Bool
covers part at pc = (start_pc part at ≤ⁿ pc) && (pc <ⁿ end_pc part at)

-- the tag of a class (JVMS 4.4)
abbrev pub class_tag : ℕ
class_tag = 7

-- a class in the pool to which ArithmeticException can be assigned: its word is 1. Past the pool there is none
abbrev pub is_caught_as : List ℕ → List ℕ → ℕ → Bool
is_caught_as kinds words type = (get_or kinds type 0 =ⁿ class_tag) && (get_or words type 0 =ⁿ 1)

-- catch type 0 takes everything
unfoldable pub takes : List ℕ → List ℕ → ℕ → Bool
takes kinds words type = (type =ⁿ 0) || is_caught_as kinds words type

unfoldable pub catches : List ℕ → List ℕ → List ℕ → ℕ → ℕ → Bool
catches kinds words part at pc = covers part at pc && takes kinds words (catch_type part at)

-- the handler of the first of n entries from an offset on that catches what is thrown at pc
unfoldable pub handler_from : ℕ → List ℕ → List ℕ → List ℕ → ℕ → ℕ → Option ℕ
handler_from zero kinds words part at pc = None
handler_from (suc n) kinds words part at pc = cond (catches kinds words part at pc) (Some (handler_pc part at)) (handler_from n kinds words part (at + entry_size) pc)

-- of all whole entries; a rest that is shorter counts for nothing
abbrev pub handler_at : List ℕ → List ℕ → List ℕ → ℕ → Option ℕ
handler_at kinds words part pc = handler_from (length part / entry_size) kinds words part 0 pc
