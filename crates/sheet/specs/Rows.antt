-- The rows of questions that have one refusal, as one test each (rules/specs/Sheet). Assumes nothing.
use Rattle.std.specs.Prelude.{ℕ, ◌+◌, Bool, ◌&&◌, List, length}
use Rattle.rules.specs.declared.sheets.Reading.{Reading}
use Rattle.rules.specs.Check.{◌≤ⁿ◌, ◌<ⁿ◌, ◌=ⁿ◌}
use Rattle.rules.specs.Handlers.{start_pc, end_pc, handler_pc, catch_type}
use Rattle.rules.specs.Sheet.{body_length, pool_tag, pool_word, pool_index, tag_suits, word_suits, last_index, last_used, is_below, is_catch_type}

-- KI
abbrev pub is_constant : List ℕ → ℕ → Reading → Bool
is_constant sheet at p =
    tag_suits (pool_tag sheet at) (body_length sheet at)
    && word_suits (pool_tag sheet at) (pool_word sheet at)
    && (last_used p <ⁿ pool_index sheet at)
    && (last_index sheet at ≤ⁿ 65535)

-- EX
abbrev pub is_handler : List ℕ → ℕ → Reading → Bool
is_handler sheet at p =
    (body_length sheet at =ⁿ 8)
    && (start_pc sheet at <ⁿ end_pc sheet at)
    && (start_pc sheet at <ⁿ p.code_length)
    && (handler_pc sheet at <ⁿ p.code_length)
    && (end_pc sheet at ≤ⁿ p.code_length)
    && is_catch_type sheet p (catch_type sheet at)

-- the lent memory
abbrev pub is_enough : Reading → List ℕ → List ℕ → List ℕ → Bool
is_enough p slots kinds words =
    (p.max_locals + p.max_stack ≤ⁿ length slots)
    && is_below p.used (length kinds)
    && (length kinds =ⁿ length words)
    && (length kinds ≤ⁿ 65536)
