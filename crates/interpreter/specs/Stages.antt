-- The step in the stages of the code, on an instruction that is decoded and placed: for the contracts of private functions, tied to the rules by
-- proofs/Decision and proofs/Sources. Assumes nothing.
use Rattle.std.specs.Prelude.{ℕ, ◌+◌, Bool, ◌||◌, cond, List, [], eqb, ℤ, pos, ◌+ℤ◌, get_or, Ok, Err}
use Rattle.values.specs.Kinds.{int, long, float, double}
use Rattle.values.specs.Words.{meaning}
use Rattle.rules.specs.declared.states.State.{State}
use Rattle.rules.specs.Questions.{Method}
use Rattle.rules.specs.declared.updates.Update.{Update}
use Rattle.rules.specs.Check.{Check}
use Rattle.rules.specs.declared.updates.Six.{Six}
use Rattle.effects.specs.declared.four.Four.{Four}
use Rattle.rules.specs.Step.{first_place, six, inside, thrown_at, decision}
use Rattle.operands.specs.Switch.{table_offset, lookup_offset}
use Rattle.instructions.specs.declared.forms.Entry.{Entry}
use Rattle.const_pool.specs.declared.Constant.{Constant}
use Rattle.const_pool.specs.Constant.{constant_of}
use Rattle.effects.specs.declared.outcome.Effect.{Effect}
use Rattle.effects.specs.Effects.{effect_at}
use Rattle.interpreter.specs.declared.finishing.Located.{Located}
use Rattle.rules.specs.declared.halts.Halt.TheVariants.{Return, Throw, Refused}
use Rattle.rules.specs.Decisions.{Decision}

-- ---- the words that it works on

abbrev pub four : ℕ → ℕ → ℕ → ℕ → Four
four a b c d = record { a = a; b = b; c = c; d = d }

abbrev pub four_at : List ℕ → ℕ → Four
four_at slots at = four (get_or slots at 0) (get_or slots (at + 1) 0) (get_or slots (at + 2) 0) (get_or slots (at + 3) 0)

abbrev pub from_pool : Check Constant → Check Four
from_pool (Ok c) = Ok (four c.low c.high 0 0)
from_pool (Err r) = Err r

-- the loads and IINC read their local
abbrev pub reads_local : ℕ → Bool
reads_local op = eqb op 21 || eqb op 22 || eqb op 132

-- by the shared opcode: a constant of the pool, the loads and IINC, and all others
unfoldable pub read_of : Method → List ℕ → ℕ → ℕ → ℕ → Check Four
read_of l slots op index base =
    cond (eqb op 18) (from_pool (constant_of l.kinds l.words index int float))
    (cond (eqb op 20) (from_pool (constant_of l.kinds l.words index long double))
    (cond (reads_local op) (Ok (four_at slots index))
    (Ok (four_at slots base))))

-- ---- where it goes, and its words

-- the stores and IINC write their local
abbrev pub stores_to : ℕ → Bool
stores_to op = eqb op 54 || eqb op 55 || eqb op 132

-- an instruction of an entry, with its operands, the offset after it, its first place on the stack and the new depth
unfoldable pub located_of : Entry → ℕ → ℕ → ℕ → ℕ → ℕ → Located
located_of entry index constant next base depth =
    record {
      op = entry.shared;
      index = index;
      constant = constant;
      next = next;
      base = base;
      depth = depth;
      first = cond (stores_to entry.shared) index base;
      many = cond (stores_to entry.shared) entry.locals entry.pushes;
    }

-- an ordinary step to an offset
abbrev pub update_to : ℕ → ℕ → ℕ → ℕ → Six → Update
update_to pc depth first many words = record { pc = pc; depth = depth; first = first_place first many; many = many; words = words }

-- by the answer to question 10
abbrev pub ordinary_to : Check ℕ → ℕ → ℕ → ℕ → Six → Decision
ordinary_to (Ok pc) depth first many w = Ok (update_to pc depth first many w)
ordinary_to (Err r) depth first many w = Err (Refused r)

-- by how much a branch that is taken goes on: a switch by its key, any other by its constant
unfoldable pub offset_at : List ℕ → ℕ → ℕ → ℕ → ℕ → ℤ
offset_at code pc op constant key =
    cond (eqb op 170) (table_offset code pc (meaning int key))
    (cond (eqb op 171) (lookup_offset code pc (meaning int key))
    (meaning int constant))

unfoldable pub branch_of : List ℕ → ℕ → Located → ℕ → Bool → Decision
branch_of code pc i key taken =
    ordinary_to (inside code (cond taken (pos pc +ℤ offset_at code pc i.op i.constant key) (pos i.next))) i.depth 0 0 (six [])

unfoldable pub finish_of : List ℕ → ℕ → Located → ℕ → Effect → Decision
finish_of code pc i key (Effect.Words w) = ordinary_to (inside code (pos i.next)) i.depth i.first i.many w
finish_of code pc i key Effect.Throw = Err Throw
finish_of code pc i key (Effect.Branch taken) = branch_of code pc i key taken
finish_of code pc i key (Effect.Return v) = Err (Return v)

-- ---- both

abbrev pub read_decision : List ℕ → ℕ → Located → Check Four → Decision
read_decision code pc i (Ok w) = finish_of code pc i w.a (effect_at i.op i.constant w.a w.b w.c w.d)
read_decision code pc i (Err r) = Err (Refused r)

unfoldable pub located_decision : Method → List ℕ → ℕ → Located → Decision
located_decision l slots pc i = read_decision l.code pc i (read_of l slots i.op i.index i.base)

-- ---- a throw, which a method without handlers does not catch, by the handlers

abbrev pub caught : Method → State → Decision → Decision
caught l s (Ok u) = Ok u
caught l s (Err (Return v)) = Err (Return v)
caught l s (Err Throw) = decision (thrown_at l s s.pc)
caught l s (Err (Refused n)) = Err (Refused n)
