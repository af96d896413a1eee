-- The marked examples (RULES, 'Marked examples') as one table, and the printed walk. Assumes nothing.
use Prim.Native.Nat.{ℕ, ◌-◌}
use mathlib.Core.Path.{◌≡◌, refl}
use mathlib.Core.List.{List, [], ◌∷◌, ◌++◌}
use lib.ListN.{length, replicate}
use lib.Ieee as Ieee
use Rattle.values.specs.declared.Value.TheVariants.{Int}
use Rattle.values.specs.Integers.{signed, low, bitwise, flipped}
use Rattle.values.specs.Floats.{nearest}
use Rattle.rules.specs.declared.states.State.{State}
use Rattle.rules.specs.Check.{◌else◌, ◌>>◌, ◌>>=◌}
use Rattle.rules.specs.Instructions.{row_of}
use Rattle.rules.specs.Fetch.{wide_check, table_check, lookup_check, offsets_from, pairs_from, fetched, aligned}
use Rattle.rules.specs.Returns.{is_return_type, narrowed, returned}
use Rattle.rules.specs.Questions.{Method, method, frame_check, needs_check}
use Rattle.rules.specs.Step.{six, decide_frame, decide_of, core_machine}
use Rattle.rules.specs.Run.{Ran, run_from, run_of}
use Rattle.std.specs.Prelude.{Ok, Some}
use Rattle.rules.specs.Decisions.{Decision}
use Rattle.rules.specs.declared.halts.Halt.TheVariants.{Return}

-- ---- the step and the run on given lists and numbers, open to computation

abbrev pub state : ℕ → ℕ → ℕ → ℕ → ℕ → State
state stack locals pc depth count = record { max_stack = stack; max_locals = locals; pc = pc; depth = depth; count = count; return_type = 0 }

-- an ordinary step to an offset and a depth that writes these words from a place on, written out
abbrev pub changes : ℕ → ℕ → ℕ → List ℕ → Decision
changes pc depth first ws =
    Ok (record { pc = pc; depth = depth; first = first; many = length ws; words = six ws })

unfoldable pub decided : Method → State → List ℕ → Decision
unfolding decide_frame frame_check fetched needs_check wide_check table_check lookup_check offsets_from pairs_from row_of ◌else◌ ◌>>◌ ◌>>=◌
    returned is_return_type narrowed signed low bitwise flipped nearest Ieee.of_bits Ieee.to_bits Ieee.of_int Ieee.to_signed Ieee.round Ieee.add Ieee.sub Ieee.mul Ieee.div Ieee.rem Ieee.lt Ieee.eq
decided l s slots = decide_of l s slots

unfoldable pub ran : Method → ℕ → State → List ℕ → Ran
unfolding run_of run_from decided
ran l budget s slots = run_of (core_machine l) budget s slots

-- one instruction of one byte, on an operand stack that holds these words, lowest first, and room for eight
unfoldable pub on : ℕ → List ℕ → Decision
unfolding decided
on op ws = decided (method (op ∷ 0 ∷ []) [] [] []) (state 8 0 0 (length ws) 0) (ws ++ replicate (8 - length ws) 0)

-- it leaves these words, all of them pushed
abbrev pub leaves : List ℕ → Decision
leaves ws = changes 1 (length ws) 0 ws

-- ---- marked examples for the key

pub record Marked : Type 0 where
  pub idiv_minimum : on 108 (0x80000000 ∷ 0xffffffff ∷ []) ≡ leaves (0x80000000 ∷ [])
  pub irem_minimum : on 112 (0x80000000 ∷ 0xffffffff ∷ []) ≡ leaves (0 ∷ [])
  pub iinc_255 : decided (method (132 ∷ 0 ∷ 255 ∷ 0 ∷ []) [] [] []) (state 0 1 0 0 0) (0 ∷ []) ≡ changes 3 0 0 (0xffffffff ∷ [])
  pub lcmp_minimum : on 148 (0 ∷ 0x80000000 ∷ 1 ∷ 0 ∷ []) ≡ leaves (0xffffffff ∷ [])
  pub f2i_large : on 139 (0x4f000000 ∷ []) ≡ leaves (0x7fffffff ∷ [])
  pub f2i_nan : on 139 (0x7fc00000 ∷ []) ≡ leaves (0 ∷ [])
  pub i2f_16777217 : on 134 (16777217 ∷ []) ≡ leaves (0x4b800000 ∷ [])
  pub i2f_16777219 : on 134 (16777219 ∷ []) ≡ leaves (0x4b800002 ∷ [])
  pub l2d_odd : on 138 (1 ∷ 0x00200000 ∷ []) ≡ leaves (0 ∷ 0x43400000 ∷ [])
  pub d2f_tie : on 144 (0x10000000 ∷ 0x3ff00000 ∷ []) ≡ leaves (0x3f800000 ∷ [])
  pub ishl_33 : on 120 (1 ∷ 33 ∷ []) ≡ leaves (2 ∷ [])
  pub dup2_x2 : on 94 (1 ∷ 2 ∷ 3 ∷ 4 ∷ []) ≡ leaves (3 ∷ 4 ∷ 1 ∷ 2 ∷ 3 ∷ 4 ∷ [])
  pub switch_at_0 : aligned 0 ≡ 4
  pub switch_at_3 : aligned 3 ≡ 4
  pub switch_at_4 : aligned 4 ≡ 8
  pub i2b_128 : on 145 (128 ∷ []) ≡ leaves (0xffffff80 ∷ [])

pub marked : Marked
unfolding decided on
marked =
    record {
      idiv_minimum = refl;
      irem_minimum = refl;
      iinc_255 = refl;
      lcmp_minimum = refl;
      f2i_large = refl;
      f2i_nan = refl;
      i2f_16777217 = refl;
      i2f_16777219 = refl;
      l2d_odd = refl;
      d2f_tie = refl;
      ishl_33 = refl;
      dup2_x2 = refl;
      switch_at_0 = refl;
      switch_at_3 = refl;
      switch_at_4 = refl;
      i2b_128 = refl;
    }

-- ---- the printed walk: 3 + 4, returned after three ordinary steps

pub printed : ran (method (6 ∷ 7 ∷ 0x60 ∷ 0xac ∷ []) [] [] []) 1600 (state 2 0 0 0 0) (0 ∷ 0 ∷ []) ≡ record { state = state 2 0 3 1 0; steps = 3; end = Some (Return (Int 7)); slots = 7 ∷ 4 ∷ [] }
unfolding ran
printed = refl
