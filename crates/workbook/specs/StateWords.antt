-- A state as seven lent words. Assumes nothing.
use Rattle.std.specs.Prelude.{ℕ, ◌+◌, ◌*◌, ◌/◌, ◌%◌, ◌^◌, List, [], ◌∷◌, length, get_or, Ok}
use Rattle.std.proofs.Math.Seq.{paste}
use Rattle.rules.specs.declared.states.State.{State}
use Rattle.rules.specs.Check.{Check, ◌else◌, ◌>>◌, ◌≤ⁿ◌}
use Rattle.rules.specs.declared.refusals.Refusal.{Refusal}

-- max_stack, max_locals, pc, depth, count's low word, count's high word, the return type
abbrev pub state_words : State → List ℕ
state_words s = s.max_stack ∷ s.max_locals ∷ s.pc ∷ s.depth ∷ s.count % 2 ^ 32 ∷ s.count / 2 ^ 32 ∷ s.return_type ∷ []

abbrev pub state_in : List ℕ → State
state_in ws =
    record {
      max_stack = get_or ws 0 0;
      max_locals = get_or ws 1 0;
      pc = get_or ws 2 0;
      depth = get_or ws 3 0;
      count = get_or ws 4 0 + get_or ws 5 0 * 2 ^ 32;
      return_type = get_or ws 6 0;
    }

abbrev pub state_size : ℕ
state_size = 7

-- words past the seventh stay
abbrev pub with_state : List ℕ → State → List ℕ
with_state ws s = paste ws 0 (state_words s) state_size

-- are there seven state words, and n answer words? 1
unfoldable pub lengths_check : List ℕ → List ℕ → ℕ → Check (Unit {0})
lengths_check state answer n = do
  state_size ≤ⁿ length state else Refusal.Lengths
  n ≤ⁿ length answer else Refusal.Lengths

-- a max_stack or max_locals above 65,535 is no state's: 1
unfoldable pub sizes_check : List ℕ → Check (Unit {0})
sizes_check ws = do
  get_or ws 0 0 ≤ⁿ 65535 else Refusal.Lengths
  get_or ws 1 0 ≤ⁿ 65535 else Refusal.Lengths

-- a word as one of the two sizes
abbrev pub size_read : ℕ → Check ℕ
size_read word = do
  word ≤ⁿ 65535 else Refusal.Lengths
  Ok word

-- the state in the words where these questions pass, without answer words and with four
unfoldable pub state_read : List ℕ → Check State
state_read ws = do
  state_size ≤ⁿ length ws else Refusal.Lengths
  sizes_check ws
  Ok (state_in ws)

unfoldable pub lent_read : List ℕ → List ℕ → Check State
lent_read state answer = do
  lengths_check state answer 4
  sizes_check state
  Ok (state_in state)
