-- A state that is read and written back leaves its words; so a run that questions 1 to 3 refuse writes its four answer words alone. Assumes nothing.
use Prim.Native.Nat.{ℕ, ◌+◌, ◌*◌, ◌/◌, ◌%◌, ◌^◌, ◌≤◌, ◌<◌}
use mathlib.Core.Path.{◌≡◌, ap}
use mathlib.Core.List.{List, [], ◌∷◌}
use native.Mathlib.Omega.{arith}
use lib.ListN.{length, get_or}
use Rattle.rules.specs.Questions.{frame_check}
use Rattle.rules.specs.Step.{Machine}
use Rattle.rules.specs.Run.{run_of}
use Rattle.workbook.specs.StateWords.{state_in, state_size, with_state, lengths_check, sizes_check}
use Rattle.workbook.specs.Calls.{with_steps, run_call}
use Rattle.std.specs.Prelude.{Ok, Err}
use Rattle.rules.specs.declared.refusals.Refusal.{Refusal}
use Rattle.rules.specs.Refusals.{number_of}

pub words_kept : (ws : List ℕ) → state_size ≤ length ws → get_or ws 4 0 < 2 ^ 32 → with_state ws (state_in ws) ≡ ws
words_kept [] h f = absurd (omega arith)
words_kept (a ∷ []) h f = absurd (omega arith)
words_kept (a ∷ b ∷ []) h f = absurd (omega arith)
words_kept (a ∷ b ∷ c ∷ []) h f = absurd (omega arith)
words_kept (a ∷ b ∷ c ∷ d ∷ []) h f = absurd (omega arith)
words_kept (a ∷ b ∷ c ∷ d ∷ e ∷ []) h f = absurd (omega arith)
words_kept (a ∷ b ∷ c ∷ d ∷ e ∷ g ∷ []) h f = absurd (omega arith)
words_kept (a ∷ b ∷ c ∷ d ∷ e ∷ g ∷ t ∷ rest) h f =
    let low : (e + g * 2 ^ 32) % 2 ^ 32 ≡ e = omega (arith, f) in
    let high : (e + g * 2 ^ 32) / 2 ^ 32 ≡ g = omega (arith, f) in
    rw (low, high)

module _ (x : Machine) (slots state answer : List ℕ) (budget : ℕ) (enough : state_size ≤ length state) (fits : get_or state 4 0 < 2 ^ 32) where
  pub refused_run : (k : Refusal) → lengths_check state answer 4 ≡ Ok tt → sizes_check state ≡ Ok tt → frame_check x.runs (state_in state) (length slots) ≡ Err k
      → run_call x slots state answer budget ≡ record { number = number_of k; slots = slots; log = []; state = state; answer = with_steps answer 0 0 0 }
  unfolding run_call run_of
  refused_run k lengths sizes e =
      rw (lengths, sizes, e) (ap (λ (ws : List ℕ). record { number = number_of k; slots = slots; log = []; state = ws; answer = with_steps answer 0 0 0 }) (words_kept state enough fits))
