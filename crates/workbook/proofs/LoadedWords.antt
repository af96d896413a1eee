-- The call of a load by the answers to its questions, and that its words hold where code and handlers lie. Assumes nothing.
use Prim.Native.Nat.{ℕ, ◌^◌, ◌<◌}
use mathlib.Core.Path.{◌≡◌, sym, ap, ◌∙◌}
use mathlib.Core.List.{List}
use native.Mathlib.Omega.{arith}
use lib.Seq.{paste}
use Rattle.rules.specs.declared.sheets.Reading.{Reading}
use Rattle.rules.specs.declared.sheets.Loaded.{Loaded}
use Rattle.rules.specs.Check.{◌>>=◌}
use Rattle.rules.specs.Fetch.{u8}
use Rattle.rules.specs.Sheet.{sheet_check, handlers_length, AfterLoad, load_of}
use Rattle.rules.proofs.AcceptedLoad.{accepted_said}
use Rattle.workbook.specs.StateWords.{with_state}
use Rattle.workbook.specs.Calls.{parts_of, words_check, load_call}
use Rattle.std.specs.Prelude.{Ok, Err}
use Rattle.rules.specs.declared.refusals.Refusal.{Refusal}
use Rattle.rules.specs.Refusals.{number_of}

-- the four numbers are words
pub record Lies (x : Loaded) : Type 0 where
  pub code : x.code < 2 ^ 32
  pub code_length_lem : x.code_length < 2 ^ 32
  pub handlers : x.handlers < 2 ^ 32
  pub handlers_length_lem : x.handlers_length < 2 ^ 32

module _ (sheet slots kinds words state answer : List ℕ) where
  pub load_unread : (n : Refusal) → sheet_check sheet ≡ Err n → record { number = number_of n; slots = slots; kinds = kinds; words = words; state = state; answer = answer } ≡ load_call sheet slots kinds words state answer
  unfolding load_call ◌>>=◌
  load_unread n e = rw e

  module _ (p : Reading) (read : sheet_check sheet ≡ Ok p) where
    pub load_short : words_check state answer p ≡ Err Refusal.LentMemory → record { number = 26; slots = slots; kinds = kinds; words = words; state = state; answer = answer } ≡ load_call sheet slots kinds words state answer
    unfolding load_call ◌>>=◌
    load_short e = rw (read, e)

    -- what a load gave and filled
    module _ (x : Loaded) (slots' kinds' words' : List ℕ) (gave : record { loaded = x; slots = slots'; kinds = kinds'; words = words' } ≡ load_of sheet slots kinds words) where
      pub parts_lie : ((i : ℕ) → u8 sheet i < 256) → handlers_length p < 2 ^ 32 → x.answer ≡ Ok tt → Lies x
      parts_lie bytes short f =
          let same : (load_of sheet slots kinds words).loaded ≡ x = ap (λ (m : AfterLoad). m.loaded) (sym gave) in
          let s = rw same at (accepted_said sheet slots kinds words bytes (ap (λ (y : Loaded). y.answer) same ∙ f)) in
          record {
            code = omega (arith, s.starts);
            code_length_lem = omega (arith, s.short);
            handlers = omega (arith, s.handlers_near);
            handlers_length_lem = omega (arith, s.handlers_long p read);
          }

      module _ (there : words_check state answer p ≡ Ok tt) where
        pub load_refused : (k : Refusal) → x.answer ≡ Err k
            → record { number = number_of k; slots = slots'; kinds = kinds'; words = words'; state = state; answer = answer } ≡ load_call sheet slots kinds words state answer
        unfolding load_call ◌>>=◌
        load_refused k f = rw (read, there, ← gave, f)

        pub load_accepted : x.answer ≡ Ok tt → (state' answer' : List ℕ) → state' ≡ with_state state x.state → answer' ≡ paste answer 0 (parts_of x) 4
            → record { number = 0; slots = slots'; kinds = kinds'; words = words'; state = state'; answer = answer' } ≡ load_call sheet slots kinds words state answer
        unfolding load_call ◌>>=◌
        load_accepted f state' answer' g h = rw (read, there, ← gave, f, g, h)
