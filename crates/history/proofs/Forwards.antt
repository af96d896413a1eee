-- Forward by what the rules decide where no step was taken before. Assumes nothing.
use Prim.Native.Nat.{ℕ}
use mathlib.Core.Path.{◌≡◌, refl, sym, ap, ◌∙◌}
use mathlib.Core.List.{List}
use Rattle.rules.specs.declared.states.State.{State}
use Rattle.rules.specs.Questions.{Method}
use Rattle.rules.specs.Step.{core_machine}
use Rattle.rules.specs.History.{kept, pressed_by, forward_by, forward_of}
use Rattle.rules.proofs.History.{forward_by_lem}
use Rattle.interpreter.specs.Advance.{Reached, advance_from}
use Rattle.interpreter.proofs.Steps.{Other, not_other, decided_there, slots_there}
use Rattle.std.specs.Prelude.{Ok, Err}
use Rattle.rules.specs.Decisions.{Decision}

pub forward_there : (l : Method) (s : State) (slots log : List ℕ) (r : Reached) → r ≡ advance_from l 0 0 s slots
    → (d : Decision) → r.decision ≡ d → forward_by s r.slots log 0 d ≡ forward_of (core_machine l) s slots log
forward_there l s slots log r e d h =
    ap (λ (x : List ℕ). forward_by s x log 0 d) (slots_there l s slots r e)
    ∙ ap (forward_by s slots log 0) (sym h)
    ∙ sym (forward_by_lem s slots log (core_machine l) (record { decision = r.decision; scratch = 0 }) (ap (λ (x : Decision). record { decision = x; scratch = 0 }) (sym (decided_there l s slots r e))))

-- one that is not ordinary changes nothing
pub forward_other : (l : Method) (s : State) (slots log : List ℕ) (r : Reached) → r ≡ advance_from l 0 0 s slots
    → Other r.decision → kept s r.slots log 0 (pressed_by r.decision) ≡ forward_of (core_machine l) s slots log
forward_other l s slots log r e o = go r.decision o ∙ forward_there l s slots log r e r.decision refl
  where
    go : (d : Decision) → Other d → kept s r.slots log 0 (pressed_by d) ≡ forward_by s r.slots log 0 d
    go (Ok u) h = absurd (not_other u h)
    go (Err h) o = refl
