-- The promise of the list of presses: what the rules give, and so demand 3. Assumes nothing.
use Prim.Native.Nat.{ℕ, ◌*◌, ◌<◌, ◌≤◌}
use mathlib.Core.Path.{◌≡◌, sym, subst, ◌∙◌}
use mathlib.Core.List.{List}
use lib.ListN.{length}
use Rattle.rules.specs.declared.states.State.{State}
use Rattle.rules.specs.Questions.{Method}
use Rattle.rules.specs.Step.{core_rules, core_machine}
use Rattle.rules.specs.Walk.{walk_of}
use Rattle.rules.specs.Presses.{presses_of_bytes, Replayed, replayed, replay_of, FromAnyLoad}
use Rattle.rules.proofs.Lawful.{core_lawful}
use Rattle.rules.proofs.Replay.{replay_made, replay_short, from_any_load}

module _ (l : Method) (bytes : List ℕ) (s : State) (slots log answers : List ℕ) (r : Replayed) where
  promised : r ≡ replay_of (core_machine l) bytes s slots log answers → (r ≡ replay_of (core_machine l) bytes s slots log answers) × FromAnyLoad core_rules l s slots log answers bytes r
  promised e = (e, subst (FromAnyLoad core_rules l s slots log answers bytes) (sym e) (from_any_load core_rules core_lawful l bytes s slots log answers))

  pub made : 3 * length bytes ≤ length answers → r ≡ replayed answers (length bytes) (walk_of (core_machine l) (presses_of_bytes bytes) s slots log)
      → (r ≡ replay_of (core_machine l) bytes s slots log answers) × FromAnyLoad core_rules l s slots log answers bytes r
  made h e = promised (e ∙ sym (replay_made (core_machine l) bytes s slots log answers h))

  pub too_short : length answers < 3 * length bytes → r ≡ record { number = 1; state = s; slots = slots; log = log; answers = answers }
      → (r ≡ replay_of (core_machine l) bytes s slots log answers) × FromAnyLoad core_rules l s slots log answers bytes r
  too_short h e = promised (e ∙ sym (replay_short (core_machine l) bytes s slots log answers h))
