-- The entries of the handlers as pieces of 12 bytes: the first that catches. Assumes nothing.
use Rattle.std.proofs.Common.{◌≡◌, ℕ, zero, suc, ◌+◌, ◌*◌, ◌<◌, Bool, true, false, cond, List, take, drop, Option, Some, None, Bor, refl, ap, ap₂, ◌∙◌, lit<, arith}
use Rattle.std.proofs.lemmas.List.{get_or-take, get_or-drop, drop-drop}
use Rattle.std.specs.List.{find}
use Rattle.std.specs.Option.{option_map}
use Rattle.std.specs.Simd.{first_chunks}
use Rattle.rules.specs.Fetch.{u8, u16}
use Rattle.rules.specs.Handlers.{covers, catches, handler_pc, handler_from}

-- the entry at an offset, as a part of its own
abbrev entry_at : List ℕ → ℕ → List ℕ
entry_at part at = take 12 (drop at part)

byte_of : (part : List ℕ) (at i : ℕ) → i < 12 → u8 (entry_at part at) i ≡ u8 part (at + i)
byte_of part at i h = get_or-take 12 (drop at part) i 0 h ∙ get_or-drop at part i 0

pair_of : (part : List ℕ) (at i : ℕ) → i + 1 < 12 → u16 (entry_at part at) i ≡ u16 part (at + i)
pair_of part at i h =
    let next : at + (i + 1) ≡ at + i + 1 = omega arith in
    ap₂ (λ (x y : ℕ). x * 256 + y) (byte_of part at i (omega arith)) (byte_of part at (i + 1) h ∙ ap (u8 part) next)

module _ (kinds words part : List ℕ) (at pc : ℕ) where
  catches_alone : catches kinds words (entry_at part at) 0 pc ≡ catches kinds words part at pc
  unfolding catches covers
  catches_alone = rw (pair_of part at 4 (lit< tt), pair_of part at 6 (lit< tt), pair_of part at 10 (lit< tt))

module _ (kinds words part : List ℕ) (pc : ℕ) where
  pub first_that_catches : (n at : ℕ) → option_map (λ e. handler_pc e 0) (find (λ e. catches kinds words e 0 pc) (first_chunks 12 n (drop at part))) ≡ handler_from n kinds words part at pc
  unfolding handler_from
  first_that_catches zero at = refl
  first_that_catches (suc n) at =
      rw (drop-drop 12 at part, catches_alone kinds words part at pc) (go (catches kinds words part at pc) (first_that_catches n (at + 12)))
    where
      go : (t : Bool) → option_map (λ e. handler_pc e 0) (find (λ e. catches kinds words e 0 pc) (first_chunks 12 n (drop (at + 12) part))) ≡ handler_from n kinds words part (at + 12) pc
          → option_map (λ e. handler_pc e 0) (cond t (Some (entry_at part at)) (find (λ e. catches kinds words e 0 pc) (first_chunks 12 n (drop (at + 12) part))))
          ≡ cond t (Some (handler_pc part at)) (handler_from n kinds words part (at + 12) pc)
      go true e = ap Some (pair_of part at 8 (lit< tt))
      go false e = e

-- of the entry that a reference leads to
pub handler_read : (r : Option (Bor (List ℕ))) → option_map (λ e. handler_pc e.now 0) r ≡ option_map (λ e. handler_pc e 0) (option_map (λ e. e.now) r)
handler_read None = refl
handler_read (Some e) = refl
