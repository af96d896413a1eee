-- One record passed, and the end of the records. Assumes nothing.
use Prim.Native.Nat.{ℕ, ◌-◌, ◌≤◌, ◌<◌}
use mathlib.Core.Path.{◌≡◌, refl, sym, ap, subst, ◌∙◌}
use mathlib.Core.List.{List, [], ◌∷◌}
use native.Mathlib.Omega.{arith}
use mathlib.Core.Bool.{Bool, true, false, ◌||◌}
use lib.ListN.{length}
use Rattle.std.specs.Prelude.{Option, Some, None, MatchOption, Ok, Err}
use denote.Param.Members.{Mut, Called}
use Rattle.std.specs.Iterator.{Yields, ChecksAny}
use Rattle.std.specs.List.{FoldsTo}
use Rattle.rules.specs.declared.refusals.Refusal.{Refusal}
use Rattle.rules.specs.declared.sheets.Reading.{Reading}
use Rattle.rules.specs.Sheet.{is_class_at, Pool, with_value, record_check, read_from}
use Rattle.rules.proofs.Sheet.{class_end, next_class, pool_end, next_constant, next_record, bad_record}
use Rattle.rules.proofs.Placement.{Placed, next_placed}
use Rattle.sheet.specs.declared.records.Record.{Record}
use Rattle.sheet.specs.declared.records.Records.{Records}
use Rattle.sheet.specs.Records.{GivesRecord, has_class, with_constants}

module _ (s t : Records) (r : Record) (g : GivesRecord s (Some r) t) where
  pub class_passed : (index : ℕ) → has_class s index ≡ (is_class_at r.sheet.now r.at index || has_class t index)
  class_passed index = rw (g.same_sheet, g.same_place, g.sheet_kept, g.end_kept, g.passed) (next_class s.sheet.now s.end index s.at g.more)

  pub constant_passed : (p : Pool) → with_constants s p ≡ with_constants t (with_value r.sheet.now r.at p)
  constant_passed p = rw (g.same_sheet, g.same_place, g.sheet_kept, g.end_kept, g.passed) (next_constant s.sheet.now s.end s.at p g.more)

  module _ (whole : s.end ≡ length s.sheet.now) (p : Reading) where
    pub record_passed : (q : Reading) → Ok q ≡ record_check r.sheet.now r.at p → read_from (s.end - s.at) s.sheet.now s.at p ≡ read_from (t.end - t.at) t.sheet.now t.at q
    record_passed q e =
        let f = rw (g.same_sheet, g.same_place) at e in
        let more : s.at < length s.sheet.now = omega (arith, g.more) in
        rw (g.sheet_kept, g.end_kept, g.passed, whole) (next_record s.sheet.now s.at p more q (sym f))

    pub record_refused : (k : Refusal) → Err k ≡ record_check r.sheet.now r.at p → read_from (s.end - s.at) s.sheet.now s.at p ≡ Err k
    record_refused k e =
        let f = rw (g.same_sheet, g.same_place) at e in
        let more : s.at < length s.sheet.now = omega (arith, g.more) in
        rw whole (bad_record s.sheet.now s.at p more k (sym f))

    pub placed_next : (q : Reading) → Ok q ≡ record_check r.sheet.now r.at p → Placed s.sheet.now s.at p → Placed t.sheet.now t.at q
    placed_next q e h =
        let f = rw (g.same_sheet, g.same_place) at e in
        rw (g.sheet_kept, g.passed) (next_placed s.sheet.now s.at p q h (sym f))

module _ (s : Records) (g : s.end ≤ s.at) where
  pub no_class_left : (index : ℕ) → has_class s index ≡ false
  no_class_left index = class_end s.sheet.now s.end index (s.end - s.at) s.at g

  pub no_constant_left : (p : Pool) → with_constants s p ≡ p
  no_constant_left p = pool_end s.sheet.now s.end (s.end - s.at) s.at p g

-- ---- whether one of the records is that of a class, by the answers of calls on them, one after the other

module _ {F : Type 0} (g : Mut F (Record × Unit {0}) Bool) (index : ℕ) (f : F) where
  abbrev Told : Type 0
  Told = (r : Record) (b : Bool) (h : F) → Called g f (r, tt) b h → (b ≡ is_class_at r.sheet.now r.at index) × (h ≡ f)

  any_from : Told → (xs : List Record) (o : Option Record) (s t u : Records) (p q : F) (b : Bool) → p ≡ f → Yields GivesRecord s xs t → GivesRecord t o u
      → FoldsTo (λ p x q. Called g p (x, tt) false q) p xs q → MatchOption o (b ≡ false) (λ x. (b ≡ true) × ((h : F) × Called g q (x, tt) true h)) → b ≡ has_class s index
  any_from told [] None s t u p q b k same last folded m = rw same (m ∙ sym (no_class_left t last index))
  any_from told [] (Some r) s t u p q b k same last folded m =
      let (passed, call) = m in
      let e = (told r true call.0 (subst (λ (v : F). Called g v (r, tt) true call.0) (sym folded ∙ k) call.1)).0 in
      rw same (passed ∙ ap (λ (x : Bool). x || has_class u index) e ∙ sym (class_passed t u r last index))
  any_from told (r ∷ xs) o s t u p q b k yielded last folded m =
      let e = told r false folded.0 (subst (λ (v : F). Called g v (r, tt) false folded.0) k folded.1) in
      any_from told xs o yielded.0 t u folded.0 q b e.1 yielded.2 last folded.2 m
      ∙ ap (λ (x : Bool). x || has_class yielded.0 index) e.0 ∙ sym (class_passed s yielded.0 r yielded.1 index)

  pub any_class : (s u : Records) (b : Bool) → ChecksAny GivesRecord g s f b u → Told → b ≡ has_class s index
  any_class s u b ran told = any_from told ran.0 ran.1 s ran.3.0 u f ran.2 b refl ran.3.1 ran.3.2 ran.4 ran.5
