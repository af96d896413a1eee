-- A method with handlers beside the same method without them: their decisions differ where the latter throws, and so plain steps are steps of both. Assumes nothing.
use Prim.Native.Nat.{ℕ, zero, suc, ◌+◌, ◌-◌, ◌≤◌}
use mathlib.Core.Path.{◌≡◌, refl, sym, ap, ◌∙◌}
use mathlib.Core.Bool.{Bool, true, false, cond}
use mathlib.Core.List.{List, [], ◌∷◌}
use native.Mathlib.Omega.{arith}
use lib.Dec.{leb, eqb}
use lib.IntN.{ℤ, pos}
use lib.ListN.{length}
use Rattle.std.proofs.lemmas.List.{nil_from_length}
use Rattle.values.specs.declared.Value.{Value}
use Rattle.values.specs.Kinds.{places_of}
use Rattle.rules.specs.declared.states.State.{State}
use Rattle.rules.specs.declared.updates.Update.{Update}
use Rattle.rules.specs.Check.{Check, ◌else◌, ◌>>=◌, ◌>>◌}
use Rattle.rules.specs.Forms.{Result, pushes, stores, divides, branches, returns, Source, stack, local, pool}
use Rattle.rules.specs.Fetch.{Instruction, fetched}
use Rattle.rules.specs.Returns.{returned}
use Rattle.rules.specs.Questions.{Method, method, pushed, frame_check, needs_check}
use Rattle.rules.specs.Lent.{plain}
use Rattle.rules.specs.Handlers.{handler_from, handler_at}
use Rattle.rules.specs.Step.{frame, base, words_at, update, inside, ordinary, following, target, thrown_to, thrown_at, outcome, decision, decide_frame, decide_of, moved, written}
use Rattle.rules.proofs.Questions.{frame_passed}
use Rattle.rules.proofs.Legal.{ordinary_legal, written_length, still_framed}
use Rattle.rules.proofs.Step.{result}
use Rattle.return_types.specs.Settled.{settled}
use Rattle.interpreter.specs.Advance.{Reached, stands, advance_from}
use Rattle.interpreter.specs.Stages.{caught}
use Rattle.interpreter.proofs.Steps.{advance_ordinary, Going}
use Rattle.std.specs.Prelude.{Ok, Err, Some, None, Option}
use Rattle.rules.specs.declared.refusals.Refusal.{Refusal}
use Rattle.rules.specs.declared.halts.Halt.TheVariants.{Return, Throw, Refused}
use Rattle.rules.specs.Decisions.{Decision}

-- questions 1 to 3 do not look at them
pub plain_framed : (l : Method) (s : State) (n : ℕ) → frame_check l s n ≡ Ok tt → frame_check (plain l) s n ≡ Ok tt
unfolding frame_check
plain_framed l s n f = f

-- and a method that has none is the same without them
pub without_handlers : (l : Method) → length l.handlers ≡ 0 → (most n : ℕ) (s : State) (slots : List ℕ) → advance_from (plain l) (most - n) n s slots ≡ advance_from l (most - n) n s slots
without_handlers l e most n s slots = ap (λ (h : List ℕ). advance_from (method l.code l.kinds l.words h) (most - n) n s slots) (sym (nil_from_length l.handlers e))

-- ---- one decision

module _ (l : Method) (s : State) where
  -- question 32 may be asked before or after
  pub caught_settled : (d : Decision) → settled s.return_type (caught l s d) ≡ caught l s (settled s.return_type d)
  unfolding thrown_at ◌else◌ ◌>>=◌ ◌>>◌
  caught_settled (Ok u) = refl
  caught_settled (Err (Return v)) = go (returned s.return_type v)
    where
      go : (x : Check Value) → decision (x >>= λ r. Ok (Err (Return r))) ≡ caught l s (decision (x >>= λ r. Ok (Err (Return r))))
      go (Ok r) = refl
      go (Err n) = refl
  caught_settled (Err Throw) = go (handler_at l.kinds l.words l.handlers s.pc)
    where
      by_place : (t : Bool) (x : Check ℕ)
          → settled s.return_type (decision ((t else Refusal.StackOverflow) >> (x >>= λ to. Ok (Ok (update to 1 s.max_locals 1 (1 ∷ []))))))
          ≡ decision ((t else Refusal.StackOverflow) >> (x >>= λ to. Ok (Ok (update to 1 s.max_locals 1 (1 ∷ [])))))
      by_place true (Ok to) = refl
      by_place true (Err n) = refl
      by_place false x = refl

      go : (x : Option ℕ) → settled s.return_type (decision (thrown_to l.code s x)) ≡ decision (thrown_to l.code s x)
      go None = refl
      go (Some h) = by_place (leb 1 s.max_stack) (inside l.code (pos h))
  caught_settled (Err (Refused n)) = refl

  module _ (i : Instruction) where
    ordinary_caught : (to : ℤ) (at n : ℕ) (ws : List ℕ) → decision (ordinary l s i to at n ws) ≡ caught l s (decision (ordinary (plain l) s i to at n ws))
    unfolding ◌>>=◌
    ordinary_caught to at n ws = go (inside l.code to) _
      where
        go : (x : Check ℕ) (f : ℕ → Update) → decision (x >>= λ pc. Ok (Ok (f pc))) ≡ caught l s (decision (x >>= λ pc. Ok (Ok (f pc))))
        go (Ok pc) f = refl
        go (Err n) f = refl

    outcome_caught : (r : Result) → decision (outcome l s i r) ≡ caught l s (decision (outcome (plain l) s i r))
    unfolding thrown_at handler_from ◌>>=◌
    outcome_caught (pushes ws) = ordinary_caught (following s i) (base s i) (pushed i) ws
    outcome_caught (stores ws) = ordinary_caught (following s i) i.operand.index (places_of i.rule.locals) ws
    outcome_caught (divides by ws) = go (eqb by 0)
      where
        go : (t : Bool)
            → decision (cond t (thrown_at l s s.pc) (ordinary l s i (following s i) (base s i) (pushed i) ws))
            ≡ caught l s (decision (cond t (thrown_at (plain l) s s.pc) (ordinary (plain l) s i (following s i) (base s i) (pushed i) ws)))
        go true = refl
        go false = ordinary_caught (following s i) (base s i) (pushed i) ws
    outcome_caught (branches t z) = ordinary_caught (cond t (target s z) (following s i)) 0 0 []
    outcome_caught (returns v) = go (returned s.return_type v)
      where
        go : (x : Check Value) → decision (x >>= λ r. Ok (Err (Return r))) ≡ caught l s (decision (x >>= λ r. Ok (Err (Return r))))
        go (Ok r) = refl
        go (Err n) = refl

  -- it works on the same words
  words_same : (i : Instruction) (words : List ℕ) (p : Source) → words_at p l s words i ≡ words_at p (plain l) s words i
  words_same i words stack = refl
  words_same i words local = refl
  words_same i words pool = refl

  after_caught : (x : Check (Unit {0})) (y z : Check Decision) → decision y ≡ caught l s (decision z) → decision (x >> y) ≡ caught l s (decision (x >> z))
  unfolding ◌>>◌
  after_caught (Ok t) y z h = h
  after_caught (Err n) y z h = refl

  bound_caught : (x : Check Instruction) (f g : Instruction → Check Decision) → ((i : Instruction) → decision (f i) ≡ caught l s (decision (g i))) → decision (x >>= f) ≡ caught l s (decision (x >>= g))
  unfolding ◌>>=◌
  bound_caught (Ok i) f g h = h i
  bound_caught (Err n) f g h = refl

  -- THE LAW: what is decided without handlers, by the handlers, is what is decided with them
  pub decide_caught : (slots : List ℕ) → decide_of l s slots ≡ caught l s (decide_of (plain l) s slots)
  unfolding decide_frame frame_check needs_check
  decide_caught slots =
      after_caught (frame_check l s (length slots)) _ _
      (bound_caught (fetched l.code s.pc) _ _ (λ i. after_caught (needs_check l s i) _ _
      (outcome_caught i (result l s (frame s slots) i) ∙ ap (λ (r : Result). caught l s (decision (outcome (plain l) s i r))) (ap (i.rule.does i.operand) (words_same i (frame s slots) i.rule.reads)))))

-- ---- plain steps

-- they lead from one place to another, in both methods
pub record Plain (l : Method) (k n : ℕ) (s : State) (slots : List ℕ) (r : Reached) : Type 0 where
  pub from : n ≤ r.steps
  pub upto : r.steps ≤ n + k
  pub long : length r.slots ≡ length slots
  pub framed : frame_check l r.state (length r.slots) ≡ Ok tt
  pub decides : r.decision ≡ decide_of (plain l) r.state r.slots
  pub leads : advance_from l k n s slots ≡ advance_from l (n + k - r.steps) r.steps r.state r.slots

module _ (l : Method) where
  plain_stays : (k n : ℕ) (s : State) (slots : List ℕ) → frame_check l s (length slots) ≡ Ok tt → (d : Decision) → decide_of (plain l) s slots ≡ d → Plain l k n s slots (stands s n slots d)
  plain_stays k n s slots f d e =
      let left : n + k - n ≡ k = omega arith in
      record { from = omega arith; upto = omega arith; long = refl; framed = f; decides = sym e; leads = rw left }

  plain_moves : (k n : ℕ) (s : State) (slots : List ℕ) → frame_check l s (length slots) ≡ Ok tt
      → ((t : State) (after : List ℕ) → frame_check l t (length after) ≡ Ok tt → Plain l k (suc n) t after (advance_from (plain l) k (suc n) t after))
      → (u : Update) → decide_of (plain l) s slots ≡ Ok u → Plain l (suc k) n s slots (advance_from (plain l) k (suc n) (moved s u.pc u.depth 0) (written u slots))
  unfolding advance_from
  plain_moves k n s slots f more u e =
      let o : decide_of l s slots ≡ Ok u = decide_caught l s slots ∙ ap (caught l s) e in
      let legal = ordinary_legal l s slots u o in
      let same = written_length l s slots u legal in
      let p = more (moved s u.pc u.depth 0) (written u slots) (rw same (frame_passed l (moved s u.pc u.depth 0) (length slots) (still_framed l s (length slots) u legal 0))) in
      let r = advance_from (plain l) k (suc n) (moved s u.pc u.depth 0) (written u slots) in
      let left : suc n + k - r.steps ≡ n + suc k - r.steps = omega arith in
      record {
        from = omega (arith, p.from);
        upto = omega (arith, p.upto);
        long = p.long ∙ same;
        framed = p.framed;
        decides = p.decides;
        leads = advance_ordinary l n s slots k u o ∙ p.leads ∙ ap (λ (m : ℕ). advance_from l m r.steps r.state r.slots) left;
      }

  plain_by : (k n : ℕ) (s : State) (slots : List ℕ) → frame_check l s (length slots) ≡ Ok tt
      → ((t : State) (after : List ℕ) → frame_check l t (length after) ≡ Ok tt → Plain l k (suc n) t after (advance_from (plain l) k (suc n) t after))
      → (d : Decision) → decide_of (plain l) s slots ≡ d → Plain l (suc k) n s slots (advance_from (plain l) (suc k) n s slots)
  unfolding advance_from
  plain_by k n s slots f more (Ok u) e = rw (e, advance_from) (plain_moves k n s slots f more u e)
  plain_by k n s slots f more (Err h) e = rw (e, advance_from) (plain_stays (suc k) n s slots f (Err h) e)

  pub plain_steps : (k n : ℕ) (s : State) (slots : List ℕ) → frame_check l s (length slots) ≡ Ok tt → Plain l k n s slots (advance_from (plain l) k n s slots)
  unfolding advance_from
  plain_steps zero n s slots f = plain_stays zero n s slots f (decide_of (plain l) s slots) refl
  plain_steps (suc k) n s slots f = plain_by k n s slots f (λ t after g. plain_steps k (suc n) t after g) (decide_of (plain l) s slots) refl

-- the loop stands where they led
pub plain_going : (l : Method) (slots₀ : List ℕ) (most : ℕ) (s₀ : State) (slots : List ℕ) (s : State) (n : ℕ) → Going l slots₀ 0 most s₀ slots s n → (r : Reached) → Plain l (most - n) n s slots r
    → Going l slots₀ 0 most s₀ r.slots r.state r.steps
plain_going l slots₀ most s₀ slots s n g r p =
    let left : n + (most - n) - r.steps ≡ most - r.steps = omega (arith, g.upto) in
    record {
      upto = omega (arith, p.upto, g.upto);
      long = p.long ∙ g.long;
      framed = p.framed;
      rest = ap (λ (m : ℕ). advance_from l m r.steps r.state r.slots) (sym left) ∙ sym p.leads ∙ g.rest;
    }
