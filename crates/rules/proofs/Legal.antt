-- What every ordinary step keeps: most of what the theorem on the list of presses asks of the 164 instructions (the rest is in Numbers). Assumes nothing.
use Prim.Native.Nat.{ℕ, zero, suc, ◌+◌, ◌≤◌, ◌<◌}
use mathlib.Core.Path.{◌≡◌, subst}
use mathlib.Core.Bool.{true, cond}
use mathlib.Core.List.{List, []}
use native.Mathlib.Omega.{arith}
use lib.Dec.{eqb}
use lib.ListN.{length}
use lib.Seq.{length-paste}
use lib.IntN.{ℤ, pos, negsuc}
use borrow.Author.Tests.{ltb-true, leb-true}
use Rattle.values.specs.Kinds.{places_of}
use Rattle.rules.specs.declared.states.State.{State}
use Rattle.rules.specs.declared.updates.Update.{Update}
use Rattle.rules.specs.Check.{Check}
use Rattle.rules.specs.Forms.{Result, pushes, stores, divides, branches, returns}
use Rattle.rules.specs.Instructions.{row_of}
use Rattle.rules.specs.Fetch.{Instruction, fetched}
use Rattle.rules.specs.Returns.{returned}
use Rattle.rules.specs.Questions.{Method, frame_size, pushed, frame_check, needs_check}
use Rattle.rules.specs.Handlers.{handler_at}
use Rattle.rules.specs.Step.{frame, base, first_place, inside, ordinary, following, target, handler_target, thrown_to, thrown_at, outcome, decision, decide_frame, decide_of, moved, update_words, written}
use Rattle.rules.proofs.Check.{Holds, asked, after, bound, held, either}
use Rattle.rules.proofs.Rows.{of_row, small, small_row, few_pushed, one_named, few_named, local_within}
use Rattle.rules.proofs.Questions.{Framed, framed, Needed, needed}
use Rattle.rules.proofs.Step.{result}
use Rattle.rules.proofs.Fetched.{fetched_sound}
use Rattle.std.specs.Prelude.{Ok, Err, Some, None, Option}
use Rattle.rules.specs.declared.halts.Halt.TheVariants.{Return, Throw, Refused}
use Rattle.rules.specs.Decisions.{Decision}

pub record Legal (l : Method) (s : State) (n : ℕ) (u : Update) : Type 0 where
  pub frame_there : Framed l s n
  pub new_pc : u.pc < length l.code
  pub new_depth : u.depth ≤ s.max_stack
  pub few : u.many ≤ 6
  pub within : u.first + u.many ≤ frame_size s

abbrev pub IfOrdinary : (Update → Type 0) → Decision → Type 0
IfOrdinary P (Ok u) = P u
IfOrdinary P (Err (Return v)) = Unit {0}
IfOrdinary P (Err Throw) = Unit {0}
IfOrdinary P (Err (Refused n)) = Unit {0}

-- ---- an instruction that is fetched is of a row of the table

Small : Instruction → Type 0
Small i = small i.rule ≡ true

fetched_small : (code : List ℕ) (pc : ℕ) (i : Instruction) → fetched code pc ≡ Ok i → Small i
unfolding Small
fetched_small code pc i e =
    let f = fetched_sound code pc i e in
    rw f.ruled (of_row (λ r. small r.rule) (λ r. true) (row_of i.opcode) f.row (small_row i.opcode) f.found)

-- ---- an ordinary step

module _ (l : Method) (n : ℕ) (s : State) where
  Fine : Decision → Type 0
  Fine d = IfOrdinary (Legal l s n) d

  decision_fine : (x : Check Decision) → Holds Fine x → Fine (decision x)
  unfolding Holds Fine
  decision_fine (Ok d) h = h
  decision_fine (Err n) h = tt

  -- where nothing is written the first place is 0
  placed : (at n limit : ℕ) → (0 < n → at + n ≤ limit) → first_place at n + n ≤ limit
  placed at zero limit h = omega arith
  placed at (suc n) limit h = h (omega arith)

  InCode : ℕ → Type 0
  InCode p = p < length l.code

  inside_code : (to : ℤ) → Holds InCode (inside l.code to)
  unfolding Holds InCode
  inside_code (pos k) = asked InCode _ _ _ (λ t. ltb-true k (length l.code) t)
  inside_code (negsuc k) = tt

  module _ (f : Framed l s n) (i : Instruction) (small : Small i) (needs : Needed l s i) where
    ordinary_fine : (to : ℤ) (at many : ℕ) (ws : List ℕ) → many ≤ 6 → first_place at many + many ≤ frame_size s → Holds Fine (ordinary l s i to at many ws)
    unfolding Holds Fine InCode
    ordinary_fine to at many ws h w =
        bound Fine (inside l.code to) _ (λ p e. record {
          frame_there = f;
          new_pc = held InCode (inside l.code to) p (inside_code to) e;
          new_depth = needs.fits;
          few = h;
          within = w;
        })

    pushed_fine : (ws : List ℕ) → Holds Fine (ordinary l s i (following s i) (base s i) (pushed i) ws)
    unfolding Small
    pushed_fine ws =
        let p = needs.pops in
        let q = needs.fits in
        ordinary_fine (following s i) (base s i) (pushed i) ws (few_pushed i.rule small) (placed (base s i) (pushed i) _ (λ _. omega arith))

    stored_fine : (ws : List ℕ) → Holds Fine (ordinary l s i (following s i) i.operand.index (places_of i.rule.locals) ws)
    unfolding Small
    stored_fine ws =
        let one = one_named i.rule small in
        ordinary_fine (following s i) i.operand.index (places_of i.rule.locals) ws (few_named one) (placed _ _ _ (λ h.
        let c = local_within s.max_locals i.operand.index one needs.local_there_lem h in omega arith))

    thrown_fine : (x : Option ℕ) → Holds Fine (thrown_to l.code s x)
    unfolding Holds Fine InCode
    thrown_fine None = tt
    thrown_fine (Some h) = asked Fine _ _ _ (λ t.
        let one = leb-true 1 s.max_stack t in
        bound Fine (inside l.code (handler_target s h)) _ (λ p e. record {
          frame_there = f;
          new_pc = held InCode (inside l.code (handler_target s h)) p (inside_code (handler_target s h)) e;
          new_depth = omega (arith, f.deep);
          few = omega arith;
          within = omega arith;
        }))

    outcome_fine : (r : Result) → Holds Fine (outcome l s i r)
    unfolding Holds Fine Small thrown_at
    outcome_fine (pushes ws) = pushed_fine ws
    outcome_fine (stores ws) = stored_fine ws
    outcome_fine (divides by ws) = either Fine (eqb by 0) _ _ (thrown_fine (handler_at l.kinds l.words l.handlers s.pc)) (pushed_fine ws)
    outcome_fine (branches t z) = ordinary_fine (cond t (target s z) (following s i)) 0 0 [] (omega arith) (omega arith)
    outcome_fine (returns v) = bound Fine (returned s.return_type v) _ (λ r e. tt)

  -- THE LAW: an ordinary step is legal
  pub decide_legal : (words : List ℕ) → IfOrdinary (Legal l s n) (decide_frame l n s words)
  unfolding decide_frame Fine
  decide_legal words = decision_fine _
      (after Fine (frame_check l s n) _ (λ e1.
      bound Fine (fetched l.code s.pc) _ (λ i e2.
      after Fine (needs_check l s i) _ (λ e3.
      outcome_fine (framed l s n e1) i (fetched_small l.code s.pc i e2) (needed l s i e3) (result l s words i)))))

-- ---- and so the frame stands after it

module _ (l : Method) (s : State) (slots : List ℕ) (u : Update) (legal : Legal l s (length slots) u) where
  pub written_length : length (written u slots) ≡ length slots
  written_length = let f = legal.frame_there in length-paste slots u.first (update_words u) u.many (omega (arith, legal.within, f.room)) legal.few

pub still_framed : (l : Method) (s : State) (n : ℕ) (u : Update) → Legal l s n u → (count : ℕ) → Framed l (moved s u.pc u.depth count) n
still_framed l s n u legal count =
    let f = legal.frame_there in
    record {
      paired = f.paired;
      pool = f.pool;
      room = f.room;
      some_code = f.some_code;
      short_code = f.short_code;
      in_code = legal.new_pc;
      deep = legal.new_depth;
    }

pub ordinary_legal : (l : Method) (s : State) (slots : List ℕ) (u : Update) → decide_of l s slots ≡ Ok u → Legal l s (length slots) u
ordinary_legal l s slots u e = subst (IfOrdinary (Legal l s (length slots))) e (decide_legal l (length slots) s (frame s slots))
