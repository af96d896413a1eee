-- What the answers of the questions' functions say of the questions. Assumes nothing.
use Prim.Native.Nat.{ℕ, ◌+◌, ◌≤◌}
use mathlib.Core.Path.{◌≡◌, refl, ap}
use mathlib.Core.Bool.{Bool, true, false}
use mathlib.Core.List.{List, []}
use native.Mathlib.Omega.{arith}
use lib.Dec.{ltb}
use lib.IntN.{ℤ, pos, negsuc}
use lib.ListN.{length}
use borrow.Author.Tests.{ltb-true}
use Rattle.values.specs.Integers.{low}
use Rattle.rules.specs.declared.states.State.{State}
use Rattle.rules.specs.Check.{Check, ◌else◌, ◌>>◌}
use Rattle.rules.specs.Fetch.{Instruction, fetched}
use Rattle.rules.specs.Questions.{Method, frame_check}
use Rattle.rules.specs.Step.{frame, inside, decide_of}
use Rattle.rules.proofs.Questions as rules
use Rattle.rules.proofs.Fetched.{fetched_sound}
use Rattle.rules.proofs.Step.{refused_by_frame, refused_by_fetch, refused_by_needs}
use Rattle.instructions.specs.declared.decoding.Decoded.{Decoded}
use Rattle.instructions.specs.Decode.{instruction_by, decoded}
use Rattle.instructions.specs.declared.forms.Entry.{Entry}
use Rattle.instructions.specs.Table.{is_in, core_entry}
use Rattle.effects.specs.Families.{shared_opcodes}
use Rattle.frame.specs.declared.places.Placed.{Placed}
use Rattle.frame.specs.Place.{place_of}
use Rattle.frame.proofs.Needs.{Says, place_says}
use Rattle.return_types.specs.Settled.{settled}
use Rattle.interpreter.specs.Stages.{located_of, located_decision}
use Rattle.interpreter.proofs.Decision.{listed}
use Rattle.interpreter.proofs.Sources.{located_decides}
use Rattle.std.specs.Prelude.{Ok, Err}
use Rattle.rules.specs.declared.refusals.Refusal.{Refusal}
use Rattle.rules.specs.declared.halts.Halt.TheVariants.{Refused}

-- ---- questions 1 to 3

pub by_frame : (l : Method) (s : State) (slots : List ℕ) (n : Refusal) → frame_check l s (length slots) ≡ Err n → decide_of l s slots ≡ Err (Refused n)
by_frame l s slots n e = refused_by_frame l (length slots) s (frame s slots) n e

-- ---- questions 4 and 5

-- what two answers that pass have in common
ok_same : {A : Type 0} {x y : A} → ◌≡◌ {A = Check A} (Ok x) (Ok y) → x ≡ y
ok_same e = cc

-- the instruction that was decoded
pub record Decodes (code : List ℕ) (pc : ℕ) (entry : Entry) (size index constant : ℕ) : Type 0 where
  pub i : Instruction
  pub at : fetched code pc ≡ Ok i
  pub entered : entry ≡ core_entry i.opcode
  pub sized : size ≡ i.size
  pub indexed : index ≡ i.operand.index
  pub as_word : constant ≡ low 32 i.operand.constant

pub decodes : (code : List ℕ) (pc : ℕ) (entry : Entry) (size index constant : ℕ) → Ok (instruction_by entry size index constant) ≡ decoded (fetched code pc) → Decodes code pc entry size index constant
unfolding decoded
decodes code pc entry size index constant e = go (fetched code pc) refl e
  where
    go : (x : Check Instruction) → fetched code pc ≡ x → Ok (instruction_by entry size index constant) ≡ decoded x → Decodes code pc entry size index constant
    go (Ok i) f h = let same = ok_same h in record { i = i; at = f; entered = ap (λ (x : Decoded). x.entry) same; sized = ap (λ (x : Decoded). x.size) same; indexed = ap (λ (x : Decoded). x.index) same; as_word = ap (λ (x : Decoded). x.constant) same }
    go (Err n) f h = let z : ◌≡◌ {A = ℕ} 0 1 = cc in absurd (omega arith)

not_decoded : (x : Check Instruction) (n : Refusal) → Err n ≡ decoded x → x ≡ Err n
unfolding decoded
not_decoded (Ok i) n e = let z : ◌≡◌ {A = ℕ} 0 1 = cc in absurd (omega arith)
not_decoded (Err k) n e = cc

module _ (l : Method) (s : State) (slots : List ℕ) (framed : frame_check l s (length slots) ≡ Ok tt) where
  pub by_fetch : (n : Refusal) → Err n ≡ decoded (fetched l.code s.pc) → decide_of l s slots ≡ Err (Refused n)
  by_fetch n e = refused_by_fetch l (length slots) s (frame s slots) framed n (not_decoded (fetched l.code s.pc) n e)

  -- ---- questions 6 to 10

  module _ (entry : Entry) (size index constant : ℕ) (d : Decodes l.code s.pc entry size index constant) where
    says : (x : Check Placed) → x ≡ place_of entry index s → Says l s d.i x
    says x e = rw (e, d.entered, d.indexed) (place_says l.code s.pc d.i (fetched_sound l.code s.pc d.i d.at) s l)

    pub by_needs : (n : Refusal) → Err n ≡ place_of entry index s → decide_of l s slots ≡ Err (Refused n)
    by_needs n e = refused_by_needs l (length slots) s (frame s slots) framed d.i d.at n (says (Err n) e)

    pub by_located : l.handlers ≡ [] → (first depth : ℕ) → Ok (record { base = first; depth = depth }) ≡ place_of entry index s
        → settled s.return_type (located_decision l slots s.pc (located_of entry index constant (s.pc + size) first depth)) ≡ decide_of l s slots
    by_located bare first depth e =
        rw (d.entered, d.sized, d.indexed, d.as_word) (located_decides l bare s slots framed d.i d.at first depth (says (Ok (record { base = first; depth = depth })) e))

    pub next_small : s.pc + size ≤ 65535
    next_small =
        let f = rules.framed l s (length slots) framed in
        let g = fetched_sound l.code s.pc d.i d.at in
        let e = d.sized in
        omega (arith, g.in_code)

    pub in_table : is_in shared_opcodes entry.shared ≡ true
    in_table = rw d.entered (listed l s d.i (fetched_sound l.code s.pc d.i d.at))

-- ---- question 10

-- a target is no further than the code reaches
pub target_small : (code : List ℕ) (z : ℤ) (n : ℕ) → inside code z ≡ Ok n → length code ≤ 65535 → n ≤ 65535
unfolding ◌else◌ ◌>>◌
target_small code (negsuc m) n e short = absurd (cc)
target_small code (pos m) n e short = go (ltb m (length code)) refl e
  where
    go : (b : Bool) → ltb m (length code) ≡ b → ((b else Refusal.Target) >> Ok m) ≡ Ok n → n ≤ 65535
    go true h e = let same = ok_same e in omega (arith, ltb-true m (length code) h)
    go false h e = absurd (cc)
