-- What the state that is read of the words says of the questions. Assumes nothing.
use Prim.Native.Nat.{ℕ, ◌≤◌, ◌<◌}
use mathlib.Core.Path.{◌≡◌, refl, ap, ◌∙◌}
use mathlib.Core.Bool.{Bool, true, false}
use mathlib.Core.List.{List}
use lib.Dec.{leb}
use lib.ListN.{length, get_or}
use borrow.Author.Tests.{leb-true, lt-leb, le-leb}
use native.Mathlib.Omega.{arith}
use Rattle.std.specs.Prelude.{Result, Ok, Err}
use Rattle.std.specs.Result.{OkIff, result_or}
use Rattle.rules.specs.declared.refusals.Refusal.{Refusal}
use Rattle.rules.specs.declared.states.State.{State}
use Rattle.rules.specs.Check.{Check, ◌else◌, ◌>>◌, is_passed}
use Rattle.rules.proofs.Check.{first_passed, both_passed, is_passed_lem}
use Rattle.workbook.specs.StateWords.{state_in, state_size, lengths_check, sizes_check, size_read, state_read, lent_read}
use Rattle.workbook.proofs.Checks.{lengths_no, lengths_yes}

-- ---- questions, and then a value

joined : {A : Type 0} (x y : Check (Unit {0})) (z : Check A) → (x >> (y >> z)) ≡ ((x >> y) >> z)
unfolding ◌>>◌
joined (Ok t) y z = refl
joined (Err k) y z = refl

given : {A : Type 0} (x : Check (Unit {0})) (v s : A) → Ok s ≡ (x >> Ok v) → (x ≡ Ok tt) × (s ≡ v)
unfolding ◌>>◌
given (Ok t) v s e = (refl, cc)
given (Err k) v s e = cc

refused : {A : Type 0} (x : Check (Unit {0})) (v : A) (k : Refusal) → Err k ≡ (x >> Ok v) → x ≡ Err k
unfolding ◌>>◌
refused (Ok t) v k e = cc
refused (Err n) v k e = cc

-- ---- a size

pub size_is : {E : Type 0} (word : ℕ) (x : Result ℕ E) → OkIff x (word < 65536) word → result_or x (Err Refusal.Lengths) ≡ size_read word
unfolding ◌else◌ ◌>>◌
size_is word (Ok n) o = let h : word ≤ 65535 = omega (arith, o.0) in rw (o.1, le-leb _ _ h)
size_is word (Err e) o = let h : 65535 < word = omega (arith, o) in rw (lt-leb _ _ h)

-- ---- the state in the words

module _ (ws : List ℕ) where
  pub state_short : length ws < state_size → Err Refusal.Lengths ≡ state_read ws
  unfolding state_read ◌else◌ ◌>>◌
  state_short h = simp (lt-leb _ _ h)

  module _ (enough : state_size ≤ length ws) where
    pub stack_no : (k : Refusal) → Err k ≡ size_read (get_or ws 0 0) → Err k ≡ state_read ws
    unfolding state_read sizes_check ◌else◌ ◌>>◌
    stack_no k e = rw (le-leb _ _ enough) (go (leb (get_or ws 0 0) 65535) (leb (get_or ws 1 0) 65535) e)
      where
        go : (a b : Bool) → Err k ≡ ((a else Refusal.Lengths) >> Ok (get_or ws 0 0)) → Err k ≡ (((a else Refusal.Lengths) >> (b else Refusal.Lengths)) >> Ok (state_in ws))
        go true b e = cc
        go false b e = cc

    pub locals_no : (n : ℕ) (k : Refusal) → Ok n ≡ size_read (get_or ws 0 0) → Err k ≡ size_read (get_or ws 1 0) → Err k ≡ state_read ws
    unfolding state_read sizes_check ◌else◌ ◌>>◌
    locals_no n k e f = rw (le-leb _ _ enough) (go (leb (get_or ws 0 0) 65535) (leb (get_or ws 1 0) 65535) e f)
      where
        go : (a b : Bool) → Ok n ≡ ((a else Refusal.Lengths) >> Ok (get_or ws 0 0)) → Err k ≡ ((b else Refusal.Lengths) >> Ok (get_or ws 1 0))
            → Err k ≡ (((a else Refusal.Lengths) >> (b else Refusal.Lengths)) >> Ok (state_in ws))
        go true true e f = cc
        go true false e f = cc
        go false b e f = cc

    pub sizes_read : (m n : ℕ) → Ok m ≡ size_read (get_or ws 0 0) → Ok n ≡ size_read (get_or ws 1 0) → Ok (record (state_in ws) { max_stack = m; max_locals = n }) ≡ state_read ws
    unfolding state_read sizes_check ◌else◌ ◌>>◌
    sizes_read m n e f = rw (le-leb _ _ enough) (go (leb (get_or ws 0 0) 65535) (leb (get_or ws 1 0) 65535) e f)
      where
        go : (a b : Bool) → Ok m ≡ ((a else Refusal.Lengths) >> Ok (get_or ws 0 0)) → Ok n ≡ ((b else Refusal.Lengths) >> Ok (get_or ws 1 0))
            → Ok (record (state_in ws) { max_stack = m; max_locals = n }) ≡ (((a else Refusal.Lengths) >> (b else Refusal.Lengths)) >> Ok (state_in ws))
        go true true e f = let p : m ≡ get_or ws 0 0 = cc in let q : n ≡ get_or ws 1 0 = cc in rw (p, q)
        go true false e f = cc
        go false b e f = cc

-- where one is read
pub record Read (ws : List ℕ) (s : State) : Type 0 where
  pub enough : state_size ≤ length ws
  pub sizes : sizes_check ws ≡ Ok tt
  pub is : s ≡ state_in ws

module _ (ws : List ℕ) where
  pub read_yes : (s : State) → Ok s ≡ state_read ws → Read ws s
  unfolding state_read
  read_yes s e =
      let (a, b) = given _ (state_in ws) s (e ∙ joined (leb state_size (length ws) else Refusal.Lengths) (sizes_check ws) (Ok (state_in ws))) in
      let (h, k) = first_passed _ _ _ a in
      record { enough = leb-true _ _ h; sizes = k; is = b }

  pub read_no : (k : Refusal) → Err k ≡ state_read ws → ((leb state_size (length ws) else Refusal.Lengths) >> sizes_check ws) ≡ Err k
  unfolding state_read
  read_no k e = refused _ (state_in ws) k (e ∙ joined (leb state_size (length ws) else Refusal.Lengths) (sizes_check ws) (Ok (state_in ws)))

  pub sizes_no : state_size ≤ length ws → (k : Refusal) → Err k ≡ state_read ws → sizes_check ws ≡ Err k
  unfolding ◌else◌ ◌>>◌
  sizes_no h k e = rw (le-leb _ _ h) at (read_no k e)

-- ---- with answer words

pub record Lent (state answer : List ℕ) (s : State) : Type 0 where
  pub lengths : lengths_check state answer 4 ≡ Ok tt
  pub enough : state_size ≤ length state
  pub room : 4 ≤ length answer
  pub sizes : sizes_check state ≡ Ok tt
  pub is : s ≡ state_in state

module _ (state answer : List ℕ) where
  pub lent_short : is_passed (lengths_check state answer 4) ≡ false → Err Refusal.Lengths ≡ lent_read state answer
  unfolding lent_read ◌>>◌
  lent_short e = rw (lengths_no state answer 4 e)

  pub lent_long : is_passed (lengths_check state answer 4) ≡ true → state_read state ≡ lent_read state answer
  unfolding lent_read state_read ◌else◌ ◌>>◌
  lent_long e =
      let (h, k) = lengths_yes state answer 4 e in
      rw (is_passed_lem _ e, le-leb _ _ h)

  pub lent_yes : (s : State) → Ok s ≡ lent_read state answer → Lent state answer s
  unfolding lent_read
  lent_yes s e =
      let (a, b) = given _ (state_in state) s (e ∙ joined (lengths_check state answer 4) (sizes_check state) (Ok (state_in state))) in
      let (h, k) = both_passed _ _ a in
      let (m, n) = lengths_yes state answer 4 (ap is_passed h) in
      record { lengths = h; enough = m; room = n; sizes = k; is = b }

  pub lent_no : (k : Refusal) → Err k ≡ lent_read state answer → (lengths_check state answer 4 >> sizes_check state) ≡ Err k
  unfolding lent_read
  lent_no k e = refused _ (state_in state) k (e ∙ joined (lengths_check state answer 4) (sizes_check state) (Ok (state_in state)))
