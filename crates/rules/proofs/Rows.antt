-- Laws of every row of the table, each by one computed test over all rows or all 256 opcodes. Assumes nothing.
use Prim.Native.Nat.{ℕ, zero, suc, ◌+◌, ◌-◌, ◌%◌, ◌≤◌, ◌<◌}
use mathlib.Core.Path.{◌≡◌, refl, sym, ap, subst}
use mathlib.Core.Bool.{Bool, true, false, ◌&&◌, ◌||◌, cond}
use mathlib.Core.List.{List, [], ◌∷◌, map}
use native.Mathlib.Omega.{arith}
use lib.Dec.{leb, ltb, eqb}
use lib.ListN.{length, get_or, take}
use borrow.Author.Tests.{eqb-true, eqb-false, leb-true, ltb-true}
use Rattle.values.specs.Kinds.{Kind, places, places_of}
use Rattle.rules.specs.Forms.{Row, Rule, Operand, Result, pushes, stores, divides, branches, returns, Source, stack, local, pool, Format, alone, implied, byte, short, index, index2, index_const, branch, branch4, table, pairs, widened}
use Rattle.rules.specs.Instructions.{instructions, row_in, row_of}
use Rattle.rules.specs.Questions.{locals_below}
use Rattle.std.proofs.lemmas.Bool.{and_parts}
use Rattle.std.proofs.lemmas.Bool.Decides.{nat_tests}
use Rattle.std.specs.Prelude.{Some, None, Option}

-- ---- what is computed of every row

-- two functions of a row agree on the row of an opcode, if it has one
unfoldable pub OfRow : {A : Type 0} → (Row → A) → (Row → A) → Option Row → Type 0
OfRow f g None = Unit {0}
OfRow f g (Some r) = f r ≡ g r

every_row : {A : Type 0} (f g : Row → A) (rs : List Row) → map f rs ≡ map g rs → (n : ℕ) → OfRow f g (row_in rs n)
unfolding row_in OfRow
every_row f g [] e n = tt
every_row f g (r ∷ rs) e n = go (eqb n r.opcode) (row_in rs n) (every_row f g rs (cc) n)
  where
    go : (t : Bool) (o : Option Row) → OfRow f g o → OfRow f g (cond t (Some r) o)
    go true o h = cc
    go false o h = h

-- where they agree on the whole table, by one computation
pub every_row_lem : {A : Type 0} (f g : Row → A) → map f instructions ≡ map g instructions → (n : ℕ) → OfRow f g (row_of n)
unfolding row_of
every_row_lem f g e n = every_row f g instructions e n

pub of_row : {A : Type 0} (f g : Row → A) (o : Option Row) (r : Row) → OfRow f g o → o ≡ Some r → f r ≡ g r
unfolding OfRow
of_row f g o r h e = rw e at h

-- a row is found under its own opcode
Own : ℕ → Option Row → Type 0
Own n None = Unit {0}
Own n (Some r) = r.opcode ≡ n

own : (n : ℕ) (rs : List Row) → Own n (row_in rs n)
unfolding row_in Own
own n [] = tt
own n (r ∷ rs) = go (own n rs) (eqb n r.opcode) refl
  where
    go : Own n (row_in rs n) → (t : Bool) → eqb n r.opcode ≡ t → Own n (cond t (Some r) (row_in rs n))
    go h true e = sym (eqb-true n r.opcode e)
    go h false e = h

pub own_opcode : (n : ℕ) (r : Row) → row_of n ≡ Some r → r.opcode ≡ n
unfolding row_of Own
own_opcode n r e = subst (Own n) e (own n instructions)

below_bound : Row → Bool
below_bound r = ltb r.opcode 256

pub below_256 : (n : ℕ) (r : Row) → row_of n ≡ Some r → n < 256
unfolding instructions below_bound
below_256 n r e =
    let l = ltb-true r.opcode 256 (of_row below_bound (λ r. true) (row_of n) r (every_row_lem below_bound (λ r. true) refl n) e) in
    rw (own_opcode n r e) at l

-- at most six words pushed, at most one local named
abbrev few_locals : List Kind → Bool
few_locals [] = true
few_locals (k ∷ []) = leb (places k) 6
few_locals (k ∷ j ∷ ks) = false

abbrev pub small : Rule → Bool
small r = leb (places_of r.gives) 6 && few_locals r.locals

pub small_row : (n : ℕ) → OfRow (λ r. small r.rule) (λ r. true) (row_of n)
unfolding instructions
small_row n = every_row_lem (λ r. small r.rule) (λ r. true) refl n

pub few_pushed : (r : Rule) → small r ≡ true → places_of r.gives ≤ 6
few_pushed r e = grind (arith, nat_tests)

-- the one local that a rule names, if any
pub data OneLocal : List Kind → Type 0 where
  no_local : OneLocal []
  one_local : (k : Kind) → places k ≤ 6 → OneLocal (k ∷ [])

pub one_named : (r : Rule) → small r ≡ true → OneLocal r.locals
one_named r e = go r.locals (and_parts (leb (places_of r.gives) 6) (few_locals r.locals) e).1
  where
    go : (ks : List Kind) → few_locals ks ≡ true → OneLocal ks
    go [] h = no_local
    go (k ∷ []) h = one_local k (leb-true (places k) 6 h)
    go (k ∷ j ∷ ks) h = absurd (cc)

pub few_named : {ks : List Kind} → OneLocal ks → places_of ks ≤ 6
few_named no_local = omega arith
few_named (one_local k h) = omega arith

-- question 8 says of it that all its places are below the limit
pub local_within : (limit x : ℕ) {ks : List Kind} → OneLocal ks → locals_below limit x ks ≡ true → 0 < places_of ks → x + places_of ks ≤ limit
local_within limit x no_local e h = absurd (omega arith)
local_within limit x (one_local k _) e h = grind (arith, nat_tests)

-- ---- a test of every opcode

-- n - 1, .. , 0
abbrev pub up_to : ℕ → List ℕ
up_to zero = []
up_to (suc n) = n ∷ up_to n

-- two functions with the same values on all numbers below n agree on each
pub agree : {A : Type 0} (f g : ℕ → A) (n : ℕ) → map f (up_to n) ≡ map g (up_to n) → (k : ℕ) → k < n → f k ≡ g k
agree f g zero e k l = absurd (omega arith)
agree f g (suc n) e k l = go (λ r h. agree f g n r k h) (eqb k n) refl
  where
    first : f n ≡ g n
    first = cc

    rest : map f (up_to n) ≡ map g (up_to n)
    rest = cc

    go : (map f (up_to n) ≡ map g (up_to n) → k < n → f k ≡ g k) → (t : Bool) → eqb k n ≡ t → f k ≡ g k
    go ih true d = rw (eqb-true k n d) first
    go ih false d = let h = eqb-false k n d in ih rest (omega (arith, h))

-- the core opcodes are the ranges of RULES, 'The step'
abbrev between : ℕ → ℕ → ℕ → Bool
between a b n = leb a n && leb n b

abbrev pub is_core : ℕ → Bool
is_core n = between 0 45 n || between 54 78 n || between 87 167 n || between 170 177 n || between 196 196 n || between 198 200 n

abbrev pub is_some : Option Row → Bool
is_some None = false
is_some (Some r) = true

core_all : map is_core (up_to 256) ≡ map (λ n. is_some (row_of n)) (up_to 256)
unfolding row_of
core_all = refl

pub core_opcodes : (n : ℕ) → n < 256 → is_core n ≡ is_some (row_of n)
core_opcodes = agree is_core (λ n. is_some (row_of n)) 256 core_all

-- iload_<n> to aload_<n> (26 to 45) and istore_<n> to astore_<n> (59 to 78) imply the local <n>: the opcode minus the family's first, modulo 4
abbrev implied_index : ℕ → Option ℕ
implied_index n = cond (between 26 45 n) (Some ((n - 26) % 4)) (cond (between 59 78 n) (Some ((n - 59) % 4)) None)

abbrev index_implied : Format → Option ℕ
index_implied alone = None
index_implied (implied x) = Some x
index_implied byte = None
index_implied short = None
index_implied index = None
index_implied index2 = None
index_implied index_const = None
index_implied branch = None
index_implied branch4 = None
index_implied table = None
index_implied pairs = None
index_implied widened = None

abbrev index_of_row : Option Row → Option ℕ
index_of_row None = None
index_of_row (Some r) = index_implied r.format

implied_all : map implied_index (up_to 256) ≡ map (λ n. index_of_row (row_of n)) (up_to 256)
unfolding row_of
implied_all = refl

-- ---- a row writes as many words as its kinds say, whatever the operand and the words that it works on

abbrev pub result_words : Result → List ℕ
result_words (pushes ws) = ws
result_words (stores ws) = ws
result_words (divides by ws) = ws
result_words (branches t z) = []
result_words (returns v) = []

-- how many words it works on, at most four
abbrev pub worked : Rule → Source → ℕ
worked r stack = places_of r.takes
worked r local = places_of r.locals
worked r pool = places_of r.gives

abbrev pub works : Rule → ℕ
works r = worked r r.reads

-- how many words its kinds say: those of what it gives, or of its local, or none
abbrev pub kind_words : Rule → Result → ℕ
kind_words r (pushes ws) = places_of r.gives
kind_words r (stores ws) = places_of r.locals
kind_words r (divides by ws) = places_of r.gives
kind_words r (branches t z) = places_of r.gives
kind_words r (returns v) = places_of r.gives

four : ℕ → ℕ → ℕ → ℕ → List ℕ
four a b c d = a ∷ b ∷ c ∷ d ∷ []

counted : Row → Operand → ℕ → ℕ → ℕ → ℕ → ℕ
counted r o a b c d = length (result_words (r.rule.does o (take (works r.rule) (four a b c d))))

said : Row → Operand → ℕ → ℕ → ℕ → ℕ → ℕ
said r o a b c d = kind_words r.rule (r.rule.does o (take (works r.rule) (four a b c d)))

counted_row : (n : ℕ) → OfRow counted said (row_of n)
unfolding instructions counted said four
counted_row n = every_row_lem counted said refl n

works_on_few : Row → Bool
works_on_few r = leb (works r.rule) 4

pub works_few : (n : ℕ) (r : Row) → row_of n ≡ Some r → works r.rule ≤ 4
unfolding instructions works_on_few
works_few n r e = leb-true (works r.rule) 4 (of_row works_on_few (λ r. true) (row_of n) r (every_row_lem works_on_few (λ r. true) refl n) e)

-- a list of at most four words, by its words
first_four : (ws : List ℕ) → length ws ≤ 4 → ws ≡ take (length ws) (four (get_or ws 0 0) (get_or ws 1 0) (get_or ws 2 0) (get_or ws 3 0))
unfolding four
first_four [] h = refl
first_four (a ∷ []) h = refl
first_four (a ∷ b ∷ []) h = refl
first_four (a ∷ b ∷ c ∷ []) h = refl
first_four (a ∷ b ∷ c ∷ d ∷ []) h = refl
first_four (a ∷ b ∷ c ∷ d ∷ e ∷ ws) h = absurd (omega arith)

pub writes_row : (n : ℕ) (r : Row) → row_of n ≡ Some r → (o : Operand) (ws : List ℕ) → length ws ≡ works r.rule
    → length (result_words (r.rule.does o ws)) ≡ kind_words r.rule (r.rule.does o ws)
unfolding counted said
writes_row n r e o ws l =
    let few = works_few n r e in
    let same = ap (λ (f : Operand → ℕ → ℕ → ℕ → ℕ → ℕ). f o (get_or ws 0 0) (get_or ws 1 0) (get_or ws 2 0) (get_or ws 3 0)) (of_row counted said (row_of n) r (counted_row n) e) in
    let whole = first_four ws (omega arith) in
    subst (λ (v : List ℕ). length (result_words (r.rule.does o v)) ≡ kind_words r.rule (r.rule.does o v)) (sym whole) (rw (sym l) at same)
