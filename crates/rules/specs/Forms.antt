-- The forms that an instruction's description takes (JVMS 6.5, 'Format', 'Operand Stack', 'Description'): what stands in a row of the table. Assumes nothing.
use Rattle.std.specs.Prelude.{ℕ, Bool, true, cond, List, [], ◌∷◌, map, ℤ, ◌+ℤ◌, get_or, take, drop, eqb}
use Prim.Native.String.{String}
use Rattle.values.specs.declared.Value.{Value}
use Rattle.values.specs.Kinds.{Kind, int, any, places}
use Rattle.values.specs.Integers.{◌=ᶻ◌}
use Rattle.values.specs.Words.{Meaning, meaning, bits, value_at, words_of}

-- ---- what an instruction is given, and what it comes to

-- what its operand bytes say: an index (of a local or of the pool), a constant (or a branch's offset, or a switch's default), a switch's pairs of key and offset
pub record Operand : Type 0 where
  pub index : ℕ
  pub constant : ℤ
  pub pairs : List (ℤ × ℤ)

pub data Result : Type 0 where
  pushes : List ℕ → Result  -- these words are pushed
  stores : List ℕ → Result  -- these words go into its local
  divides : ℕ → List ℕ → Result  -- by this divisor: where it is 0 an ArithmeticException, and else these words are pushed
  branches : Bool → ℤ → Result  -- where the test holds, by this offset from the opcode
  returns : Value → Result

-- where the words lie that it works on: on the stack (those it pops), in its local, in the pool
pub data Source : Type 0 where
  stack local pool : Source

-- `takes` and `gives` are the operand stack before and after, deepest first. `locals` is the kind of the local that it names, `constants`
-- the kinds that the pool's entry may have, if it names one
pub record Rule : Type 0 where
  pub takes : List Kind
  pub gives : List Kind
  pub locals : List Kind
  pub constants : List Kind
  pub reads : Source
  pub does : Operand → List ℕ → Result

abbrev pub on_stack : List Kind → List Kind → (Operand → List ℕ → Result) → Rule
on_stack ks ms f = record { takes = ks; gives = ms; locals = []; constants = []; reads = stack; does = f }

infix 2 ◌⟶◌on_bits◌ ◌·◌⟶◌on_bits◌ ◌⟶◌is◌ ◌·◌⟶◌is◌ ◌÷◌is◌ ◌jumps_if◌ ◌·◌jumps_if◌ ◌⇒◌
-- ---- a result, of the bits of the values popped or of what they mean. Of two, the deeper comes first: JVMS's value1

abbrev pub ◌⟶◌on_bits◌ : Kind → Kind → (ℕ → ℕ) → Rule
k ⟶ m on_bits f = on_stack (k ∷ []) (m ∷ []) λ o ws. pushes (words_of m (f (value_at k ws)))

abbrev pub ◌·◌⟶◌on_bits◌ : Kind → Kind → Kind → (ℕ → ℕ → ℕ) → Rule
j · k ⟶ m on_bits f = on_stack (j ∷ k ∷ []) (m ∷ []) λ o ws. pushes (words_of m (f (value_at j ws) (value_at k (drop (places j) ws))))

abbrev pub ◌⟶◌is◌ : (k m : Kind) → (Meaning k → Meaning m) → Rule
k ⟶ m is f = k ⟶ m on_bits λ a. bits m (f (meaning k a))

abbrev pub ◌·◌⟶◌is◌ : (j k m : Kind) → (Meaning j → Meaning k → Meaning m) → Rule
j · k ⟶ m is f = j · k ⟶ m on_bits λ a b. bits m (f (meaning j a) (meaning k b))

-- a division of ints or longs
abbrev pub ◌÷◌is◌ : (k m : Kind) → (Meaning k → Meaning m → Meaning k) → Rule
k ÷ m is f = on_stack (k ∷ m ∷ []) (k ∷ []) λ o ws.
    let b = value_at m (drop (places k) ws) in
    divides b (words_of k (bits k (f (meaning k (value_at k ws)) (meaning m b))))

-- ---- constants

abbrev pub constant : (m : Kind) → Meaning m → Rule
constant m v = on_stack [] (m ∷ []) λ o ws. pushes (words_of m (bits m v))

-- the operand bytes' own constant, as an int
abbrev pub immediate : Rule
immediate = on_stack [] (int ∷ []) λ o ws. pushes (words_of int (bits int o.constant))

-- a constant of the pool, of one of two kinds that take as many places
abbrev pub pool_constant : Kind → Kind → Rule
pool_constant j k = record { takes = []; gives = j ∷ []; locals = []; constants = j ∷ k ∷ []; reads = pool; does = λ o ws. pushes (take (places j) ws) }

-- ---- locals: words move as they are

abbrev pub load : Kind → Rule
load k = record { takes = []; gives = k ∷ []; locals = k ∷ []; constants = []; reads = local; does = λ o ws. pushes (take (places k) ws) }

abbrev pub store : Kind → Rule
store k = record { takes = k ∷ []; gives = []; locals = k ∷ []; constants = []; reads = stack; does = λ o ws. stores (take (places k) ws) }

abbrev pub increment : Rule
increment = record { takes = []; gives = []; locals = int ∷ []; constants = []; reads = local; does = λ o ws. stores (words_of int (bits int (meaning int (value_at int ws) +ℤ o.constant))) }

-- ---- words moved about on the stack, whatever they mean: `v2 ∷ v1 ∷ [] ⇒ ..` names the words popped, as JVMS does, v1 being the top one

pub data Word : Type 0 where
  v1 v2 v3 v4 : Word

abbrev pub number : Word → ℕ
number v1 = 1
number v2 = 2
number v3 = 3
number v4 = 4

-- the word that has a name among those popped
abbrev pub named : Word → List Word → List ℕ → ℕ
named v [] ws = 0
named v (u ∷ us) ws = cond (eqb (number v) (number u)) (get_or ws 0 0) (named v us (drop 1 ws))

abbrev pub ◌⇒◌ : List Word → List Word → Rule
before ⇒ after = on_stack (map (λ v. any) before) (map (λ v. any) after) λ o ws. pushes (map (λ v. named v before ws) after)

-- ---- control

abbrev pub ◌jumps_if◌ : (k : Kind) → (Meaning k → Bool) → Rule
k jumps_if t = on_stack (k ∷ []) [] λ o ws. branches (t (meaning k (value_at k ws))) o.constant

abbrev pub ◌·◌jumps_if◌ : (j k : Kind) → (Meaning j → Meaning k → Bool) → Rule
j · k jumps_if t = on_stack (j ∷ k ∷ []) [] λ o ws. branches (t (meaning j (value_at j ws)) (meaning k (value_at k (drop (places j) ws)))) o.constant

abbrev pub jumps : Rule
jumps = on_stack [] [] λ o ws. branches true o.constant

-- the offset that stands with a key, or else the default
abbrev pub offset_for : ℤ → ℤ → List (ℤ × ℤ) → ℤ
offset_for key default [] = default
offset_for key default (p ∷ ps) = cond (key =ᶻ p.0) p.1 (offset_for key default ps)

abbrev pub switches : Rule
switches = on_stack (int ∷ []) [] λ o ws. branches true (offset_for (meaning int (value_at int ws)) o.constant o.pairs)

abbrev pub gives_back : Kind → (ℕ → Value) → Rule
gives_back k v = on_stack (k ∷ []) [] λ o ws. returns (v (value_at k ws))

abbrev pub gives_back_nothing : Value → Rule
gives_back_nothing v = on_stack [] [] λ o ws. returns v

abbrev pub does_nothing : Rule
does_nothing = on_stack [] [] λ o ws. pushes []

-- ---- the operand bytes that follow an opcode: JVMS's 'Format'

pub data Format : Type 0 where
  alone : Format  -- none
  implied : ℕ → Format  -- none: the opcode itself says the index, as in iload_<n>
  byte : Format  -- byte: signed
  short : Format  -- byte1, byte2: signed
  index : Format  -- index: unsigned
  index2 : Format  -- indexbyte1, indexbyte2: unsigned
  index_const : Format  -- index: unsigned, const: signed
  branch : Format  -- branchbyte1, branchbyte2: signed
  branch4 : Format  -- branchbyte1 to branchbyte4: signed
  table : Format  -- tableswitch
  pairs : Format  -- lookupswitch
  widened : Format  -- wide: an opcode, and its operands at twice the size

-- the length in bytes with the opcode; 0 marks a switch and 254 WIDE, whose lengths the code says (document 02, request 02)
abbrev pub length_of : Format → ℕ
length_of alone = 1
length_of (implied n) = 1
length_of byte = 2
length_of short = 3
length_of index = 2
length_of index2 = 3
length_of index_const = 3
length_of branch = 3
length_of branch4 = 5
length_of table = 0
length_of pairs = 0
length_of widened = 254

-- ---- a row of the table

pub record Row : Type 0 where
  pub opcode : ℕ
  pub mnemonic : String
  pub format : Format
  pub rule : Rule

abbrev pub op : ℕ → String → Format → Rule → Row
op n name f r = record { opcode = n; mnemonic = name; format = f; rule = r }
