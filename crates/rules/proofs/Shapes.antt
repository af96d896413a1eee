-- The operand stack before and after, and the length in bytes, of all 164 instructions, grouped by shape: a second account of the table and of the page of opcodes,
-- which the Java virtual machine's verifier has judged (tools/jvm). Assumes nothing.
use Prim.Native.Nat.{ℕ, ◌<◌}
use mathlib.Core.Path.{◌≡◌, refl, ap, ◌∙◌}
use mathlib.Core.Bool.{Bool, false, ◌&&◌, ◌||◌, cond}
use mathlib.Core.List.{List, [], ◌∷◌, map}
use lib.Dec.{leb}
use lib.ListN.{replicate}
use Rattle.values.specs.Kinds.{Kind, int, long, float, double, reference, any, places_of}
use Rattle.rules.specs.Check.{Check, ◌else◌, ◌>>◌, ◌>>=◌}
use Rattle.rules.specs.Forms.{Row}
use Rattle.rules.specs.Instructions.{row_of}
use Rattle.rules.specs.OpcodePage.{line_by, line_of}
use Rattle.rules.specs.Fetch.{Instruction, fetched, wide_check, table_check, lookup_check, pairs_from}
use Rattle.values.specs.Integers.{signed}
use Rattle.rules.proofs.Rows.{up_to, agree}
use Rattle.std.specs.Prelude.{Ok, Err, Some, None, Option}

infix 90 ◌to◌
abbrev ◌to◌ : ℕ → ℕ → (ℕ × ℕ)
a to b = (a, b)

abbrev is_in : List (ℕ × ℕ) → ℕ → Bool
is_in [] n = false
is_in (r ∷ rs) n = leb r.0 n && leb n r.1 || is_in rs n

-- ---- the operand stack, deepest first

record Shape : Type 0 where
  takes : List Kind
  gives : List Kind
  opcodes : List (ℕ × ℕ)

abbrev shape : List Kind → List Kind → List (ℕ × ℕ) → Shape
shape ks ms ops = record { takes = ks; gives = ms; opcodes = ops }

abbrev shapes : List Shape
shapes =
    -- nothing, constants, loads
    shape [] [] (0 to 0 ∷ 132 to 132 ∷ 167 to 167 ∷ 177 to 177 ∷ 196 to 196 ∷ 200 to 200 ∷ []) ∷
    shape [] (int ∷ []) (2 to 8 ∷ 16 to 19 ∷ 21 to 21 ∷ 26 to 29 ∷ []) ∷
    shape [] (long ∷ []) (9 to 10 ∷ 20 to 20 ∷ 22 to 22 ∷ 30 to 33 ∷ []) ∷
    shape [] (float ∷ []) (11 to 13 ∷ 23 to 23 ∷ 34 to 37 ∷ []) ∷
    shape [] (double ∷ []) (14 to 15 ∷ 24 to 24 ∷ 38 to 41 ∷ []) ∷
    shape [] (reference ∷ []) (1 to 1 ∷ 25 to 25 ∷ 42 to 45 ∷ []) ∷
    -- stores, branches on one value, switches, returns
    shape (int ∷ []) [] (54 to 54 ∷ 59 to 62 ∷ 153 to 158 ∷ 170 to 172 ∷ []) ∷
    shape (long ∷ []) [] (55 to 55 ∷ 63 to 66 ∷ 173 to 173 ∷ []) ∷
    shape (float ∷ []) [] (56 to 56 ∷ 67 to 70 ∷ 174 to 174 ∷ []) ∷
    shape (double ∷ []) [] (57 to 57 ∷ 71 to 74 ∷ 175 to 175 ∷ []) ∷
    shape (reference ∷ []) [] (58 to 58 ∷ 75 to 78 ∷ 176 to 176 ∷ 198 to 199 ∷ []) ∷
    -- branches on two values
    shape (int ∷ int ∷ []) [] (159 to 164 ∷ []) ∷
    shape (reference ∷ reference ∷ []) [] (165 to 166 ∷ []) ∷
    -- the stack
    shape (any ∷ []) [] (87 to 87 ∷ []) ∷
    shape (any ∷ any ∷ []) [] (88 to 88 ∷ []) ∷
    shape (any ∷ []) (any ∷ any ∷ []) (89 to 89 ∷ []) ∷
    shape (any ∷ any ∷ []) (any ∷ any ∷ any ∷ []) (90 to 90 ∷ []) ∷
    shape (any ∷ any ∷ any ∷ []) (any ∷ any ∷ any ∷ any ∷ []) (91 to 91 ∷ []) ∷
    shape (any ∷ any ∷ []) (any ∷ any ∷ any ∷ any ∷ []) (92 to 92 ∷ []) ∷
    shape (any ∷ any ∷ any ∷ []) (any ∷ any ∷ any ∷ any ∷ any ∷ []) (93 to 93 ∷ []) ∷
    shape (any ∷ any ∷ any ∷ any ∷ []) (any ∷ any ∷ any ∷ any ∷ any ∷ any ∷ []) (94 to 94 ∷ []) ∷
    shape (any ∷ any ∷ []) (any ∷ any ∷ []) (95 to 95 ∷ []) ∷
    -- arithmetic
    shape (int ∷ int ∷ []) (int ∷ []) (96 to 96 ∷ 100 to 100 ∷ 104 to 104 ∷ 108 to 108 ∷ 112 to 112 ∷ 120 to 120 ∷ 122 to 122 ∷ 124 to 124 ∷ 126 to 126 ∷ 128 to 128 ∷ 130 to 130 ∷ []) ∷
    shape (long ∷ long ∷ []) (long ∷ []) (97 to 97 ∷ 101 to 101 ∷ 105 to 105 ∷ 109 to 109 ∷ 113 to 113 ∷ 127 to 127 ∷ 129 to 129 ∷ 131 to 131 ∷ []) ∷
    shape (long ∷ int ∷ []) (long ∷ []) (121 to 121 ∷ 123 to 123 ∷ 125 to 125 ∷ []) ∷
    shape (float ∷ float ∷ []) (float ∷ []) (98 to 98 ∷ 102 to 102 ∷ 106 to 106 ∷ 110 to 110 ∷ 114 to 114 ∷ []) ∷
    shape (double ∷ double ∷ []) (double ∷ []) (99 to 99 ∷ 103 to 103 ∷ 107 to 107 ∷ 111 to 111 ∷ 115 to 115 ∷ []) ∷
    shape (int ∷ []) (int ∷ []) (116 to 116 ∷ 145 to 147 ∷ []) ∷
    shape (long ∷ []) (long ∷ []) (117 to 117 ∷ []) ∷
    shape (float ∷ []) (float ∷ []) (118 to 118 ∷ []) ∷
    shape (double ∷ []) (double ∷ []) (119 to 119 ∷ []) ∷
    -- conversions and comparisons
    shape (int ∷ []) (long ∷ []) (133 to 133 ∷ []) ∷
    shape (int ∷ []) (float ∷ []) (134 to 134 ∷ []) ∷
    shape (int ∷ []) (double ∷ []) (135 to 135 ∷ []) ∷
    shape (long ∷ []) (int ∷ []) (136 to 136 ∷ []) ∷
    shape (long ∷ []) (float ∷ []) (137 to 137 ∷ []) ∷
    shape (long ∷ []) (double ∷ []) (138 to 138 ∷ []) ∷
    shape (float ∷ []) (int ∷ []) (139 to 139 ∷ []) ∷
    shape (float ∷ []) (long ∷ []) (140 to 140 ∷ []) ∷
    shape (float ∷ []) (double ∷ []) (141 to 141 ∷ []) ∷
    shape (double ∷ []) (int ∷ []) (142 to 142 ∷ []) ∷
    shape (double ∷ []) (long ∷ []) (143 to 143 ∷ []) ∷
    shape (double ∷ []) (float ∷ []) (144 to 144 ∷ []) ∷
    shape (long ∷ long ∷ []) (int ∷ []) (148 to 148 ∷ []) ∷
    shape (float ∷ float ∷ []) (int ∷ []) (149 to 150 ∷ []) ∷
    shape (double ∷ double ∷ []) (int ∷ []) (151 to 152 ∷ []) ∷
    []

abbrev shape_in : List Shape → ℕ → Option (List Kind × List Kind)
shape_in [] n = None
shape_in (s ∷ ss) n = cond (is_in s.opcodes n) (Some (s.takes, s.gives)) (shape_in ss n)

abbrev shape_of_row : Option Row → Option (List Kind × List Kind)
shape_of_row None = None
shape_of_row (Some r) = Some (r.rule.takes, r.rule.gives)

shapes_all : map (shape_in shapes) (up_to 256) ≡ map (λ n. shape_of_row (row_of n)) (up_to 256)
unfolding row_of
shapes_all = refl

-- ---- so the page's places are those of these kinds

abbrev places_in : Option (List Kind × List Kind) → (ℕ × ℕ)
places_in None = (0, 0)
places_in (Some p) = (places_of p.0, places_of p.1)

row_places : (n : ℕ) (o : Option Row) → ◌≡◌ {A = ℕ × ℕ} (places_in (shape_of_row o)) ((line_by n o).popped, (line_by n o).pushed)
row_places n None = refl
row_places n (Some r) = refl

places_all : (n : ℕ) → n < 256 → ◌≡◌ {A = ℕ × ℕ} (places_in (shape_in shapes n)) ((line_of n).popped, (line_of n).pushed)
unfolding line_of
places_all n l = ap places_in (agree (shape_in shapes) (λ n. shape_of_row (row_of n)) 256 shapes_all n l) ∙ row_places n (row_of n)

-- ---- the local that an instruction names, and the kinds that its constant may have

abbrev names : List Kind → List Kind → List (ℕ × ℕ) → Shape
names locals constants ops = shape locals constants ops

abbrev named : List Shape
named =
    names (int ∷ []) [] (21 to 21 ∷ 26 to 29 ∷ 54 to 54 ∷ 59 to 62 ∷ 132 to 132 ∷ []) ∷
    names (long ∷ []) [] (22 to 22 ∷ 30 to 33 ∷ 55 to 55 ∷ 63 to 66 ∷ []) ∷
    names (float ∷ []) [] (23 to 23 ∷ 34 to 37 ∷ 56 to 56 ∷ 67 to 70 ∷ []) ∷
    names (double ∷ []) [] (24 to 24 ∷ 38 to 41 ∷ 57 to 57 ∷ 71 to 74 ∷ []) ∷
    names (reference ∷ []) [] (25 to 25 ∷ 42 to 45 ∷ 58 to 58 ∷ 75 to 78 ∷ []) ∷
    names [] (int ∷ float ∷ []) (18 to 19 ∷ []) ∷
    names [] (long ∷ double ∷ []) (20 to 20 ∷ []) ∷
    []

abbrev nothing_named : Option (List Kind × List Kind) → (List Kind × List Kind)
nothing_named None = ([], [])
nothing_named (Some p) = p

abbrev named_by_row : Option Row → (List Kind × List Kind)
named_by_row None = ([], [])
named_by_row (Some r) = (r.rule.locals, r.rule.constants)

named_all : map (λ n. nothing_named (shape_in named n)) (up_to 256) ≡ map (λ n. named_by_row (row_of n)) (up_to 256)
unfolding row_of
named_all = refl

-- ---- the lengths of the page of opcodes

record Length : Type 0 where
  size : ℕ
  opcodes : List (ℕ × ℕ)

abbrev bytes : ℕ → List (ℕ × ℕ) → Length
bytes n ops = record { size = n; opcodes = ops }

abbrev lengths : List Length
lengths =
    bytes 1 (0 to 15 ∷ 26 to 45 ∷ 59 to 78 ∷ 87 to 131 ∷ 133 to 152 ∷ 172 to 177 ∷ []) ∷
    bytes 2 (16 to 16 ∷ 18 to 18 ∷ 21 to 25 ∷ 54 to 58 ∷ []) ∷
    bytes 3 (17 to 17 ∷ 19 to 20 ∷ 132 to 132 ∷ 153 to 167 ∷ 198 to 199 ∷ []) ∷
    bytes 5 (200 to 200 ∷ []) ∷
    bytes 0 (170 to 171 ∷ []) ∷
    bytes 254 (196 to 196 ∷ []) ∷
    []

abbrev length_in : List Length → ℕ → ℕ
length_in [] n = 255
length_in (l ∷ ls) n = cond (is_in l.opcodes n) l.size (length_in ls n)

lengths_all : map (length_in lengths) (up_to 256) ≡ map (λ n. (line_of n).length) (up_to 256)
unfolding line_of row_of
lengths_all = refl

-- ---- what is fetched at offset 0, zeros following, is so long, in each format: a TABLESWITCH with one entry, a LOOKUPSWITCH with no pair

-- 0 where question 4 or 5 refuses it, as it does a WIDE before a NOP
abbrev size_of : Check Instruction → ℕ
size_of (Ok i) = i.size
size_of (Err n) = 0

-- an opcode of each format
sizes : map (λ n. size_of (fetched (n ∷ replicate 31 0) 0)) (0 ∷ 26 ∷ 16 ∷ 17 ∷ 21 ∷ 20 ∷ 132 ∷ 167 ∷ 200 ∷ 170 ∷ 171 ∷ 196 ∷ []) ≡ 1 ∷ 1 ∷ 2 ∷ 3 ∷ 2 ∷ 3 ∷ 3 ∷ 3 ∷ 5 ∷ 20 ∷ 12 ∷ 0 ∷ []
unfolding row_of fetched wide_check table_check lookup_check pairs_from ◌else◌ ◌>>◌ ◌>>=◌ signed
sizes = refl
