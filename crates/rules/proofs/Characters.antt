-- The characters of a name (JVMS 4.4.7, 4.2.2): where the bytes of one stand, the reader gives its size, and where it gives a size, one stands. Assumes nothing.
use Prim.Native.Nat.{ℕ, zero, suc, ◌+◌, ◌-◌, ◌*◌, ◌/◌, ◌%◌, ◌≤◌, ◌<◌}
use mathlib.Core.Path.{◌≡◌, refl, sym, subst, ◌∙◌}
use mathlib.Core.Bool.{Bool, true, false, ◌&&◌}
use mathlib.Core.List.{List, [], ◌∷◌, ◌++◌}
use mathlib.Core.Logic.{⊎_elim}
use native.Mathlib.Omega.{arith}
use native.Mathlib.Nat.{add_assoc}
use lib.Dec.{leb, eqb}
use lib.ListN.{length, drop}
use borrow.Author.Tests.{leb-true, leb-false, ne_eqb}
use Rattle.std.proofs.lemmas.Bool.{and_parts, or_cases, cond_both}
use Rattle.std.proofs.lemmas.Bool.Decides.{nat_tests}
use Rattle.rules.specs.Fetch.{u8}
use Rattle.rules.specs.Descriptor.{slash, semicolon, encoded, is_of_names, Character, character, continues, is_one_byte, is_two_bytes, is_three_bytes, character_size, character_at}
use Rattle.rules.proofs.Standing.{first_byte, byte_at, Standing, one_stands, join}

-- ---- the sizes, by the bytes

size_one : (a b c : ℕ) → 1 ≤ a → a ≤ 0x7F → is_of_names a ≡ true → character_size a b c ≡ 1
unfolding character_size
size_one a b c l h n = grind (arith, nat_tests)

size_two : (a b c : ℕ) → 0xC2 ≤ a → a ≤ 0xDF → 0x80 ≤ b → b ≤ 0xBF → character_size a b c ≡ 2
unfolding character_size
size_two a b c l h m k = grind (arith, nat_tests)

-- E0 is followed by a byte from A0 on
size_three : (a b c : ℕ) → 0xE0 ≤ a → a ≤ 0xEF → 0x80 ≤ b → b ≤ 0xBF → (a ≡ 0xE0 → 0xA0 ≤ b) → 0x80 ≤ c → c ≤ 0xBF → character_size a b c ≡ 3
unfolding character_size
size_three a b c l h m k f p q = grind (arith, nat_tests)

-- ---- the bytes of a code unit

encoded_one : (c : ℕ) → 1 ≤ c → c ≤ 0x7F → encoded c ≡ c ∷ []
encoded_one c l h = grind (arith, nat_tests)

encoded_two : (c : ℕ) → 0x80 ≤ c → c ≤ 0x7FF → encoded c ≡ (0xC0 + c / 64) ∷ (0x80 + c % 64) ∷ []
encoded_two c l h = grind (arith, nat_tests)

encoded_three : (c : ℕ) → 0x800 ≤ c → encoded c ≡ (0xE0 + c / 4096) ∷ (0x80 + c / 64 % 64) ∷ (0x80 + c % 64) ∷ []
encoded_three c l = grind (arith, nat_tests)

-- ---- every character is read

-- bytes with more after them are read as one character
record ReadWhole (b : List ℕ) : Type 0 where
  some_bytes : 0 < length b
  read_whole : (rest : List ℕ) → character_size (u8 (b ++ rest) 0) (u8 (b ++ rest) 1) (u8 (b ++ rest) 2) ≡ length b

zero_whole : (c : ℕ) → character_size 0xC0 0x80 c ≡ 2
unfolding character_size
zero_whole c = refl

encoded_whole : (c : ℕ) → c ≤ 0xFFFF → is_of_names c ≡ true → ReadWhole (encoded c)
encoded_whole zero h n = record { some_bytes = omega arith; read_whole = λ rest. zero_whole (u8 rest 0) }
encoded_whole (suc k) h n = one (leb (suc k) 0x7F) refl
  where
    three : leb (suc k) 0x7FF ≡ false → ReadWhole (encoded (suc k))
    three e =
        let l : 0x800 ≤ suc k = omega (arith, leb-false (suc k) 0x7FF e) in
        rw (encoded_three (suc k) l) (record {
          some_bytes = omega arith;
          read_whole = λ rest. size_three _ _ _ (omega arith) (omega arith) (omega arith) (omega arith) (λ z. omega arith) (omega arith) (omega arith);
        })

    two : leb (suc k) 0x7F ≡ false → (t : Bool) → leb (suc k) 0x7FF ≡ t → ReadWhole (encoded (suc k))
    two f true e =
        let l : 0x80 ≤ suc k = omega (arith, leb-false (suc k) 0x7F f) in
        let m : suc k ≤ 0x7FF = leb-true (suc k) 0x7FF e in
        rw (encoded_two (suc k) l m) (record {
          some_bytes = omega arith;
          read_whole = λ rest. size_two _ _ _ (omega arith) (omega arith) (omega arith) (omega arith);
        })
    two f false e = three e

    one : (t : Bool) → leb (suc k) 0x7F ≡ t → ReadWhole (encoded (suc k))
    one true e =
        let m : suc k ≤ 0x7F = leb-true (suc k) 0x7F e in
        rw (encoded_one (suc k) (omega arith) m) (record {
          some_bytes = omega arith;
          read_whole = λ rest. size_one _ _ _ (omega arith) m n;
        })
    one false e = two e (leb (suc k) 0x7FF) refl

whole : {b : List ℕ} → Character b → ReadWhole b
whole (character {c} h n) = encoded_whole c h n

pub character_bytes : {b : List ℕ} → Character b → 0 < length b
character_bytes h = (whole h).some_bytes

pub character_read : (d : List ℕ) (at : ℕ) {b : List ℕ} (rest : List ℕ) → Character b → drop at d ≡ b ++ rest → character_at d at ≡ length b
character_read d at {b} rest h e = rw (first_byte d at (b ++ rest) e, byte_at d at (b ++ rest) e 1, byte_at d at (b ++ rest) e 2) ((whole h).read_whole rest)

-- ---- whatever is read is a character

-- where it is read with this size, a character stands there
record Sized (d : List ℕ) (at n : ℕ) : Type 0 where
  character_there : 0 < n → (b : List ℕ) × Character b × Standing d at b (at + n)

module _ (d : List ℕ) (at : ℕ) where
  none : Sized d at 0
  none = record { character_there = λ h. absurd (omega arith) }

  one : is_one_byte (u8 d at) ≡ true → Sized d at 1
  one t =
      let n = (and_parts _ (is_of_names (u8 d at)) t).1 in
      let l : 1 ≤ u8 d at = grind (arith, nat_tests) in
      let h : u8 d at ≤ 0x7F = grind (arith, nat_tests) in
      record { character_there = λ _. (u8 d at ∷ [], subst Character (encoded_one (u8 d at) l h) (character {c = u8 d at} (omega arith) n), one_stands d at l) }

  -- two bytes and three are those of a code unit
  two_of : (c : ℕ) → c ≤ 0xFFFF → is_of_names c ≡ true → encoded c ≡ u8 d at ∷ u8 d (at + 1) ∷ [] → 0 < u8 d at → 0 < u8 d (at + 1) → Sized d at 2
  two_of c h n e k l = record { character_there = λ _. (u8 d at ∷ u8 d (at + 1) ∷ [], subst Character e (character h n), rw add_assoc at (join d (one_stands d at k) (one_stands d (at + 1) l))) }

  three_of : (c : ℕ) → c ≤ 0xFFFF → is_of_names c ≡ true → encoded c ≡ u8 d at ∷ u8 d (at + 1) ∷ u8 d (at + 2) ∷ []
      → 0 < u8 d at → 0 < u8 d (at + 1) → 0 < u8 d (at + 2) → Sized d at 3
  three_of c h n e k l m =
      let two : Standing d at (u8 d at ∷ u8 d (at + 1) ∷ []) (at + 2) = rw add_assoc at (join d (one_stands d at k) (one_stands d (at + 1) l)) in
      record { character_there = λ _. (u8 d at ∷ u8 d (at + 1) ∷ u8 d (at + 2) ∷ [], subst Character e (character h n), rw add_assoc at (join d two (one_stands d (at + 2) m))) }

-- a code unit from 80 on may stand in a name
high_unit : (c : ℕ) → 0x80 ≤ c → is_of_names c ≡ true
high_unit c h = grind (arith, nat_tests)

pair : {a b x y : ℕ} → a ≡ x → b ≡ y → ◌≡◌ {A = List ℕ} (a ∷ b ∷ []) (x ∷ y ∷ [])
pair p q = cc

triple : {a b c x y z : ℕ} → a ≡ x → b ≡ y → c ≡ z → ◌≡◌ {A = List ℕ} (a ∷ b ∷ c ∷ []) (x ∷ y ∷ z ∷ [])
triple p q r = cc

continued : (b : ℕ) → continues b ≡ true → (0x80 ≤ b) × (b ≤ 0xBF)
continued b t = grind (arith, nat_tests)

module _ (d : List ℕ) (at : ℕ) where
  two : is_two_bytes (u8 d at) (u8 d (at + 1)) ≡ true → Sized d at 2
  two t = ⊎_elim null high (or_cases _ _ t)
    where
      null : (eqb (u8 d at) 0xC0 && eqb (u8 d (at + 1)) 0x80) ≡ true → Sized d at 2
      null u =
          let x : u8 d at ≡ 0xC0 = grind (arith, nat_tests) in
          let y : u8 d (at + 1) ≡ 0x80 = grind (arith, nat_tests) in
          two_of d at 0 (omega arith) refl (pair (sym x) (sym y)) (omega arith) (omega arith)

      high : (leb 0xC2 (u8 d at) && leb (u8 d at) 0xDF && continues (u8 d (at + 1))) ≡ true → Sized d at 2
      high u =
          let l : (0xC2 ≤ u8 d at) × (u8 d at ≤ 0xDF) = grind (arith, nat_tests) in
          let k : (0x80 ≤ u8 d (at + 1)) × (u8 d (at + 1) ≤ 0xBF) = grind (arith, nat_tests) in
          let c : ℕ = (u8 d at - 0xC0) * 64 + (u8 d (at + 1) - 0x80) in
          two_of d at c (omega arith) (high_unit c (omega arith))
          (encoded_two c (omega arith) (omega arith) ∙ pair (omega arith) (omega arith)) (omega arith) (omega arith)

  three : is_three_bytes (u8 d at) (u8 d (at + 1)) (u8 d (at + 2)) ≡ true → Sized d at 3
  three t =
      let j : (0xE0 ≤ u8 d at) × (u8 d at ≤ 0xEF) × (0xE0 * 64 + 0xA0 ≤ u8 d at * 64 + u8 d (at + 1)) = grind (arith, nat_tests) in
      let k : (0x80 ≤ u8 d (at + 1)) × (u8 d (at + 1) ≤ 0xBF) = grind (arith, nat_tests) in
      let l : (0x80 ≤ u8 d (at + 2)) × (u8 d (at + 2) ≤ 0xBF) = grind (arith, nat_tests) in
      let c : ℕ = (u8 d at - 0xE0) * 4096 + (u8 d (at + 1) - 0x80) * 64 + (u8 d (at + 2) - 0x80) in
      three_of d at c (omega arith) (high_unit c (omega arith))
      (encoded_three c (omega arith) ∙ triple (omega arith) (omega arith) (omega arith)) (omega arith) (omega arith) (omega arith)

pub character_stands : (d : List ℕ) (at : ℕ) → 0 < character_at d at → (b : List ℕ) × Character b × Standing d at b (at + character_at d at)
unfolding character_size
character_stands d at h = sized.character_there h
  where
    sized : Sized d at (character_at d at)
    sized = cond_both (is_one_byte (u8 d at)) 1 _ (Sized d at) (one d at) (λ _. cond_both _ 2 _ (Sized d at) (two d at) (λ _. cond_both _ 3 0 (Sized d at) (three d at) (λ _. none d at)))

-- neither ; nor / begins a character
pub not_a_character : (a b c : ℕ) → 0 < character_size a b c → (eqb a semicolon ≡ false) × (eqb a slash ≡ false)
unfolding character_size
not_a_character a b c h = (ne_eqb a semicolon (λ e. at_semicolon e h), ne_eqb a slash (λ e. at_slash e h))
  where
    at_semicolon : a ≡ semicolon → 0 < character_size a b c → ⊥
    at_semicolon e k = let z : 0 < character_size semicolon b c = rw e at k in omega arith

    at_slash : a ≡ slash → 0 < character_size a b c → ⊥
    at_slash e k = let z : 0 < character_size slash b c = rw e at k in omega arith
