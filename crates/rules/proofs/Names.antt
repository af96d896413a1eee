-- The name of a class with its semicolon (JVMS 4.2.1): one stands where the reader finds an end, and the reader finds the end of each. Assumes nothing.
use Prim.Native.Nat.{ℕ, zero, suc, ◌+◌, ◌-◌, ◌≤◌, ◌<◌}
use mathlib.Core.Path.{◌≡◌, refl, sym, ap, subst, ◌∙◌}
use mathlib.Core.Bool.{Bool, true, false, cond}
use mathlib.Core.List.{List, [], ◌∷◌, ◌++◌, append_assoc}
use native.Mathlib.Omega.{arith}
use lib.Dec.{eqb}
use lib.ListN.{length, drop, length-append}
use borrow.Author.Tests.{eqb-true, eqb-false, eq-eqb, ne_eqb}
use Rattle.std.proofs.lemmas.Bool.{cond_both}
use Rattle.rules.specs.Fetch.{u8}
use Rattle.rules.specs.Descriptor.{slash, semicolon, Character, UnqualifiedName, last_character, next_character, ClassName, last_name, next_name, character_at, name_end}
use Rattle.rules.proofs.Standing.{first_byte, rest_after, Standing, byte_stands, join}
use Rattle.rules.proofs.Characters.{character_bytes, character_read, character_stands, not_a_character}

-- ---- whatever is read is a name

-- a character before a name is of its first part
before_name : {b c : List ℕ} → Character b → ClassName c → ClassName (b ++ c)
before_name h (last_name u) = last_name (next_character h u)
before_name {b} h (next_name {b = n} {bs = rest} u more) = subst ClassName (append_assoc b n (slash ∷ rest)) (next_name (next_character h u) more)

-- where it is read up to this end, a name and a semicolon stand there
record NameTo (d : List ℕ) (at end : ℕ) : Type 0 where
  name_there : 0 < end → (b : List ℕ) × ClassName b × Standing d at (b ++ semicolon ∷ []) end

name_after : (d : List ℕ) (at mid : ℕ) (b : List ℕ) → Character b → Standing d at b mid → (x y : ℕ) → NameTo d (mid + 1) x → NameTo d mid y
    → NameTo d at (cond (eqb (u8 d mid) semicolon) (mid + 1) (cond (eqb (u8 d mid) slash) x y))
name_after d at mid b h s x y after next =
    cond_both (eqb (u8 d mid) semicolon) (mid + 1) _ (NameTo d at) ended (λ _. cond_both (eqb (u8 d mid) slash) x y (NameTo d at) parted (λ _. record { name_there = λ k. continued (next.name_there k) }))
  where
    ended : eqb (u8 d mid) semicolon ≡ true → NameTo d at (mid + 1)
    ended e = record { name_there = λ _. (b, last_name (last_character h), join d s (byte_stands d mid semicolon (eqb-true (u8 d mid) semicolon e) (omega arith))) }

    more : Standing d mid (slash ∷ []) (mid + 1) → ((c : List ℕ) × ClassName c × Standing d (mid + 1) (c ++ semicolon ∷ []) x) → (c : List ℕ) × ClassName c × Standing d at (c ++ semicolon ∷ []) x
    more p (c, n, t) = (b ++ slash ∷ c, next_name (last_character h) n, rw append_assoc (join d s (join d p t)))

    parted : eqb (u8 d mid) slash ≡ true → NameTo d at x
    parted e = record { name_there = λ k. more (byte_stands d mid slash (eqb-true (u8 d mid) slash e) (omega arith)) (after.name_there k) }

    continued : ((c : List ℕ) × ClassName c × Standing d mid (c ++ semicolon ∷ []) y) → (c : List ℕ) × ClassName c × Standing d at (c ++ semicolon ∷ []) y
    continued (c, n, t) = (b ++ c, before_name h n, rw append_assoc (join d s t))

name_to : (n : ℕ) (d : List ℕ) (at : ℕ) → NameTo d at (name_end n d at)
unfolding name_end
name_to zero d at = record { name_there = λ h. absurd (omega arith) }
name_to (suc n) d at =
    cond_both (eqb (character_at d at) 0) 0 _ (NameTo d at)
    (λ _. record { name_there = λ h. absurd (omega arith) })
    (λ e. let c = character_stands d at (omega (arith, eqb-false (character_at d at) 0 e)) in
    name_after d at (at + character_at d at) c.0 c.1 c.2 _ _ (name_to n d (at + character_at d at + 1)) (name_to n d (at + character_at d at)))

pub name_stands : (n : ℕ) (d : List ℕ) (at : ℕ) → 0 < name_end n d at → (b : List ℕ) × ClassName b × Standing d at (b ++ semicolon ∷ []) (name_end n d at)
name_stands n d at h = (name_to n d at).name_there h

pub name_forward : (n : ℕ) (d : List ℕ) (at : ℕ) → 0 < name_end n d at → (at < name_end n d at) × (name_end n d at ≤ length d)
name_forward n d at h = let (b, k, s) = name_stands n d at h in omega (arith, s.ends, s.within, length-append b (semicolon ∷ []))

-- ---- as many turns as there are bytes left are enough

module _ (d : List ℕ) where
  pub name_past : (n at : ℕ) → length d ≤ at → name_end n d at ≡ 0
  name_past n at h = grind (arith, name_forward n d at)

  same_next : (m n at : ℕ) → ((next : ℕ) → at < next → name_end m d next ≡ name_end n d next) → name_end (suc m) d at ≡ name_end (suc n) d at
  unfolding name_end
  same_next m n at same = go (eqb (character_at d at) 0) refl
    where
      go : (t : Bool) → eqb (character_at d at) 0 ≡ t → name_end (suc m) d at ≡ name_end (suc n) d at
      go true e = rw e
      go false e =
          let f : 0 < character_at d at = omega (arith, eqb-false (character_at d at) 0 e) in
          rw (e, same (at + character_at d at) (omega arith), same (at + character_at d at + 1) (omega arith))

  pub name_enough : (m n at : ℕ) → length d - at ≤ m → length d - at ≤ n → name_end m d at ≡ name_end n d at
  name_enough zero n at h k = name_past zero at (omega arith) ∙ sym (name_past n at (omega arith))
  name_enough (suc m) zero at h k = name_past (suc m) at (omega arith) ∙ sym (name_past zero at (omega arith))
  name_enough (suc m) (suc n) at h k = same_next m n at (λ next l. name_enough m n next (omega arith) (omega arith))

-- a turn, with as many as are enough
abbrev pub name_from : List ℕ → ℕ → ℕ
name_from d at = name_end (length d - at) d at

module _ (d : List ℕ) where
  pub name_none : (n at : ℕ) → character_at d at ≡ 0 → name_end n d at ≡ 0
  unfolding name_end
  name_none zero at h = refl
  name_none (suc n) at h = rw (eq-eqb (character_at d at) 0 h)

  module _ (at : ℕ) (some : 0 < character_at d at) where
    within_name : at + character_at d at ≤ length d
    within_name = (character_stands d at some).2.within

    turn : (next : ℕ) → next ≡ at + character_at d at → name_from d at ≡ cond (eqb (u8 d next) semicolon) (next + 1) (name_from d (cond (eqb (u8 d next) slash) (next + 1) next))
    unfolding name_end
    turn next e =
        let n : ℕ = length d - at - 1 in
        let a : length d - at ≡ suc n = omega (arith, within_name) in
        let b : eqb (character_at d at) 0 ≡ false = ne_eqb (character_at d at) 0 (λ z. omega arith) in
        rw (a, b, ← e) (ap (λ (x : ℕ). cond (eqb (u8 d next) semicolon) (next + 1) x) (further n (omega (arith, within_name)) (eqb (u8 d next) slash)))
      where
        further : (n : ℕ) → length d - at ≤ suc n → (t : Bool) → cond t (name_end n d (next + 1)) (name_end n d next) ≡ name_from d (cond t (next + 1) next)
        further n h true = name_enough d n (length d - (next + 1)) (next + 1) (omega arith) (omega arith)
        further n h false = name_enough d n (length d - next) next (omega arith) (omega arith)

    pub name_ended : u8 d (at + character_at d at) ≡ semicolon → name_from d at ≡ at + character_at d at + 1
    name_ended e = turn (at + character_at d at) refl ∙ rw (eq-eqb (u8 d (at + character_at d at)) semicolon e)

    pub name_goes_on : (u8 d (at + character_at d at) ≡ semicolon → ⊥)
        → name_from d at ≡ name_from d (cond (eqb (u8 d (at + character_at d at)) slash) (at + character_at d at + 1) (at + character_at d at))
    name_goes_on e = turn (at + character_at d at) refl ∙ rw (ne_eqb (u8 d (at + character_at d at)) semicolon e)

-- ---- every name is read

module _ (d : List ℕ) where
  -- where the reader goes on after these bytes
  abbrev Then : ℕ → List ℕ → List ℕ → Type 0
  Then at b s = name_from d at ≡ cond (eqb (u8 s 0) semicolon) (at + length b + 1) (name_from d (cond (eqb (u8 s 0) slash) (at + length b + 1) (at + length b)))

  character_then : {b : List ℕ} (at : ℕ) (s : List ℕ) → Character b → drop at d ≡ b ++ s → Then at b s
  character_then {b} at s h e =
      let r : character_at d at ≡ length b = character_read d at s h e in
      rw (← first_byte d (at + length b) s (rest_after d at b s e)) (turn d at (omega (arith, character_bytes h)) (at + length b) (ap (λ (x : ℕ). at + x) (sym r)))

  -- an unqualified name begins with a character
  first_character : {b : List ℕ} (at : ℕ) (s : List ℕ) → UnqualifiedName b → drop at d ≡ b ++ s → 0 < character_at d at
  first_character at s (last_character h) e = omega (arith, character_bytes h, character_read d at s h e)
  first_character at s (next_character {b = b} {bs = bs} h u) e = omega (arith, character_bytes h, character_read d at (bs ++ s) h (e ∙ append_assoc b bs s))

  unqualified_then : {b : List ℕ} (at : ℕ) (s : List ℕ) → UnqualifiedName b → drop at d ≡ b ++ s → Then at b s
  unqualified_then at s (last_character h) e = character_then at s h e
  unqualified_then at s (next_character {b = b} {bs = bs} h u) e =
      let f = e ∙ append_assoc b bs s in
      let g = rest_after d at b (bs ++ s) f in
      let k = not_a_character _ _ _ (first_character (at + length b) s u g) in
      let z = first_byte d (at + length b) (bs ++ s) g in
      let l : at + length b + length bs ≡ at + length (b ++ bs) = omega (arith, length-append b bs) in
      let one : name_from d at ≡ name_from d (at + length b) = character_then at (bs ++ s) h f ∙ rw (← z, k.0, k.1) in
      one ∙ rw l at (unqualified_then (at + length b) s u g)

  pub name_read : {b : List ℕ} (at : ℕ) (rest : List ℕ) → ClassName b → drop at d ≡ b ++ semicolon ∷ rest → name_from d at ≡ at + length b + 1
  name_read at rest (last_name u) e = unqualified_then at (semicolon ∷ rest) u e
  name_read at rest (next_name {b = b} {bs = bs} u more) e =
      let f = e ∙ append_assoc b (slash ∷ bs) (semicolon ∷ rest) in
      let g : drop (at + length b + 1) d ≡ bs ++ semicolon ∷ rest = rest_after d (at + length b) (slash ∷ []) (bs ++ semicolon ∷ rest) (rest_after d at b (slash ∷ bs ++ semicolon ∷ rest) f) in
      unqualified_then at (slash ∷ bs ++ semicolon ∷ rest) u f ∙ name_read (at + length b + 1) rest more g ∙ omega (arith, length-append b (slash ∷ bs))
