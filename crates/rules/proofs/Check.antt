-- What a row of questions that is passed says, and what holds of what passes it. Assumes nothing.
use mathlib.Core.Path.{◌≡◌, refl}
use mathlib.Core.Bool.{Bool, true, false, ◌||◌, cond}
use mathlib.Core.Logic.{◌⊎◌, inl, inr}
use borrow.Author.Tests.{not-true, not-false}
use Rattle.rules.specs.Check.{Check, ◌else◌, ◌>>=◌, ◌>>◌, is_passed}
use Rattle.std.specs.Prelude.{Ok, Err}
use Rattle.rules.specs.declared.refusals.Refusal.{Refusal}

-- a row that is passed has a yes at each question
pub first_passed : (t : Bool) (n : Refusal) (x : Check (Unit {0})) → ((t else n) >> x) ≡ Ok tt → (t ≡ true) × (x ≡ Ok tt)
unfolding ◌else◌ ◌>>◌
first_passed true n x e = (refl, e)
first_passed false n x e = absurd (cc)

pub both_passed : (y x : Check (Unit {0})) → (y >> x) ≡ Ok tt → (y ≡ Ok tt) × (x ≡ Ok tt)
unfolding ◌>>◌
both_passed (Ok t) x e = (refl, e)
both_passed (Err n) x e = absurd (cc)

pub last_passed : (t : Bool) (n : Refusal) → (t else n) ≡ Ok tt → t ≡ true
unfolding ◌else◌
last_passed true n e = refl
last_passed false n e = absurd (cc)

pub last_asked : (t : Bool) (n : Refusal) → t ≡ is_passed (t else n)
unfolding ◌else◌
last_asked true n = refl
last_asked false n = refl

pub is_passed_lem : (x : Check (Unit {0})) → is_passed x ≡ true → x ≡ Ok tt
is_passed_lem (Ok t) e = refl
is_passed_lem (Err n) e = absurd (cc)

pub or_true : (a b : Bool) → (a || b) ≡ true → (a ≡ true) ⊎ (b ≡ true)
or_true true b e = inl refl
or_true false b e = inr e

-- a case split on a test in a definition
pub cases : {A : Type 0} (P : A → Type 0) (t : Bool) (x y : A) → (t ≡ true → P x) → (t ≡ false → P y) → P (cond t x y)
cases P true x y h k = h refl
cases P false x y h k = k refl

pub bind_same : {A B : Type 0} (y : Check B) (f g : B → Check A) → ((b : B) → f b ≡ g b) → (y >>= f) ≡ (y >>= g)
unfolding ◌>>=◌
bind_same (Ok b) f g h = h b
bind_same (Err n) f g h = refl

-- ---- a row by the answer to its first question, for `grind`

pub asked_either : (t : Bool) (n : Refusal) → ((t ≡ true) × ((t else n) ≡ Ok tt)) ⊎ ((t ≡ false) × ((t else n) ≡ Err n))
unfolding ◌else◌
asked_either true n = inl (refl, refl)
asked_either false n = inr (refl, refl)

module _ {A B : Type 0} (x : Check A) where
  pub passed_on : (a : A) (y : Check B) → x ≡ Ok a → (x >> y) ≡ y
  unfolding ◌>>◌
  passed_on a y e = rw e

  pub refused_on : (n : Refusal) (y : Check B) → x ≡ Err n → (x >> y) ≡ Err n
  unfolding ◌>>◌
  refused_on n y e = rw e

  pub bound_on : (a : A) (f : A → Check B) → x ≡ Ok a → (x >>= f) ≡ f a
  unfolding ◌>>=◌
  bound_on a f e = rw e

  pub unbound_on : (n : Refusal) (f : A → Check B) → x ≡ Err n → (x >>= f) ≡ Err n
  unfolding ◌>>=◌
  unbound_on n f e = rw e

pub ruleset questions = (not-true, not-false, asked_either, passed_on, refused_on, bound_on, unbound_on)

-- ---- what holds of what passes

module _ {A : Type 0} (P : A → Type 0) where
  unfoldable pub Holds : Check A → Type 0
  Holds (Ok a) = P a
  Holds (Err n) = Unit {0}

  pub asked : (t : Bool) (n : Refusal) (x : Check A) → (t ≡ true → Holds x) → Holds ((t else n) >> x)
  unfolding Holds ◌else◌ ◌>>◌
  asked true n x h = h refl
  asked false n x h = tt

  pub after : (y : Check (Unit {0})) (x : Check A) → (y ≡ Ok tt → Holds x) → Holds (y >> x)
  unfolding Holds ◌>>◌
  after (Ok u) x h = h refl
  after (Err n) x h = tt

  pub bound : {B : Type 0} (y : Check B) (f : B → Check A) → ((b : B) → y ≡ Ok b → Holds (f b)) → Holds (y >>= f)
  unfolding Holds ◌>>=◌
  bound (Ok b) f h = h b refl
  bound (Err n) f h = tt

  pub held : (y : Check A) (a : A) → Holds y → y ≡ Ok a → P a
  unfolding Holds
  held y a h e = rw e at h

  pub either : (t : Bool) (x y : Check A) → Holds x → Holds y → Holds (cond t x y)
  either true x y h k = h
  either false x y h k = k

-- ---- the numbers that it refuses with: N holds of them, and P of what passes

abbrev pub Any : {A : Type 0} → A → Type 0
Any a = Unit {0}

module _ (N : Refusal → Type 0) where
  unfoldable pub Numbered : {A : Type 0} → (A → Type 0) → Check A → Type 0
  Numbered P (Ok a) = P a
  Numbered P (Err n) = N n

  pub last_numbered : (t : Bool) (n : Refusal) → N n → Numbered Any (t else n)
  unfolding Numbered ◌else◌
  last_numbered true n h = tt
  last_numbered false n h = h

  module _ {A : Type 0} (P : A → Type 0) where
    pub after_numbered : {B : Type 0} (x : Check B) (y : Check A) → Numbered Any x → Numbered P y → Numbered P (x >> y)
    unfolding Numbered ◌>>◌
    after_numbered (Ok b) y h k = k
    after_numbered (Err n) y h k = h

    pub bound_numbered : {B : Type 0} (x : Check B) (f : B → Check A) → Numbered Any x → ((b : B) → Numbered P (f b)) → Numbered P (x >>= f)
    unfolding Numbered ◌>>=◌
    bound_numbered (Ok b) f h k = k b
    bound_numbered (Err n) f h k = h

    pub asked_numbered : (t : Bool) (n : Refusal) (y : Check A) → N n → Numbered P y → Numbered P ((t else n) >> y)
    asked_numbered t n y h k = after_numbered (t else n) y (last_numbered t n h) k

    pub either_numbered : (t : Bool) (x y : Check A) → Numbered P x → Numbered P y → Numbered P (cond t x y)
    either_numbered true x y h k = h
    either_numbered false x y h k = k

    pub refused_numbered : (x : Check A) (n : Refusal) → Numbered P x → x ≡ Err n → N n
    unfolding Numbered
    refused_numbered x n h e = rw e at h
