-- What was read stands after what was there. Assumes nothing.
use Rattle.std.proofs.Common.{◌≡◌, ℕ, ◌+◌, ◌≤◌, List, ◌++◌, rules, sym, ap, ◌∙◌, subst, length, take, length-take-le, append_assoc}
use Rattle.std.proofs.Math.Seq.{take-append-add, take-append-le}
use Rattle.std.specs.declared.option.Option.{Option}
use Rattle.std.specs.declared.option.Option.TheVariants.{None, Some}
use Rattle.std.specs.Io.KnownBytes.{Consumes}
use borrow.Rule.Slice.PartMut.{put_mid, post_of}
use Rattle.reading.proofs.read_full.Goals as goal

-- one read after another
joined : (a b c : Option (List ℕ)) (bs cs : List ℕ) → Consumes a b bs → Consumes b c cs → Consumes a c (bs ++ cs)
joined None b c bs cs p q = tt
joined (Some xs) None c bs cs p q = absurd p
joined (Some xs) (Some ys) None bs cs p q = absurd q
joined (Some xs) (Some ys) (Some zs) bs cs p q = p ∙ ap (λ (l : List ℕ). bs ++ l) q ∙ sym (append_assoc bs cs zs)

-- the part from a on holds ys now, of which n bytes count
grown : (a k n : ℕ) (xs ys : List ℕ) → a ≤ length xs → n ≤ length ys → take a xs ++ take n ys ≡ take (a + n) (put_mid a k xs ys)
grown a k n xs ys h fits =
    sym (ap (λ (m : ℕ). take (m + n) (put_mid a k xs ys)) (sym (length-take-le a xs h))
    ∙ take-append-add (take a xs) (ys ++ post_of a k xs) n
    ∙ ap (λ (l : List ℕ). take a xs ++ l) (take-append-le n ys (post_of a k xs) fits))

pub loop-count-preserved : goal.loop-count-preserved
loop-count-preserved g c =
    let before = c.loop-count.invariant in
    let fits = c.in_ok-n.ensures in
    record {
      within = search rules;
      bytes = subst (Consumes _ _) (grown c.loop-count.count _ c.in_ok-n.n c.loop-count.buffer c.read.new.buf before.within fits.bound.0) (joined _ _ _ _ _ before.bytes fits.bytes.0);
    }
