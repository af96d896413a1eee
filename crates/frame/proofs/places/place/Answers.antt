-- `place` meets its contract. Assumes nothing.
use mathlib.Core.Path.{sym, ◌∙◌}
use borrow.Author.Tests.{le-leb, lt-leb, not-true, not-false}
use Rattle.rules.specs.Check.{◌else◌, ◌>>◌}
use Rattle.frame.specs.Place.{place_check, place_of}
use Rattle.frame.proofs.places.place.Goals as goal

pub returns-then-s-pops : goal.returns-then-s-pops
unfolding place_of place_check ◌else◌ ◌>>◌
returns-then-s-pops c = simp (← c.from-locals.ensures, ← c.from-pushes.ensures, ← c.from-pops.ensures, lt-leb _ _ c.if-s-pops.true)

pub returns-then-from : goal.returns-then-from
unfolding place_of place_check ◌else◌ ◌>>◌
returns-then-from c = simp (← c.from-locals.ensures, ← c.from-pushes.ensures, ← c.from-pops.ensures, le-leb _ _ c.if-s-pops.false, lt-leb _ _ (rw (c.from.ensures, c.from-2.ensures, c.from-3.ensures) at c.if-from.true))

pub returns-then-not-local_there : goal.returns-then-not-local_there
unfolding place_of place_check ◌else◌ ◌>>◌
returns-then-not-local_there c = simp (← c.from-locals.ensures, ← c.from-pushes.ensures, ← c.from-pops.ensures, le-leb _ _ c.if-s-pops.false, le-leb _ _ (rw (c.from.ensures, c.from-2.ensures, c.from-3.ensures) at c.if-from.false), sym c.local_there.ensures ∙ not-true _ c.if-not-local_there.true-raw)

pub returns : goal.returns
unfolding place_of place_check ◌else◌ ◌>>◌
returns c = simp (← c.from-locals.ensures, ← c.from-pushes.ensures, ← c.from-pops.ensures, le-leb _ _ c.if-s-pops.false, le-leb _ _ (rw (c.from.ensures, c.from-2.ensures, c.from-3.ensures) at c.if-from.false), sym c.local_there.ensures ∙ not-false _ c.if-not-local_there.false-raw, c.from-4.ensures)
