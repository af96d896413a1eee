-- `read_entry` meets its contract. Assumes nothing.
use native.Mathlib.Omega.{arith}
use mathlib.Core.Path.{refl, sym}
use borrow.Author.Tests.{ltb-true}
use Rattle.history.proofs.Entries.{entry_read}
use Rattle.history.proofs.undo_log.read_entry.Goals as goal

pub returns : goal.returns
returns c = let found = c.in_ok-entry.ensures.lookup in
    entry_read c.args.log.now c.args.n _ _ c.as_chunks.ensures.front (omega (arith, ltb-true _ _ (sym found.0), c.as_chunks.ensures.front_len)) c.in_ok-entry.entry.now found.1 refl refl refl refl c.old_words.ensures
