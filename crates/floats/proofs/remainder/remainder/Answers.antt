-- `remainder` meets its contract. Assumes nothing.
use lib.Ieee.{hid}
use Rattle.floats.proofs.UnitWords.{hid_pos, own_remainder, moved_word, digits_pos}
use Rattle.floats.proofs.remainder.remainder.Goals as goal

pub returns-then-i-j : goal.returns-then-i-j
returns-then-i-j g c = let f = g.F.Format.format in
    own_remainder (hid f) c.args.a c.args.b (hid_pos f) (rw (c.place_of-i.ensures, c.place_of-j.ensures) at c.if-i-j.true)

pub returns : goal.returns
returns g c =
    let a = c.args in
    let f = g.F.Format.format in
    let later = rw (c.place_of-i.ensures, c.place_of-j.ensures) at c.if-i-j.false in
    let rest = rw (c.digits_of-m.ensures, c.digits_of-n.ensures, c.place_of-i.ensures, c.place_of-j.ensures) at c.moved_remainder.ensures in
    let word = rw c.place_of-j.ensures at c.word_of_units.ensures in
    moved_word (hid f) a.a a.b c.moved_remainder.result c.word_of_units.result (digits_pos (hid f) a.b (hid_pos f) c.requires.0) later rest word
