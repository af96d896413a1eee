-- `character` meets its contract. Assumes nothing.
use Rattle.std.proofs.Common.{◌≡◌, Some, arith}
use Rattle.rules.specs.Descriptor.{character_at}
use Rattle.descriptor.specs.Answers.{some_offset}
use Rattle.descriptor.proofs.Turns.{size_within}
use Rattle.descriptor.proofs.cursor.Cursor.character.Goals as goal

pub overflow_add-result : goal.overflow_add-result
overflow_add-result c = let s = c.args.self in
    let found : Some c.in_ok-size.size ≡ some_offset (character_at s.descriptor.now s.at) = rw (c.read_code_u8-a.ensures, c.read_code_u8-b.ensures, c.read_code_u8-c.ensures) at c.in_ok-size.ensures in
    omega (arith, size_within s.descriptor.now s.at c.in_ok-size.size found)

pub invariant_of-result : goal.invariant_of-result
invariant_of-result c = let s = c.args.self in
    let found : Some c.in_ok-size.size ≡ some_offset (character_at s.descriptor.now s.at) = rw (c.read_code_u8-a.ensures, c.read_code_u8-b.ensures, c.read_code_u8-c.ensures) at c.in_ok-size.ensures in
    record { inside = size_within s.descriptor.now s.at c.in_ok-size.size found }
