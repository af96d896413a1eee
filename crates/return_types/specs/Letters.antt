-- The letter of a return type, as it stands in a state (JVMS, table 4.3-A). Assumes nothing.
use Rattle.std.specs.Prelude.{ℕ}
use Rattle.rules.specs.Descriptor.{byte_type, char_type, double_type, float_type, int_type, long_type, class_type, short_type, void_type, boolean_type}
use Rattle.return_types.specs.declared.kinds.ReturnType.{ReturnType}
use Rattle.return_types.specs.declared.kinds.ReturnType.TheVariants.{Byte, Char, Double, Float, Int, Long, Reference, Short, Void, Boolean}

abbrev pub letter : ReturnType → ℕ
letter Byte = byte_type
letter Char = char_type
letter Double = double_type
letter Float = float_type
letter Int = int_type
letter Long = long_type
letter Reference = class_type
letter Short = short_type
letter Void = void_type
letter Boolean = boolean_type
