-- The method descriptor: which bytes are one, as a grammar (JVMS 4.3.3); and what is asked of a DS record, which proofs/Descriptor shows to be the same.
-- Assumes nothing.
use Rattle.std.specs.Prelude.{ℕ, zero, suc, ◌+◌, ◌/◌, ◌%◌, ◌≤◌, ◌≡◌, Bool, true, not, ◌&&◌, ◌||◌, cond, List, [], ◌∷◌, ◌++◌, length}
use Rattle.values.specs.Kinds.{Kind, int, long, float, double, reference, places_of}
use Rattle.rules.specs.Check.{Check, ◌else◌, ◌>>◌, ◌≤ⁿ◌, ◌=ⁿ◌}
use Rattle.rules.specs.Fetch.{u8}
use Rattle.rules.specs.declared.descriptors.Descriptor.{Descriptor}
use Rattle.rules.specs.declared.refusals.Refusal.{Refusal}

-- ---- the characters of a descriptor, in ASCII (JVMS, table 4.3-A)

abbrev pub byte_type : ℕ
byte_type = 0x42  -- B

abbrev pub char_type : ℕ
char_type = 0x43  -- C

abbrev pub double_type : ℕ
double_type = 0x44  -- D

abbrev pub float_type : ℕ
float_type = 0x46  -- F

abbrev pub int_type : ℕ
int_type = 0x49  -- I

abbrev pub long_type : ℕ
long_type = 0x4A  -- J

abbrev pub class_type : ℕ
class_type = 0x4C  -- L

abbrev pub short_type : ℕ
short_type = 0x53  -- S

abbrev pub void_type : ℕ
void_type = 0x56  -- V

abbrev pub boolean_type : ℕ
boolean_type = 0x5A  -- Z

abbrev pub array_type : ℕ
array_type = 0x5B  -- [

abbrev pub opening : ℕ
opening = 0x28  -- (

abbrev pub closing : ℕ
closing = 0x29  -- )

abbrev pub dot : ℕ
dot = 0x2E

abbrev pub slash : ℕ
slash = 0x2F

abbrev pub semicolon : ℕ
semicolon = 0x3B

-- ---- THE GRAMMAR

-- modified UTF-8 of a code unit (4.4.7): one byte for 1 to 7F, two for 0 and 80 to 7FF, three for 800 to FFFF
abbrev pub encoded : ℕ → List ℕ
encoded c =
    cond ((1 ≤ⁿ c) && (c ≤ⁿ 0x7F)) (c ∷ [])
    (cond (c ≤ⁿ 0x7FF) ((0xC0 + c / 64) ∷ (0x80 + c % 64) ∷ [])
    ((0xE0 + c / 4096) ∷ (0x80 + c / 64 % 64) ∷ (0x80 + c % 64) ∷ []))

-- what a name may have (4.2.2): anything but . ; [ /
abbrev pub is_of_names : ℕ → Bool
is_of_names c = not ((c =ⁿ dot) || (c =ⁿ semicolon) || (c =ⁿ array_type) || (c =ⁿ slash))

pub data Character : List ℕ → Type 0 where
  character : {c : ℕ} → c ≤ 0xFFFF → is_of_names c ≡ true → Character (encoded c)

-- one or more characters (4.2.2)
pub data UnqualifiedName : List ℕ → Type 0 where
  last_character : {b : List ℕ} → Character b → UnqualifiedName b
  next_character : {b bs : List ℕ} → Character b → UnqualifiedName bs → UnqualifiedName (b ++ bs)

-- one or more of them, joined by / (4.2.1)
pub data ClassName : List ℕ → Type 0 where
  last_name : {b : List ℕ} → UnqualifiedName b → ClassName b
  next_name : {b bs : List ℕ} → UnqualifiedName b → ClassName bs → ClassName (b ++ slash ∷ bs)

-- BaseType (4.3.2), with the kind of its values (2.11.1)
pub data BaseType : ℕ → Kind → Type 0 where
  b_byte : BaseType byte_type int
  c_char : BaseType char_type int
  d_double : BaseType double_type double
  f_float : BaseType float_type float
  i_int : BaseType int_type int
  j_long : BaseType long_type long
  s_short : BaseType short_type int
  z_boolean : BaseType boolean_type int

-- FieldType (4.3.2), with its dimensions, of which an array has at most 255
pub data FieldType : ℕ → List ℕ → Kind → Type 0 where
  base_field : {c : ℕ} {k : Kind} → BaseType c k → FieldType 0 (c ∷ []) k
  class_field : {b : List ℕ} → ClassName b → FieldType 0 (class_type ∷ b ++ semicolon ∷ []) reference
  array_field : {n : ℕ} {b : List ℕ} {k : Kind} → n ≤ 254 → FieldType n b k → FieldType (suc n) (array_type ∷ b) reference

-- ParameterDescriptors, one after the other
pub data Parameters : List ℕ → List Kind → Type 0 where
  no_parameter : Parameters [] []
  next_parameter : {n : ℕ} {b bs : List ℕ} {k : Kind} {ks : List Kind} → FieldType n b k → Parameters bs ks → Parameters (b ++ bs) (k ∷ ks)

-- the return type that a state has: the first character of the return descriptor, L for every reference
abbrev pub return_letter : ℕ → ℕ
return_letter c = cond (c =ⁿ array_type) class_type c

-- ReturnDescriptor
pub data Return : List ℕ → ℕ → Type 0 where
  returns_field : {n c : ℕ} {b : List ℕ} {k : Kind} → FieldType n (c ∷ b) k → Return (c ∷ b) (return_letter c)
  returns_void : Return (void_type ∷ []) void_type

-- MethodDescriptor (4.3.3), of parameters of at most 255 places, a long or a double two, and this return type
pub data MethodDescriptor : List ℕ → List Kind → ℕ → Type 0 where
  descriptor : {b r : List ℕ} {ks : List Kind} {t : ℕ} → Parameters b ks → places_of ks ≤ 255 → Return r t → MethodDescriptor (opening ∷ b ++ closing ∷ r) ks t

-- ---- the same, read from an offset on. Past its end a descriptor's bytes read as 0, which none has

abbrev pub continues : ℕ → Bool
continues b = (0x80 ≤ⁿ b) && (b ≤ⁿ 0xBF)

abbrev pub is_one_byte : ℕ → Bool
is_one_byte a = (1 ≤ⁿ a) && (a ≤ⁿ 0x7F) && is_of_names a

abbrev pub is_two_bytes : ℕ → ℕ → Bool
is_two_bytes a b = (a =ⁿ 0xC0) && (b =ⁿ 0x80) || (0xC2 ≤ⁿ a) && (a ≤ⁿ 0xDF) && continues b

abbrev pub is_three_bytes : ℕ → ℕ → ℕ → Bool
is_three_bytes a b c = ((a =ⁿ 0xE0) && (0xA0 ≤ⁿ b) || (0xE1 ≤ⁿ a) && (a ≤ⁿ 0xEF)) && continues b && continues c

-- how many of three bytes are a character of a name; 0 where none begins there
unfoldable pub character_size : ℕ → ℕ → ℕ → ℕ
character_size a b c = cond (is_one_byte a) 1 (cond (is_two_bytes a b) 2 (cond (is_three_bytes a b c) 3 0))

abbrev pub character_at : List ℕ → ℕ → ℕ
character_at d at = character_size (u8 d at) (u8 d (at + 1)) (u8 d (at + 2))

-- the offset after a class name and its semicolon; 0 where none begins. It has no more characters than there are bytes
unfoldable pub name_end : ℕ → List ℕ → ℕ → ℕ
name_end zero d at = 0
name_end (suc n) d at =
    let next = at + character_at d at in
    cond (character_at d at =ⁿ 0) 0
    (cond (u8 d next =ⁿ semicolon) (next + 1)
    (cond (u8 d next =ⁿ slash) (name_end n d (next + 1)) (name_end n d next)))

-- the offset after at most n brackets
unfoldable pub brackets_end : ℕ → List ℕ → ℕ → ℕ
brackets_end zero d at = at
brackets_end (suc n) d at = cond (u8 d at =ⁿ array_type) (brackets_end n d (at + 1)) at

abbrev pub is_base : ℕ → Bool
is_base c =
    (c =ⁿ byte_type) || (c =ⁿ char_type) || (c =ⁿ double_type) || (c =ⁿ float_type) || (c =ⁿ int_type) || (c =ⁿ long_type) || (c =ⁿ short_type) || (c =ⁿ boolean_type)

-- the offset after a base type or a class; 0 where neither begins
unfoldable pub element_end : List ℕ → ℕ → ℕ
element_end d at = cond (is_base (u8 d at)) (at + 1) (cond (u8 d at =ⁿ class_type) (name_end (length d) d (at + 1)) 0)

-- the offset after a field type; 0 where none begins
unfoldable pub field_end : List ℕ → ℕ → ℕ
field_end d at = element_end d (brackets_end 255 d at)

-- the kind of a field type, by its first character
abbrev pub kind_of : ℕ → Kind
kind_of c =
    cond (c =ⁿ long_type) long (cond (c =ⁿ double_type) double (cond (c =ⁿ float_type) float (cond ((c =ⁿ class_type) || (c =ⁿ array_type)) reference int)))

-- the kinds of the field types from an offset on, and the offset after them
unfoldable pub kinds_from : ℕ → List ℕ → ℕ → List Kind
kinds_from zero d at = []
kinds_from (suc n) d at = cond (field_end d at =ⁿ 0) [] (kind_of (u8 d at) ∷ kinds_from n d (field_end d at))

unfoldable pub fields_end : ℕ → List ℕ → ℕ → ℕ
fields_end zero d at = at
fields_end (suc n) d at = cond (field_end d at =ⁿ 0) at (fields_end n d (field_end d at))

abbrev pub parameter_kinds : List ℕ → List Kind
parameter_kinds d = kinds_from (length d) d 1

abbrev pub parameters_end : List ℕ → ℕ
parameters_end d = fields_end (length d) d 1

abbrev pub return_end : List ℕ → ℕ → ℕ
return_end d at = cond (u8 d at =ⁿ void_type) (at + 1) (field_end d at)

abbrev pub return_type : List ℕ → ℕ
return_type d = return_letter (u8 d (parameters_end d + 1))

-- what it says where it is one
abbrev pub descriptor_of : List ℕ → Descriptor
descriptor_of d = record { places = places_of (parameter_kinds d); return_type = return_type d }

-- is it a method descriptor? 31
unfoldable pub descriptor_check : List ℕ → Check (Unit {0})
descriptor_check d = do
  u8 d 0 =ⁿ opening else Refusal.Descriptor
  places_of (parameter_kinds d) ≤ⁿ 255 else Refusal.Descriptor
  u8 d (parameters_end d) =ⁿ closing else Refusal.Descriptor
  return_end d (parameters_end d + 1) =ⁿ length d else Refusal.Descriptor
