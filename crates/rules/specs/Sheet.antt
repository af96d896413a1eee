-- The sheet (RULES, 'The sheet'): its records, what is asked of each and of the lent memory, and what an accepted load fills and gives. Assumes nothing.
use Rattle.std.specs.Prelude.{ℕ, zero, suc, ◌+◌, ◌/◌, ◌%◌, ◌-◌, Bool, true, false, not, ◌&&◌, ◌||◌, cond, List, [], ◌∷◌, ◌++◌, length, take, drop, set, replicate, Ok, Err, Some, None, Option}
use Rattle.std.specs.Option.{unwrap_or}
use Rattle.rules.specs.declared.descriptors.Descriptor.{Descriptor}
use Rattle.rules.specs.declared.states.State.{State}
use Rattle.rules.specs.declared.sheets.Mark.{Mark}
use Rattle.rules.specs.declared.sheets.Mark.TheVariants.{LM, DS, CD, KI, EX, AR}
use Rattle.rules.specs.declared.sheets.Reading.{Reading}
use Rattle.rules.specs.declared.sheets.Loaded.{Loaded}
use Rattle.rules.specs.Check.{Check, ◌else◌, ◌>>=◌, ◌>>◌, ◌≤ⁿ◌, ◌<ⁿ◌, ◌=ⁿ◌}
use Rattle.rules.specs.Fetch.{u8, u16, u32}
use Rattle.rules.specs.Descriptor.{descriptor_of, descriptor_check}
use Rattle.rules.specs.Handlers.{start_pc, end_pc, handler_pc, catch_type, class_tag}
use Rattle.rules.specs.declared.refusals.Refusal.{Refusal}

-- ---- a record at an offset of the sheet: a mark of two ASCII bytes, the length of its body in 16 bits, the body

abbrev pub body_length : List ℕ → ℕ → ℕ
body_length sheet at = u16 sheet (at + 2)

abbrev pub body_at : ℕ → ℕ
body_at at = at + 4

-- where the next record begins
abbrev pub record_end : List ℕ → ℕ → ℕ
record_end sheet at = body_at at + body_length sheet at

abbrev pub known_mark : ℕ → Check Mark
known_mark n =
    cond (n =ⁿ 0x4C4D) (Ok LM)
    (cond (n =ⁿ 0x4453) (Ok DS)
    (cond (n =ⁿ 0x4344) (Ok CD)
    (cond (n =ⁿ 0x4B49) (Ok KI)
    (cond (n =ⁿ 0x4558) (Ok EX)
    (cond (n =ⁿ 0x4152) (Ok AR)
    (Err Refusal.UnknownMark))))))

-- a mark by its number, so that two can be compared
abbrev pub mark_number : Mark → ℕ
mark_number LM = 1
mark_number DS = 2
mark_number CD = 3
mark_number KI = 4
mark_number EX = 5
mark_number AR = 6

-- of the last record, if there is one
abbrev pub last_number : Option Mark → ℕ
last_number None = 0
last_number (Some m) = mark_number m

abbrev pub is_last : Mark → Option Mark → Bool
is_last m last = last_number last =ⁿ mark_number m

-- no constant comes any more: EX and AR stand after CD, after a KI or after an EX
abbrev pub ends_pool : Option Mark → Bool
ends_pool last = is_last CD last || is_last KI last || is_last EX last

-- the order: LM, at most one DS, CD, any number of KI, any number of EX, AR
abbrev pub follows : Mark → Option Mark → Bool
follows LM last = last_number last =ⁿ 0
follows DS last = is_last LM last
follows CD last = is_last LM last || is_last DS last
follows KI last = is_last CD last || is_last KI last
follows EX last = ends_pool last
follows AR last = ends_pool last

abbrev pub right_length : Mark → ℕ → Bool
right_length LM n = n =ⁿ 4
right_length DS n = true
right_length CD n = 1 ≤ⁿ n
right_length KI n = (n =ⁿ 7) || (n =ⁿ 11)
right_length EX n = true
right_length AR n = n % 4 =ⁿ 0

-- ---- the fields of a record

-- LM: max_stack, max_locals
abbrev pub limit_stack : List ℕ → ℕ → ℕ
limit_stack sheet at = u16 sheet (body_at at)

abbrev pub limit_locals : List ℕ → ℕ → ℕ
limit_locals sheet at = u16 sheet (body_at at + 2)

-- DS: the method descriptor
abbrev pub descriptor_at : List ℕ → ℕ → List ℕ
descriptor_at sheet at = take (body_length sheet at) (drop (body_at at) sheet)

-- KI: pool index, tag, value. A long or a double uses two indices
abbrev pub pool_index : List ℕ → ℕ → ℕ
pool_index sheet at = u16 sheet (body_at at)

abbrev pub pool_tag : List ℕ → ℕ → ℕ
pool_tag sheet at = u8 sheet (body_at at + 2)

-- an int, a float or a class
abbrev pub is_narrow : ℕ → Bool
is_narrow tag = (tag =ⁿ 3) || (tag =ⁿ 4) || (tag =ⁿ class_tag)

-- 7 bytes for these, and else 11 for a long or a double
abbrev pub tag_suits : ℕ → ℕ → Bool
tag_suits tag n = cond (n =ⁿ 7) (is_narrow tag) ((tag =ⁿ 5) || (tag =ⁿ 6))

-- the word of a class: 1 where ArithmeticException can be assigned to it, else 0
abbrev pub word_suits : ℕ → ℕ → Bool
word_suits tag word = not (tag =ⁿ class_tag) || (word ≤ⁿ 1)

abbrev pub pool_word : List ℕ → ℕ → ℕ
pool_word sheet at = u32 sheet (body_at at + 3)

abbrev pub is_wide : List ℕ → ℕ → Bool
is_wide sheet at = body_length sheet at =ⁿ 11

unfoldable pub last_index : List ℕ → ℕ → ℕ
last_index sheet at = cond (is_wide sheet at) (pool_index sheet at + 1) (pool_index sheet at)

-- AR: how many argument words
abbrev pub argument_count : List ℕ → ℕ → ℕ
argument_count sheet at = body_length sheet at / 4

-- ---- what a record adds to what has been read

-- nothing yet
abbrev pub unread : Reading
unread =
    record {
      last = None;
      max_stack = 0;
      max_locals = 0;
      descriptor = None;
      code = 0;
      code_length = 0;
      used = None;
      handlers = 0;
      arguments = 0;
      argument_count = 0;
    }

-- what a record of this mark says, where it is such a record, and else what was known
abbrev pub by : {A : Type 0} → Mark → Mark → A → A → A
by this m new old = cond (mark_number m =ⁿ mark_number this) new old

-- each field, with the record that says it
unfoldable pub with_record : List ℕ → ℕ → Mark → Reading → Reading
with_record sheet at m p =
    record {
      last = Some m;
      max_stack = by LM m (limit_stack sheet at) p.max_stack;
      max_locals = by LM m (limit_locals sheet at) p.max_locals;
      descriptor = by DS m (Some (descriptor_of (descriptor_at sheet at))) p.descriptor;
      code = by CD m (body_at at) p.code;
      code_length = by CD m (body_length sheet at) p.code_length;
      used = by KI m (Some (last_index sheet at)) p.used;
      handlers = by CD m (record_end sheet at) (by KI m (record_end sheet at) p.handlers);
      arguments = by AR m (body_at at) p.arguments;
      argument_count = by AR m (argument_count sheet at) p.argument_count;
    }

-- as many argument words as the parameters take, if there is a descriptor
abbrev pub are_taken : Option Descriptor → ℕ → Bool
are_taken None n = true
are_taken (Some d) n = n =ⁿ d.places

-- the return type that a state has: 0 where there is no descriptor
abbrev pub state_type : Option Descriptor → ℕ
state_type None = 0
state_type (Some d) = d.return_type

-- the highest index that is used: 0, which no constant has, where there is none yet
abbrev pub last_used : Reading → ℕ
last_used p = unwrap_or p.used 0

-- an index below a length, if there is one
abbrev pub is_below : Option ℕ → ℕ → Bool
is_below None n = true
is_below (Some i) n = i <ⁿ n

-- the KI records stand between the code and the handlers
abbrev pub pool_start : Reading → ℕ
pool_start p = p.code + p.code_length

-- a KI record of a class with this index
abbrev pub is_class_at : List ℕ → ℕ → ℕ → Bool
is_class_at sheet at index = (pool_index sheet at =ⁿ index) && (pool_tag sheet at =ⁿ class_tag)

-- one of the KI records from an offset on up to an end is such a record
unfoldable pub class_from : ℕ → List ℕ → ℕ → ℕ → ℕ → Bool
class_from zero sheet at end index = false
class_from (suc n) sheet at end index = cond (end ≤ⁿ at) false (is_class_at sheet at index || class_from n sheet (record_end sheet at) end index)

-- a catch type that an EX record may have: 0, or the index of a class
abbrev pub is_catch_type : List ℕ → Reading → ℕ → Bool
is_catch_type sheet p type = (type =ⁿ 0) || class_from (p.handlers - pool_start p) sheet (pool_start p) p.handlers type

-- DS: a method descriptor? 31. KI: tag suits length, a class's word is 0 or 1, index above 0 and all used, a long's second at most 65,535? 25. EX: eight bytes, start
-- below end, start and handler inside the code, end at most its length, a catch type? 33. AR: arguments at most max_locals? 27; as many as the descriptor's parameters
-- take, if there is one? 31
unfoldable pub contents_check : List ℕ → ℕ → Reading → Mark → Check (Unit {0})
contents_check sheet at p LM = Ok tt
contents_check sheet at p DS = descriptor_check (descriptor_at sheet at)
contents_check sheet at p CD = Ok tt
contents_check sheet at p KI = do
  tag_suits (pool_tag sheet at) (body_length sheet at) else Refusal.ConstantRecord
  word_suits (pool_tag sheet at) (pool_word sheet at) else Refusal.ConstantRecord
  last_used p <ⁿ pool_index sheet at else Refusal.ConstantRecord
  last_index sheet at ≤ⁿ 65535 else Refusal.ConstantRecord
contents_check sheet at p EX = do
  body_length sheet at =ⁿ 8 else Refusal.HandlerRecord
  start_pc sheet at <ⁿ end_pc sheet at else Refusal.HandlerRecord
  start_pc sheet at <ⁿ p.code_length else Refusal.HandlerRecord
  handler_pc sheet at <ⁿ p.code_length else Refusal.HandlerRecord
  end_pc sheet at ≤ⁿ p.code_length else Refusal.HandlerRecord
  is_catch_type sheet p (catch_type sheet at) else Refusal.HandlerRecord
contents_check sheet at p AR = do
  argument_count sheet at ≤ⁿ p.max_locals else Refusal.TooManyArguments
  are_taken p.descriptor (argument_count sheet at) else Refusal.Descriptor

-- then what it adds to what has been read
abbrev pub contents_read : List ℕ → ℕ → Reading → Mark → Check Reading
contents_read sheet at p m = do
  contents_check sheet at p m
  Ok (with_record sheet at m p)

-- order as above? 23. Length right? 24. Then 25, 27, 31 or 33
unfoldable pub marked_check : List ℕ → ℕ → Reading → Mark → Check Reading
marked_check sheet at p m = do
  follows m p.last else Refusal.RecordOrder
  right_length m (body_length sheet at) else Refusal.RecordLength
  contents_read sheet at p m

-- four bytes and the body present? 21. Mark known? 22. Then 23 to 27, 31 and 33
unfoldable pub record_check : List ℕ → ℕ → Reading → Check Reading
record_check sheet at p = do
  body_at at ≤ⁿ length sheet else Refusal.RecordCut
  record_end sheet at ≤ⁿ length sheet else Refusal.RecordCut
  m ← known_mark (u16 sheet at)
  marked_check sheet at p m

-- at the end of the bytes: was AR seen? 23
abbrev pub end_check : Reading → Check Reading
end_check p = do
  is_last AR p.last else Refusal.RecordOrder
  Ok p

-- record by record from an offset on. A record has at least four bytes, so that as many turns as there are bytes left are more than enough
unfoldable pub read_from : ℕ → List ℕ → ℕ → Reading → Check Reading
read_from zero sheet at p = end_check p
read_from (suc n) sheet at p = cond (length sheet ≤ⁿ at) (end_check p) (do
  q ← record_check sheet at p
  read_from n sheet (record_end sheet at) q)

unfoldable pub sheet_check : List ℕ → Check Reading
sheet_check sheet = read_from (length sheet) sheet 0 unread

-- then: do slots, kinds and words reach, kinds and words equally long, at most 65,536? 26
unfoldable pub memory_check : Reading → List ℕ → List ℕ → List ℕ → Check (Unit {0})
memory_check p slots kinds words = do
  p.max_locals + p.max_stack ≤ⁿ length slots else Refusal.LentMemory
  is_below p.used (length kinds) else Refusal.LentMemory
  length kinds =ⁿ length words else Refusal.LentMemory
  length kinds ≤ⁿ 65536 else Refusal.LentMemory

-- ---- what an accepted load fills

pub record Pool : Type 0 where
  pub kinds : List ℕ
  pub words : List ℕ

-- a KI record: tag and word at the index; a long's low word there and its high word, with kind 0, at the next. The value is big-endian, so that a long's high
-- word stands first
abbrev pub with_kind : List ℕ → ℕ → List ℕ → List ℕ
with_kind sheet at kinds = set kinds (pool_index sheet at) (pool_tag sheet at)

unfoldable pub with_words : List ℕ → ℕ → List ℕ → List ℕ
with_words sheet at words =
    cond (is_wide sheet at)
    (set (set words (pool_index sheet at) (u32 sheet (body_at at + 7))) (pool_index sheet at + 1) (u32 sheet (body_at at + 3)))
    (set words (pool_index sheet at) (u32 sheet (body_at at + 3)))

abbrev pub with_value : List ℕ → ℕ → Pool → Pool
with_value sheet at p = record { kinds = with_kind sheet at p.kinds; words = with_words sheet at p.words }

-- the KI records from an offset on up to an end
unfoldable pub pool_from : ℕ → List ℕ → ℕ → ℕ → Pool → Pool
pool_from zero sheet at end p = p
pool_from (suc n) sheet at end p = cond (end ≤ⁿ at) p (pool_from n sheet (record_end sheet at) end (with_value sheet at p))

-- kinds and words over their whole length, 0 where no record says otherwise
abbrev pub clear : List ℕ → List ℕ → Pool
clear kinds words = record { kinds = replicate (length kinds) 0; words = replicate (length words) 0 }

abbrev pub loaded_pool : List ℕ → Reading → List ℕ → List ℕ → Pool
loaded_pool sheet p kinds words = pool_from (p.handlers - pool_start p) sheet (pool_start p) p.handlers (clear kinds words)

-- the handlers are the EX records, from the first one's mark up to where the AR record begins
abbrev pub handlers_length : Reading → ℕ
handlers_length p = p.arguments - 4 - p.handlers

-- n argument words from an offset on
unfoldable pub arguments_from : List ℕ → ℕ → ℕ → List ℕ
arguments_from sheet at zero = []
arguments_from sheet at (suc n) = u32 sheet at ∷ arguments_from sheet (at + 4) n

-- stage 0's words of the frame: the arguments, then zeros
abbrev pub loaded_frame : List ℕ → Reading → List ℕ
loaded_frame sheet p = arguments_from sheet p.arguments p.argument_count ++ replicate (p.max_locals + p.max_stack - p.argument_count) 0

-- slots beyond the frame are untouched
abbrev pub loaded_slots : List ℕ → Reading → List ℕ → List ℕ
loaded_slots sheet p slots = loaded_frame sheet p ++ drop (p.max_locals + p.max_stack) slots

abbrev pub loaded_state : ℕ → ℕ → ℕ → State
loaded_state stack locals type = record { max_stack = stack; max_locals = locals; pc = 0; depth = 0; count = 0; return_type = type }

-- ---- the load

-- what a load gives, and what it leaves
pub record AfterLoad : Type 0 where
  pub loaded : Loaded
  pub slots : List ℕ
  pub kinds : List ℕ
  pub words : List ℕ

abbrev pub accepted_load : Reading → Loaded
accepted_load p =
    record {
      answer = Ok tt;
      state = loaded_state p.max_stack p.max_locals (state_type p.descriptor);
      code = p.code;
      code_length = p.code_length;
      handlers = p.handlers;
      handlers_length = handlers_length p;
    }

-- its number, a state of zeros and twice the empty part at the sheet's start
abbrev pub refused_load : Refusal → Loaded
refused_load n = record { answer = Err n; state = loaded_state 0 0 0; code = 0; code_length = 0; handlers = 0; handlers_length = 0 }

abbrev pub load_by : List ℕ → List ℕ → List ℕ → List ℕ → Check Reading → AfterLoad
load_by sheet slots kinds words (Ok p) =
    record {
      loaded = accepted_load p;
      slots = loaded_slots sheet p slots;
      kinds = (loaded_pool sheet p kinds words).kinds;
      words = (loaded_pool sheet p kinds words).words;
    }
load_by sheet slots kinds words (Err n) = record { loaded = refused_load n; slots = slots; kinds = kinds; words = words }

-- nothing is written unless the whole sheet and all lengths are accepted
unfoldable pub load_of : List ℕ → List ℕ → List ℕ → List ℕ → AfterLoad
load_of sheet slots kinds words = load_by sheet slots kinds words (do
  p ← sheet_check sheet
  memory_check p slots kinds words
  Ok p)

-- the part of the sheet with n bytes from an offset on; past its end, the empty part
abbrev pub part_of : List ℕ → ℕ → ℕ → List ℕ
part_of sheet at n = cond (at + n ≤ⁿ length sheet) (take n (drop at sheet)) []

-- code and handlers are the very parts of the sheet that hold them; where a load of another sheet points past this one, empty parts
abbrev pub code_of : List ℕ → Loaded → List ℕ
code_of sheet x = part_of sheet x.code x.code_length

abbrev pub handlers_of : List ℕ → Loaded → List ℕ
handlers_of sheet x = part_of sheet x.handlers x.handlers_length
