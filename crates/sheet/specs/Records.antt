-- What the records of a part of a sheet give, one after the other, and what the KI records among them say. Assumes nothing.
use Rattle.std.specs.Prelude.{ℕ, Bool, ◌≡◌, ◌-◌, ◌≤◌, ◌<◌, Option, Some, None}
use Rattle.rules.specs.Sheet.{record_end, Pool, class_from, pool_from}
use Rattle.sheet.specs.declared.records.Record.{Record}
use Rattle.sheet.specs.declared.records.Records.{Records}

-- the record where they stand, which they then stand behind; none where they have come to their end
abbrev pub GivesRecord : Records → Option Record → Records → Type 0
GivesRecord s None t = s.end ≤ s.at
GivesRecord s (Some r) t = record {
  more : s.at < s.end;
  same_sheet : r.sheet.now ≡ s.sheet.now;
  same_place : r.at ≡ s.at;
  sheet_kept : t.sheet.now ≡ s.sheet.now;
  end_kept : t.end ≡ s.end;
  passed : t.at ≡ record_end s.sheet.now s.at;
}

-- of KI records: whether one is that of a class with this index, and the pool with all of them
abbrev pub has_class : Records → ℕ → Bool
has_class s index = class_from (s.end - s.at) s.sheet.now s.at s.end index

abbrev pub with_constants : Records → Pool → Pool
with_constants s p = pool_from (s.end - s.at) s.sheet.now s.at s.end p
