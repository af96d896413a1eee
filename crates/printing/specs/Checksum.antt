-- A checksum of words, by which programs show memory that is too long to print.
use Rattle.std.specs.Prelude.{ℕ, ◌+◌, ◌*◌, ◌%◌, ◌^◌, List, fold}

-- a checksum with one more word
abbrev pub more : ℕ → ℕ → ℕ
more sum word = (sum * 31 + word + 1) % 2 ^ 32

-- the checksum of words, the first one first
abbrev pub checksum_of : List ℕ → ℕ
checksum_of words = fold more 0 words
