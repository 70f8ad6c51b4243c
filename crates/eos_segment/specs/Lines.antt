-- The lines that `dump` prints, for a batch and its records.
use Rattle.std.specs.Prelude.{ℕ, ℤ, pos, ◌+ℤ◌, List, [], ◌∷◌, ◌++◌, length, Option, Some, None, codes}
use Rattle.std.specs.Fmt.{decimal, signed_decimal}
use Rattle.hex.specs.Hex.{encode_lower}
use Rattle.eos_batch.specs.declared.record.Record.{Record}
use Rattle.eos_batch.specs.declared.batch.Batch.{Batch}

-- a key or a value: two lower-case hexadecimal digits a byte
abbrev pub hex_or_null : Option (List ℕ) → List ℕ
hex_or_null None = codes "null"
hex_or_null (Some bytes) = encode_lower bytes

-- the line of a record at this offset
unfoldable pub record_line : ℤ → Record → List ℕ
record_line offset r =
    (codes "record offset=" ++ signed_decimal offset)
    ++ ((codes " key=" ++ hex_or_null r.key)
    ++ ((codes " value=" ++ hex_or_null r.value)
    ++ ((codes " headers=" ++ decimal (length r.headers))
    ++ codes "\n")))

-- the lines of records, the first of which has this offset
abbrev pub record_lines : ℤ → List Record → List ℕ
record_lines offset [] = []
record_lines offset (r ∷ rs) = record_line offset r ++ record_lines (offset +ℤ pos 1) rs

-- where a batch begins, and which offsets it has
unfoldable pub begin_of : ℕ → Batch → List ℕ
begin_of byte b =
    (codes "batch byte=" ++ decimal byte)
    ++ ((codes " base=" ++ signed_decimal b.base_offset)
    ++ (codes " count=" ++ decimal (length b.records)))

-- who wrote it, and which records these are in the producer's order
unfoldable pub producer_of : Batch → List ℕ
producer_of b =
    (codes " producer=" ++ signed_decimal b.producer)
    ++ ((codes " epoch=" ++ signed_decimal b.epoch)
    ++ (codes " sequence=" ++ signed_decimal b.sequence))

-- the line of a batch whose first byte is this one of the segment
abbrev pub batch_line : ℕ → List ℕ → Batch → List ℕ
batch_line byte kind b = begin_of byte b ++ (producer_of b ++ ((codes " " ++ kind) ++ codes "\n"))
