-- What `dump` prints of a segment where it is asked for some records, or for more of each: the lines of those records whose
-- offsets were asked for, and of the batches that have such a record. The last line stays.
use Rattle.std.specs.Prelude.{ℕ, ◌-◌, ◌^◌, ℤ, pos, negsuc, ◌+ℤ◌, Bool, false, ◌&&◌, ◌||◌, List, [], ◌∷◌, ◌++◌, Option, Some, None, nat_lt, nat_le, if◌then◌else◌}
use Rattle.eos_batch.specs.Attributes.{is_control}
use Rattle.eos_batch.specs.declared.batch.Batch.{Batch}
use Rattle.eos_batch.specs.declared.record.Record.{Record}
use Rattle.eos_segment.specs.declared.reading.Reading.{Reading}
use Rattle.eos_segment.specs.Decoding.{decoded_line}
use Rattle.eos_segment.specs.declared.options.ListingOptions.{ListingOptions}
use Rattle.eos_segment.specs.HeaderLines.{header_lines}
use Rattle.eos_segment.specs.Lines.{record_line, batch_line}
use Rattle.eos_segment.specs.Listing.{kind_word, IsListingFrom}

-- every record, and nothing more of it
abbrev pub plain_options : ListingOptions
plain_options = record { headers = false; decode = None; from = 0; to = 2 ^ 64 - 1 }

-- from the first offset on, below the second
abbrev pub is_asked : ListingOptions → ℤ → Bool
is_asked o (pos offset) = nat_le o.from offset && nat_lt offset o.to
is_asked o (negsuc n) = false

-- the lines below a record's own
abbrev pub its_headers : ListingOptions → Batch → Record → List ℕ
its_headers o b r = if o.headers then header_lines b r else []

-- the record of a control batch says nothing but what the batch's line says
abbrev pub its_content : Option Reading → Batch → Record → List ℕ
its_content None b r = []
its_content (Some reading) b r = if is_control b.attributes then [] else decoded_line reading r

unfoldable pub chosen_record : ListingOptions → Batch → ℤ → Record → List ℕ
chosen_record o b offset r = if is_asked o offset then record_line offset r ++ (its_headers o b r ++ its_content o.decode b r) else []

-- the lines of records, the first of which has this offset
abbrev pub chosen_records : ListingOptions → Batch → ℤ → List Record → List ℕ
chosen_records o b offset [] = []
chosen_records o b offset (r ∷ rs) = chosen_record o b offset r ++ chosen_records o b (offset +ℤ pos 1) rs

-- one of these records was asked for
abbrev pub asks_for_one : ListingOptions → ℤ → List Record → Bool
asks_for_one o offset [] = false
asks_for_one o offset (r ∷ rs) = is_asked o offset || asks_for_one o (offset +ℤ pos 1) rs

-- the lines of the batch that begins at this byte
abbrev pub chosen_lines : ListingOptions → ℕ → Batch → List ℕ
chosen_lines o byte b =
    if asks_for_one o b.base_offset b.records then batch_line byte (kind_word b) b ++ chosen_records o b b.base_offset b.records else []

-- the text and the exit status of `dump` for these bytes, where this is asked for
abbrev pub IsChosenListing : ListingOptions → List ℕ → List ℕ → ℕ → Type 0
IsChosenListing o bytes text status = IsListingFrom (chosen_lines o) 0 bytes text status
