-- The records that are kept, each with what is wanted of it.
use Rattle.std.specs.Prelude.{◌≡◌, ℕ, List, None, map, All, ⊤}
use Rattle.eos_batch.specs.declared.record.Record.{Record}
use Rattle.eos_claims.specs.Headers.{claim_of}
use Rattle.eos_reading.specs.Outputs.{KeptOutput, claim_kept}
use Rattle.eos_reading.specs.Records.{record_of, ReadsBack}
use Rattle.eos_reading.specs.Wanted.{wanted_headers}
use Rattle.eos_kept.specs.declared.records.Records.{Records}
use Rattle.eos_kept.specs.declared.records.Records.TheVariants.{Presence, Claims, Texts}

-- of an output, by the topics that were asked for
abbrev pub output_record : List (List ℕ) → KeptOutput → Record
output_record topics kept = record_of None None (claim_kept topics kept)

abbrev pub records_in : Records → List Record
records_in (Presence kept) = map (λ one. record_of None None None) kept.items
records_in (Claims topics kept) = map (output_record topics.items) kept.items
records_in (Texts kept) = kept.list

-- the claims can be read back from the headers that say them
abbrev pub ReadBack : Records → Type 0
ReadBack (Presence kept) = ⊤
ReadBack (Claims topics kept) = All (λ one. ReadsBack (claim_kept topics.items one)) kept.items
ReadBack (Texts kept) = ⊤

-- a record's headers say its claim, and nothing else
abbrev pub SaysClaim : Record → Type 0
SaysClaim r = r.headers ≡ wanted_headers (claim_of r.headers)

abbrev pub SayClaims : List Record → Type 0
SayClaims rs = All SaysClaim rs
