-- What is wanted of a data record, as a record: without its attributes, its time and the headers that say nothing.
use Rattle.std.specs.Prelude.{◌≡◌, ℕ, pos, List, None, Option}
use Rattle.eos_batch.specs.declared.record.Record.{Record}
use Rattle.eos_claims.specs.declared.claim.Claim.{Claim}
use Rattle.eos_claims.specs.Headers.{claim_of}
use Rattle.eos_reading.specs.declared.wanted.Wanted.{Wanted}
use Rattle.eos_reading.specs.declared.wanted.Wanted.TheVariants.{Presence, Claims, Texts}
use Rattle.eos_reading.specs.Wanted.{wanted_headers}

-- the record of this key and this value, whose headers say this claim
abbrev pub record_of : Option (List ℕ) → Option (List ℕ) → Option Claim → Record
record_of key value claim = record { attributes = pos 0; timestamp_delta = pos 0; key = key; value = value; headers = wanted_headers claim }

abbrev pub wanted_record : Wanted → Record → Record
wanted_record Presence r = record_of None None None
wanted_record Claims r = record_of None None (claim_of r.headers)
wanted_record Texts r = record_of r.key r.value (claim_of r.headers)

-- the headers that say it have this claim
abbrev pub ReadsBack : Option Claim → Type 0
ReadsBack claim = claim_of (wanted_headers claim) ≡ claim
