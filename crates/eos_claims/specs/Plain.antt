-- What values with borrowed names stand for.
use Rattle.std.specs.Prelude.{option_map}
use Rattle.eos_claims.specs.declared.place.Place.{Place}
use Rattle.eos_claims.specs.declared.place.PlaceRef.{PlaceRef}
use Rattle.eos_claims.specs.declared.place.SourceRef.{SourceRef}
use Rattle.eos_claims.specs.declared.fault.OutputFault.{OutputFault}
use Rattle.eos_claims.specs.declared.found.Found.{Found}
use Rattle.eos_claims.specs.declared.alone.LentClaim.{LentClaim}
use Rattle.eos_claims.specs.declared.neighbours.NumberedClaim.{NumberedClaim}
use Rattle.eos_claims.specs.Candidates.{Counted}

abbrev pub plain_place : PlaceRef → Place
plain_place p = record { partition = p.partition.now; offset = p.offset }

abbrev pub plain_source : SourceRef → Place
plain_source p = record { partition = record { topic = p.topic.now; partition = p.partition }; offset = p.offset }

abbrev pub plain_fault : Found → OutputFault
plain_fault f = record { source = plain_source f.source; output = f.output; kind = f.kind; at = option_map plain_place f.at }

abbrev pub plain_claim : NumberedClaim → Counted
plain_claim c = record { source = plain_place c.source; output = c.output; of = c.of; at = plain_place c.at }

abbrev pub plain_lent : LentClaim → Counted
plain_lent c = record { source = plain_source c.source; output = c.output; of = c.of; at = plain_place c.at }
