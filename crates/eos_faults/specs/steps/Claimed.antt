-- The claim in a record's headers, with where it stands.
use Rattle.std.specs.Prelude.{Option}
use Rattle.eos_claims.specs.declared.place.Place.{Place}
use Rattle.eos_claims.specs.declared.claim.ClaimRef.{ClaimRef}
use Rattle.eos_claims.specs.Outputs.{Writer, PlacedClaim}

abbrev pub claimed : ClaimRef → Place → Option Writer → PlacedClaim
claimed c at w = record { source = record { partition = record { topic = c.topic.now; partition = c.partition }; offset = c.offset }; output = c.output; of = c.of; at = at; writer = w }
