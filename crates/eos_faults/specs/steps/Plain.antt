-- What values with lent names stand for.
use Rattle.std.specs.Prelude.{option_map}
use Rattle.std.specs.declared.cmp.Ordering.{Ordering}
use Rattle.eos_base.specs.declared.partition_name.PartitionName.{PartitionName}
use Rattle.eos_base.specs.PartitionNames.{name_cmp}
use Rattle.eos_claims.specs.declared.place.Place.{Place}
use Rattle.eos_claims.specs.declared.fault.OutputFault.{OutputFault}
use Rattle.eos_claims.specs.Outputs.{PlacedClaim}
use Rattle.eos_faults.specs.declared.lent.LentName.{LentName}
use Rattle.eos_faults.specs.declared.lent.LentPlace.{LentPlace}
use Rattle.eos_faults.specs.declared.lent.VisibleClaim.{VisibleClaim}
use Rattle.eos_faults.specs.declared.lent.LentFault.{LentFault}

abbrev pub name_at : LentName → PartitionName
name_at n = record { topic = n.topic.now; partition = n.partition }

abbrev pub place_at : LentPlace → Place
place_at p = record { partition = name_at p.partition; offset = p.offset }

abbrev pub claim_at : VisibleClaim → PlacedClaim
claim_at c = record { source = place_at c.source; output = c.output; of = c.of; at = place_at c.at; writer = c.writer }

abbrev pub fault_of : LentFault → OutputFault
fault_of f = record { source = place_at f.source; output = f.output; kind = f.kind; at = option_map place_at f.at }

abbrev pub by_name : LentName → LentName → Ordering
by_name n m = name_cmp (name_at n) (name_at m)
