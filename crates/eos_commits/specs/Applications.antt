-- What each application reads, commits and writes, as the logs have it (KIP-98, "Transactional Guarantees"; KIP-447). Only
-- visible records count.
use Rattle.std.specs.Prelude.{ℕ, Bool, List, [], ◌∷◌, map, filter, flat_map, Option, Some, None}
use Rattle.std.specs.Ordering.{nat_cmp}
use Rattle.std.specs.Cmp.Lexicographic.{slice_cmp}
use Rattle.eos_base.specs.Members.{is_found}
use Rattle.eos_base.specs.declared.partition_name.PartitionName.{PartitionName}
use Rattle.eos_evidence.specs.declared.application.App.{App}
use Rattle.eos_fold.specs.declared.item.Item.{Item}
use Rattle.eos_fold.specs.Parts.{part_name, PartLog}
use Rattle.eos_claims.specs.declared.place.Place.{Place}
use Rattle.eos_claims.specs.declared.claim.Claim.{Claim}
use Rattle.eos_claims.specs.Headers.{claim_of}
use Rattle.eos_claims.specs.Outputs.{PlacedClaim, Application}
use Rattle.eos_claims.specs.Candidates.{is_committed}
use Rattle.eos_commits.specs.Visible.{visible}
use Rattle.eos_commits.specs.Commits.{commits_of}

abbrev pub Topic : Type 0
Topic = List ℕ

abbrev pub is_part_of : List Topic → PartLog → Bool
is_part_of topics p = is_found (slice_cmp nat_cmp) topics p.topic

-- the partitions of these topics
abbrev pub parts_of : List Topic → List PartLog → List PartLog
parts_of topics ps = filter (is_part_of topics) ps

-- the place of a record of the partition of this name
abbrev pub place_in : PartitionName → Item → Place
place_in n x = record { partition = n; offset = x.offset }

-- the visible records of a source topic's partition
abbrev pub inputs_in : PartLog → List Place
inputs_in p = map (place_in (part_name p)) (visible p)

abbrev pub placed : PartitionName → Item → Claim → PlacedClaim
placed n x c = record {
  source = record { partition = record { topic = c.topic; partition = c.partition }; offset = c.offset };
  output = c.output;
  of = c.of;
  at = place_in n x;
  writer = x.writer;
}

abbrev pub claims_with : PartitionName → Item → Option Claim → List PlacedClaim
claims_with n x None = []
claims_with n x (Some c) = placed n x c ∷ []

-- the claim that a record of an output topic's partition is, if it is one
abbrev pub claims_at : PartitionName → Item → List PlacedClaim
claims_at n x = claims_with n x (claim_of x.headers)

abbrev pub claims_in : PartLog → List PlacedClaim
claims_in p = flat_map (claims_at (part_name p)) (visible p)

-- what an application reads, commits and writes: its group's commits of its own sources, its own outputs' claims
abbrev pub application_of : App → List PartLog → Application
application_of app ps = record {
  sources = app.sources;
  inputs = flat_map inputs_in (parts_of app.sources ps);
  commits = commits_of app.group app.sources ps;
  claims = flat_map claims_in (parts_of app.outputs ps);
}

-- its inputs below their committed offsets
abbrev pub inputs_below : Application → List Place
inputs_below a = filter (is_committed a) a.inputs
