-- How a report writes partitions and places as JSON (RFC 8259, sections 3 to 7). The members' names are this project's own.
use Rattle.std.specs.Prelude.{ℕ, ℤ, List, codes}
use Rattle.serde_json.specs.Data.{Data, Members, no_members, object, put}
use Rattle.eos_manifest.specs.Objects.{count, integer, text_value}
use Rattle.eos_claims.specs.declared.place.Place.{Place}

-- the members with those of a partition, and with those of a place in one
unfoldable pub with_partition : List ℕ → ℤ → Members → Members
with_partition topic partition ms = put (codes "topic") (text_value topic) (put (codes "partition") (integer partition) ms)

unfoldable pub with_place : List ℕ → ℤ → ℕ → Members → Members
with_place topic partition offset ms = put (codes "offset") (count offset) (with_partition topic partition ms)

-- a place, as an object
unfoldable pub place_value : Place → Data
place_value p = object (with_place p.partition.topic p.partition.partition p.offset no_members)
