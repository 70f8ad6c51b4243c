-- The tables of a report as JSON: how much each partition holds, and how far each application's group has got.
use Rattle.std.specs.Prelude.{ℕ, List, codes, map, Option, None, Some}
use Rattle.serde_json.specs.Data.{Data, Members, no_members, Items, null, boolean, object, array, put}
use Rattle.serde_json.specs.View.{items_of}
use Rattle.eos_notes.specs.declared.tally.TopicRoles.{TopicRoles}
use Rattle.eos_notes.specs.declared.tally.PartitionTally.{PartitionTally}
use Rattle.eos_notes.specs.declared.tally.SourceTally.{SourceTally}
use Rattle.eos_notes.specs.declared.tally.GroupTally.{GroupTally}
use Rattle.eos_notes.specs.declared.tally.Tallies.{Tallies}
use Rattle.eos_manifest.specs.Objects.{text_value, count, integer}
use Rattle.eos_report.specs.Values.{with_partition}

-- what the topic is
unfoldable pub with_roles : TopicRoles → Members → Members
with_roles r ms =
    put (codes "transaction_log") (boolean r.transaction_log) (put (codes "offsets_log") (boolean r.offsets_log)
    (put (codes "output") (boolean r.output) (put (codes "source") (boolean r.source) ms)))

unfoldable pub roles_value : TopicRoles → Data
roles_value r = object (with_roles r no_members)

-- null where it isn't known
abbrev pub visible_value : Option ℕ → Data
visible_value None = null
visible_value (Some n) = count n

unfoldable pub with_sizes : PartitionTally → Members → Members
with_sizes t ms =
    put (codes "bytes") (count t.bytes) (put (codes "segments") (count t.segments) (put (codes "visible_records") (visible_value t.visible_records)
    (put (codes "data_records") (count t.data_records) (put (codes "batches") (count t.batches) ms))))

unfoldable pub with_tally : PartitionTally → Members → Members
with_tally t ms = with_sizes t (put (codes "end") (integer t.end) (put (codes "roles") (roles_value t.roles) (with_partition t.topic t.partition ms)))

unfoldable pub partition_value : PartitionTally → Data
partition_value t = object (with_tally t no_members)

unfoldable pub with_source : SourceTally → Members → Members
with_source t ms =
    put (codes "visible_inputs_below") (count t.visible_inputs_below) (put (codes "end") (integer t.end)
    (put (codes "committed") (integer t.committed) (with_partition t.topic t.partition ms)))

unfoldable pub source_value : SourceTally → Data
source_value t = object (with_source t no_members)

abbrev pub source_items : List SourceTally → Items
source_items ts = items_of (map source_value ts)

unfoldable pub with_group_tally : GroupTally → Members → Members
with_group_tally t ms = put (codes "sources") (array (source_items t.sources)) (put (codes "group") (text_value t.group) ms)

unfoldable pub group_value : GroupTally → Data
group_value t = object (with_group_tally t no_members)

abbrev pub group_items : List GroupTally → Items
group_items ts = items_of (map group_value ts)

-- null where it isn't known which records are visible
abbrev pub groups_value : Option (List GroupTally) → Data
groups_value None = null
groups_value (Some ts) = array (group_items ts)

abbrev pub partition_items : List PartitionTally → Items
partition_items ts = items_of (map partition_value ts)

-- both tables
unfoldable pub with_tallies : Tallies → Members → Members
with_tallies t ms = put (codes "groups") (groups_value t.groups) (put (codes "partitions") (array (partition_items t.partitions)) ms)
