-- The tables of a page: how much each partition holds, and how far each application's group has got.
use Rattle.std.specs.Prelude.{ℕ, ℤ, List, [], ◌++◌, Bool, codes, Option, None, Some, if◌then◌else◌}
use Rattle.std.specs.List.{flat_map}
use Rattle.std.specs.Fmt.{decimal, signed_decimal}
use Rattle.eos_notes.specs.declared.tally.TopicRoles.{TopicRoles}
use Rattle.eos_notes.specs.declared.tally.PartitionTally.{PartitionTally}
use Rattle.eos_notes.specs.declared.tally.SourceTally.{SourceTally}
use Rattle.eos_notes.specs.declared.tally.GroupTally.{GroupTally}
use Rattle.eos_notes.specs.declared.tally.Tallies.{Tallies}
use Rattle.eos_text.specs.Escaping.{escaped}

-- ---- cells

-- a partition's name, which has no markup
unfoldable pub name_cell : List ℕ → ℤ → List ℕ
name_cell topic partition = (codes "<td>" ++ escaped topic) ++ ((codes "-" ++ signed_decimal partition) ++ codes "</td>")

unfoldable pub count_cell : ℕ → List ℕ
count_cell n = (codes "<td>" ++ decimal n) ++ codes "</td>"

unfoldable pub offset_cell : ℤ → List ℕ
offset_cell n = (codes "<td>" ++ signed_decimal n) ++ codes "</td>"

-- what isn't known is said so
abbrev pub visible_cell : Option ℕ → List ℕ
visible_cell None = codes "<td>not known</td>"
visible_cell (Some n) = count_cell n

-- what the topic is
abbrev pub word_if : Bool → List ℕ → List ℕ
word_if is word = if is then word else []

unfoldable pub roles_cell : TopicRoles → List ℕ
roles_cell r =
    codes "<td>" ++ (word_if r.source (codes "source ") ++ (word_if r.output (codes "output ")
    ++ (word_if r.offsets_log (codes "offsets ") ++ (word_if r.transaction_log (codes "transactions ") ++ codes "</td>"))))

-- ---- partitions

unfoldable pub sizes_cells : PartitionTally → List ℕ
sizes_cells t =
    count_cell t.batches ++ (count_cell t.data_records ++ (visible_cell t.visible_records ++ (count_cell t.segments ++ count_cell t.bytes)))

unfoldable pub partition_row : PartitionTally → List ℕ
partition_row t = codes "<tr>" ++ (name_cell t.topic t.partition ++ (roles_cell t.roles ++ (offset_cell t.end ++ (sizes_cells t ++ codes "</tr>\n"))))

unfoldable pub partitions_text : Tallies → List ℕ
partitions_text t =
    codes "<h2>Partitions</h2>\n<div><table>\n<tr><th>Partition</th><th>Is</th><th>End</th><th>Batches</th><th>Records</th><th>Visible</th><th>Segments</th><th>Bytes</th></tr>\n"
    ++ (flat_map partition_row t.partitions ++ codes "</table></div>\n")

-- ---- groups

unfoldable pub group_cell : List ℕ → List ℕ
group_cell group = (codes "<tr><td>" ++ escaped group) ++ codes "</td>"

unfoldable pub source_row : List ℕ → SourceTally → List ℕ
source_row group t =
    group_cell group ++ (name_cell t.topic t.partition ++ (offset_cell t.committed ++ (offset_cell t.end ++ (count_cell t.visible_inputs_below ++ codes "</tr>\n"))))

abbrev pub group_rows : GroupTally → List ℕ
group_rows t = flat_map (source_row t.group) t.sources

abbrev pub known_groups : Option (List GroupTally) → List ℕ
known_groups None = codes "<tr><td colspan=\"5\">not known, since the log of a partition has a fault of its own</td></tr>\n"
known_groups (Some ts) = flat_map group_rows ts

unfoldable pub groups_text : Tallies → List ℕ
groups_text t =
    codes "<h2>Groups</h2>\n<div><table>\n<tr><th>Group</th><th>Source</th><th>Committed</th><th>End</th><th>Visible inputs below</th></tr>\n"
    ++ (known_groups t.groups ++ codes "</table></div>\n")
