-- A note as a JSON object: its kind, and what its line says.
use Rattle.std.specs.Prelude.{codes}
use Rattle.serde_json.specs.Data.{Data, Members, no_members, object, string, put}
use Rattle.eos_notes.specs.ManifestNotes.{internal_name}
use Rattle.eos_notes.specs.declared.note.Note.{Note}
use Rattle.eos_notes.specs.declared.note.Note.TheVariants.{NoApplication, Unlisted, PastEnd, NoPartition, Gap, NothingCommitted, NoInternal, Behind, EpochFalls, OtherEpoch}
use Rattle.eos_manifest.specs.Objects.{text_value, count, integer}
use Rattle.eos_report.specs.Values.{with_partition}

unfoldable pub with_note : Note → Members → Members
with_note NoApplication ms = put (codes "kind") (string (codes "NoApplication")) ms
with_note (Unlisted p group) ms = with_partition p.topic p.partition (put (codes "group") (text_value group) (put (codes "kind") (string (codes "Unlisted")) ms))
with_note (PastEnd group offset p end) ms =
    put (codes "end") (integer end) (put (codes "offset") (integer offset)
    (with_partition p.topic p.partition (put (codes "group") (text_value group) (put (codes "kind") (string (codes "PastEnd")) ms))))
with_note (NoPartition topic group) ms = put (codes "topic") (text_value topic) (put (codes "group") (text_value group) (put (codes "kind") (string (codes "NoPartition")) ms))
with_note (Gap topic n) ms = put (codes "partition") (count n) (put (codes "topic") (text_value topic) (put (codes "kind") (string (codes "Gap")) ms))
with_note (NothingCommitted group) ms = put (codes "group") (text_value group) (put (codes "kind") (string (codes "NothingCommitted")) ms)
with_note (NoInternal topic) ms = put (codes "topic") (string (internal_name topic)) (put (codes "kind") (string (codes "NoInternal")) ms)
with_note (Behind group below inputs) ms =
    put (codes "inputs") (count inputs) (put (codes "below") (count below) (put (codes "group") (text_value group) (put (codes "kind") (string (codes "Behind")) ms)))
with_note (EpochFalls p offset) ms = put (codes "offset") (count offset) (with_partition p.topic p.partition (put (codes "kind") (string (codes "EpochFalls")) ms))
with_note (OtherEpoch o) ms =
    put (codes "record_epoch") (integer o.found) (put (codes "committed_epoch") (integer o.named) (put (codes "offset") (integer o.offset)
    (with_partition o.partition.topic o.partition.partition (put (codes "group") (text_value o.group) (put (codes "kind") (string (codes "OtherEpoch")) ms)))))

unfoldable pub note_value : Note → Data
note_value note = object (with_note note no_members)
