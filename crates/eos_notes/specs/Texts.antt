-- How a note is printed. Topics and groups are escaped as in a verdict's line.
use Rattle.std.specs.Prelude.{ℕ, List, ◌++◌, codes, flat_map}
use Rattle.std.specs.Fmt.{decimal, signed_decimal}
use Rattle.eos_text.specs.Escaping.{escaped}
use Rattle.eos_notes.specs.ManifestNotes.{internal_name}
use Rattle.eos_notes.specs.declared.note.Note.{Note}
use Rattle.eos_notes.specs.declared.note.Note.TheVariants.{NoApplication, Unlisted, PastEnd, NoPartition, Gap, NothingCommitted, NoInternal, Behind, EpochFalls, OtherEpoch}

unfoldable pub note_text : Note → List ℕ
note_text NoApplication = codes "no application is named: outputs and committed offsets aren't judged"
note_text (Unlisted p group) = escaped p.topic ++ ((codes "-" ++ signed_decimal p.partition) ++ ((codes " isn't in ends, but group " ++ escaped group) ++ codes " committed an offset of it"))
note_text (PastEnd group offset p end) =
    (codes "group " ++ escaped group) ++ ((codes " committed offset " ++ signed_decimal offset)
    ++ ((codes " of " ++ escaped p.topic) ++ ((codes "-" ++ signed_decimal p.partition) ++ (codes ", past its end " ++ signed_decimal end))))
note_text (NoPartition topic group) = (codes "topic " ++ escaped topic) ++ ((codes " of group " ++ escaped group) ++ codes " has no partition in ends")
note_text (Gap topic n) = (codes "topic " ++ escaped topic) ++ ((codes " has no partition " ++ decimal n) ++ codes " in ends, but one of a greater number")
note_text (NothingCommitted group) = (codes "group " ++ escaped group) ++ codes " committed no offset of its sources"
note_text (NoInternal topic) = (codes "no partition of " ++ internal_name topic) ++ codes " is in ends"
note_text (Behind group below inputs) =
    (codes "group " ++ escaped group) ++ ((codes " is behind: " ++ decimal below) ++ ((codes " of " ++ decimal inputs) ++ codes " visible inputs are below its committed offsets"))
note_text (EpochFalls p offset) = (codes "the leader epoch falls at " ++ escaped p.topic) ++ ((codes "-" ++ signed_decimal p.partition) ++ (codes ":" ++ decimal offset))
note_text (OtherEpoch o) =
    (codes "group " ++ escaped o.group) ++ ((codes " committed offset " ++ signed_decimal o.offset)
    ++ ((codes " of " ++ escaped o.partition.topic) ++ ((codes "-" ++ signed_decimal o.partition.partition)
    ++ ((codes " under leader epoch " ++ signed_decimal o.named) ++ (codes ", but the record before it is of epoch " ++ signed_decimal o.found)))))

-- the line on standard error
unfoldable pub note_line : Note → List ℕ
note_line note = codes "eoscheck: note: " ++ (note_text note ++ codes "\n")

-- one after the other
abbrev pub note_lines : List Note → List ℕ
note_lines notes = flat_map note_line notes
