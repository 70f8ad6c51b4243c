-- The lines of batches.
use Rattle.std.specs.Prelude.{ℕ, List, [], ◌++◌, Option, Some, None, codes, if◌then◌else◌}
use Rattle.std.specs.Fmt.{decimal, signed_decimal}
use Rattle.eos_base.specs.declared.partition_name.PartitionName.{PartitionName}
use Rattle.eos_batch.specs.declared.head.BatchHead.{BatchHead}
use Rattle.eos_batch.specs.declared.marker.Kind.{Kind}
use Rattle.eos_batch.specs.declared.marker.Kind.TheVariants.{Commit, Abort}
use Rattle.eos_batch.specs.declared.marker.Marker.{Marker}
use Rattle.eos_claims.specs.declared.place.Place.{Place}
use Rattle.eos_sought.specs.declared.partition.Placed.{Placed}
use Rattle.eos_sought.specs.declared.wanted.Wanted.{Wanted}
use Rattle.eos_sought.specs.declared.wanted.Wanted.TheVariants.{Holding, Between, Of, Ending, Marking, Data, Open}
use Rattle.eos_verdict.specs.FaultTexts.{name_text}
use Rattle.eos_story.specs.Places.{at_text, spot_text, is_there, mark_of}

abbrev pub kind_role : Wanted → List ℕ
kind_role (Holding offset) = codes " before   "
kind_role (Between from to) = codes " between  "
kind_role (Of producer) = codes " touch    "
kind_role (Ending producer from) = codes " marker   "
kind_role (Marking producer epoch) = codes " marker   "
kind_role (Data producer epoch) = codes " data     "
kind_role (Open producer from) = codes " open     "

abbrev pub end_kind : Kind → List ℕ
end_kind Commit = codes " COMMIT"
end_kind Abort = codes " ABORT"

abbrev pub end_text : Option Marker → List ℕ
end_text None = codes " control"
end_text (Some m) = end_kind m.kind

abbrev pub data_text : BatchHead → List ℕ
data_text h = (codes " sequence=" ++ signed_decimal h.sequence) ++ ((codes " records=" ++ decimal h.count) ++ (if h.is_transactional then codes " transactional" else []))

abbrev pub content_text : BatchHead → List ℕ
content_text h = if h.is_control then end_text h.marker else data_text h

unfoldable pub touch_text : BatchHead → List ℕ
touch_text h = (codes " producer=" ++ signed_decimal h.producer) ++ ((codes " epoch=" ++ signed_decimal h.epoch) ++ content_text h)

unfoldable pub batch_line : Option Place → PartitionName → Wanted → Placed → List ℕ
batch_line fault name wanted p =
    (mark_of (is_there fault name p.standing.head.offset) (kind_role wanted) ++ at_text name p.standing.head.offset)
    ++ (spot_text (Some p) ++ (touch_text p.standing.head ++ codes "\n"))

-- ---- where there is none

abbrev pub no_batch_text : Wanted → List ℕ
no_batch_text (Holding offset) = codes " has none that holds " ++ decimal offset
no_batch_text (Between from to) = codes " has none"
no_batch_text (Of producer) = codes " has none of producer=" ++ signed_decimal producer
no_batch_text (Ending producer from) = codes " HAS NONE of producer=" ++ signed_decimal producer
no_batch_text (Marking producer epoch) = (codes " HAS NONE of producer=" ++ signed_decimal producer) ++ (codes " epoch=" ++ signed_decimal epoch)
no_batch_text (Data producer epoch) = (codes " has none of producer=" ++ signed_decimal producer) ++ (codes " epoch=" ++ signed_decimal epoch)
no_batch_text (Open producer from) = codes " has none of producer=" ++ signed_decimal producer

unfoldable pub no_batch_line : PartitionName → Wanted → List ℕ
no_batch_line name wanted = (kind_role wanted ++ name_text name.topic name.partition) ++ (no_batch_text wanted ++ codes "\n")
