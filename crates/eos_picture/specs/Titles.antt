-- What is told of a mark where a pointer rests on it: its place, what it is, of which transaction it is, when its record was written, and
-- whether it is a place of the fault.
use Rattle.std.specs.Prelude.{ℕ, ℤ, List, [], ◌∷◌, ◌++◌, Option, None, Some, Bool, true, false, ◌==◌, nat_lt, int_lt, codes, if◌then◌else◌}
use Rattle.std.specs.Fmt.{decimal, signed_decimal}
use Rattle.std.specs.Ordering.{int_eq}
use Rattle.eos_base.specs.declared.partition_name.PartitionName.{PartitionName}
use Rattle.eos_batch.specs.declared.marker.Kind.{Kind}
use Rattle.eos_batch.specs.declared.marker.Kind.TheVariants.{Commit, Abort}
use Rattle.eos_fold.specs.declared.item.Fate.{Fate}
use Rattle.eos_fold.specs.declared.item.Fate.TheVariants as fates
use Rattle.eos_picture.specs.declared.mark.Column.{Column}
use Rattle.eos_picture.specs.declared.mark.Decided.{Decided}
use Rattle.eos_picture.specs.declared.mark.Mark.{Mark}
use Rattle.eos_picture.specs.declared.mark.Sign.{Sign}
use Rattle.eos_picture.specs.declared.mark.Sign.TheVariants as signs
use Rattle.eos_sought.specs.Moments.{time_text}
use Rattle.eos_text.specs.Escaping.{escaped}

-- ---- the place

-- the offset at which the mark's record stands, if it is known
abbrev pub sign_offset : Sign → Option ℕ → Option ℕ
sign_offset (signs.Decision offset kind) at = Some offset
sign_offset (signs.Record offset fate) at = Some offset
sign_offset (signs.Commit offset fate source committed) at = Some offset
sign_offset (signs.Passed fate from to) at = None
sign_offset (signs.Marker kind count) at = at
sign_offset (signs.Missing kind) at = None
sign_offset (signs.Spot offset) at = offset

abbrev pub mark_offset : Mark → Option ℕ
mark_offset m = sign_offset m.sign m.offset

abbrev pub offset_text : Option ℕ → List ℕ
offset_text None = codes " "
offset_text (Some offset) = (codes ":" ++ decimal offset) ++ codes " "

unfoldable pub place_text : PartitionName → Option ℕ → List ℕ
place_text name offset = (codes "" ++ escaped name.topic) ++ ((codes "-" ++ signed_decimal name.partition) ++ offset_text offset)

-- ---- what it is

abbrev pub kind_words : Kind → List ℕ
kind_words Commit = codes "COMMIT"
kind_words Abort = codes "ABORT"

-- in a cell in which an end marker is missing, or not
abbrev pub fate_words : Fate → Bool → List ℕ
fate_words fates.Plain lacks = codes "of no transaction"
fate_words fates.Committed false = codes "committed"
fate_words fates.Committed true = codes "open: its own end marker is missing (a later one commits it for readers)"
fate_words fates.Aborted false = codes "aborted"
fate_words fates.Aborted true = codes "open: its own end marker is missing (a later one aborts it for readers)"
fate_words (fates.Waiting producer) lacks = codes "open: no end marker follows"

-- the offsets that a commit passed
abbrev pub passed_text : ℤ → ℤ → List ℕ
passed_text from to =
    if int_eq from to then codes "at " ++ signed_decimal to
    else if int_lt from to then (codes "[" ++ signed_decimal from) ++ ((codes "," ++ signed_decimal to) ++ codes ")")
    else (codes "" ++ signed_decimal from) ++ (codes " back to " ++ signed_decimal to)

abbrev pub times_text : ℕ → List ℕ
times_text count = if nat_lt 1 count then (codes ", " ++ decimal count) ++ codes " times" else []

unfoldable pub commit_text : PartitionName → ℤ → List ℕ
commit_text source committed = (codes "commit of " ++ escaped source.topic) ++ ((codes "-" ++ signed_decimal source.partition) ++ ((codes " at " ++ signed_decimal committed) ++ codes ", "))

abbrev pub sign_text : Sign → Bool → List ℕ
sign_text (signs.Decision offset kind) lacks = codes "Prepare record: " ++ kind_words kind
sign_text (signs.Record offset fate) lacks = codes "data record, " ++ fate_words fate lacks
sign_text (signs.Commit offset fate source committed) lacks = commit_text source committed ++ fate_words fate lacks
sign_text (signs.Passed fate from to) lacks = codes "inputs passed by its commit: " ++ (passed_text from to ++ (codes ", " ++ fate_words fate false))
sign_text (signs.Marker kind count) lacks = (codes "end marker " ++ kind_words kind) ++ times_text count
sign_text (signs.Missing kind) lacks = codes "missing: the end marker " ++ kind_words kind
sign_text (signs.Spot offset) lacks = codes "what stands or is missing here"

-- ---- of which transaction

abbrev pub decided_text : Option Decided → List ℕ
decided_text None = []
decided_text (Some d) = codes " of " ++ escaped d.id

abbrev pub column_text : Option Column → List ℕ
column_text None = codes ", of none of these transactions"
column_text (Some c) = (codes ", pid " ++ signed_decimal c.producer) ++ ((codes " epoch " ++ signed_decimal c.epoch) ++ decided_text c.decided)

-- ---- when

abbrev pub time_at : List (ℕ × ℤ) → Option ℕ → Option ℤ
time_at times None = None
time_at [] (Some offset) = None
time_at (t ∷ ts) (Some offset) = if t.0 == offset then Some t.1 else time_at ts (Some offset)

abbrev pub when_text : Option ℤ → List ℕ
when_text None = []
when_text (Some time) = codes ", at " ++ time_text time

abbrev pub fault_text : Bool → List ℕ
fault_text false = []
fault_text true = codes "; a place of the fault"

-- ---- all of it

unfoldable pub title_of : PartitionName → Option Column → Option ℤ → Bool → Mark → List ℕ
title_of name column time lacks m =
    place_text name (mark_offset m) ++ (sign_text m.sign lacks ++ (column_text column ++ (when_text time ++ fault_text m.is_of_fault)))
