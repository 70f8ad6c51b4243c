-- The lines of data records.
use Rattle.std.specs.Prelude.{ℕ, ℤ, pos, List, [], ◌++◌, Option, Some, None, codes, if◌then◌else◌}
use Rattle.std.specs.Fmt.{decimal, signed_decimal}
use Rattle.std.specs.Bool.{nat_eq}
use Rattle.std.specs.Cmp.Lexicographic.{pointwise}
use Rattle.eos_batch.specs.declared.record.Record.{Record}
use Rattle.eos_claims.specs.declared.place.Place.{Place}
use Rattle.eos_segment.specs.declared.reading.Reading.{Reading}
use Rattle.eos_segment.specs.declared.reading.Reading.TheVariants.{Outputs, Transactions, Offsets}
use Rattle.eos_segment.specs.Decoding.{decoded_line}
use Rattle.eos_fold.specs.declared.item.Fate.{Fate}
use Rattle.eos_fold.specs.declared.item.Fate.TheVariants.{Plain, Committed, Aborted, Waiting}
use Rattle.eos_fold.specs.declared.item.Item.{Item}
use Rattle.eos_sought.specs.declared.partition.Placed.{Placed}
use Rattle.eos_sought.specs.declared.finding.Find.{Find}
use Rattle.eos_sought.specs.declared.sought.Sought.{Sought}
use Rattle.eos_sought.specs.declared.sought.Sought.TheVariants.{At, Claiming, Hidden, Alike, OfId, Before, OfProducer, Within, Deciding, OfGroup, Passing, UpTo, Passed}
use Rattle.eos_text.specs.Escaping.{escaped}
use Rattle.eos_story.specs.Places.{at_text, spot_text, is_there, mark_of}

abbrev pub role_of : Sought → List ℕ
role_of (At place) = codes " record   "
role_of (Claiming place) = codes " claim    "
role_of (Hidden place) = codes " unseen   "
role_of (Alike place output) = codes " alike    "
role_of (OfId id) = codes " state    "
role_of (Before id place) = codes " state    "
role_of (OfProducer producer) = codes " state    "
role_of (Within epochs) = codes " state    "
role_of (Deciding producer epoch) = codes " decided  "
role_of (OfGroup group) = codes " commit   "
role_of (Passing group place) = codes " commit   "
role_of (UpTo group place) = codes " commit   "
role_of (Passed place) = codes " commit   "

-- as what a record is read
abbrev pub reading_at : List ℕ → Option Reading
reading_at topic = if pointwise nat_eq topic (codes "__transaction_state") then Some Transactions else (if pointwise nat_eq topic (codes "__consumer_offsets") then Some Offsets else None)

abbrev pub reading_of : Sought → List ℕ → Option Reading
reading_of (At place) topic = reading_at topic
reading_of (Claiming place) topic = Some Outputs
reading_of (Hidden place) topic = Some Outputs
reading_of (Alike place output) topic = Some Outputs
reading_of (OfId id) topic = Some Transactions
reading_of (Before id place) topic = Some Transactions
reading_of (OfProducer producer) topic = Some Transactions
reading_of (Within epochs) topic = Some Transactions
reading_of (Deciding producer epoch) topic = Some Transactions
reading_of (OfGroup group) topic = Some Offsets
reading_of (Passing group place) topic = Some Offsets
reading_of (UpTo group place) topic = Some Offsets
reading_of (Passed place) topic = Some Offsets

-- who wrote it, in a transaction, and what became of that
abbrev pub writer_text : Option (ℤ × ℤ) → List ℕ
writer_text None = []
writer_text (Some w) = (codes " producer=" ++ signed_decimal w.0) ++ (codes " epoch=" ++ signed_decimal w.1)

abbrev pub fate_text : Fate → List ℕ
fate_text Plain = []
fate_text Committed = codes " committed"
fate_text Aborted = codes " aborted"
fate_text (Waiting producer) = codes " open"

-- what it says
abbrev pub record_of : Item → Record
record_of x = record { attributes = pos 0; timestamp_delta = pos 0; key = x.key; value = x.value; headers = x.headers }

abbrev pub said_text : Option Reading → Item → List ℕ
said_text None x = codes "\n"
said_text (Some reading) x = decoded_line reading (record_of x)

unfoldable pub record_line : Option Place → Sought → Find → Option Placed → List ℕ
record_line fault sought f spot =
    (mark_of (is_there fault f.partition f.item.offset) (role_of sought) ++ at_text f.partition f.item.offset)
    ++ (spot_text spot ++ (writer_text f.item.writer ++ (fate_text f.item.fate ++ said_text (reading_of sought f.partition.topic) f.item)))

-- ---- where there is none

abbrev pub absent_text : Sought → List ℕ
absent_text (At place) = codes "none at " ++ at_text place.partition place.offset
absent_text (Claiming place) = codes "none that is visible names " ++ at_text place.partition place.offset
absent_text (Hidden place) = codes "none names " ++ at_text place.partition place.offset
absent_text (Alike place output) = (codes "none is like " ++ at_text place.partition place.offset) ++ (codes " output " ++ decimal output)
absent_text (OfId id) = codes "none of id " ++ escaped id
absent_text (Before id place) = (codes "none of id " ++ escaped id) ++ (codes " before " ++ at_text place.partition place.offset)
absent_text (OfProducer producer) = codes "none of producer " ++ signed_decimal producer
absent_text (Within epochs) = (codes "none of producer " ++ signed_decimal epochs.producer) ++ ((codes " from epoch " ++ signed_decimal epochs.from) ++ (codes " to " ++ signed_decimal epochs.to))
absent_text (Deciding producer epoch) = (codes "nothing of producer " ++ signed_decimal producer) ++ (codes " with marker epoch " ++ signed_decimal epoch)
absent_text (OfGroup group) = codes "none of group " ++ escaped group
absent_text (Passing group place) = (codes "none of group " ++ escaped group) ++ (codes " goes past " ++ at_text place.partition place.offset)
absent_text (UpTo group place) = (codes "none of group " ++ escaped group) ++ (codes " is at or below " ++ at_text place.partition place.offset)
absent_text (Passed place) = codes "none goes past " ++ at_text place.partition place.offset

unfoldable pub no_record_line : Sought → List ℕ
no_record_line sought = role_of sought ++ (absent_text sought ++ codes "\n")
