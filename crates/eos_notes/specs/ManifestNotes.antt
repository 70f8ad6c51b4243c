-- Signs in the manifest alone that the evidence isn't the one that was meant: topics that an application reads or writes (KIP-447)
-- and Kafka's internal topics (KIP-98), of which partitions are missing among those whose ends are declared, or that there is no
-- application. What isn't there isn't judged.
use Rattle.std.specs.Prelude.{ℕ, zero, suc, ℤ, pos, Bool, not, ◌&&◌, List, [], ◌∷◌, ◌++◌, length, map, filter, flat_map, bytes_eq, codes, int_lt, Option, Some, None, if◌then◌else◌}
use Rattle.std.specs.List.{list_any}
use Rattle.std.specs.Ordering.{nat_cmp, int_eq}
use Rattle.std.specs.Cmp.Lexicographic.{slice_cmp}
use Rattle.eos_base.specs.Members.{is_found}
use Rattle.eos_evidence.specs.declared.application.App.{App}
use Rattle.eos_evidence.specs.declared.ends.End.{End}
use Rattle.eos_commits.specs.Commits.{Group, Topic}
use Rattle.eos_notes.specs.declared.note.InternalTopic.{InternalTopic}
use Rattle.eos_notes.specs.declared.note.InternalTopic.TheVariants.{ConsumerOffsets, TransactionState}
use Rattle.eos_notes.specs.declared.note.Note.{Note}
use Rattle.eos_notes.specs.declared.note.Note.TheVariants.{NoApplication, NoPartition, Gap, NoInternal}

-- ---- no application is named

abbrev pub no_application : List App → List Note
no_application [] = NoApplication ∷ []
no_application (app ∷ apps) = []

-- a partition of this topic has a declared end
abbrev pub has_partition : List End → Topic → Bool
has_partition ends topic = is_found (slice_cmp nat_cmp) (map (λ e. e.topic) ends) topic

-- ---- topic T of group G has no partition in ends

-- the topics that an application reads, and then those that it writes
abbrev pub topics_of : App → List Topic
topics_of app = app.sources ++ app.outputs

-- by the test of which topics have a partition
abbrev pub absent_topic : (Topic → Bool) → Group → Topic → List Note
absent_topic has group topic = if has topic then [] else NoPartition topic group ∷ []

abbrev pub absent_in : (Topic → Bool) → App → List Note
absent_in has app = flat_map (absent_topic has app.group) (topics_of app)

-- one application after the other
abbrev pub absent_topics : List End → List App → List Note
absent_topics ends apps = flat_map (absent_in (has_partition ends)) apps

-- ---- topic T has no partition N in ends, but one of a greater number

-- an application reads or writes it
abbrev pub is_used : List App → Topic → Bool
is_used apps topic = is_found (slice_cmp nat_cmp) (flat_map topics_of apps) topic

-- no partition of its topic has a lesser number
abbrev pub is_lesser : End → End → Bool
is_lesser e d = bytes_eq d.topic e.topic && int_lt d.partition e.partition

abbrev pub is_least : List End → End → Bool
is_least ends e = not (list_any (is_lesser e) ends)

-- the numbers of a topic's partitions
abbrev pub numbers_of : List End → Topic → List ℤ
numbers_of ends topic = map (λ e. e.partition) (filter (λ e. bytes_eq e.topic topic) ends)

-- not one of the numbers, but one of them is greater
abbrev pub is_gap : List ℤ → ℕ → Bool
is_gap numbers n = not (list_any (int_eq (pos n)) numbers) && list_any (int_lt (pos n)) numbers

-- the least of so many numbers, from one on, of which the test holds
abbrev pub least_from : (ℕ → Bool) → ℕ → ℕ → Option ℕ
least_from test zero n = None
least_from test (suc count) n = if test n then Some n else least_from test count (suc n)

-- The least gap. Where there is one, the numbers below it are among these, so it is below their count.
abbrev pub least_gap : List ℤ → Option ℕ
least_gap numbers = least_from (is_gap numbers) (length numbers) 0

abbrev pub gap_note : Topic → Option ℕ → List Note
gap_note topic None = []
gap_note topic (Some n) = Gap topic n ∷ []

-- of each topic once, at its least partition, by the test of which topics are used
abbrev pub gap_at : (Topic → Bool) → List End → End → List Note
gap_at used ends e = if used e.topic && is_least ends e then gap_note e.topic (least_gap (numbers_of ends e.topic)) else []

abbrev pub gaps : List App → List End → List Note
gaps apps ends = flat_map (gap_at (is_used apps) ends) ends

-- ---- no partition of TOPIC is in ends

abbrev pub internal_name : InternalTopic → Topic
internal_name ConsumerOffsets = codes "__consumer_offsets"
internal_name TransactionState = codes "__transaction_state"

abbrev pub absent_internal : (Topic → Bool) → InternalTopic → List Note
absent_internal has topic = if has (internal_name topic) then [] else NoInternal topic ∷ []

abbrev pub absent_internals : List End → List Note
absent_internals ends = absent_internal (has_partition ends) ConsumerOffsets ++ absent_internal (has_partition ends) TransactionState
