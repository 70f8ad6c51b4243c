-- The partitions of a cluster, as indexes in its list of logs: by the bytes of their topics, then by number.
use Rattle.std.specs.Prelude.{ℕ, ◌+◌, ◌-◌, ◌%◌, ◌≤◌, ◌==◌, nat_lt, nat_le, Bool, true, not, ◌&&◌, ◌||◌, List, [], ◌∷◌, codes, nat_eq, Option, Some, None, if◌then◌else◌}
use Rattle.std.specs.List.{list_any}
use Rattle.std.specs.Cmp.Lexicographic.{pointwise}
use Rattle.eos_touch.specs.Pair.{same_bool}
pub use Rattle.eos_machine.specs.declared.config.Config.{Config}

-- the sizes that a cluster may have
pub record IsConfig (c : Config) : Type 0 where
  pub applications : (1 ≤ c.applications) × (c.applications ≤ 8)
  pub inputs : (1 ≤ c.inputs) × (c.inputs ≤ 16)
  pub outputs : (1 ≤ c.outputs) × (c.outputs ≤ 16)
  pub transaction_logs : (1 ≤ c.transaction_logs) × (c.transaction_logs ≤ 4)
  pub segment_records : (1 ≤ c.segment_records) × (c.segment_records ≤ 1000)
  pub batch_records : (1 ≤ c.batch_records) × (c.batch_records ≤ 1000)

-- ---- the groups: the first reads `in` and writes `out`; the second, where there is one, reads `out` and writes `fin`

-- the second has one application
abbrev pub application_count : Config → ℕ
application_count c = if c.chain then c.applications + 1 else c.applications

abbrev pub is_chained : Config → ℕ → Bool
is_chained c a = c.chain && a == c.applications

abbrev pub group_count : Config → ℕ
group_count c = if c.chain then 2 else 1

-- the number of an application's group
abbrev pub group_of : Config → ℕ → ℕ
group_of c a = if is_chained c a then 1 else 0

-- `fin` has as many partitions as `out`
abbrev pub final_count : Config → ℕ
final_count c = if c.chain then c.outputs else 0

-- the sources are the partitions of `in`, and after them those of `out`: this one is of the application's group
abbrev pub is_source : Config → ℕ → ℕ → Bool
is_source c a q = if is_chained c a then nat_le c.inputs q && nat_lt q (c.inputs + c.outputs) else nat_lt q c.inputs

-- ---- indexes

-- the one partition of the offsets
abbrev pub offsets_index : ℕ
offsets_index = 0

-- the partition of the transaction log that holds an application's records
abbrev pub txn_index : Config → ℕ → ℕ
txn_index c a = 1 + a % c.transaction_logs

abbrev pub final_index : Config → ℕ → ℕ
final_index c p = 1 + c.transaction_logs + p

abbrev pub input_index : Config → ℕ → ℕ
input_index c p = 1 + c.transaction_logs + final_count c + p

abbrev pub output_index : Config → ℕ → ℕ
output_index c p = 1 + c.transaction_logs + final_count c + c.inputs + p

abbrev pub log_count : Config → ℕ
log_count c = 1 + c.transaction_logs + final_count c + c.inputs + c.outputs

-- the partition of this number of the topic that an application writes
abbrev pub written_index : Config → ℕ → ℕ → ℕ
written_index c a p = if is_chained c a then final_index c p else output_index c p

-- a transaction may write to these: the partition of this number of that topic, and that of the offsets, which has none here
abbrev pub is_target : Config → Option ℕ → Bool
is_target c None = true
is_target c (Some p) = nat_lt p c.outputs

abbrev pub target_index : Config → ℕ → Option ℕ → ℕ
target_index c a None = offsets_index
target_index c a (Some p) = written_index c a p

-- an odd partition of `out`
abbrev pub is_odd_output : Config → ℕ → Bool
is_odd_output c p = nat_le (output_index c 0) p && (p - output_index c 0) % 2 == 1

-- sequences are checked outside the internal topics
abbrev pub is_sequenced : Config → ℕ → Bool
is_sequenced c p = nat_lt c.transaction_logs p

abbrev pub offsets_topic : List ℕ
offsets_topic = codes "__consumer_offsets"

abbrev pub transactions_topic : List ℕ
transactions_topic = codes "__transaction_state"

abbrev pub final_topic : List ℕ
final_topic = codes "fin"

abbrev pub input_topic : List ℕ
input_topic = codes "in"

abbrev pub output_topic : List ℕ
output_topic = codes "out"

abbrev pub topic_of : Config → ℕ → List ℕ
topic_of c p =
    if p == 0 then offsets_topic
    else if nat_le p c.transaction_logs then transactions_topic
    else if nat_lt p (input_index c 0) then final_topic
    else if nat_lt p (output_index c 0) then input_topic
    else output_topic

-- the number of a partition in its topic
abbrev pub number_of : Config → ℕ → ℕ
number_of c p =
    if p == 0 then 0
    else if nat_le p c.transaction_logs then p - 1
    else if nat_lt p (input_index c 0) then p - final_index c 0
    else if nat_lt p (output_index c 0) then p - input_index c 0
    else p - output_index c 0

abbrev pub is_topic : List ℕ → List ℕ → Bool
is_topic name topic = pointwise nat_eq name topic

-- the topic has a partition of this number
abbrev pub is_partition : Config → List ℕ → ℕ → Bool
is_partition c name number =
    is_topic name offsets_topic && number == 0
    || (is_topic name transactions_topic && nat_lt number c.transaction_logs
    || (is_topic name final_topic && nat_lt number (final_count c)
    || (is_topic name input_topic && nat_lt number c.inputs || is_topic name output_topic && nat_lt number c.outputs)))

-- of two partitions that a transaction may write to, both are of the topic that its group writes, or both are the partition
-- of the offsets
abbrev pub same_topic : ℕ → ℕ → Bool
same_topic p q = same_bool (p == offsets_index) (q == offsets_index)

-- a transaction's partitions with one more, as a record lists them by topic: a number goes last under its topic, and a new
-- topic last (KIP-98, "Transaction state")
abbrev pub listed : ℕ → List ℕ → List ℕ
listed p [] = p ∷ []
listed p (q ∷ qs) = if same_topic p q && not (list_any (same_topic p) qs) then q ∷ (p ∷ qs) else q ∷ listed p qs
