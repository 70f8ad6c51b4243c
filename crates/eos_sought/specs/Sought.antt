-- Which data records of a partition's log are sought.
use Rattle.std.specs.Prelude.{ℕ, ℤ, List, Option, Some, None, Bool, false, ◌&&◌, ◌==◌, not, nat_lt, int_le, codes}
use Rattle.std.specs.Ordering.{int_eq}
use Rattle.eos_base.specs.declared.partition_name.PartitionName.{PartitionName}
use Rattle.eos_claims.specs.declared.claim.Claim.{Claim}
use Rattle.eos_claims.specs.declared.place.Place.{Place}
use Rattle.eos_claims.specs.Headers.{claim_of}
use Rattle.eos_commits.specs.Commits.{is_same}
use Rattle.eos_commits.specs.Visible.{is_visible}
use Rattle.eos_fold.specs.Parts.{PartLog}
use Rattle.eos_fold.specs.declared.item.Item.{Item}
use Rattle.eos_txnlog.specs.declared.value.TxnValue.{TxnValue}
use Rattle.eos_txnlog.specs.Status.{is_prepare}
use Rattle.eos_sought.specs.declared.sought.Epochs.{Epochs}
use Rattle.eos_sought.specs.declared.sought.Sought.{Sought}
use Rattle.eos_sought.specs.declared.sought.Sought.TheVariants.{At, Claiming, Hidden, Alike, OfId, Before, OfProducer, Within, Deciding, OfGroup, Passing, UpTo, Passed}
use Rattle.eos_sought.specs.Alike.{is_alike}
use Rattle.eos_sought.specs.Passing.{is_of_group, is_passed, passes, is_up_to}
use Rattle.eos_sought.specs.States.{id_in, state_in}

abbrev pub is_named : PartitionName → PartLog → Bool
is_named name p = is_same p.topic name.topic && int_eq p.number name.partition

abbrev pub is_of : List ℕ → PartLog → Bool
is_of topic p = is_same p.topic topic

abbrev pub is_at : Place → PartLog → Item → Bool
is_at place p x = is_named place.partition p && x.offset == place.offset

-- in the place's partition, and before it
abbrev pub is_before : Place → PartLog → Item → Bool
is_before place p x = is_named place.partition p && nat_lt x.offset place.offset

-- the claim is of this input
abbrev pub claims : Place → Option Claim → Bool
claims place None = false
claims place (Some c) = is_same c.topic place.partition.topic && int_eq c.partition place.partition.partition && c.offset == place.offset

abbrev pub is_state : PartLog → Bool
is_state p = is_of (codes "__transaction_state") p

abbrev pub is_id : List ℕ → Option (List ℕ) → Bool
is_id id None = false
is_id id (Some found) = is_same found id

-- the state is of this producer id
abbrev pub is_by : ℤ → Option TxnValue → Bool
is_by producer None = false
is_by producer (Some state) = int_eq state.producer producer

-- the state is of this producer id, and of one of these epochs
abbrev pub is_one_of : Epochs → TxnValue → Bool
is_one_of epochs state = int_eq state.producer epochs.producer && int_le epochs.from state.epoch && int_le state.epoch epochs.to

abbrev pub is_within : Epochs → Option TxnValue → Bool
is_within epochs None = false
is_within epochs (Some state) = is_one_of epochs state

-- the state decides a transaction, whose markers have this producer id and epoch
abbrev pub is_marked : ℤ → ℤ → TxnValue → Bool
is_marked producer epoch state = int_eq state.producer producer && int_eq state.epoch epoch

abbrev pub decides : ℤ → ℤ → Option TxnValue → Bool
decides producer epoch None = false
decides producer epoch (Some state) = is_prepare state.status && is_marked producer epoch state

abbrev pub meets : Sought → PartLog → Item → Bool
meets (At place) p x = is_at place p x
meets (Claiming place) p x = is_visible x.fate && claims place (claim_of x.headers)
meets (Hidden place) p x = not (is_visible x.fate) && claims place (claim_of x.headers)
meets (Alike place output) p x = is_visible x.fate && is_alike place output (claim_of x.headers)
meets (OfId id) p x = is_state p && is_id id (id_in x.key)
meets (Before id place) p x = is_before place p x && (is_state p && is_id id (id_in x.key))
meets (OfProducer producer) p x = is_state p && is_by producer (state_in x.value)
meets (Within epochs) p x = is_state p && is_within epochs (state_in x.value)
meets (Deciding producer epoch) p x = is_state p && decides producer epoch (state_in x.value)
meets (OfGroup group) p x = is_of_group group p x
meets (Passing group place) p x = passes group place p x
meets (UpTo group place) p x = is_up_to group place p x
meets (Passed place) p x = is_passed place p x
