-- The commits of groups, and those that go past an input.
-- Source: KIP-98, "AddOffsetCommitsToTxn"; the layout of the keys and values of `__consumer_offsets`.
use Rattle.std.specs.Prelude.{ℕ, ℤ, pos, List, Option, Some, None, Result, Ok, Err, Bool, false, ◌&&◌, not, int_lt, codes}
use Rattle.std.specs.Ordering.{int_eq}
use Rattle.eos_base.specs.declared.record_fault.RecordFault.{RecordFault}
use Rattle.eos_claims.specs.declared.place.Place.{Place}
use Rattle.eos_commits.specs.Commits.{is_same}
use Rattle.eos_fold.specs.Parts.{PartLog}
use Rattle.eos_fold.specs.declared.item.Item.{Item}
use Rattle.eos_offsets.specs.declared.key.OffsetKey.{OffsetKey}
use Rattle.eos_offsets.specs.Reading.{read_key, read_value}

abbrev pub is_commit : PartLog → Bool
is_commit p = is_same p.topic (codes "__consumer_offsets")

-- ---- keys

abbrev pub group_read : Result (Option OffsetKey) RecordFault → Option (List ℕ)
group_read (Ok (Some key)) = Some key.group
group_read (Ok None) = None
group_read (Err fault) = None

abbrev pub group_in : Option (List ℕ) → Option (List ℕ)
group_in None = None
group_in (Some key) = group_read (read_key key)

abbrev pub is_group_read : List ℕ → Result (Option OffsetKey) RecordFault → Bool
is_group_read group (Ok (Some key)) = is_same key.group group
is_group_read group (Ok None) = false
is_group_read group (Err fault) = false

abbrev pub is_key_of : List ℕ → Option (List ℕ) → Bool
is_key_of group None = false
is_key_of group (Some key) = is_group_read group (read_key key)

-- the key names the input's partition
abbrev pub names_place : Place → OffsetKey → Bool
names_place place key = is_same key.topic place.partition.topic && int_eq key.partition place.partition.partition

abbrev pub names_read : Place → Result (Option OffsetKey) RecordFault → Bool
names_read place (Ok (Some key)) = names_place place key
names_read place (Ok None) = false
names_read place (Err fault) = false

abbrev pub is_key_past : Place → Option (List ℕ) → Bool
is_key_past place None = false
is_key_past place (Some key) = names_read place (read_key key)

-- ---- values

abbrev pub is_past : Place → Result ℤ RecordFault → Bool
is_past place (Ok offset) = int_lt (pos place.offset) offset
is_past place (Err fault) = false

-- the committed offset is above the input's
abbrev pub goes_past : Place → Option (List ℕ) → Bool
goes_past place None = false
goes_past place (Some value) = is_past place (read_value value)

-- ---- records

abbrev pub is_of_group : List ℕ → PartLog → Item → Bool
is_of_group group p x = is_commit p && is_key_of group x.key

abbrev pub is_passed : Place → PartLog → Item → Bool
is_passed place p x = is_commit p && is_key_past place x.key && goes_past place x.value

abbrev pub passes : List ℕ → Place → PartLog → Item → Bool
passes group place p x = is_of_group group p x && is_passed place p x

-- of the input's partition, and not past the input
abbrev pub is_up_to : List ℕ → Place → PartLog → Item → Bool
is_up_to group place p x = is_of_group group p x && is_key_past place x.key && not (goes_past place x.value)
