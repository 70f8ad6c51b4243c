-- The entries of a table of commits, record by record of all records of a log.
use Rattle.std.specs.Prelude.{◌≡◌, Bool, Option, Some, None, Result, Ok, Err, List, [], map, flat_map, if◌then◌else◌}
use Rattle.std.specs.List.{filter}
use Rattle.std.specs.Ordering.{nat_cmp}
use Rattle.std.specs.Cmp.Lexicographic.{slice_cmp}
use Rattle.std.specs.declared.cmp.Ordering.{Ordering}
use Rattle.eos_base.specs.declared.record_fault.RecordFault.{RecordFault}
use Rattle.eos_base.specs.Members.{is_found}
use Rattle.eos_offsets.specs.declared.key.OffsetKey.{OffsetKey}
use Rattle.eos_fold.specs.declared.item.Item.{Item}
use Rattle.eos_fold.specs.Parts.{PartLog}
use Rattle.eos_commits.specs.declared.table.Entry.{Entry}
use Rattle.eos_commits.specs.Visible.{is_visible}
use Rattle.eos_commits.specs.Commits.{Group, is_same, is_offsets_part, key_of, value_of, commit_with}
use Rattle.eos_commits.specs.EpochCommits.{under, epoch_in}
use Rattle.eos_commits.specs.Plain.{epoch_commit}
use Rattle.eos_commits.specs.Tables.{Tabled}
use Rattle.eos_commits.specs.steps.Roles.{Source, source_cmp}

abbrev pub plain_entry : Entry → Tabled
plain_entry e = (e.group.now, epoch_commit e.commit)

abbrev pub by_group : Entry → Entry → Ordering
by_group a b = slice_cmp nat_cmp a.group.now b.group.now

abbrev pub is_under : Group → Entry → Bool
is_under group e = is_same group e.group.now

-- the key is of one of these groups and topics
abbrev pub is_read : List Source → OffsetKey → Bool
is_read sources key = is_found source_cmp sources (key.group, key.topic)

-- under a key of which the test holds
abbrev pub entry_under : (OffsetKey → Bool) → Result (Option OffsetKey) RecordFault → Item → List Tabled
entry_under ours (Err fault) x = []
entry_under ours (Ok None) x = []
entry_under ours (Ok (Some key)) x = if ours key then map (λ c. (key.group, c)) (map (under (epoch_in x.value)) (commit_with key (value_of x) x.writer)) else []

abbrev pub entry_at : (OffsetKey → Bool) → Item → List Tabled
entry_at ours x = if is_visible x.fate then entry_under ours (key_of x) x else []

abbrev pub entries_at : (OffsetKey → Bool) → PartLog → List Tabled
entries_at ours p = if is_offsets_part p then flat_map (entry_at ours) p.items else []

abbrev pub entries_by : (OffsetKey → Bool) → List PartLog → List Tabled
entries_by ours ps = flat_map (entries_at ours) ps

-- the entries of these logs, those of one group in the order of the log
pub record AreEntriesOf (ours : OffsetKey → Bool) (ps : List PartLog) (es : List Entry) : Type 0 where
  pub flat : List Entry
  pub all : map plain_entry flat ≡ entries_by ours ps
  pub stable : (group : Group) → filter (is_under group) es ≡ filter (is_under group) flat
