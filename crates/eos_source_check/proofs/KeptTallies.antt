-- Tables see of logs the partitions' names and ends, which records there are and which of them are visible, and commits, which are
-- kept.
use Rattle.std.proofs.Common.{◌≡◌, ℕ, ℤ, pos, Bool, List, [], ◌∷◌, map, length, Option, Some, None, is_some, refl, sym, ap, subst, ◌∙◌}
use Rattle.std.specs.Prelude.{int_lt, if◌then◌else◌}
use Rattle.std.specs.List.{filter}
use Rattle.std.proofs.lemmas.List.{length-map}
use Rattle.eos_base.specs.Members.{Has}
use Rattle.eos_base.specs.declared.partition_name.PartitionName.{PartitionName}
use Rattle.eos_claims.specs.Outputs.{Commit, committed_offset}
use Rattle.eos_commits.specs.Commits.{Topic}
use Rattle.eos_commits.specs.Visible.{visible}
use Rattle.eos_evidence.specs.Evidence.{EvidenceParts}
use Rattle.eos_evidence.specs.declared.application.App.{App}
use Rattle.eos_fold.specs.Parts.{PartLog, part_name}
use Rattle.eos_fold.specs.declared.item.Item.{Item}
use Rattle.eos_commits.specs.EvidenceLogs.{AreLogsOf, commits_for}
use Rattle.eos_commits.specs.Applications.{is_part_of, parts_of}
use Rattle.eos_commits.proofs.MappedMore.{length_mapped}
use Rattle.eos_kept.specs.Faults.{AreFaultsIn, first_of}
use Rattle.eos_touch.specs.declared.fault.PartitionFault.{PartitionFault}
use Rattle.eos_notes.specs.declared.tally.Counted.{Counted}
use Rattle.eos_notes.specs.declared.tally.GroupTally.{GroupTally}
use Rattle.eos_notes.specs.declared.tally.TopicRoles.{TopicRoles}
use Rattle.eos_notes.specs.Counts.{AreCounted}
use Rattle.eos_notes.specs.GroupTallies.{visible_below, source_tally, group_tally}
use Rattle.eos_notes.specs.PartitionTallies.{roles_of}
use Rattle.eos_notes.specs.Tallies.{AreTallies}
use Rattle.eos_notes.specs.TalliesByLogs.{beside, partition_tally, group_tallies, tallies_by}
use Rattle.eos_notes.proofs.TalliesWhole.{tallies_are}
use Rattle.eos_reading.specs.Wanted.{wanted_item, wanted_of, kept_log, wanted_logs}
use Rattle.eos_check.proofs.SeenSame.{filter_seen}
use Rattle.eos_check.proofs.KeptRecords.{offset_kept, visible_seen}
use Rattle.eos_source_check.proofs.Among.{map_same}
use Rattle.eos_source_check.proofs.KeptNotes.{commits_kept}

-- ---- visible records

abbrev offset_in : Item → ℕ
offset_in x = x.offset

offsets_kept : (apps : List App) (p : PartLog) → map offset_in (visible (kept_log apps p)) ≡ map offset_in (visible p)
offsets_kept apps p = visible_seen (wanted_of apps p.topic) offset_in (offset_kept (wanted_of apps p.topic)) p

count_kept : (apps : List App) (p : PartLog) → length (visible (kept_log apps p)) ≡ length (visible p)
count_kept apps p = sym (length-map (visible (kept_log apps p)) offset_in) ∙ (ap length (offsets_kept apps p) ∙ length-map (visible p) offset_in)

below_kept : (apps : List App) (o : ℤ) (p : PartLog) → visible_below o (kept_log apps p) ≡ visible_below o p
below_kept apps o p =
    let test : ℕ → Bool = λ n. int_lt (pos n) o in
    sym (length_mapped test offset_in (visible (kept_log apps p))) ∙ (ap (λ (ns : List ℕ). length (filter test ns)) (offsets_kept apps p) ∙ length_mapped test offset_in (visible p))

-- ---- partitions

row_kept : (roles : Topic → TopicRoles) (apps : List App) (p : PartLog) (f : Option PartitionFault) (c : Counted) → partition_tally roles (kept_log apps p, (f, c)) ≡ partition_tally roles (p, (f, c))
row_kept roles apps p f c =
    let all = length-map p.items (wanted_item (wanted_of apps p.topic)) in
    let seen = count_kept apps p in
    λ i. record {
      topic = p.topic;
      partition = p.number;
      roles = roles p.topic;
      end = p.end;
      batches = c.batches;
      data_records = all i;
      visible_records = if is_some f then None else Some (seen i);
      segments = c.segments;
      bytes = c.bytes;
    }

rows_kept : (roles : Topic → TopicRoles) (apps : List App) (ps : List PartLog) (fs : List (Option PartitionFault)) (cs : List Counted)
    → map (partition_tally roles) (beside (wanted_logs apps ps) fs cs) ≡ map (partition_tally roles) (beside ps fs cs)
rows_kept roles apps [] fs cs = refl
rows_kept roles apps (p ∷ ps) [] cs = refl
rows_kept roles apps (p ∷ ps) (f ∷ fs) [] = refl
rows_kept roles apps (p ∷ ps) (f ∷ fs) (c ∷ cs) =
    let here = row_kept roles apps p f c in
    let more = rows_kept roles apps ps fs cs in
    λ i. here i ∷ more i

-- ---- groups

source_kept : (apps : List App) (committed : PartitionName → ℤ) (p : PartLog) → source_tally committed (kept_log apps p) ≡ source_tally committed p
source_kept apps committed p =
    let o = committed (part_name p) in
    let below = below_kept apps o p in
    λ i. record { topic = p.topic; partition = p.number; committed = o; end = p.end; visible_inputs_below = below i }

group_kept : (apps : List App) (ps : List PartLog) (app : App) → Has apps app → group_tally (wanted_logs apps ps) app ≡ group_tally ps app
group_kept apps ps app has =
    let committed = committed_offset (commits_for (wanted_logs apps ps) app) in
    let seen = filter_seen (kept_log apps) (is_part_of app.sources) (source_tally committed) (λ p. refl) (λ p e. source_kept apps committed p) ps in
    let all = seen ∙ ap (λ (cs : List Commit). map (source_tally (committed_offset cs)) (parts_of app.sources ps)) (commits_kept apps ps app has) in
    λ i. record { group = app.group; sources = all i }

groups_kept : (faulty : Bool) (apps : List App) (ps : List PartLog) → group_tallies faulty (wanted_logs apps ps) apps ≡ group_tallies faulty ps apps
groups_kept faulty apps ps =
    ap (λ (gs : List GroupTally). if faulty then None else Some gs) (map_same (group_tally (wanted_logs apps ps)) (group_tally ps) apps (group_kept apps ps))

-- ---- both

pub tables_kept : (apps : List App) (ps : List PartLog) (fs : List (Option PartitionFault)) (cs : List Counted) → tallies_by apps (wanted_logs apps ps) fs cs ≡ tallies_by apps ps fs cs
tables_kept apps ps fs cs =
    let rows = rows_kept (roles_of apps) apps ps fs cs in
    let groups = groups_kept (is_some (first_of fs)) apps ps in
    λ i. record { partitions = rows i; groups = groups i }

pub whole_tables : (e : EvidenceParts) (ls : List PartLog) (fs : List (Option PartitionFault)) (cs : List Counted) → AreLogsOf e.partitions ls → AreFaultsIn e.partitions fs → AreCounted e.partitions cs
    → AreTallies e (tallies_by e.spec.apps (wanted_logs e.spec.apps ls) fs cs)
whole_tables e ls fs cs of named counted = subst (AreTallies e) (sym (tables_kept e.spec.apps ls fs cs)) (tallies_are e ls fs cs of named counted)
