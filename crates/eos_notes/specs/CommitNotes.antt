-- Signs in the visible records that the evidence isn't the one that was meant: the offsets that the applications' groups have
-- committed of their source topics (KIP-98, "AddOffsetCommitsToTxn"; KIP-447), beside the declared ends and the records of these
-- topics. A commit is a visible record of `__consumer_offsets` whose value reads; one that deletes an offset is none.
use Rattle.std.specs.Prelude.{◌≡◌, ◌↔◌, ℕ, ℤ, ◌==◌, Bool, false, List, [], ◌∷◌, ◌++◌, length, map, flat_map, nat_lt, int_lt, if◌then◌else◌}
use Rattle.std.specs.List.Sorted.{IsStrictlySortedBy}
use Rattle.eos_base.specs.Members.{Has, is_found}
use Rattle.eos_base.specs.PartitionNames.{name_cmp}
use Rattle.eos_base.specs.declared.partition_name.PartitionName.{PartitionName}
use Rattle.eos_evidence.specs.declared.application.App.{App}
use Rattle.eos_evidence.specs.declared.ends.End.{End}
use Rattle.eos_fold.specs.Parts.{PartLog, part_name}
use Rattle.eos_claims.specs.Outputs.{Application, Commit, committed_offset}
use Rattle.eos_commits.specs.Commits.{Group}
use Rattle.eos_commits.specs.EvidenceLogs.{commits_for}
use Rattle.eos_commits.specs.Applications.{application_of, inputs_below, parts_of}
use Rattle.eos_notes.specs.declared.note.Note.{Note}
use Rattle.eos_notes.specs.declared.note.Note.TheVariants.{Unlisted, PastEnd, NothingCommitted, Behind}

-- ---- TOPIC-N isn't in ends, but group G committed an offset of it

abbrev pub end_name : End → PartitionName
end_name e = record { topic = e.topic; partition = e.partition }

-- the partition has a declared end
abbrev pub is_listed : List End → PartitionName → Bool
is_listed ends n = is_found name_cmp (map end_name ends) n

-- exactly the partitions of these commits that have none, each once, by topic and number
pub record AreUnlisted (ends : List End) (commits : List Commit) (names : List PartitionName) : Type 0 where
  pub ascend : IsStrictlySortedBy name_cmp names
  pub members : (n : PartitionName) → Has names n ↔ (Has (map (λ c. c.partition) commits) n × (is_listed ends n ≡ false))

abbrev pub unlisted_note : Group → PartitionName → Note
unlisted_note group n = Unlisted n group

-- one application after the other
abbrev pub AreUnlistedNotes : List End → List PartLog → List App → List Note → Type 0
AreUnlistedNotes ends logs [] notes = notes ≡ []
AreUnlistedNotes ends logs (app ∷ apps) notes =
    (names : List PartitionName) × (rest : List Note) × AreUnlisted ends (commits_for logs app) names
    × AreUnlistedNotes ends logs apps rest × (notes ≡ map (unlisted_note app.group) names ++ rest)

-- ---- group G committed offset O of TOPIC-N, past its end E

abbrev pub past_end_at : Group → PartLog → ℤ → List Note
past_end_at group p offset = if int_lt p.end offset then PastEnd group offset (part_name p) p.end ∷ [] else []

abbrev pub past_end_of : List PartLog → App → PartLog → List Note
past_end_of logs app p = past_end_at app.group p (committed_offset (commits_for logs app) (part_name p))

abbrev pub past_ends_in : List PartLog → App → List Note
past_ends_in logs app = flat_map (past_end_of logs app) (parts_of app.sources logs)

abbrev pub past_ends : List PartLog → List App → List Note
past_ends logs apps = flat_map (past_ends_in logs) apps

-- ---- group G committed no offset of its sources

abbrev pub nothing_by : Group → List Commit → List Note
nothing_by group commits = if length commits == 0 then NothingCommitted group ∷ [] else []

abbrev pub nothing_in : List PartLog → App → List Note
nothing_in logs app = nothing_by app.group (commits_for logs app)

abbrev pub nothing_committed : List PartLog → List App → List Note
nothing_committed logs apps = flat_map (nothing_in logs) apps

-- ---- group G is behind: I of N visible inputs are below its committed offsets

abbrev pub behind_by : Group → ℕ → ℕ → List Note
behind_by group below inputs = if nat_lt below inputs then Behind group below inputs ∷ [] else []

abbrev pub behind_of : Group → Application → List Note
behind_of group a = behind_by group (length (inputs_below a)) (length a.inputs)

abbrev pub behind_in : List PartLog → App → List Note
behind_in logs app = behind_of app.group (application_of app logs)

abbrev pub behind : List PartLog → List App → List Note
behind logs apps = flat_map (behind_in logs) apps
