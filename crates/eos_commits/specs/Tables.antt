-- A table of the commits of many groups, each with its group and the leader epoch that it names.
use Rattle.std.specs.Prelude.{◌≡◌, List, [], ◌∷◌, flat_map, if◌then◌else◌}
use Rattle.std.specs.Ordering.{nat_cmp}
use Rattle.std.specs.Cmp.Lexicographic.{slice_cmp}
use Rattle.eos_base.specs.Members.{Has, is_found}
use Rattle.eos_evidence.specs.declared.application.App.{App}
use Rattle.eos_fold.specs.Parts.{PartLog}
use Rattle.eos_commits.specs.Commits.{Group, Topic, is_same}
use Rattle.eos_commits.specs.EpochCommits.{EpochCommit, epoch_commits_of}

abbrev pub Tabled : Type 0
Tabled = Group × EpochCommit

-- its commit, where it is of one of these topics
abbrev pub pick_of_topics : List Topic → Tabled → List EpochCommit
pick_of_topics sources e = if is_found (slice_cmp nat_cmp) sources e.1.commit.partition.topic then e.1 ∷ [] else []

-- and of this group
abbrev pub pick : Group → List Topic → Tabled → List EpochCommit
pick group sources e = if is_same group e.0 then pick_of_topics sources e else []

abbrev pub picked : Group → List Topic → List Tabled → List EpochCommit
picked group sources table = flat_map (pick group sources) table

-- what the table has of each application's group and topics are its commits, in the order of the log
abbrev pub IsTableOf : List App → List PartLog → List Tabled → Type 0
IsTableOf apps ps table = (app : App) → Has apps app → picked app.group app.sources table ≡ epoch_commits_of app.group app.sources ps
