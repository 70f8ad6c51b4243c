-- The logs of an evidence: for each partition what its segments say; and what is asked of all of them at once.
use Rattle.std.specs.Prelude.{List, [], ◌∷◌, ⊤}
use Rattle.eos_evidence.specs.declared.application.App.{App}
use Rattle.eos_evidence.specs.declared.partition.Partition.{Partition}
use Rattle.eos_fold.specs.Parts.{PartLog}
use Rattle.eos_fold.specs.Whole.{IsPartOf}
use Rattle.eos_claims.specs.Outputs.{Commit}
use Rattle.eos_commits.specs.Commits.{commits_of}

-- what the segments of a partition say
abbrev pub IsLogOf : Partition → PartLog → Type 0
IsLogOf p log = IsPartOf p.end.topic p.end.partition p.end.end p.segments log

-- the logs of these partitions, in order
abbrev pub AreLogsOf : List Partition → List PartLog → Type 0
AreLogsOf [] [] = ⊤
AreLogsOf [] (l ∷ ls) = ⊥
AreLogsOf (p ∷ ps) [] = ⊥
AreLogsOf (p ∷ ps) (l ∷ ls) = IsLogOf p l × AreLogsOf ps ls

-- the commits of an application's group under its source topics, in the order of their log (KIP-98, "AddOffsetCommitsToTxn";
-- KIP-447)
abbrev pub commits_for : List PartLog → App → List Commit
commits_for logs app = commits_of app.group app.sources logs
