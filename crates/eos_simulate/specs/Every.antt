-- What `simulate --every` runs: on a tiny cluster each schedule of at most so many words, once, to the verdict of what it leaves.
use Rattle.std.specs.Prelude.{◌≡◌, ℕ, zero, suc, ◌+◌, false, ⊤, List, [], ◌∷◌, ◌++◌, map, length}
use Rattle.std.specs.List.{All, flat_map, sum_by}
use Rattle.eos_check.specs.Verdicts.{IsVerdict}
use Rattle.eos_evidence.specs.Evidence.{EvidenceParts}
use Rattle.eos_verdict.specs.declared.verdict.Counts.{Counts}
use Rattle.eos_verdict.specs.declared.verdict.Verdict.{Verdict}
use Rattle.eos_verdict.specs.declared.verdict.Verdict.TheVariants.{Yes, No}
use Rattle.eos_drive.specs.declared.deed.Deed.{Deed}
use Rattle.eos_machine.specs.declared.config.Config.{Config}
use Rattle.eos_simulate.specs.declared.exploring.Explored.{Explored}
use Rattle.eos_simulate.specs.declared.exploring.Unexplored.{Unexplored}
use Rattle.eos_simulate.specs.declared.exploring.Unexplored.TheVariants.{Accused, Unmade}
use Rattle.eos_simulate.specs.Histories.{IsLeftBy}

-- one application, and one partition of each topic
abbrev pub tiny : Config
tiny = record {
  applications = 1;
  inputs = 1;
  outputs = 1;
  transaction_logs = 1;
  segment_records = 16;
  batch_records = 1;
  chain = false;
}

-- one word for each row of the manual's table of what a word says, in its order
abbrev pub alphabet : List ℕ
alphabet = 0 ∷ 3075 ∷ 3 ∷ 19 ∷ 27 ∷ 28 ∷ 30 ∷ 31 ∷ 95 ∷ 127 ∷ 191 ∷ []

-- all schedules of so many words
abbrev pub schedules : ℕ → List (List ℕ)
schedules zero = [] ∷ []
schedules (suc n) = flat_map (λ w. map (λ s. w ∷ s) (schedules n)) alphabet

-- all of fewer words than that, the shorter ones first
abbrev pub schedules_below : ℕ → List (List ℕ)
schedules_below zero = []
schedules_below (suc n) = schedules_below n ++ schedules n

-- ---- runs

-- what was done leaves evidence of a new cluster of these sizes, and this is the verdict of it
pub record IsJudged (c : Config) (deeds : List Deed) (verdict : Verdict) : Type 0 where
  pub evidence : EvidenceParts
  pub left : IsLeftBy c deeds evidence
  pub judged : IsVerdict evidence verdict

-- of a schedule: what was done by it, and what a yes counts
pub record Run : Type 0 where
  pub schedule : List ℕ
  pub deeds : List Deed
  pub counts : Counts

abbrev pub IsRun : Config → Run → Type 0
IsRun c r = IsJudged c r.deeds (Yes r.counts)

-- each of these schedules was run once, in this order, to a yes; each line of a history leads to a state
pub record AreRun (c : Config) (of : List (List ℕ)) (before after : Explored) : Type 0 where
  pub runs : List Run
  pub each : All (IsRun c) runs
  pub once : map (λ r. r.schedule) runs ≡ of
  pub schedules : after.schedules ≡ before.schedules + length runs
  pub states : after.states ≡ before.states + sum_by (λ r. length r.deeds) runs

-- all of at most so many words
abbrev pub IsExplored : ℕ → Explored → Type 0
IsExplored longest x = AreRun tiny (schedules_below (longest + 1)) (record { schedules = 0; states = 0 }) x

-- the run that is told, if one is, has its fault
abbrev pub IsRightly : Config → Unexplored → Type 0
IsRightly c (Accused run) = IsJudged c run.history (No run.fault)
IsRightly c (Unmade fault) = ⊤
