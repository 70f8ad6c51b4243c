-- What is kept of segments of one topic, as it was asked.
use Rattle.std.specs.Prelude.{◌≡◌, ℕ, not, List, [], Option, Some, None}
use Rattle.eos_evidence.specs.declared.segment.Segment.{Segment}
use Rattle.eos_evidence.specs.Topics.{is_internal}
use Rattle.eos_reading.specs.declared.wanted.Wanted.{Wanted}
use Rattle.eos_kept.specs.declared.kept_run.KeptRun.{KeptRun}
use Rattle.eos_kept.specs.KeptRuns.{IsKeptRun, wanted_by, front_of, HasClaims}

-- what is asked of the segments of a topic
pub record Asking : Type 0 where
  pub topics : List (List ℕ)
  pub wanted : Wanted
  pub topic : List ℕ

-- what was asked, whatever segments it is kept of
pub record IsAsked (a : Asking) (run : KeptRun) : Type 0 where
  pub wanted : wanted_by run ≡ a.wanted
  pub claims : HasClaims a.topics run
  pub checked : (front_of run).run.sequenced ≡ not (is_internal a.topic)

-- what is kept of these segments, as it was asked
pub record IsHeld (a : Asking) (segments : List Segment) (run : KeptRun) : Type 0 where
  pub kept : IsKeptRun a.topics segments run
  pub asked : IsAsked a run

-- or there are none
abbrev pub AreHeld : Asking → List Segment → Option KeptRun → Type 0
AreHeld a segments None = segments ≡ []
AreHeld a segments (Some run) = IsHeld a segments run
