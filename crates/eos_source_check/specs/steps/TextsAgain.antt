-- Segments that are read again for the keys, values and claims of their records.
use Rattle.std.specs.Prelude.{ℕ, List, [], ◌∷◌, Option}
use Rattle.eos_evidence.specs.declared.segment.Segment.{Segment}
use Rattle.eos_kept.specs.declared.kept_run.KeptRun.{KeptRun}
use Rattle.eos_kept.specs.Held.{Asking, IsHeld, AreHeld}
use Rattle.eos_reading.specs.declared.wanted.Wanted.TheVariants.{Texts}
use Rattle.eos_source.specs.Said.{Known}
use Rattle.eos_source_check.specs.Again.{IsLogAgain, AreLogsAgain}

-- what is asked of the segments of a topic
abbrev pub texts_asked : List ℕ → Asking
texts_asked topic = record { topics = []; wanted = Texts; topic = topic }

-- what is kept of the segment of this name, as it was read
pub record IsTextAgain (known : Known) (name : Segment) (run : KeptRun) : Type 0 where
  pub segment : Segment
  pub again : IsLogAgain known name segment
  pub held : IsHeld (texts_asked name.topic) (segment ∷ []) run

-- of those of these names, the first of which is the piece of this number
pub record AreTextsAgain (known : ℕ → Known) (first : ℕ) (names : List Segment) (topic : List ℕ) (run : Option KeptRun) : Type 0 where
  pub segments : List Segment
  pub again : AreLogsAgain known first names segments
  pub held : AreHeld (texts_asked topic) segments run
