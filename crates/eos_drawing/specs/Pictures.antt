-- A picture of an evidence: what it shows stands in the evidence's logs, nothing of the transactions that are shown is left out, and
-- these are the ones around the fault.
use Rattle.std.specs.Prelude.{ℕ, List, Option}
use Rattle.eos_verdict.specs.declared.verdict.Fault.{Fault}
use Rattle.eos_evidence.specs.Evidence.{EvidenceParts}
use Rattle.eos_fold.specs.Parts.{PartLog}
use Rattle.eos_commits.specs.EvidenceLogs.{AreLogsOf}
use Rattle.eos_picture.specs.Marks.{HasTrueRows}
use Rattle.eos_picture.specs.Whole.{HasWholeRows}
use Rattle.eos_picture.specs.Window.{IsWindow}
use Rattle.eos_picture.specs.declared.mark.Picture.{Picture}

pub record IsPictureOf (e : EvidenceParts) (fault : Option Fault) (around : ℕ) (picture : Picture) : Type 0 where
  pub logs : List PartLog
  pub of : AreLogsOf e.partitions logs
  pub so : HasTrueRows logs picture.columns.items picture.rows.items
  pub whole : HasWholeRows logs picture.columns.items picture.rows.items
  pub window : IsWindow logs fault around picture
