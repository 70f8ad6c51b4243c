-- All faults of the phases behind the first, over logs, whole or kept, of which none has a fault by itself. What stands there is
-- said of the logs alone, and not of the segments that they were made of.
use Rattle.std.specs.Prelude.{List}
use Rattle.eos_base.specs.Least.{NoneStands}
use Rattle.eos_evidence.specs.declared.application.App.{App}
use Rattle.eos_fold.specs.Parts.{PartLog}
use Rattle.eos_lineage.specs.Faults as lineage
use Rattle.eos_verdict.specs.declared.verdict.Fault.{Fault}
use Rattle.eos_verdict.specs.declared.verdict.Fault.TheVariants.{Partition as InPartition, Log, Match, Lineage}
use Rattle.eos_check.specs.Verdicts.{StandsInLog, StandsInMatching}
use Rattle.eos_source_check.specs.AllFaults.{AreAllOf}

abbrev pub StandsLater : List App → List PartLog → Fault → Type 0
StandsLater apps ls (InPartition f) = ⊥
StandsLater apps ls (Log f) = StandsInLog ls f
StandsLater apps ls (Match f) = NoneStands (StandsInLog ls) × StandsInMatching ls f
StandsLater apps ls (Lineage f) = NoneStands (StandsInLog ls) × NoneStands (StandsInMatching ls) × lineage.Stands apps ls f

abbrev pub AreLaterFaults : List App → List PartLog → List Fault → Type 0
AreLaterFaults apps ls list = AreAllOf apps (StandsLater apps ls) list
