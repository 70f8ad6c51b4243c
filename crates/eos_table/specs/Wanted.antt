-- What decisions want of the logs, where it was found: for each part the closes of the transactions that list it.
use Rattle.std.specs.Prelude.{List, Option, IfSome}
use Rattle.eos_txnlog.specs.declared.decision.Decision.{Decision}
use Rattle.eos_fold.specs.Parts.{PartLog}
use Rattle.eos_table.specs.steps.Wanted.{Lists, wishes, Have}

abbrev pub IsWantedOf : List PartLog → List Decision × Option Lists → Type 0
IsWantedOf parts wanted = IfSome wanted.1 (Have parts (wishes wanted.0))
