-- What the check makes and looks at on its way. For its private steps.
use Rattle.std.specs.Prelude.{◌≡◌, ℕ, List, length, Option, Result, Ok, Err}
use Rattle.eos_base.specs.Least.{NoneStands, IsLeast}
use Rattle.eos_evidence.specs.declared.application.App.{App}
use Rattle.eos_fold.specs.Parts.{PartLog}
use Rattle.eos_txnlog.specs.declared.decision.Decision.{Decision}
use Rattle.eos_verdict.specs.declared.match_fault.MatchFault.{MatchFault}
use Rattle.eos_verdict.specs.declared.log_fault.LogFault.{LogFault}
use Rattle.eos_table.specs.LogFaults.{log_cmp}
use Rattle.eos_table.specs.MatchFaults as matches
use Rattle.eos_table.specs.Wanted.{IsWantedOf}
use Rattle.eos_table.specs.steps.Wanted.{Lists}
use Rattle.eos_table.specs.TransactionLog.{transaction_parts, decisions_of, AreInOrder}
use Rattle.eos_verdict.specs.declared.verdict.Fault.{Fault}
use Rattle.eos_verdict.specs.declared.verdict.Fault.TheVariants.{Match}
use Rattle.eos_verdict.specs.declared.verdict.Verdict.TheVariants.{No}
use Rattle.eos_check.specs.Judged.{IsVerdictOver}
use Rattle.eos_check.specs.Verdicts.{StandsInLog, StandsInMatching}

-- what the matching of these decisions answers: their number, or the least fault
abbrev pub IsMatched : List Decision → List PartLog → Result ℕ Fault → Type 0
IsMatched ds ls (Ok n) = (n ≡ length ds) × NoneStands (matches.Stands ds ls)
IsMatched ds ls (Err f) = (m : MatchFault) × (f ≡ Match m) × IsLeast matches.fault_cmp (matches.Stands ds ls) m

-- what the second and the third phase answer: the number of transactions, or the verdict, whatever the applications
abbrev pub IsTransacted : List PartLog → Result ℕ Fault → Type 0
IsTransacted ls (Ok n) = (n ≡ length (decisions_of (transaction_parts ls))) × NoneStands (StandsInLog ls) × NoneStands (StandsInMatching ls)
IsTransacted ls (Err f) = (apps : List App) → IsVerdictOver apps ls (No f)

-- what the transaction log of these logs answers: its decisions with what they want of the logs, or its least fault
abbrev pub IsLogAnswer : List PartLog → Result (List Decision × Option Lists) LogFault → Type 0
IsLogAnswer ls (Ok wanted) = IsWantedOf ls wanted × (AreInOrder (transaction_parts ls) → NoneStands (StandsInLog ls) × (wanted.0 ≡ decisions_of (transaction_parts ls)))
IsLogAnswer ls (Err f) = AreInOrder (transaction_parts ls) → IsLeast log_cmp (StandsInLog ls) f
