-- What one pass over the transaction log gathers: the faults that a record or the end of a partition shows by itself, of which all
-- are kept or the least; the decisions; and of each unskipped record what later ones are held against.
use Rattle.std.specs.Prelude.{ℕ, ℤ, pos, negsuc, Bool, false, Option, Some, None, List, [], ◌∷◌, ◌++◌, map, fold, if◌then◌else◌, Ok, Err, unsigned_abs}
use Rattle.std.specs.List.{flat_map}
use Rattle.std.specs.Ordering.{nat_cmp, is_eq}
use Rattle.eos_txnlog.specs.declared.value.TxnValue.{TxnValue}
use Rattle.eos_txnlog.specs.declared.decision.Decision.{Decision}
use Rattle.eos_txnlog.specs.Following.{step_verdict, StepResult}
use Rattle.eos_fold.specs.declared.item.Item.{Item}
use Rattle.eos_fold.specs.Parts.{PartLog}
use Rattle.eos_table.specs.declared.content.Content.{Content}
use Rattle.eos_table.specs.declared.content.Content.TheVariants.{Unreadable, Other, Of}
use Rattle.eos_table.specs.declared.mark.Mark.{Mark}
use Rattle.eos_verdict.specs.declared.log_fault.LogFault.{LogFault}
use Rattle.eos_verdict.specs.declared.log_fault.LogFaultKind.{LogFaultKind}
use Rattle.eos_verdict.specs.declared.log_fault.LogFaultKind.TheVariants.{BadRecord, Step, Unfinished}
use Rattle.eos_table.specs.TransactionLog.{Id, State, nothing, flat, Unskipped, content_of, step_at, next_state, state_after, steps_of, decision_of, is_unfinished}
use Rattle.eos_table.specs.LogFaults.{log_cmp}
use Rattle.eos_table.specs.steps.KeptFaults.{Kept, none_kept, kept_with}

abbrev pub fault_at : ℤ → ℕ → LogFaultKind → LogFault
fault_at n o kind = record { partition = n; offset = o; kind = kind }

abbrev pub step_of : ℤ → ℕ → Id → Option TxnValue → Option TxnValue → Unskipped
step_of n o id before value = record { partition = n; offset = o; id = id; before = before; value = value }

abbrev pub bad_at : ℤ → ℕ → Content → List LogFault
bad_at n o (Unreadable fault) = fault_at n o (BadRecord fault) ∷ []
bad_at n o Other = []
bad_at n o (Of id v) = []

abbrev pub refused_at : Unskipped → StepResult → List LogFault
refused_at s (Ok x) = []
refused_at s (Err why) = fault_at s.partition s.offset (Step s.id why) ∷ []

abbrev pub step_faults : Unskipped → List LogFault
step_faults s = refused_at s (step_verdict s.before s.value)

abbrev pub faults_at : State → ℤ → ℕ → Content → List LogFault
faults_at last n o c = bad_at n o c ++ flat_map step_faults (step_at last n o c)

abbrev pub faults_after : State → ℤ → List Item → List LogFault
faults_after last n [] = []
faults_after last n (x ∷ xs) = faults_at last n x.offset (content_of x) ++ faults_after (next_state last (content_of x)) n xs

abbrev pub natural : ℤ → Option ℕ
natural (pos p) = Some p
natural (negsuc p) = None

abbrev pub producer_of : Option TxnValue → Option ℕ
producer_of None = None
producer_of (Some v) = natural v.producer

abbrev pub mark_of : Unskipped → Mark
mark_of s = record { partition = s.partition; offset = s.offset; id = s.id; producer = producer_of s.value }

abbrev pub open_at : State → ℤ → ℕ → Mark → List LogFault
open_at last n o s = if is_unfinished (flat (last s.id)) then fault_at n o (Unfinished s.id) ∷ [] else []

abbrev pub part_faults : PartLog → List LogFault
part_faults p = faults_after nothing p.number p.items
    ++ flat_map (open_at (state_after nothing p.items) p.number (unsigned_abs p.end)) (map mark_of (steps_of p))

-- what is kept of the faults that are found: all of them, or the least
abbrev pub Faults : Type 0
Faults = Kept LogFault

abbrev pub none_found : Bool → Faults
none_found = none_kept

-- with one more
abbrev pub taken : Faults → LogFault → Faults
taken = kept_with log_cmp

pub record LogRead : Type 0 where
  pub marks : List Mark
  pub decisions : List Decision
  pub faults : Faults

-- with some more unskipped records and faults
abbrev pub after : LogRead → List Unskipped → List LogFault → LogRead
after r steps faults = record {
  marks = r.marks ++ map mark_of steps;
  decisions = r.decisions ++ flat_map decision_of steps;
  faults = fold taken r.faults faults;
}

abbrev pub unread : Faults → LogRead
unread faults = record { marks = []; decisions = []; faults = faults }

abbrev pub is_of_producer : ℕ → Option ℕ → Bool
is_of_producer p None = false
is_of_producer p (Some q) = is_eq (nat_cmp q p)
