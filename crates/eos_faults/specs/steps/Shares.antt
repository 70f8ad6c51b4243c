-- What a sink is after the faults of ranges that follow one another, and what a share is that took those of one.
use Rattle.std.specs.Prelude.{ℕ, ◌+◌, ◌++◌, List, IsSorted}
use Rattle.eos_claims.specs.declared.fault.OutputFault.{OutputFault}
use Rattle.eos_claims.specs.Outputs.{Application, ReadsSources}
use Rattle.eos_verdict.specs.declared.verdict.Fault.{Fault}
use Rattle.eos_faults.specs.declared.lent.LentPlace.{LentPlace}
use Rattle.eos_faults.specs.declared.tables.Books.{Books}
use Rattle.eos_faults.specs.steps.BySource.{by_lent}
use Rattle.eos_faults.specs.steps.Ranges.{AreFaultsWithin, is_up_to}
use Rattle.eos_faults.specs.steps.Tables.{AreBooks}
use Rattle.eos_faults.specs.steps.Taken.{group_in, named_faults}

-- behind the faults of all ranges before the i-th these make those of all before the j-th
abbrev pub LeadOn : Application → List LentPlace → ℕ → ℕ → List OutputFault → Type 0
LeadOn a bounds i j list = (before : List OutputFault) → AreFaultsWithin (is_up_to bounds i) a before → AreFaultsWithin (is_up_to bounds j) a (before ++ list)

pub record TakesRanges {S : Type 0} (takes : S → List Fault → S → Type 0) (b : Books) (bounds : List LentPlace) (i j : ℕ) (from to : S) : Type 0 where
  pub list : List OutputFault
  pub taken : takes from (named_faults (group_in b) list) to
  pub leads : (a : Application) → ReadsSources a → AreBooks a b → IsSorted by_lent bounds → LeadOn a bounds i j list

pub record IsShareOf {S : Type 0} (takes : S → List Fault → S → Type 0) (is_share : S → Type 0) (b : Books) (bounds : List LentPlace) (i : ℕ) (share : S) : Type 0 where
  pub begun : S
  pub begins : is_share begun
  pub took : TakesRanges takes b bounds i (i + 1) begun share
