-- What a sink is after faults that it took.
use Rattle.std.specs.Prelude.{List}

-- a list of which this holds
pub record TakesList {S X : Type 0} (takes : S → List X → S → Type 0) (from : S) (Holds : List X → Type 0) (to : S) : Type 0 where
  pub list : List X
  pub taken : takes from list to
  pub holds : Holds list
