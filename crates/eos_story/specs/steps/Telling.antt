-- Rows that are put at the end of others.
use Rattle.std.specs.Prelude.{◌≡◌, ◌<◌, ℕ, List, [], ◌∷◌, ◌++◌, Option}
use Rattle.eos_base.specs.Members.{Has}
use Rattle.eos_sought.specs.declared.partition.Placed.{Placed}
use Rattle.eos_sought.specs.declared.finding.Find.{Find}
use Rattle.eos_sought.specs.declared.sought.Sought.{Sought}
use Rattle.eos_story.specs.declared.row.Row.{Row}
use Rattle.eos_story.specs.declared.row.Row.TheVariants as rows
use Rattle.eos_story.specs.declared.scene.Scene.{Scene}
use Rattle.eos_story.specs.Questions.{Question}
use Rattle.eos_story.specs.steps.Seen.{AreTrue, AnswersOf}

-- the rows grew at their end, what was so is so, and this is told
pub record Tells (scene : Scene) (before after : List Row) (IsTold : List Row → Type 0) : Type 0 where
  pub added : List Row
  pub grown : after ≡ before ++ added
  pub are : AreTrue scene before → AreTrue scene after
  pub told : IsTold after

-- and these questions are answered
pub record TellsEach (scene : Scene) (before after : List Row) (questions : List Question) : Type 0 where
  pub added : List Row
  pub grown : after ≡ before ++ added
  pub are : AreTrue scene before → AreTrue scene after
  pub answers : AnswersOf scene after questions

-- one row more
abbrev pub IsNext : List Row → Row → List Row → Type 0
IsNext before row told = told ≡ before ++ row ∷ []

-- the row of a record stands behind these
abbrev pub IsRecordBehind : Sought → Find → List Row → List Row → Type 0
IsRecordBehind sought find before told = (spot : Option Placed) × (after : List Row) × (told ≡ before ++ (rows.Record sought find spot) ∷ after)

-- how many there are, where these aren't all, and that there is none
pub record IsRestTold (sought : Sought) (shown all : ℕ) (told : List Row) : Type 0 where
  pub more : shown < all → Has told (rows.MoreRecords shown all sought)
  pub none : all ≡ 0 → Has told (rows.NoRecord sought)
