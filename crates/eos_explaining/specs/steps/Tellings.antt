-- What is told of an answer, of whatever evidence it is one.
use Rattle.std.specs.Prelude.{ℕ, List, Option, string_bytes}
use Rattle.eos_evidence.specs.Evidence.{EvidenceParts}
use Rattle.eos_explaining.specs.declared.answer.Answer.{Answer}
use Rattle.eos_explaining.specs.declared.answer.Answer.TheVariants as answers
use Rattle.eos_explaining.specs.declared.folder.Explained.{Explained}
use Rattle.eos_explaining.specs.Explaining.{IsYes, IsTheStory, AreFewer}
use Rattle.eos_explaining.specs.Folders.{number_of, IsExplained, IsFrontOfExplained}

-- what `explain` answers of an evidence
abbrev pub IsAnswer : List ℕ → EvidenceParts → ℕ → Answer → Type 0
IsAnswer folder e number (answers.Yes line notes) = IsYes e (string_bytes line) (string_bytes notes)
IsAnswer folder e number (answers.Story text) = IsTheStory folder e number (string_bytes text)
IsAnswer folder e number (answers.Fewer count) = AreFewer e number count

pub record Tells (fault : Option ℕ) (answer : Answer) (old new : Option (List ℕ)) (told : Explained) : Type 0 where
  pub of : (folder : List ℕ) (e : EvidenceParts) → IsAnswer folder e (number_of fault) answer → IsExplained folder e fault old new told

-- a front of it was written
pub record TellsFront (fault : Option ℕ) (answer : Answer) (old new : Option (List ℕ)) : Type 0 where
  pub of : (folder : List ℕ) (e : EvidenceParts) → IsAnswer folder e (number_of fault) answer → IsFrontOfExplained folder e fault old new
