-- What rows say of any partitions that the scene may be of.
use Rattle.std.specs.Prelude.{List, All}
use Rattle.eos_evidence.specs.declared.partition.Partition.{Partition}
use Rattle.eos_story.specs.Answers.{AnswersEach}
use Rattle.eos_story.specs.declared.row.Row.{Row}
use Rattle.eos_story.specs.declared.scene.Scene.{Scene}
use Rattle.eos_story.specs.Questions.{Question}
use Rattle.eos_story.specs.Rows.{IsTrue}
use Rattle.eos_story.specs.SceneOf.{IsSceneOf}

-- what is so of any partitions that the scene may be of
abbrev pub OfAllSeen : Scene → (List Partition → Type 0) → Type 0
OfAllSeen scene IsSo = (ps : List Partition) → IsSceneOf ps scene → IsSo ps

-- each row says what is so
abbrev pub AreTrue : Scene → List Row → Type 0
AreTrue scene rows = OfAllSeen scene (λ ps. All (IsTrue ps scene.logs.now) rows)

-- the rows answer each of these questions
abbrev pub AnswersOf : Scene → List Row → List Question → Type 0
AnswersOf scene told questions = OfAllSeen scene (λ ps. AnswersEach ps scene.logs.now told questions)
