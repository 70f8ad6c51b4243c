-- The partitions that a scene is of: it holds no more of them than the folds of their segments, and the headers of one record.
use Rattle.std.specs.Prelude.{◌≡◌, List, Some}
use Rattle.std.specs.Option.{option_copied}
use Rattle.eos_claims.specs.declared.place.Place.{Place}
use Rattle.eos_evidence.specs.declared.partition.Partition.{Partition}
use Rattle.eos_sought.specs.Folded.{AreFolded}
use Rattle.eos_story.specs.declared.scene.Scene.{Scene}
use Rattle.eos_story.specs.Rows.{AreHeadersOf}

-- the folds are those of these partitions, and the headers those of the record at the fault's own place
pub record IsSceneOf (ps : List Partition) (scene : Scene) : Type 0 where
  pub folded : AreFolded ps scene.partitions.now
  pub headers : (place : Place) → option_copied scene.place ≡ Some place → AreHeadersOf ps place scene.headers.now
