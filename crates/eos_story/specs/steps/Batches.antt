-- Batches of a partition that were found.
use Rattle.std.specs.Prelude.{◌<◌, ℕ, List, length}
use Rattle.eos_base.specs.Members.{Has}
use Rattle.eos_sought.specs.Partitions.{AreBatchesOf}
use Rattle.eos_story.specs.declared.batches.Found.{Found}
use Rattle.eos_story.specs.declared.row.Row.{Row}
use Rattle.eos_story.specs.declared.row.Row.TheVariants as rows
use Rattle.eos_story.specs.declared.scene.Scene.{Scene}
use Rattle.eos_story.specs.steps.Seen.{OfAllSeen}

-- the batches are those that are wanted
abbrev pub AreFound : Scene → Found → Type 0
AreFound scene found = OfAllSeen scene (λ ps. AreBatchesOf ps found.name.now found.wanted found.batches.now)

-- how many there are, where there are more
abbrev pub AreMoreTold : Found → ℕ → List Row → Type 0
AreMoreTold found most told = most < length found.batches.now → Has told (rows.MoreBatches found.name.now found.wanted most (length found.batches.now))
