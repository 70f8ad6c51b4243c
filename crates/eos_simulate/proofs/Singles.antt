-- The items of a log, each as a batch of its own, as they stand where a batch has one record.
use Rattle.std.specs.Prelude.{ℕ, ◌+◌, List, [], ◌∷◌}
use Rattle.eos_batch.specs.declared.batch.Batch.{Batch}
use Rattle.eos_machine.specs.declared.config.Config.{Config}
use Rattle.eos_machine.specs.declared.item.Item.{Item}
use Rattle.eos_machine.specs.Batches.{batch_of}

abbrev pub item_batch : Config → ℕ → Item → Batch
item_batch c o x = batch_of c o x []

abbrev pub singles_from : Config → ℕ → List Item → List Batch
singles_from c o [] = []
singles_from c o (x ∷ xs) = item_batch c o x ∷ singles_from c (o + 1) xs
