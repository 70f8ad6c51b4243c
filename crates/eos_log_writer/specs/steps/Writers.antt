-- By whom a batch is written, and under which leader.
use Rattle.std.specs.Prelude.{◌^◌, ◌<◌, ◌≤◌, pos, List, ⊤}
use Rattle.eos_batch.specs.declared.batch.Batch.{Batch}
use Rattle.eos_machine.specs.declared.config.Config.{Config}
use Rattle.eos_machine.specs.declared.item.Item.{Item}
use Rattle.eos_machine.specs.declared.item.Item.TheVariants.{Fed, State, Output, Offset, Marker}
use Rattle.eos_machine.specs.Batches.{batch_of}
use Rattle.eos_log_writer.specs.declared.leaders.Base.{Base}

-- what names the writer fits its fields
abbrev pub HasWriter : Item → Type 0
HasWriter (Fed n) = ⊤
HasWriter (State a x n) = ⊤
HasWriter (Output a e s x v n) = (a ≤ 8) × (e < 2 ^ 15) × (s < 2 ^ 31)
HasWriter (Offset a e q v n) = (a ≤ 8) × (e < 2 ^ 15)
HasWriter (Marker a e k n) = (a ≤ 8) × (e < 2 ^ 15)

-- the batch that begins here, of an item and those that stand behind it
abbrev pub based : Config → Base → Item → List Item → Batch
based c b x ys = record (batch_of c b.offset x ys) { leader_epoch = pos b.leader_epoch }
