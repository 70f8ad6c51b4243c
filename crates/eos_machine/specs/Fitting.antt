-- What stands in a log of a cluster fits the fields of its batches.
use Rattle.std.specs.Prelude.{ℕ, ◌+◌, ◌^◌, ◌<◌, ◌≤◌, length, List}
use Rattle.std.specs.List.{All}
use Rattle.eos_machine.specs.declared.config.Config.{Config}
use Rattle.eos_machine.specs.declared.item.Item.{Item}
use Rattle.eos_machine.specs.declared.item.Item.TheVariants.{Fed, State, Output, Offset, Marker}
use Rattle.eos_machine.specs.LogIndexes.{application_count, log_count}
use Rattle.eos_machine.specs.Sessions.{claimed_topic}

-- partitions that there are, and no more than there are
abbrev pub AreAllThere : Config → List ℕ → Type 0
AreAllThere c ps = All (λ p. p < log_count c) ps × (length ps ≤ log_count c)

-- the application, the producer epoch, the sequence, the claim's topic and what else is named are as small as a cluster has them
abbrev pub IsFit : Config → Item → Type 0
IsFit c (Fed n) = n < 2 ^ 63
IsFit c (State a x n) = (a < application_count c) × (x.epoch < 2 ^ 15) × AreAllThere c x.partitions × (n < 2 ^ 63)
IsFit c (Output a e s x v n) = (a < application_count c) × (e < 2 ^ 15) × (s < 2 ^ 31) × (length (claimed_topic x) ≤ 249) × (v < 2 ^ 63) × (n < 2 ^ 63)
IsFit c (Offset a e q v n) = (a < application_count c) × (e < 2 ^ 15) × (q < c.inputs + c.outputs) × (n < 2 ^ 63)
IsFit c (Marker a e k n) = (a < application_count c) × (e < 2 ^ 15) × (n < 2 ^ 63)
