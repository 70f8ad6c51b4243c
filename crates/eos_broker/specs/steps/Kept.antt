-- What a broker keeps: each producer id's state as a function of the log, and of all that is asked of it what it accepts.
-- Sources: KIP-98, "Idempotent Producer Guarantees" (sequences and epochs), and KIP-890 (a marker's epoch is above its data's).
use Rattle.std.specs.Prelude.{ℕ, List, slice_index_or, slice_set}
use Rattle.eos_machine.specs.declared.state.Producer.{Producer}
use Rattle.eos_machine.specs.Application.{Mark}
use Rattle.eos_machine.specs.Logs.{unseen, after_mark}
use Rattle.eos_broker.specs.Kept.{kept}

-- a mark is taken into the state of its application's producer id, where that is kept
abbrev pub noted : List Producer → ℕ → Mark → List Producer
noted ps a t = slice_set ps a (after_mark (slice_index_or ps a unseen) t)
