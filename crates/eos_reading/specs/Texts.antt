-- What is kept of the records of Kafka's own logs, and for how much more there is room.
use Rattle.std.specs.Prelude.{◌≡◌, ℕ, ◌+◌, ◌≤◌, ◌<◌, ◌^◌, Bool, List, length}
use Rattle.eos_batch.specs.declared.record.Record.{Record}

-- whether each lies by itself, how many bytes they take where they lie together, and for how many records and bytes there is room
pub record TextsView : Type 0 where
  pub list : List Record
  pub is_loose : Bool
  pub size : ℕ
  pub room : ℕ
  pub bytes_room : ℕ

-- those of the second fit behind those of the first
pub record HasRoom (v w : TextsView) : Type 0 where
  pub form : v.is_loose ≡ w.is_loose
  pub count : length v.list + length w.list ≤ v.room
  pub bytes : v.size + w.size ≤ v.bytes_room
  pub bound : v.size + w.size < 2 ^ 40
