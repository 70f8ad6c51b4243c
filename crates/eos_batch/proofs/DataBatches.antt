-- The tests after the records of a data batch.
use Rattle.std.proofs.Common.{◌≡◌, ℕ, true, false, List, Ok, Err, refl}
use Rattle.eos_batch.specs.declared.fault.BatchFault.TheVariants as faults
use Rattle.eos_batch.specs.declared.batch.Batch.{Batch}
use Rattle.eos_batch.specs.declared.record.Record.{Record}
use Rattle.eos_batch.specs.Attributes.{is_control}
use Rattle.eos_batch.specs.Rules.{has_right_producer}
use Rattle.eos_batch.specs.Marker.{has_right_control}
use Rattle.eos_batch.specs.Reading.{with_records}
use Rattle.eos_batch.specs.Places.{finished}

control_right : (b : Batch) (rs : List Record) → is_control b.attributes ≡ false → has_right_control (with_records b rs) ≡ true
control_right b rs e = rw e refl

producer_same : (b : Batch) (rs : List Record) → is_control b.attributes ≡ false → has_right_producer (with_records b rs) ≡ has_right_producer b
producer_same b rs e = rw e refl

pub data_right : (b : Batch) (rs : List Record) (size : ℕ) → is_control b.attributes ≡ false → has_right_producer b ≡ true → finished b size rs ≡ Ok (with_records b rs, size)
data_right b rs size e right = rw (control_right b rs e, producer_same b rs e, right) refl

pub data_wrong : (b : Batch) (rs : List Record) (size : ℕ) → is_control b.attributes ≡ false → has_right_producer b ≡ false → finished b size rs ≡ Err faults.Producer
data_wrong b rs size e wrong = rw (control_right b rs e, producer_same b rs e, wrong) refl
