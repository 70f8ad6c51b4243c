-- The names under which faults are printed.
use Rattle.std.specs.Prelude.{ℕ, List, codes}
use Rattle.eos_batch.specs.declared.fault.BatchFault.{BatchFault}
use Rattle.eos_batch.specs.declared.fault.BatchFault.TheVariants as faults

abbrev pub name_of : BatchFault → List ℕ
name_of faults.Truncated = codes "Truncated"
name_of faults.Length = codes "Length"
name_of faults.Magic = codes "Magic"
name_of faults.Crc = codes "Crc"
name_of faults.Compressed = codes "Compressed"
name_of faults.Count = codes "Count"
name_of faults.Varint = codes "Varint"
name_of faults.Record = codes "Record"
name_of faults.Delta = codes "Delta"
name_of faults.Trailing = codes "Trailing"
name_of faults.Control = codes "Control"
name_of faults.Producer = codes "Producer"
name_of faults.OutOfMemory = codes "OutOfMemory"
