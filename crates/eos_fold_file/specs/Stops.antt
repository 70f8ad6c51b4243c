-- Why a front ends, as bytes of a fold file.
use Rattle.std.specs.Prelude.{ℕ, zero, suc, ℤ, pos, negsuc, List, [], ◌∷◌, ◌++◌, find, Option, Result, Ok, Err, Bool, not, nat_lt, ◌==◌, ◌&&◌}
use Rattle.std.specs.Ordering.{int_eq}
use Rattle.eos_base.specs.Fallible.{◌>>=◌, or_fault}
use Rattle.eos_wire.specs.Numbers.{i8_text}
use Rattle.eos_batch.specs.declared.fault.BatchFault.{BatchFault}
use Rattle.eos_batch.specs.declared.fault.BatchFault.TheVariants as batches
use Rattle.eos_fold.specs.declared.stop.Stop.{Stop}
use Rattle.eos_fold.specs.declared.stop.Stop.TheVariants.{AtEnd, NoBatch, Elsewhere}
use Rattle.eos_fold_file.specs.declared.fault.FoldFault.{FoldFault}
use Rattle.eos_fold_file.specs.declared.fault.FoldFault.TheVariants as faults
use Rattle.eos_fold_file.specs.Numbers.{u64_text, kind_from, u64_from}

abbrev pub fault_number : BatchFault → ℤ
fault_number batches.Truncated = pos 0
fault_number batches.Length = pos 1
fault_number batches.Magic = pos 2
fault_number batches.Crc = pos 3
fault_number batches.Compressed = pos 4
fault_number batches.Count = pos 5
fault_number batches.Varint = pos 6
fault_number batches.Record = pos 7
fault_number batches.Delta = pos 8
fault_number batches.Trailing = pos 9
fault_number batches.Control = pos 10
fault_number batches.Producer = pos 11
fault_number batches.OutOfMemory = pos 12

-- those by which a front can end: no want of memory
abbrev pub batch_faults : List BatchFault
batch_faults = batches.Truncated ∷ batches.Length ∷ batches.Magic ∷ batches.Crc ∷ batches.Compressed ∷ batches.Count ∷ batches.Varint ∷ batches.Record ∷ batches.Delta ∷ batches.Trailing ∷ batches.Control ∷ batches.Producer ∷ []

abbrev pub fault_of : ℤ → Option BatchFault
fault_of number = find (λ fault. int_eq (fault_number fault) number) batch_faults

abbrev pub stop_text : Stop → List ℕ
stop_text AtEnd = i8_text (pos 0)
stop_text (NoBatch segment byte fault) = i8_text (pos 1) ++ (u64_text segment ++ (u64_text byte ++ i8_text (fault_number fault)))
stop_text (Elsewhere found) = i8_text (pos 2) ++ u64_text found

-- Batches from this offset on end at this one, and take so many of so many bytes: so a front ends. Where it ends before all bytes, it
-- does so behind its batches.
abbrev pub is_inside : ℕ → ℕ → ℕ → ℕ → Stop → Bool
is_inside begin next size bytes AtEnd = size == bytes
is_inside begin next size bytes (NoBatch segment byte fault) = (segment == begin) && ((byte == size) && nat_lt size bytes)
is_inside begin next size bytes (Elsewhere found) = not (found == next) && nat_lt size bytes

-- ---- reading

abbrev pub known_fault : Option BatchFault → Result BatchFault FoldFault
known_fault = or_fault faults.Stop

unfoldable pub fault_from : List ℕ → Result (BatchFault × List ℕ) FoldFault
fault_from bytes = do
  number ← kind_from bytes
  fault ← known_fault (fault_of number.0)
  Ok (fault, number.1)

unfoldable pub no_batch_from : List ℕ → Result (Stop × List ℕ) FoldFault
no_batch_from bytes = do
  segment ← u64_from bytes
  byte ← u64_from segment.1
  fault ← fault_from byte.1
  Ok (NoBatch segment.0 byte.0 fault.0, fault.1)

unfoldable pub elsewhere_from : List ℕ → Result (Stop × List ℕ) FoldFault
elsewhere_from bytes = do
  found ← u64_from bytes
  Ok (Elsewhere found.0, found.1)

abbrev pub stop_of : ℤ × List ℕ → Result (Stop × List ℕ) FoldFault
stop_of (pos zero, bytes) = Ok (AtEnd, bytes)
stop_of (pos (suc zero), bytes) = no_batch_from bytes
stop_of (pos (suc (suc zero)), bytes) = elsewhere_from bytes
stop_of (pos (suc (suc (suc n))), bytes) = Err faults.Stop
stop_of (negsuc n, bytes) = Err faults.Stop

unfoldable pub stop_from : List ℕ → Result (Stop × List ℕ) FoldFault
stop_from bytes = kind_from bytes >>= stop_of
