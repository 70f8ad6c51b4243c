-- Counting the records of a front's batches.
use Rattle.std.specs.Prelude.{◌≡◌, ℕ, ◌+◌, ◌-◌, ◌≤◌, ◌<◌, ◌^◌, min, List, Result, Ok, Err}
use Rattle.eos_fold_file.specs.declared.fault.FoldFault.{FoldFault}
use Rattle.eos_fold_file.specs.declared.head.FoldHead.{FoldHead}
use Rattle.eos_fold_file.specs.declared.read.Counted.{Counted}
use Rattle.eos_fold_file.specs.Faults.{Fails}
use Rattle.eos_fold_file.specs.Files.{record_count, data_count, size_sum}

-- the offset after the last record, the number of data records, where that offset is less than the greatest number of 64 bits, and the
-- number of bytes: none is past that number
pub record IsCountedHeads (begin : ℕ) (heads : List FoldHead) (found : Counted) : Type 0 where
  pub next : found.next ≡ min (begin + record_count heads) (2 ^ 64 - 1)
  pub below : found.records ≤ found.next
  pub counted : found.next < 2 ^ 64 - 1 → found.records ≡ data_count heads
  pub size : found.size ≡ min (size_sum heads) (2 ^ 64 - 1)

-- the heads and the bytes that are left are what reading gives, and counted so, unless memory ran out
abbrev pub GivesCounted : ℕ → Result (List FoldHead × Counted) FoldFault → List ℕ → Result (List FoldHead × List ℕ) FoldFault → Type 0
GivesCounted begin (Ok x) rest read = (read ≡ Ok (x.0, rest)) × IsCountedHeads begin x.0 x.1
GivesCounted begin (Err e) rest read = Fails e read

-- the offset after the last record, the number of data records, and the number of bytes
pub record AreCounted (begin : ℕ) (heads : List FoldHead) (found : Counted) : Type 0 where
  pub next : found.next ≡ begin + record_count heads
  pub records : found.records ≡ data_count heads
  pub size : found.size ≡ size_sum heads

-- the heads and the bytes that are left are what reading gives, counted from this offset on, unless memory ran out
abbrev pub GivesHeads : ℕ → Result (List FoldHead × Counted) FoldFault → List ℕ → Result (List FoldHead × List ℕ) FoldFault → Type 0
GivesHeads begin (Ok x) rest read = (read ≡ Ok (x.0, rest)) × AreCounted begin x.0 x.1
GivesHeads begin (Err e) rest read = Fails e read
