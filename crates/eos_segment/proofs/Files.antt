-- From what a reader has left to what stands in its file.
use Rattle.std.proofs.Common.{◌≡◌, ℕ, ◌+◌, ◌^◌, ◌<◌, List, ◌++◌, length, Option, None, Some, Result, Ok, Err, sym, ap, subst, ◌∙◌, inl, inr, append-nil, arith}
use Rattle.std.proofs.lemmas.List.{length-append}
use Rattle.std.proofs.KnownBytes.{Keeps-refl}
use Rattle.std.specs.Io.KnownBytes.{Consumes, IsAtEnd}
use Rattle.eos_disk.specs.Entries.{Entry, Unknown, Absent, File, Folder, Leaves, HasBytes}
use Rattle.eos_evidence.specs.Reading.{Takes}
use Rattle.eos_text.specs.Writing.{Writes, WritesFrontOf}
use Rattle.eos_segment.specs.Files.{IsToldOf, IsToldOfBytes, IsLong}
use Rattle.eos_segment.specs.Running.{Ran, ReadsSegment}
use Rattle.eos_segment.specs.steps.Opening.{IsUnopened}
use Rattle.eos_segment.specs.declared.fault.RunFault.{RunFault}
use Rattle.eos_segment.specs.declared.fault.RunFault.TheVariants as faults

-- all that was left are the bytes of the file
all_left : (bytes known : List ℕ) (rest : Option (List ℕ)) → Consumes (Some known) rest bytes → IsAtEnd rest → bytes ≡ known
all_left bytes known None all end = absurd all
all_left bytes known (Some left) all end = sym (all ∙ ap (λ l. bytes ++ l) end ∙ append-nil bytes)

read_of : (entry : Entry) (left rest : Option (List ℕ)) (bytes : List ℕ) → Leaves entry left → ReadsSegment left rest bytes → HasBytes entry bytes
read_of Unknown left rest bytes leaves read = tt
read_of Absent left rest bytes leaves read = absurd leaves
read_of (File known) left rest bytes leaves read = all_left bytes known rest (subst (λ (l : Option (List ℕ)). Consumes l rest bytes) leaves read.all) read.end
read_of (Folder names) left rest bytes leaves read = absurd leaves

long_left : (bytes known : List ℕ) (rest : Option (List ℕ)) → length bytes ≡ 2 ^ 30 + 1 → Consumes (Some known) rest bytes → 2 ^ 30 < length known
long_left bytes known None n all = absurd all
long_left bytes known (Some left) n all = omega (arith, n, ap length all, length-append bytes left)

long_of : (entry : Entry) (left rest : Option (List ℕ)) → Leaves entry left → Takes (2 ^ 30 + 1) left rest → IsLong entry
long_of Unknown left rest leaves taken = tt
long_of Absent left rest leaves taken = absurd leaves
long_of (File known) left rest leaves taken = long_left taken.0 known rest taken.1 (subst (λ (l : Option (List ℕ)). Consumes l rest taken.0) leaves taken.2)
long_of (Folder names) left rest leaves taken = absurd leaves

-- what was done with a reader's bytes was done with its file's
pub over_file : (Answers : List ℕ → List ℕ → ℕ → Type 0) (entry : Entry) (left rest old new : Option (List ℕ)) (result : Result ℕ RunFault)
    → Leaves entry left → Ran Answers left rest old new result → IsToldOf Answers entry old new result
over_file Answers entry left rest old new (Ok status) leaves h = record { bytes = h.bytes; is = read_of entry left rest h.bytes leaves h.read; within = h.read.within; written = h.written }
over_file Answers entry left rest old new (Err faults.Read) leaves h = h.1
over_file Answers entry left rest old new (Err faults.Limit) leaves h = (long_of entry left rest leaves h.0, h.1)
over_file Answers entry left rest old new (Err faults.Write) leaves h = record { bytes = h.bytes; is = read_of entry left rest h.bytes leaves h.read; within = h.read.within; written = h.written }
over_file Answers entry left rest old new (Err faults.OutOfMemory) leaves (inl h) = inl h.1
over_file Answers entry left rest old new (Err faults.OutOfMemory) leaves (inr h) =
    inr (record { bytes = h.bytes; is = read_of entry left rest h.bytes leaves h.read; within = h.read.within; written = h.written })

-- nothing was written about a file that wasn't opened
pub not_opened : (Answers : List ℕ → List ℕ → ℕ → Type 0) (entry : Entry) (old : Option (List ℕ)) (fault : RunFault) → IsUnopened fault → IsToldOf Answers entry old old (Err fault)
not_opened Answers entry old faults.Read u = Keeps-refl old
not_opened Answers entry old faults.Limit u = absurd u
not_opened Answers entry old faults.Write u = absurd u
not_opened Answers entry old faults.OutOfMemory u = inl (Keeps-refl old)

of_bytes : (Answers : List ℕ → List ℕ → ℕ → Type 0) (bytes : List ℕ) (old new : Option (List ℕ)) (result : Result ℕ RunFault) → IsToldOf Answers (File bytes) old new result → IsToldOfBytes Answers bytes old new result
of_bytes Answers bytes old new (Ok status) h = subst (λ (l : List ℕ). Writes (Answers l) old new status) h.is h.written
of_bytes Answers bytes old new (Err faults.Read) h = h
of_bytes Answers bytes old new (Err faults.Limit) h = h
of_bytes Answers bytes old new (Err faults.Write) h = subst (λ (l : List ℕ). WritesFrontOf (Answers l) old new) h.is h.written
of_bytes Answers bytes old new (Err faults.OutOfMemory) (inl h) = inl h
of_bytes Answers bytes old new (Err faults.OutOfMemory) (inr h) = inr (subst (λ (l : List ℕ). WritesFrontOf (Answers l) old new) h.is h.written)

-- a known file is answered about by its bytes
pub known_file : (Answers : List ℕ → List ℕ → ℕ → Type 0) (entry : Entry) (bytes : List ℕ) (old new : Option (List ℕ)) (result : Result ℕ RunFault)
    → entry ≡ File bytes → IsToldOf Answers entry old new result → IsToldOfBytes Answers bytes old new result
known_file Answers entry bytes old new result e h = of_bytes Answers bytes old new result (subst (λ (x : Entry). IsToldOf Answers x old new result) e h)
