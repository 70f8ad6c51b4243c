-- Reading headers, and records, one after the other, as a loop does.
use Rattle.std.proofs.Common.{◌≡◌, ◌≢◌, ℕ, suc, ◌-◌, ◌+◌, ◌≤◌, ◌<◌, List, [], ◌∷◌, ◌++◌, Result, Ok, Err, refl, sym, ap, ◌∙◌, append_assoc, arith}
use Rattle.std.proofs.lemmas.List.{append-nil}
use Rattle.eos_batch.specs.declared.fault.BatchFault.{BatchFault}
use Rattle.eos_batch.specs.declared.fault.BatchFault.TheVariants as faults
use Rattle.eos_batch.specs.declared.record.Header.{Header}
use Rattle.eos_batch.specs.declared.record.Record.{Record}
use Rattle.eos_base.specs.Fallible.{◌>>=◌}
use Rattle.eos_batch.specs.Answers.{Fails}
use Rattle.eos_batch.specs.Reading.{header_at, headers_at, record_at, records_at}

-- what fails is passed on
pub fails_through : {A B : Type 0} (e : BatchFault) (r : Result A BatchFault) (s : Result B BatchFault) → ((f : BatchFault) → r ≡ Err f → s ≡ Err f) → Fails e r → Fails e s
fails_through faults.Truncated r s k h = k faults.Truncated h
fails_through faults.Length r s k h = k faults.Length h
fails_through faults.Magic r s k h = k faults.Magic h
fails_through faults.Crc r s k h = k faults.Crc h
fails_through faults.Compressed r s k h = k faults.Compressed h
fails_through faults.Count r s k h = k faults.Count h
fails_through faults.Varint r s k h = k faults.Varint h
fails_through faults.Record r s k h = k faults.Record h
fails_through faults.Delta r s k h = k faults.Delta h
fails_through faults.Trailing r s k h = k faults.Trailing h
fails_through faults.Control r s k h = k faults.Control h
fails_through faults.Producer r s k h = k faults.Producer h
fails_through faults.OutOfMemory r s k h = tt

-- a fault that is not want of memory is the one that reading gives
pub real_fault : {A : Type 0} (e : BatchFault) (r : Result A BatchFault) → e ≢ faults.OutOfMemory → Fails e r → r ≡ Err e
real_fault faults.Truncated r real h = h
real_fault faults.Length r real h = h
real_fault faults.Magic r real h = h
real_fault faults.Crc r real h = h
real_fault faults.Compressed r real h = h
real_fault faults.Count r real h = h
real_fault faults.Varint r real h = h
real_fault faults.Record r real h = h
real_fault faults.Delta r real h = h
real_fault faults.Trailing r real h = h
real_fault faults.Control r real h = h
real_fault faults.Producer r real h = h
real_fault faults.OutOfMemory r real h = absurd (real refl)

-- what was read before, and what is still read
abbrev pub with_front : {X : Type 0} → List X → Result (List X × List ℕ) BatchFault → Result (List X × List ℕ) BatchFault
with_front front read = read >>= λ x. Ok (front ++ x.0, x.1)

regroup : {X : Type 0} (front : List X) (n : X) (read : Result (List X × List ℕ) BatchFault) → with_front front (read >>= λ x. Ok (n ∷ x.0, x.1)) ≡ with_front (front ++ n ∷ []) read
regroup {X} front n (Ok x) = ap (λ (ns : List X). Ok (ns, x.1)) (simp append_assoc)
regroup front n (Err f) = refl

nothing_more : {X : Type 0} (front : List X) (bytes : List ℕ) → with_front front (Ok ([], bytes)) ≡ Ok (front, bytes)
nothing_more {X} front bytes = ap (λ (ns : List X). Ok (ns, bytes)) (append-nil front)

-- ---- headers

pub header_goes_on : (front : List Header) (count i : ℕ) (bytes : List ℕ) (n : Header) (after : List ℕ) (total : Result (List Header × List ℕ) BatchFault) → i < count → header_at bytes ≡ Ok (n, after)
    → with_front front (headers_at (count - i) bytes) ≡ total → with_front (front ++ n ∷ []) (headers_at (count - (i + 1)) after) ≡ total
unfolding headers_at
header_goes_on front count i bytes n after total lt h so_far =
    let k : count - i ≡ suc (count - (i + 1)) = omega arith in
    let one : with_front front (headers_at (count - i) bytes) ≡ with_front (front ++ n ∷ []) (headers_at (count - (i + 1)) after) = rw (k, h) (regroup front n (headers_at (count - (i + 1)) after)) in
    sym one ∙ so_far

pub header_ends : (e : BatchFault) (front : List Header) (count i : ℕ) (bytes : List ℕ) (total : Result (List Header × List ℕ) BatchFault) → i < count → Fails e (header_at bytes)
    → with_front front (headers_at (count - i) bytes) ≡ total → Fails e total
unfolding headers_at
header_ends e front count i bytes total lt h so_far =
    let k : count - i ≡ suc (count - (i + 1)) = omega arith in
    fails_through e (header_at bytes) total (λ f q. let one : with_front front (headers_at (count - i) bytes) ≡ Err f = rw (k, q) refl in sym so_far ∙ one) h

pub headers_done : (front : List Header) (count i : ℕ) (bytes : List ℕ) (total : Result (List Header × List ℕ) BatchFault) → count ≤ i → with_front front (headers_at (count - i) bytes) ≡ total → total ≡ Ok (front, bytes)
unfolding headers_at
headers_done front count i bytes total le so_far =
    let k : count - i ≡ 0 = omega arith in
    let one : with_front front (headers_at (count - i) bytes) ≡ Ok (front, bytes) = rw k (nothing_more front bytes) in
    sym so_far ∙ one

-- ---- records

pub record_goes_on : (front : List Record) (count i : ℕ) (bytes : List ℕ) (n : Record) (after : List ℕ) (total : Result (List Record × List ℕ) BatchFault) → i < count → record_at i bytes ≡ Ok (n, after)
    → with_front front (records_at (count - i) i bytes) ≡ total → with_front (front ++ n ∷ []) (records_at (count - (i + 1)) (i + 1) after) ≡ total
unfolding records_at
record_goes_on front count i bytes n after total lt h so_far =
    let k : count - i ≡ suc (count - (i + 1)) = omega arith in
    let next : i + 1 ≡ suc i = omega arith in
    let one : with_front front (records_at (count - i) i bytes) ≡ with_front (front ++ n ∷ []) (records_at (count - (i + 1)) (suc i) after) = rw (k, h) (regroup front n (records_at (count - (i + 1)) (suc i) after)) in
    ap (λ (j : ℕ). with_front (front ++ n ∷ []) (records_at (count - (i + 1)) j after)) next ∙ (sym one ∙ so_far)

pub record_ends : (e : BatchFault) (front : List Record) (count i : ℕ) (bytes : List ℕ) (total : Result (List Record × List ℕ) BatchFault) → i < count → Fails e (record_at i bytes)
    → with_front front (records_at (count - i) i bytes) ≡ total → Fails e total
unfolding records_at
record_ends e front count i bytes total lt h so_far =
    let k : count - i ≡ suc (count - (i + 1)) = omega arith in
    fails_through e (record_at i bytes) total (λ f q. let one : with_front front (records_at (count - i) i bytes) ≡ Err f = rw (k, q) refl in sym so_far ∙ one) h

pub records_done : (front : List Record) (count i : ℕ) (bytes : List ℕ) (total : Result (List Record × List ℕ) BatchFault) → count ≤ i → with_front front (records_at (count - i) i bytes) ≡ total → total ≡ Ok (front, bytes)
unfolding records_at
records_done front count i bytes total le so_far =
    let k : count - i ≡ 0 = omega arith in
    let one : with_front front (records_at (count - i) i bytes) ≡ Ok (front, bytes) = rw k (nothing_more front bytes) in
    sym so_far ∙ one
