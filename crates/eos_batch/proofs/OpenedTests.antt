-- The tests of an opened batch that are left, and the batch that passes them.
use Rattle.std.proofs.Common.{◌≡◌, ◌≢◌, ℕ, zero, suc, ◌-◌, Bool, true, false, List, [], ◌∷◌, length, drop, slice_range, Result, Ok, Err, refl, sym, ap, ◌∙◌}
use Rattle.std.specs.Prelude.{IfErr, MatchResult}
use Rattle.eos_batch.specs.declared.fault.BatchFault.{BatchFault}
use Rattle.eos_batch.specs.declared.fault.BatchFault.TheVariants as faults
use Rattle.eos_batch.specs.declared.batch.Batch.{Batch}
use Rattle.eos_batch.specs.declared.record.Record.{Record}
use Rattle.eos_batch.specs.declared.walk.Opened.{Opened}
use Rattle.eos_batch.specs.Attributes.{is_control}
use Rattle.eos_batch.specs.Marker.{has_right_control}
use Rattle.eos_batch.specs.Rules.{has_right_producer}
use Rattle.eos_batch.specs.Answers.{Fails}
use Rattle.eos_base.specs.Fallible.{◌>>=◌, must}
use Rattle.eos_batch.specs.Reading.{used_up, record_at, records_at, with_records, batch_at}
use Rattle.eos_batch.specs.Places.{IsOpened, finished, records_in, found_at}
use Rattle.eos_batch.specs.Real.{IsReal}
use Rattle.eos_batch.specs.steps.Reading.{Passes}
use Rattle.eos_batch.proofs.PassedRecords.{Alone}
use Rattle.eos_batch.proofs.ReadLoops.{fails_through}
use Rattle.eos_batch.proofs.TextParts.{bind_ok, ok_is, must_ok, must_bind}

-- a control batch of another number of records
not_one : (b : Batch) (rs : List Record) → is_control b.attributes ≡ true → length rs ≢ 1 → has_right_control (with_records b rs) ≡ false
not_one b [] e n = rw e refl
not_one b (r ∷ []) e n = absurd (n refl)
not_one b (r ∷ s ∷ rs) e n = rw e refl

-- ---- what is left of an opened batch

records_count : (n place : ℕ) (bytes : List ℕ) (x : List Record × List ℕ) → records_at n place bytes ≡ Ok x → length x.0 ≡ n
unfolding records_at
records_count zero place bytes x e = ap (λ (y : List Record × List ℕ). length y.0) (sym (ok_is ([], bytes) x e))
records_count (suc n) place bytes x e =
    let f = bind_ok (record_at place bytes) _ x e in
    let o = bind_ok (records_at n (suc place) f.0.1) _ x f.2 in
    ap (λ (y : List Record × List ℕ). length y.0) (sym (ok_is (f.0.0 ∷ o.0.0, o.0.1) x o.2)) ∙ ap suc (records_count n (suc place) f.0.1 o.0 o.1)

pub counted : (bytes : List ℕ) (begin end count : ℕ) (rs : List Record) → records_in bytes begin end count ≡ Ok rs → length rs ≡ count
counted bytes begin end count rs e =
    let r = bind_ok (records_at count 0 _) (used_up faults.Trailing) rs e in
    ap (λ (xs : List Record). length xs) (sym (must_ok _ faults.Trailing r.0.0 rs r.2).1) ∙ records_count count 0 _ r.0 r.1

pub goes_through : {bytes : List ℕ} {at : ℕ} {o : Opened} (rs : List Record) → IsOpened bytes at o → records_in bytes o.begin o.end o.count ≡ Ok rs → batch_at (drop at bytes) ≡ finished o.batch (o.end - at) rs
goes_through {bytes} {at} {o} rs opened e = opened.goes_on ∙ ap (λ (r : Result (List Record) BatchFault). r >>= finished o.batch (o.end - at)) e

pub records_fail : (bytes : List ℕ) (at : ℕ) (o : Opened) (e : BatchFault) → IsOpened bytes at o → Fails e (records_in bytes o.begin o.end o.count) → Fails e (batch_at (drop at bytes))
records_fail bytes at o e opened h =
    fails_through e (records_in bytes o.begin o.end o.count) (batch_at (drop at bytes)) (λ f q. opened.goes_on ∙ ap (λ (r : Result (List Record) BatchFault). r >>= finished o.batch (o.end - at)) q) h

pub counts_fail : (bytes : List ℕ) (at : ℕ) (o : Opened) (rs : List Record) → IsOpened bytes at o → records_in bytes o.begin o.end o.count ≡ Ok rs → is_control o.batch.attributes ≡ true → o.count ≢ 1 → batch_at (drop at bytes) ≡ Err faults.Control
counts_fail bytes at o rs opened e control n =
    let other : length rs ≢ 1 = λ one. n (sym (counted bytes o.begin o.end o.count rs e) ∙ one) in
    goes_through rs opened e ∙ rw (not_one o.batch rs control other) refl

-- what the last tests answer is no want of memory
abbrev ended : ℕ → Batch → Result (Batch × ℕ) BatchFault
ended size b = Ok (b, size)

second_test : (q : Bool) (x : Batch) (size : ℕ) → (must q faults.Producer x >>= ended size) ≡ Err faults.OutOfMemory → ⊥
second_test true x size h = cc
second_test false x size h = cc

last_tests : (c : Bool) (p : Batch → Bool) (x : Batch) (size : ℕ) → (must c faults.Control x >>= λ y. must (p y) faults.Producer y >>= ended size) ≡ Err faults.OutOfMemory → ⊥
last_tests true p x size h = second_test (p x) x size h
last_tests false p x size h = cc

pub finished_real : (b : Batch) (size : ℕ) (rs : List Record) (e : BatchFault) → finished b size rs ≡ Err e → e ≢ faults.OutOfMemory
finished_real b size rs e h = λ m. last_tests (has_right_control (with_records b rs)) has_right_producer (with_records b rs) size (h ∙ ap Err m)

pub is_fault : {A : Type 0} (e : BatchFault) (read : Result A BatchFault) → read ≡ Err e → Fails e read
is_fault faults.Truncated read h = h
is_fault faults.Length read h = h
is_fault faults.Magic read h = h
is_fault faults.Crc read h = h
is_fault faults.Compressed read h = h
is_fault faults.Count read h = h
is_fault faults.Varint read h = h
is_fault faults.Record read h = h
is_fault faults.Delta read h = h
is_fault faults.Trailing read h = h
is_fault faults.Control read h = h
is_fault faults.Producer read h = h
is_fault faults.OutOfMemory read h = tt

-- ---- the batch of an opened one whose tests all pass

finished_is : (b : Batch) (size : ℕ) (rs : List Record) (x : Batch × ℕ) → finished b size rs ≡ Ok x → (with_records b rs, size) ≡ x
finished_is b size rs x e =
    let c = must_bind (has_right_control (with_records b rs)) faults.Control (with_records b rs) _ x e in
    let p = must_bind (has_right_producer (with_records b rs)) faults.Producer (with_records b rs) _ x c.1 in
    ok_is (with_records b rs, size) x p.1

pub made : (bytes : List ℕ) (at : ℕ) (o : Opened) (x : Batch × ℕ) (rs : List Record) (rest : List ℕ) → IsOpened bytes at o → batch_at (drop at bytes) ≡ Ok x
    → records_at o.count 0 (slice_range bytes o.begin o.end) ≡ Ok (rs, rest) → batch_at (drop at bytes) ≡ Ok (with_records o.batch rs, o.end - at)
made bytes at o x rs rest opened e read =
    let f = bind_ok (records_in bytes o.begin o.end o.count) (finished o.batch (o.end - at)) x (sym opened.goes_on ∙ e) in
    let r = bind_ok (records_at o.count 0 (slice_range bytes o.begin o.end)) (used_up faults.Trailing) f.0 f.1 in
    let all = must_ok _ faults.Trailing r.0.0 f.0 r.2 in
    let same = ok_is r.0 (rs, rest) (sym r.1 ∙ read) in
    let list : f.0 ≡ rs = sym all.1 ∙ ap (λ (y : List Record × List ℕ). y.0) same in
    e ∙ ap Ok (sym (finished_is o.batch (o.end - at) f.0 x f.2) ∙ ap (λ (qs : List Record). (with_records o.batch qs, o.end - at)) list)

-- ---- a control batch of one record

abbrev Tested : {A : Type 0} → Result A BatchFault → Batch → Record → Type 0
Tested res b r = MatchResult res (λ x. (size : ℕ) → finished b size (r ∷ []) ≡ Ok (with_records b (r ∷ []), size)) (λ e. (size : ℕ) → finished b size (r ∷ []) ≡ Err e)

pub one_found : {bytes : List ℕ} {begin : ℕ} {rs : List Record} {r : Record} → Alone bytes begin rs → found_at begin bytes ≡ Ok r → rs ≡ r ∷ []
one_found {bytes} {begin} {rs} {r} a e = a.all ∙ ap (λ (q : Record). q ∷ []) (ok_is a.found r (sym a.reads ∙ e))

pub control_tested : {A : Type 0} (res : Result A BatchFault) (bytes : List ℕ) (at : ℕ) (o : Opened) (rs : List Record) (r : Record) → IsOpened bytes at o → records_in bytes o.begin o.end o.count ≡ Ok rs → rs ≡ r ∷ [] → Tested res o.batch r → Passes res (batch_at (drop at bytes))
control_tested (Ok x) bytes at o rs r opened e one t =
    ((with_records o.batch (r ∷ []), o.end - at), goes_through rs opened e ∙ (ap (λ (qs : List Record). finished o.batch (o.end - at) qs) one ∙ t (o.end - at)))
control_tested (Err f) bytes at o rs r opened e one t =
    is_fault f (batch_at (drop at bytes)) (goes_through rs opened e ∙ (ap (λ (qs : List Record). finished o.batch (o.end - at) qs) one ∙ t (o.end - at)))

pub control_real : {A : Type 0} (res : Result A BatchFault) (b : Batch) (r : Record) → Tested res b r → IfErr res IsReal
control_real (Ok x) b r t = tt
control_real (Err e) b r t = finished_real b 0 (r ∷ []) e (t 0)
