-- The heads of batches and the stop are read exactly as they are written.
use Rattle.std.proofs.Common.{◌≡◌, ℕ, zero, suc, ◌<◌, ◌^◌, Bool, true, false, cond, ltb, ◌&&◌, ℤ, pos, negsuc, List, [], ◌∷◌, ◌++◌, Option, Some, None, Ok, refl, sym, ap, ◌∙◌, subst, append_assoc, rules, arith, FitsSigned}
use Rattle.std.specs.Prelude.{find}
use Rattle.std.specs.Ordering.{int_eq}
use Rattle.std.proofs.lemmas.Bool.Decides.{Decides-int_eq}
use Rattle.std.specs.Int.{w8}
use Rattle.std.proofs.lemmas.Bool.{ltb-true}
use Rattle.std.proofs.lemmas.List.{append-nil}
use Rattle.eos_batch.specs.declared.fault.BatchFault.{BatchFault}
use Rattle.eos_batch.specs.declared.fault.BatchFault.TheVariants as batches
use Rattle.eos_batch.specs.Real.{IsReal}
use Rattle.eos_fold.specs.declared.stop.Stop.{Stop}
use Rattle.eos_fold.specs.declared.stop.Stop.TheVariants.{AtEnd, NoBatch, Elsewhere}
use Rattle.eos_wire.specs.Numbers.{i8_text}
use Rattle.eos_wire.specs.Writing.{varlong_of}
use Rattle.eos_fold_file.specs.declared.fault.FoldFault.TheVariants as faults
use Rattle.eos_reading.specs.declared.epoch.EpochEntry.{EpochEntry}
use Rattle.eos_fold_file.specs.declared.head.BatchKind.{BatchKind}
use Rattle.eos_fold_file.specs.declared.head.BatchKind.TheVariants.{Data, Control, Commit, Abort}
use Rattle.eos_fold_file.specs.declared.head.FoldHead.{FoldHead}
use Rattle.eos_fold_file.specs.Legal.{IsLegalKind, IsLegalHead, IsLegalEntry, IsLegalStop}
use Rattle.eos_fold_file.specs.Numbers.{u64_text, kind_from, number_from, i32_from, i16_from, u64_from, u32_from}
use Rattle.eos_fold_file.specs.Heads.{is_size_possible, is_producer_possible, is_possible, kind_number, epoch_text, batch_kind_text, producer_text, head_text, commit_from, abort_from, kind_of, batch_kind_from, head_from}
use Rattle.eos_fold_file.specs.Epochs.{entry_text, entry_from}
use Rattle.eos_fold_file.specs.Stops.{fault_number, batch_faults, fault_of, stop_text, known_fault, fault_from, no_batch_from, elsewhere_from, stop_of, stop_from}
use Rattle.eos_fold_file.proofs.Takes.{as_passed, as_read, bind_ok, done, ok_is, must_ok, and_true, glue, Taken, IsCodec}
use Rattle.eos_fold_file.proofs.NumberCodecs.{kind_codec, number_codec, i32_codec, i16_codec, u64_codec, u32_codec}

-- ---- what a batch is

abbrev pub kind_text : Bool × BatchKind → List ℕ
kind_text k = batch_kind_text k.0 k.1

abbrev pub IsLegalPair : Bool × BatchKind → Type 0
IsLegalPair k = IsLegalKind k.1

commit_sound : (t : Bool) (bytes rest : List ℕ) (x : (Bool × BatchKind) × List ℕ) → Taken i8_text (FitsSigned w8) bytes (kind_number t (Commit (pos 0)), rest) → commit_from t rest ≡ Ok x → Taken kind_text IsLegalPair bytes x
unfolding commit_from
commit_sound t bytes rest x k e =
    let z = bind_ok (i32_from rest) _ x e in
    let epoch = i32_codec.sound rest z.0 k.rest_fits z.1 in
    let made : (Bool × BatchKind) × List ℕ = ((t, Commit z.0.0), z.0.1) in
    as_read kind_text IsLegalPair bytes made x z.2 (record {
      parts = glue bytes (i8_text (kind_number t (Commit (pos 0)))) rest (varlong_of z.0.0) z.0.1 k.parts epoch.parts ∙ ap (λ (n : ℤ). (i8_text n ++ varlong_of z.0.0) ++ z.0.1) (same t z.0.0);
      legal = epoch.legal;
      rest_fits = epoch.rest_fits;
    })
  where
    same : (t : Bool) (z : ℤ) → kind_number t (Commit (pos 0)) ≡ kind_number t (Commit z)
    same true z = refl
    same false z = refl

abort_sound : (t : Bool) (bytes rest : List ℕ) (x : (Bool × BatchKind) × List ℕ) → Taken i8_text (FitsSigned w8) bytes (kind_number t (Abort (pos 0)), rest) → abort_from t rest ≡ Ok x → Taken kind_text IsLegalPair bytes x
unfolding abort_from
abort_sound t bytes rest x k e =
    let z = bind_ok (i32_from rest) _ x e in
    let epoch = i32_codec.sound rest z.0 k.rest_fits z.1 in
    let made : (Bool × BatchKind) × List ℕ = ((t, Abort z.0.0), z.0.1) in
    as_read kind_text IsLegalPair bytes made x z.2 (record {
      parts = glue bytes (i8_text (kind_number t (Abort (pos 0)))) rest (varlong_of z.0.0) z.0.1 k.parts epoch.parts ∙ ap (λ (n : ℤ). (i8_text n ++ varlong_of z.0.0) ++ z.0.1) (same t z.0.0);
      legal = epoch.legal;
      rest_fits = epoch.rest_fits;
    })
  where
    same : (t : Bool) (z : ℤ) → kind_number t (Abort (pos 0)) ≡ kind_number t (Abort z)
    same true z = refl
    same false z = refl

-- a kind with nothing behind it
alone : (t : Bool) (k : BatchKind) (bytes rest : List ℕ) (x : (Bool × BatchKind) × List ℕ) → epoch_text k ≡ [] → IsLegalKind k → Taken i8_text (FitsSigned w8) bytes (kind_number t k, rest) → done {A = (Bool × BatchKind) × List ℕ} ((t, k), rest) ≡ done x → Taken kind_text IsLegalPair bytes x
alone t k bytes rest x none legal taken e =
    let made : (Bool × BatchKind) × List ℕ = ((t, k), rest) in
    as_read kind_text IsLegalPair bytes made x e (record { parts = taken.parts ∙ ap (λ (ts : List ℕ). ts ++ rest) (sym (append-nil (i8_text (kind_number t k))) ∙ ap (λ (ts : List ℕ). i8_text (kind_number t k) ++ ts) (sym none)); legal = legal; rest_fits = taken.rest_fits })

kind_told : (bytes : List ℕ) (k : ℤ × List ℕ) (x : (Bool × BatchKind) × List ℕ) → Taken i8_text (FitsSigned w8) bytes k → kind_of k ≡ Ok x → Taken kind_text IsLegalPair bytes x
kind_told bytes (pos zero, rest) x t e = alone false Data bytes rest x refl tt t e
kind_told bytes (pos (suc zero), rest) x t e = alone true Data bytes rest x refl tt t e
kind_told bytes (pos (suc (suc zero)), rest) x t e = alone false Control bytes rest x refl tt t e
kind_told bytes (pos (suc (suc (suc zero))), rest) x t e = alone true Control bytes rest x refl tt t e
kind_told bytes (pos (suc (suc (suc (suc zero)))), rest) x t e = commit_sound false bytes rest x t e
kind_told bytes (pos (suc (suc (suc (suc (suc zero))))), rest) x t e = commit_sound true bytes rest x t e
kind_told bytes (pos (suc (suc (suc (suc (suc (suc zero)))))), rest) x t e = abort_sound false bytes rest x t e
kind_told bytes (pos (suc (suc (suc (suc (suc (suc (suc zero))))))), rest) x t e = abort_sound true bytes rest x t e
kind_told bytes (pos (suc (suc (suc (suc (suc (suc (suc (suc n)))))))), rest) x t e = absurd cc
kind_told bytes (negsuc n, rest) x t e = absurd cc

kind_held : (t : Bool) (k : BatchKind) (rest : List ℕ) → IsLegalKind k → batch_kind_from (batch_kind_text t k ++ rest) ≡ Ok ((t, k), rest)
unfolding batch_kind_from commit_from abort_from
kind_held false Data rest h = rw (append-nil (i8_text (pos 0)), kind_codec.whole (pos 0) rest (search rules)) refl
kind_held true Data rest h = rw (append-nil (i8_text (pos 1)), kind_codec.whole (pos 1) rest (search rules)) refl
kind_held false Control rest h = rw (append-nil (i8_text (pos 2)), kind_codec.whole (pos 2) rest (search rules)) refl
kind_held true Control rest h = rw (append-nil (i8_text (pos 3)), kind_codec.whole (pos 3) rest (search rules)) refl
kind_held false (Commit z) rest h = rw (append_assoc (i8_text (pos 4)) (varlong_of z) rest, kind_codec.whole (pos 4) (varlong_of z ++ rest) (search rules), i32_codec.whole z rest h) refl
kind_held true (Commit z) rest h = rw (append_assoc (i8_text (pos 5)) (varlong_of z) rest, kind_codec.whole (pos 5) (varlong_of z ++ rest) (search rules), i32_codec.whole z rest h) refl
kind_held false (Abort z) rest h = rw (append_assoc (i8_text (pos 6)) (varlong_of z) rest, kind_codec.whole (pos 6) (varlong_of z ++ rest) (search rules), i32_codec.whole z rest h) refl
kind_held true (Abort z) rest h = rw (append_assoc (i8_text (pos 7)) (varlong_of z) rest, kind_codec.whole (pos 7) (varlong_of z ++ rest) (search rules), i32_codec.whole z rest h) refl

pub batch_kind_codec : IsCodec kind_text IsLegalPair batch_kind_from
unfolding batch_kind_from
batch_kind_codec = record {
  sound = λ bytes x fits e.
      let k = bind_ok (kind_from bytes) kind_of x e in
      kind_told bytes k.0 x (kind_codec.sound bytes k.0 fits k.1) k.2;
  whole = λ k rest h. kind_held k.0 k.1 rest h;
}

-- ---- heads

count_small : (h : FoldHead) → is_possible h ≡ true → h.count < 2 ^ 32
count_small h e =
    let a = (and_true _ (is_size_possible h && is_producer_possible h) e).0 in
    let b = (and_true (ltb 0 h.count && ltb h.count (2 ^ 31)) _ a).0 in
    let c = ltb-true h.count (2 ^ 31) (and_true (ltb 0 h.count) (ltb h.count (2 ^ 31)) b).1 in
    omega (arith, c)

pub head_codec : IsCodec head_text IsLegalHead head_from
unfolding head_from
head_codec = record {
  sound = λ bytes x fits e.
      let k = bind_ok (batch_kind_from bytes) _ x e in
      let n = bind_ok (u32_from k.0.1) _ x k.2 in
      let s = bind_ok (u64_from n.0.1) _ x n.2 in
      let p = bind_ok (number_from s.0.1) _ x s.2 in
      let o = bind_ok (i16_from p.0.1) _ x p.2 in
      let q = bind_ok (i32_from o.0.1) _ x o.2 in
      let head : FoldHead = record { kind = k.0.0.1; is_transactional = k.0.0.0; count = n.0.0; size = s.0.0; producer = p.0.0; epoch = o.0.0; sequence = q.0.0 } in
      let m = must_ok (is_possible head) faults.Head (head, q.0.1) x q.2 in
      let kind = batch_kind_codec.sound bytes k.0 fits k.1 in
      let count = u32_codec.sound k.0.1 n.0 kind.rest_fits n.1 in
      let size = u64_codec.sound n.0.1 s.0 count.rest_fits s.1 in
      let producer = number_codec.sound s.0.1 p.0 size.rest_fits p.1 in
      let epoch = i16_codec.sound p.0.1 o.0 producer.rest_fits o.1 in
      let sequence = i32_codec.sound o.0.1 q.0 epoch.rest_fits q.1 in
      let a = glue p.0.1 (varlong_of o.0.0) o.0.1 (varlong_of q.0.0) q.0.1 epoch.parts sequence.parts in
      let b = glue s.0.1 (varlong_of p.0.0) p.0.1 (varlong_of o.0.0 ++ varlong_of q.0.0) q.0.1 producer.parts a in
      let c = glue n.0.1 (u64_text s.0.0) s.0.1 (producer_text head) q.0.1 size.parts b in
      let d = glue k.0.1 (u64_text n.0.0) n.0.1 (u64_text s.0.0 ++ producer_text head) q.0.1 count.parts c in
      as_passed head_text IsLegalHead bytes (head, q.0.1) x m.1 (record {
        parts = glue bytes (kind_text k.0.0) k.0.1 (u64_text n.0.0 ++ (u64_text s.0.0 ++ producer_text head)) q.0.1 kind.parts d;
        legal = record { kind = kind.legal; size = size.legal; producer = producer.legal; epoch = epoch.legal; sequence = sequence.legal; possible = m.0 };
        rest_fits = sequence.rest_fits;
      });
  whole = λ h rest legal.
      let behind = varlong_of h.producer ++ (varlong_of h.epoch ++ (varlong_of h.sequence ++ rest)) in
      let e : head_text h ++ rest ≡ batch_kind_text h.is_transactional h.kind ++ (u64_text h.count ++ (u64_text h.size ++ behind)) = simp append_assoc in
      let possible : is_possible h ≡ true = legal.possible in
      rw (
        e,
        kind_held h.is_transactional h.kind (u64_text h.count ++ (u64_text h.size ++ behind)) legal.kind,
        u32_codec.whole h.count (u64_text h.size ++ behind) (count_small h possible),
        u64_codec.whole h.size behind legal.size,
        number_codec.whole h.producer (varlong_of h.epoch ++ (varlong_of h.sequence ++ rest)) legal.producer,
        i16_codec.whole h.epoch (varlong_of h.sequence ++ rest) legal.epoch,
        i32_codec.whole h.sequence rest legal.sequence,
        possible,
      )
      refl;
}

-- ---- leader epochs

pub entry_codec : IsCodec entry_text IsLegalEntry entry_from
unfolding entry_from
entry_codec = record {
  sound = λ bytes x fits e.
      let p = bind_ok (i32_from bytes) _ x e in
      let s = bind_ok (u64_from p.0.1) _ x p.2 in
      let epoch = i32_codec.sound bytes p.0 fits p.1 in
      let start = u64_codec.sound p.0.1 s.0 epoch.rest_fits s.1 in
      let made : EpochEntry × List ℕ = (record { epoch = p.0.0; start_offset = s.0.0 }, s.0.1) in
      as_read entry_text IsLegalEntry bytes made x s.2 (record {
        parts = glue bytes (varlong_of p.0.0) p.0.1 (u64_text s.0.0) s.0.1 epoch.parts start.parts;
        legal = record { epoch = epoch.legal; start_offset = start.legal };
        rest_fits = start.rest_fits;
      });
  whole = λ entry rest h.
      rw (append_assoc (varlong_of entry.epoch) (u64_text entry.start_offset) rest, i32_codec.whole entry.epoch (u64_text entry.start_offset ++ rest) h.epoch, u64_codec.whole entry.start_offset rest h.start_offset) refl;
}

-- ---- the stop

found_passes : {X : Type 0} (p : X → Bool) (xs : List X) (x : X) → find p xs ≡ Some x → p x ≡ true
found_passes p [] x e = absurd cc
found_passes {X} p (y ∷ ys) x e = at (p y) refl e (λ q. found_passes p ys x q)
  where
    at : (b : Bool) → p y ≡ b → cond b (Some y) (find p ys) ≡ Some x → (find p ys ≡ Some x → p x ≡ true) → p x ≡ true
    at true is q later = let same : y ≡ x = cc in subst (λ (z : X). p z ≡ true) same is
    at false is q later = later q

fault_found : (z : ℤ) (f : BatchFault) → fault_of z ≡ Some f → fault_number f ≡ z
fault_found z f e = (Decides-int_eq (fault_number f) z).0 (found_passes (λ (g : BatchFault). int_eq (fault_number g) z) batch_faults f e)

fault_again : (f : BatchFault) → IsReal f → fault_of (fault_number f) ≡ Some f
fault_again batches.Truncated r = refl
fault_again batches.Length r = refl
fault_again batches.Magic r = refl
fault_again batches.Crc r = refl
fault_again batches.Compressed r = refl
fault_again batches.Count r = refl
fault_again batches.Varint r = refl
fault_again batches.Record r = refl
fault_again batches.Delta r = refl
fault_again batches.Trailing r = refl
fault_again batches.Control r = refl
fault_again batches.Producer r = refl
fault_again batches.OutOfMemory r = absurd (r refl)

-- want of memory has a number, at which no fault is found
found_real : (f : BatchFault) → fault_of (fault_number f) ≡ Some f → IsReal f
found_real f e q = absurd (none_there (subst (λ (g : BatchFault). fault_of (fault_number g) ≡ Some g) q e))
  where
    none_there : fault_of (pos 12) ≡ Some batches.OutOfMemory → ⊥
    none_there e = cc

fault_number_fits : (f : BatchFault) → FitsSigned w8 (fault_number f)
fault_number_fits batches.Truncated = record { sfits = omega arith }
fault_number_fits batches.Length = record { sfits = omega arith }
fault_number_fits batches.Magic = record { sfits = omega arith }
fault_number_fits batches.Crc = record { sfits = omega arith }
fault_number_fits batches.Compressed = record { sfits = omega arith }
fault_number_fits batches.Count = record { sfits = omega arith }
fault_number_fits batches.Varint = record { sfits = omega arith }
fault_number_fits batches.Record = record { sfits = omega arith }
fault_number_fits batches.Delta = record { sfits = omega arith }
fault_number_fits batches.Trailing = record { sfits = omega arith }
fault_number_fits batches.Control = record { sfits = omega arith }
fault_number_fits batches.Producer = record { sfits = omega arith }
fault_number_fits batches.OutOfMemory = record { sfits = omega arith }

abbrev fault_text : BatchFault → List ℕ
fault_text f = i8_text (fault_number f)

known_ok : (o : Option BatchFault) (f : BatchFault) → known_fault o ≡ Ok f → o ≡ Some f
known_ok None f e = absurd cc
known_ok (Some g) f e = cc

fault_codec : IsCodec fault_text IsReal fault_from
unfolding fault_from
fault_codec = record {
  sound = λ bytes x fits e.
      let n = bind_ok (kind_from bytes) _ x e in
      let f = bind_ok (known_fault (fault_of n.0.0)) _ x n.2 in
      let t = kind_codec.sound bytes n.0 fits n.1 in
      let found : fault_of n.0.0 ≡ Some f.0 = known_ok (fault_of n.0.0) f.0 f.1 in
      let number : fault_number f.0 ≡ n.0.0 = fault_found n.0.0 f.0 found in
      let made : BatchFault × List ℕ = (f.0, n.0.1) in
      as_read fault_text IsReal bytes made x f.2 (record {
        parts = t.parts ∙ ap (λ (z : ℤ). i8_text z ++ n.0.1) (sym number);
        legal = found_real f.0 (ap fault_of number ∙ found);
        rest_fits = t.rest_fits;
      });
  whole = λ f rest r. rw (kind_codec.whole (fault_number f) rest (fault_number_fits f), fault_again f r) refl;
}

pub stop_codec : IsCodec stop_text IsLegalStop stop_from
unfolding stop_from no_batch_from elsewhere_from
stop_codec = record {
  sound = λ bytes x fits e.
      let k = bind_ok (kind_from bytes) stop_of x e in
      told bytes k.0 x (kind_codec.sound bytes k.0 fits k.1) k.2;
  whole = held;
}
  where
    told : (bytes : List ℕ) (k : ℤ × List ℕ) (x : Stop × List ℕ) → Taken i8_text (FitsSigned w8) bytes k → stop_of k ≡ Ok x → Taken stop_text IsLegalStop bytes x
    told bytes (pos zero, rest) x t e = subst (Taken stop_text IsLegalStop bytes) (ok_is (AtEnd, rest) x e) (record { parts = t.parts; legal = tt; rest_fits = t.rest_fits })
    told bytes (pos (suc zero), rest) x t e =
        let s = bind_ok (u64_from rest) _ x e in
        let b = bind_ok (u64_from s.0.1) _ x s.2 in
        let f = bind_ok (fault_from b.0.1) _ x b.2 in
        let segment = u64_codec.sound rest s.0 t.rest_fits s.1 in
        let byte = u64_codec.sound s.0.1 b.0 segment.rest_fits b.1 in
        let fault = fault_codec.sound b.0.1 f.0 byte.rest_fits f.1 in
        let behind = glue s.0.1 (u64_text b.0.0) b.0.1 (fault_text f.0.0) f.0.1 byte.parts fault.parts in
        let more = glue rest (u64_text s.0.0) s.0.1 (u64_text b.0.0 ++ fault_text f.0.0) f.0.1 segment.parts behind in
        let made : Stop × List ℕ = (NoBatch s.0.0 b.0.0 f.0.0, f.0.1) in
        as_read stop_text IsLegalStop bytes made x f.2 (record {
          parts = glue bytes (i8_text (pos 1)) rest (u64_text s.0.0 ++ (u64_text b.0.0 ++ fault_text f.0.0)) f.0.1 t.parts more;
          legal = (segment.legal, byte.legal, fault.legal);
          rest_fits = fault.rest_fits;
        })
    told bytes (pos (suc (suc zero)), rest) x t e =
        let f = bind_ok (u64_from rest) _ x e in
        let found = u64_codec.sound rest f.0 t.rest_fits f.1 in
        let made : Stop × List ℕ = (Elsewhere f.0.0, f.0.1) in
        as_read stop_text IsLegalStop bytes made x f.2 (record {
          parts = glue bytes (i8_text (pos 2)) rest (u64_text f.0.0) f.0.1 t.parts found.parts;
          legal = found.legal;
          rest_fits = found.rest_fits;
        })
    told bytes (pos (suc (suc (suc n))), rest) x t e = absurd cc
    told bytes (negsuc n, rest) x t e = absurd cc

    held : (s : Stop) (rest : List ℕ) → IsLegalStop s → stop_from (stop_text s ++ rest) ≡ Ok (s, rest)
    held AtEnd rest h = rw (kind_codec.whole (pos 0) rest (search rules)) refl
    held (NoBatch segment byte fault) rest h =
        let e : stop_text (NoBatch segment byte fault) ++ rest ≡ i8_text (pos 1) ++ (u64_text segment ++ (u64_text byte ++ (fault_text fault ++ rest))) = simp append_assoc in
        rw (
          e,
          kind_codec.whole (pos 1) (u64_text segment ++ (u64_text byte ++ (fault_text fault ++ rest))) (search rules),
          u64_codec.whole segment (u64_text byte ++ (fault_text fault ++ rest)) h.0,
          u64_codec.whole byte (fault_text fault ++ rest) h.1,
          fault_codec.whole fault rest h.2,
        )
        refl
    held (Elsewhere found) rest h =
        rw (append_assoc (i8_text (pos 2)) (u64_text found) rest, kind_codec.whole (pos 2) (u64_text found ++ rest) (search rules), u64_codec.whole found rest h) refl
