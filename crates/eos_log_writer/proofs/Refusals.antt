-- What is written of a cluster is refused for want of memory alone.
use Rattle.std.proofs.Common.{◌≡◌, Bool, true, false, pos, ℕ, zero, suc, ◌+◌, ◌-◌, ◌*◌, ◌/◌, ◌^◌, ◌<◌, ◌≤◌, List, [], ◌++◌, Result, Ok, Err, inl, inr, refl, sym, ap, subst, ◌∙◌, arith, take, drop, map, pos}
use Rattle.std.specs.Prelude.{IsOk, nat_lt, if◌then◌else◌}
use Rattle.std.specs.List.{All, range_with_len}
use Rattle.std.proofs.Math.Nat.{div-add-mod, mul_comm, mul-le-mul_right}
use Rattle.std.proofs.lemmas.List.Elements.{All-take}
use Rattle.std.specs.Int.{w64, cast_signed, cast_unsigned, to_be_bytes}
use Rattle.std.proofs.lemmas.Int.{of_z-to_z, ints}
use Rattle.eos_wire.specs.Numbers.{i16_text, i64_text}
use Rattle.eos_wire.specs.declared.form.Form.TheVariants.{Plain}
use Rattle.eos_wire.specs.FieldWriting.{string_text}
use Rattle.eos_offsets.specs.declared.key.OffsetKey.{OffsetKey}
use Rattle.eos_offsets.specs.Writing as offsets
use Rattle.eos_log_writer.proofs.Adding.{range_step}
use Rattle.eos_base.specs.Fallible.{◌>>=◌}
use Rattle.eos_base.specs.Records.{Settles}
use Rattle.eos_base.specs.declared.record_fault.RecordFault.{RecordFault}
use Rattle.eos_base.specs.declared.record_fault.RecordFault.TheVariants as faults
use Rattle.eos_batch.specs.declared.batch.Batch.{Batch}
use Rattle.eos_batch.specs.declared.fault.BatchFault.{BatchFault}
use Rattle.eos_batch.specs.declared.fault.BatchFault.TheVariants as batch_faults
use Rattle.eos_batch.specs.Answers.{IsWritten}
use Rattle.eos_batch.specs.Encoding.{tested, encoding_of, batch_text_of}
use Rattle.eos_evidence.specs.declared.segment.Segment.{Segment}
use Rattle.eos_evidence.specs.declared.fault.AddFault.{AddFault}
use Rattle.eos_evidence.specs.Evidence.{EvidenceParts, added}
use Rattle.eos_machine.specs.declared.config.Config.{Config}
use Rattle.eos_machine.specs.declared.item.Item.{Item}
use Rattle.eos_machine.specs.declared.item.Item.TheVariants.{Fed, State, Output, Offset, Marker}
use Rattle.eos_machine.specs.LogIndexes.{IsConfig, application_count, input_topic, output_topic}
use Rattle.eos_machine.proofs.Written.{few_applications}
use Rattle.eos_machine.specs.Batches.{group, second_group, source_key}
use Rattle.eos_machine.specs.Evidences.{segment_count, adding}
use Rattle.eos_machine.specs.Fitting.{IsFit}
use Rattle.eos_log_writer.specs.steps.Writers.{HasWriter}
use Rattle.eos_machine.proofs.SegmentsFit.{all_drop}

pub only_memory : {X : Type 0} (f : RecordFault) (said : Result X RecordFault) (x : X) → Settles {X = X} (Err f) said → said ≡ Ok x → f ≡ faults.OutOfMemory
only_memory faults.OutOfMemory said x h e = refl
only_memory faults.Short said x h e = let q = sym h ∙ e in absurd cc
only_memory faults.Version said x h e = let q = sym h ∙ e in absurd cc
only_memory faults.Status said x h e = let q = sym h ∙ e in absurd cc
only_memory faults.Length said x h e = let q = sym h ∙ e in absurd cc
only_memory faults.Trailing said x h e = let q = sym h ∙ e in absurd cc

pub batch_memory : (b : Batch) (f : BatchFault) → tested b ≡ Ok tt → IsWritten {X = List ℕ} (encoding_of b) (Err f) → f ≡ batch_faults.OutOfMemory
unfolding encoding_of
batch_memory b f t h = at (tested b) t h
  where
    inner : (f g : BatchFault) → (let r : Result (List ℕ) BatchFault = Err f in r ≡ Err g) → f ≡ g
    inner f g h = cc h

    at : (r : Result (Unit {0}) BatchFault) → r ≡ Ok tt → IsWritten {X = List ℕ} (r >>= λ right. Ok (batch_text_of b)) (Err f) → f ≡ batch_faults.OutOfMemory
    at (Ok u) e (inl q) = absurd cc
    at (Ok u) e (inr q) = inner f batch_faults.OutOfMemory q
    at (Err g) e q = absurd cc

-- ---- the parts of a batch

pub few_of : (c : Config) (a : ℕ) → IsConfig c → a < application_count c → a ≤ 8
few_of c a i h = let f = few_applications c i in omega (arith, h, f)

pub fit_writer : (c : Config) (x : Item) → IsConfig c → IsFit c x → HasWriter x
fit_writer c (Fed n) i h = tt
fit_writer c (State a x n) i h = tt
fit_writer c (Output a e s x v n) i h = (few_of c a i h.0, h.1, h.2)
fit_writer c (Offset a e q v n) i h = (few_of c a i h.0, h.1)
fit_writer c (Marker a e k n) i h = (few_of c a i h.0, h.1)

-- ---- a segment begins inside its log

pub begins_inside : (c : Config) (n i : ℕ) → 1 ≤ c.segment_records → i < segment_count c n → i * c.segment_records < n
begins_inside c n i l h =
    let r : ℕ = c.segment_records in
    let d = div-add-mod (n + (r - 1)) r in
    let s = mul_comm ((n + (r - 1)) / r) r in
    let g = mul-le-mul_right r h in
    let t = next_times i r in
    omega (arith, d, s, g, t, l)
  where
    next_times : (n r : ℕ) → suc n * r ≡ n * r + r
    next_times zero r = omega arith
    next_times (suc n) r = let e = next_times n r in omega (arith, e)

pub part_fits : (c : Config) (r b : ℕ) (log : List Item) → All (IsFit c) log → All (IsFit c) (take r (drop b log))
part_fits c r b log h = All-take (IsFit c) r (drop b log) (all_drop (IsFit c) b log h)

-- ---- what is added of segments that are all taken

pub next_taken : (f : ℕ → Segment) (e : EvidenceParts) (all : Result EvidenceParts AddFault) (s : Segment) (i n : ℕ) → i < n → IsOk all → all ≡ adding e (map f (range_with_len i (n - i))) → s ≡ f i → IsOk (added e s)
next_taken f e all s i n l h is t = subst (λ x. IsOk (added e x)) (sym t) (at (added e (f i)) (subst IsOk (is ∙ ap (λ ks. adding e (map f ks)) (range_step i n l)) h))
  where
    at : (r : Result EvidenceParts AddFault) → IsOk (r >>= λ g. adding g (map f (range_with_len (i + 1) (n - (i + 1))))) → IsOk r
    at (Ok g) o = refl
    at (Err x) o = o

-- ---- the eight bytes of an offset

pub same_bytes : (v : ℕ) → v < 2 ^ 64 → offsets.value_bytes (cast_signed w64 v) (pos 3) ≡ offsets.value_bytes (pos v) (pos 3)
unfolding offsets.value_bytes i64_text
same_bytes v l = ap (λ n. i16_text (pos 3) ++ (to_be_bytes w64 n ++ (offsets.leader_epoch_text (pos 3) ++ (string_text Plain [] ++ (i64_text (pos 0) ++ offsets.expire_timestamp_text (pos 3)))))) (of_z-to_z w64 v l ∙ sym (mod-lt-same v l))
  where
    mod-lt-same : (v : ℕ) → v < 2 ^ 64 → cast_unsigned w64 (pos v) ≡ v
    mod-lt-same v l = grind (arith, ints, l)

pub written_bytes : (v : ℕ) (bytes : List ℕ) → v < 2 ^ 64 → (let r : Result (List ℕ) RecordFault = Ok (offsets.value_bytes (cast_signed w64 v) (pos 3)) in r ≡ Ok bytes) → bytes ≡ offsets.value_bytes (pos v) (pos 3)
written_bytes v bytes l h = sym (inner _ bytes h) ∙ same_bytes v l
  where
    inner : (a b : List ℕ) → (let r : Result (List ℕ) RecordFault = Ok a in r ≡ Ok b) → a ≡ b
    inner a b h = cc h

-- the keys of sources are short
pub source_written : (c : Config) (q : ℕ) → offsets.write_key (source_key c q) ≡ Ok (offsets.key_bytes (source_key c q))
source_written c q = by (nat_lt q c.inputs)
  where
    by : (t : Bool) → (let k : OffsetKey = if t then record { group = group; topic = input_topic; partition = pos q } else record { group = second_group; topic = output_topic; partition = pos (q - c.inputs) } in offsets.write_key k ≡ Ok (offsets.key_bytes k))
    by true = refl
    by false = refl
