-- The fault of the first field that is refused is the one by which a file is none.
use Rattle.std.proofs.Common.{◌≡◌, ℕ, ◌+◌, List, length, refl, ap, ◌∙◌, sym}
use Rattle.std.specs.Prelude.{Option, Some, None, IfSome, Result, Ok, Err, ◌==◌, unsigned_abs}
use Rattle.eos_base.specs.Fallible.{◌>>=◌, must}
use Rattle.eos_wire.specs.Crc.{crc32c_of}
use Rattle.eos_wire.specs.Numbers.{u32_at}
use Rattle.eos_fold_file.specs.declared.fault.FoldFault.{FoldFault}
use Rattle.eos_fold_file.specs.declared.fault.FoldFault.TheVariants as faults
use Rattle.eos_fold_file.specs.declared.file.FoldFile.{FoldFile}
use Rattle.eos_fold_file.specs.declared.read.Front.{Front}
use Rattle.eos_fold_file.specs.declared.refusal.FoldField.{FoldField}
use Rattle.eos_fold_file.specs.declared.refusal.RefusedField.{RefusedField}
use Rattle.eos_reading.specs.declared.wanted.Wanted.{Wanted}
use Rattle.eos_fold_file.specs.Faults.{Fails}
use Rattle.eos_fold_file.specs.Numbers.{present, bytes_from, i32_from, number_from, u64_from}
use Rattle.eos_fold_file.specs.Files.{record_count, data_count, size_sum}
use Rattle.eos_fold_file.specs.Reading.{magic_from, version_from, wanted_from, batches_from, front_from, heads_from, epochs_from, kept_from, inside_from, body_from, before, read_fold}
use Rattle.eos_fold_file.specs.Refusals.{within, signs_in, front_in, body_in, read_in}
use Rattle.eos_fold_file.specs.steps.Refusals.{FailsIn}

-- without the field
abbrev without : {X : Type 0} → Result X RefusedField → Result X FoldFault
without (Ok x) = Ok x
without (Err refusal) = Err refusal.fault

last : {A : Type 0} → (field : FoldField) → (bytes : List ℕ) → (x : Result A FoldFault) → without (within field bytes x) ≡ x
last field bytes (Ok x) = refl
last field bytes (Err e) = refl

step : {A B : Type 0} → (field : FoldField) → (bytes : List ℕ) → (x : Result A FoldFault) → (f : A → Result B RefusedField) → (g : A → Result B FoldFault)
    → ((y : A) → without (f y) ≡ g y) → without (within field bytes x >>= f) ≡ (x >>= g)
step field bytes (Ok x) f g same = same x
step field bytes (Err e) f g same = refl

after : {A B : Type 0} → (x : Result A RefusedField) → (z : Result A FoldFault) → (f : A → Result B RefusedField) → (g : A → Result B FoldFault)
    → without x ≡ z → ((y : A) → without (f y) ≡ g y) → without (x >>= f) ≡ (z >>= g)
after (Ok x) z f g is same = same x ∙ ap (λ w. w >>= g) is
after (Err e) z f g is same = ap (λ w. w >>= g) is

grouped : {A B D : Type 0} → (x : Result A FoldFault) → (f : A → Result B FoldFault) → (g : B → Result D FoldFault) → ((x >>= f) >>= g) ≡ (x >>= (λ y. f y >>= g))
grouped (Ok x) f g = refl
grouped (Err e) f g = refl

each : {A B : Type 0} → (x : Result A FoldFault) → (f g : A → Result B FoldFault) → ((y : A) → f y ≡ g y) → (x >>= f) ≡ (x >>= g)
each (Ok x) f g same = same x
each (Err e) f g same = refl

abbrev signs_from : List ℕ → Result (Wanted × List ℕ) FoldFault
signs_from bytes = magic_from bytes >>= (λ begin. version_from begin.1 >>= (λ version. wanted_from version.1))

signs_same : (bytes : List ℕ) → without (signs_in bytes) ≡ signs_from bytes
unfolding signs_in
signs_same bytes = step _ bytes (magic_from bytes) _ _ (λ begin. step _ begin.1 (version_from begin.1) _ _ (λ version. last _ version.1 (wanted_from version.1)))

-- what stands before the batches, behind the roles
abbrev behind_signs : Wanted × List ℕ → Result (Front × List ℕ) FoldFault
behind_signs wanted = do
  topic ← bytes_from wanted.1
  partition ← i32_from topic.1
  base ← number_from partition.1
  size ← u64_from base.1
  batches ← batches_from size.1
  Ok (record { wanted = wanted.0; topic = topic.0; partition = partition.0; base = base.0; bytes = size.0; batches = batches.0 }, batches.1)

regrouped : (bytes : List ℕ) → (signs_from bytes >>= behind_signs) ≡ front_from bytes
unfolding front_from
regrouped bytes =
    grouped (magic_from bytes) (λ begin. version_from begin.1 >>= (λ version. wanted_from version.1)) behind_signs
    ∙ each (magic_from bytes) (λ begin. (version_from begin.1 >>= (λ version. wanted_from version.1)) >>= behind_signs)
    (λ begin. version_from begin.1 >>= (λ version. wanted_from version.1 >>= behind_signs))
    (λ begin. grouped (version_from begin.1) (λ version. wanted_from version.1) behind_signs)

front_signs : (bytes : List ℕ) → without (front_in bytes) ≡ (signs_from bytes >>= behind_signs)
unfolding front_in
front_signs bytes = after (signs_in bytes) (signs_from bytes) _ behind_signs (signs_same bytes)
    (λ wanted. step _ wanted.1 (bytes_from wanted.1) _ _ (λ topic. step _ topic.1 (i32_from topic.1) _ _ (λ partition. step _ partition.1 (number_from partition.1) _ _
    (λ base. step _ base.1 (u64_from base.1) _ _ (λ size. step _ size.1 (batches_from size.1) _ _ (λ batches. refl))))))

front_same : (bytes : List ℕ) → without (front_in bytes) ≡ front_from bytes
front_same bytes = front_signs bytes ∙ regrouped bytes

body_same : (bytes : List ℕ) → without (body_in bytes) ≡ body_from bytes
unfolding body_in body_from
body_same bytes = after (front_in bytes) (front_from bytes) _ _ (front_same bytes)
    (λ front. step _ front.1 (heads_from front.0.base front.0.bytes front.1) _ _ (λ heads. step _ heads.1 (epochs_from (unsigned_abs front.0.base) heads.0 heads.1) _ _
    (λ epochs. step _ epochs.1 (kept_from front.0.wanted (data_count heads.0) epochs.1) _ _
    (λ kept. step _ kept.1 (inside_from (unsigned_abs front.0.base) (unsigned_abs front.0.base + record_count heads.0) (size_sum heads.0) front.0.bytes kept.1) _ _ (λ stop. refl)))))

fold_same : (bytes : List ℕ) → without (read_in bytes) ≡ read_fold bytes
unfolding read_in read_fold
fold_same bytes = after (body_in bytes) (body_from bytes) _ _ (body_same bytes)
    (λ fold. step _ fold.1 (present (u32_at fold.1)) _ _ (λ crc. step _ fold.1 (must (crc.0 == crc32c_of (before bytes fold.1)) faults.Crc crc) _ _
    (λ sealed. last _ sealed.1 (must (length sealed.1 == 0) faults.Trailing fold.0))))

refused_is : (bytes : List ℕ) → (refusal : RefusedField) → read_in bytes ≡ Err refusal → read_fold bytes ≡ Err refusal.fault
refused_is bytes refusal e = sym (fold_same bytes) ∙ ap without e

pub known_is : (bytes : List ℕ) → (known : Option RefusedField) → IfSome known (λ refusal. read_in bytes ≡ Err refusal) → IfSome known (λ refusal. read_fold bytes ≡ Err refusal.fault)
known_is bytes (Some refusal) e = refused_is bytes refusal e
known_is bytes None e = tt

pub fold_said : (bytes : List ℕ) → (f : FoldFile) → read_in bytes ≡ Ok f → read_fold bytes ≡ Ok f
fold_said bytes f e = sym (fold_same bytes) ∙ ap without e

fails_as : (bytes : List ℕ) → (refusal : RefusedField) → (fault : FoldFault) → refusal.fault ≡ fault → FailsIn fault refusal (read_in bytes) → Fails fault (read_fold bytes)
fails_as bytes refusal faults.OutOfMemory is e = tt
fails_as bytes refusal faults.Short is e = refused_is bytes refusal e ∙ ap Err is
fails_as bytes refusal faults.Magic is e = refused_is bytes refusal e ∙ ap Err is
fails_as bytes refusal faults.Version is e = refused_is bytes refusal e ∙ ap Err is
fails_as bytes refusal faults.Roles is e = refused_is bytes refusal e ∙ ap Err is
fails_as bytes refusal faults.Number is e = refused_is bytes refusal e ∙ ap Err is
fails_as bytes refusal faults.Head is e = refused_is bytes refusal e ∙ ap Err is
fails_as bytes refusal faults.Epoch is e = refused_is bytes refusal e ∙ ap Err is
fails_as bytes refusal faults.Record is e = refused_is bytes refusal e ∙ ap Err is
fails_as bytes refusal faults.Stop is e = refused_is bytes refusal e ∙ ap Err is
fails_as bytes refusal faults.Crc is e = refused_is bytes refusal e ∙ ap Err is
fails_as bytes refusal faults.Trailing is e = refused_is bytes refusal e ∙ ap Err is

pub fails_too : (bytes : List ℕ) → (refusal : RefusedField) → FailsIn refusal.fault refusal (read_in bytes) → Fails refusal.fault (read_fold bytes)
fails_too bytes refusal e = fails_as bytes refusal refusal.fault refl e
