-- A fold file is read exactly as it is written.
use Rattle.std.proofs.Common.{◌≡◌, ℕ, ◌-◌, ◌+◌, ◌<◌, ◌^◌, true, ◌&&◌, eqb, ℤ, pos, List, [], ◌++◌, length, None, Ok, refl, sym, ap, ◌∙◌, subst, append_assoc, arith, flat_map}
use Rattle.std.specs.Prelude.{IsTrue, unsigned_abs}
use Rattle.std.specs.List.{list_all}
use Rattle.std.proofs.lemmas.Bool.{eqb-true, eq-eqb}
use Rattle.std.proofs.lemmas.List.{append-nil, nil_from_length, take_at, length-append}
use Rattle.eos_base.specs.Fallible.{must}
use Rattle.eos_fold.specs.declared.stop.Stop.{Stop}
use Rattle.eos_reading.specs.declared.wanted.Wanted.{Wanted}
use Rattle.eos_reading.specs.declared.wanted.Wanted.TheVariants as wants
use Rattle.eos_wire.specs.Crc.{crc32c_of}
use Rattle.eos_wire.specs.Numbers.{IsBytes, i8_text, u32_at, u32_text}
use Rattle.eos_wire.proofs.NumberTexts.{length-u32_text, u32_sound, u32_whole}
use Rattle.eos_reading.specs.declared.epoch.EpochEntry.{EpochEntry}
use Rattle.eos_fold_file.specs.declared.fault.FoldFault.TheVariants as faults
use Rattle.eos_fold_file.specs.declared.file.FoldFile.{FoldFile}
use Rattle.eos_fold_file.specs.declared.file.FoldKept.{FoldKept}
use Rattle.eos_fold_file.specs.declared.file.FoldKept.TheVariants.{Presence, Claims, Texts}
use Rattle.eos_fold_file.specs.declared.head.FoldHead.{FoldHead}
use Rattle.eos_fold_file.specs.declared.read.Front.{Front}
use Rattle.eos_fold_file.specs.Numbers.{present, u64_text, bytes_text, u64_from, bytes_from, many_from}
use Rattle.eos_fold_file.specs.Records.{is_placed, output_text, output_from}
use Rattle.eos_fold_file.specs.Texts.{key_values_from}
use Rattle.eos_fold_file.specs.Heads.{head_text, head_from}
use Rattle.eos_fold_file.specs.Epochs.{are_entries, entry_text, entry_from}
use Rattle.eos_fold_file.specs.Stops.{is_inside, stop_text, stop_from}
use Rattle.eos_fold_file.specs.Files.{record_count, data_count, size_sum, fits_offsets, fits_bytes, wanted_in, magic, front_text, heads_text, epochs_text, kept_text, body_text, fold_text}
use Rattle.eos_fold_file.specs.Reading.{front_from, heads_from, epochs_from, inside_from, placed_claims, claims_from, texts_from, kept_from, file_with, body_from, before, read_fold}
use Rattle.eos_fold_file.specs.Legal.{Each, IsU64, IsText, IsLegalOutput, IsLegalHead, IsLegalEntry, IsLegalStop, IsLegalKept, IsLegal}
use Rattle.eos_fold_file.proofs.Takes.{as_passed, as_read, bind_ok, ok_is, present_ok, must_ok, and_true, glue, Taken, IsCodec, many_sound, many_whole}
use Rattle.eos_fold_file.proofs.NumberCodecs.{u64_codec, bytes_codec}
use Rattle.eos_fold_file.proofs.RecordCodecs.{output_codec}
use Rattle.eos_fold_file.proofs.TextCodecs.{texts_sound, texts_whole}
use Rattle.eos_fold_file.proofs.HeadCodecs.{head_codec, entry_codec, stop_codec}
use Rattle.eos_fold_file.proofs.FrontCodecs.{wanted_text, behind_text, begin_text, front_codec}

-- ---- the heads

record AreLegalHeads (base : ℤ) (size : ℕ) (heads : List FoldHead) : Type 0 where
  few : IsU64 (length heads)
  each : Each IsLegalHead heads
  offsets : IsTrue (fits_offsets base heads)
  sizes : IsTrue (fits_bytes size heads)

heads_codec : (base : ℤ) (size : ℕ) → IsCodec heads_text (AreLegalHeads base size) (heads_from base size)
unfolding heads_from
heads_codec base size = record {
  sound = λ bytes x fits e.
      let n = bind_ok (u64_from bytes) _ x e in
      let h = bind_ok (many_from head_from n.0.0 n.0.1) _ x n.2 in
      let m = must_ok (fits_offsets base h.0.0 && fits_bytes size h.0.0) faults.Head h.0 x h.2 in
      let both = and_true (fits_offsets base h.0.0) (fits_bytes size h.0.0) m.0 in
      let count = u64_codec.sound bytes n.0 fits n.1 in
      let heads = many_sound head_text IsLegalHead head_from head_codec n.0.0 n.0.1 h.0 count.rest_fits h.1 in
      let number : bytes ≡ u64_text (length h.0.0) ++ n.0.1 = count.parts ∙ ap (λ (k : ℕ). u64_text k ++ n.0.1) (sym heads.counted) in
      as_passed heads_text (AreLegalHeads base size) bytes h.0 x m.1 (record {
        parts = glue bytes (u64_text (length h.0.0)) n.0.1 (flat_map head_text h.0.0) h.0.1 number heads.parts;
        legal = record { few = subst IsU64 (sym heads.counted) count.legal; each = heads.legal; offsets = both.0; sizes = both.1 };
        rest_fits = heads.rest_fits;
      });
  whole = λ hs rest h.
      let offsets : fits_offsets base hs ≡ true = h.offsets in
      let sizes : fits_bytes size hs ≡ true = h.sizes in
      rw (
        append_assoc (u64_text (length hs)) (flat_map head_text hs) rest,
        u64_codec.whole (length hs) (flat_map head_text hs ++ rest) h.few,
        many_whole head_text IsLegalHead head_from head_codec hs rest h.each,
        offsets,
        sizes,
      )
      refl;
}

-- ---- the leader epochs

record AreLegalEpochs (begin : ℕ) (heads : List FoldHead) (epochs : List EpochEntry) : Type 0 where
  few : IsU64 (length epochs)
  each : Each IsLegalEntry epochs
  changes : IsTrue (are_entries begin None heads epochs)

epochs_codec : (begin : ℕ) (heads : List FoldHead) → IsCodec epochs_text (AreLegalEpochs begin heads) (epochs_from begin heads)
unfolding epochs_from
epochs_codec begin heads = record {
  sound = λ bytes x fits e.
      let n = bind_ok (u64_from bytes) _ x e in
      let p = bind_ok (many_from entry_from n.0.0 n.0.1) _ x n.2 in
      let m = must_ok (are_entries begin None heads p.0.0) faults.Epoch p.0 x p.2 in
      let count = u64_codec.sound bytes n.0 fits n.1 in
      let epochs = many_sound entry_text IsLegalEntry entry_from entry_codec n.0.0 n.0.1 p.0 count.rest_fits p.1 in
      let number : bytes ≡ u64_text (length p.0.0) ++ n.0.1 = count.parts ∙ ap (λ (k : ℕ). u64_text k ++ n.0.1) (sym epochs.counted) in
      as_passed epochs_text (AreLegalEpochs begin heads) bytes p.0 x m.1 (record {
        parts = glue bytes (u64_text (length p.0.0)) n.0.1 (flat_map entry_text p.0.0) p.0.1 number epochs.parts;
        legal = record { few = subst IsU64 (sym epochs.counted) count.legal; each = epochs.legal; changes = m.0 };
        rest_fits = epochs.rest_fits;
      });
  whole = λ es rest h.
      let changes : are_entries begin None heads es ≡ true = h.changes in
      rw (
        append_assoc (u64_text (length es)) (flat_map entry_text es) rest,
        u64_codec.whole (length es) (flat_map entry_text es ++ rest) h.few,
        many_whole entry_text IsLegalEntry entry_from entry_codec es rest h.each,
        changes,
      )
      refl;
}

-- ---- the stop, behind its batches

abbrev IsStopInside : ℕ → ℕ → ℕ → ℕ → Stop → Type 0
IsStopInside begin next size bytes stop = IsLegalStop stop × IsTrue (is_inside begin next size bytes stop)

inside_codec : (begin next size bytes : ℕ) → IsCodec stop_text (IsStopInside begin next size bytes) (inside_from begin next size bytes)
unfolding inside_from
inside_codec begin next size bytes = record {
  sound = λ text x fits e.
      let s = bind_ok (stop_from text) _ x e in
      let m = must_ok (is_inside begin next size bytes s.0.0) faults.Stop s.0 x s.2 in
      let t = stop_codec.sound text s.0 fits s.1 in
      as_passed stop_text (IsStopInside begin next size bytes) text s.0 x m.1 (record { parts = t.parts; legal = (t.legal, m.0); rest_fits = t.rest_fits });
  whole = λ stop rest h.
      let inside : is_inside begin next size bytes stop ≡ true = h.1 in
      rw (stop_codec.whole stop rest h.0, inside) refl;
}

-- ---- what is kept

abbrev IsKeptOf : Wanted → ℕ → FoldKept → Type 0
IsKeptOf w n k = (wanted_in k ≡ w) × IsLegalKept n k

kept_sound : (w : Wanted) (n : ℕ) (bytes : List ℕ) (x : FoldKept × List ℕ) → IsBytes bytes → kept_from w n bytes ≡ Ok x → Taken kept_text (IsKeptOf w n) bytes x
unfolding claims_from texts_from
kept_sound wants.Presence n bytes x fits e =
    let made : FoldKept × List ℕ = (Presence, bytes) in
    as_read kept_text (IsKeptOf wants.Presence n) bytes made x e (record { parts = refl; legal = (refl, tt); rest_fits = fits })
kept_sound wants.Claims n bytes x fits e =
    let c = bind_ok (u64_from bytes) _ x e in
    let t = bind_ok (many_from bytes_from c.0.0 c.0.1) _ x c.2 in
    let o = bind_ok (many_from output_from n t.0.1) _ x t.2 in
    let count = u64_codec.sound bytes c.0 fits c.1 in
    let topics = many_sound bytes_text IsText bytes_from bytes_codec c.0.0 c.0.1 t.0 count.rest_fits t.1 in
    let outputs = many_sound output_text IsLegalOutput output_from output_codec n t.0.1 o.0 topics.rest_fits o.1 in
    let number : bytes ≡ u64_text (length t.0.0) ++ c.0.1 = count.parts ∙ ap (λ (k : ℕ). u64_text k ++ c.0.1) (sym topics.counted) in
    let behind = glue c.0.1 (flat_map bytes_text t.0.0) t.0.1 (flat_map output_text o.0.0) o.0.1 topics.parts outputs.parts in
    let p = bind_ok (placed_claims t.0.0 o.0.0) _ x o.2 in
    let m = must_ok (list_all (is_placed (length t.0.0)) o.0.0) faults.Record (Claims t.0.0 o.0.0) p.0 p.1 in
    let claims : FoldKept × List ℕ = (Claims t.0.0 o.0.0, o.0.1) in
    let read : FoldKept × List ℕ = (p.0, o.0.1) in
    let same : claims ≡ read = ap (λ (k : FoldKept). (k, o.0.1)) m.1 in
    as_read kept_text (IsKeptOf wants.Claims n) bytes read x p.2 (as_passed kept_text (IsKeptOf wants.Claims n) bytes claims read same (record {
      parts = glue bytes (u64_text (length t.0.0)) c.0.1 (flat_map bytes_text t.0.0 ++ flat_map output_text o.0.0) o.0.1 number behind;
      legal = (refl, (subst IsU64 (sym topics.counted) count.legal, topics.legal, outputs.counted, outputs.legal, m.0));
      rest_fits = outputs.rest_fits;
    }))
kept_sound wants.Texts n bytes x fits e =
    let t = bind_ok (key_values_from [] [] n bytes) _ x e in
    let texts = texts_sound n [] [] bytes t.0 fits t.1 in
    let made : FoldKept × List ℕ = (Texts t.0.0, t.0.1) in
    as_read kept_text (IsKeptOf wants.Texts n) bytes made x t.2 (record { parts = texts.parts; legal = (refl, (texts.counted, texts.legal)); rest_fits = texts.rest_fits })

kept_whole : (n : ℕ) (k : FoldKept) (rest : List ℕ) → IsLegalKept n k → kept_from (wanted_in k) n (kept_text k ++ rest) ≡ Ok (k, rest)
unfolding claims_from texts_from
kept_whole n Presence rest h = refl
kept_whole n (Claims topics outputs) rest h =
    let os = flat_map output_text outputs ++ rest in
    let ts = flat_map bytes_text topics ++ os in
    let e : kept_text (Claims topics outputs) ++ rest ≡ u64_text (length topics) ++ ts =
    append_assoc (u64_text (length topics)) (flat_map bytes_text topics ++ flat_map output_text outputs) rest
    ∙ ap (λ (us : List ℕ). u64_text (length topics) ++ us) (append_assoc (flat_map bytes_text topics) (flat_map output_text outputs) rest) in
    let placed : list_all (is_placed (length topics)) outputs ≡ true = h.4 in
    rw (
      e,
      u64_codec.whole (length topics) ts h.0,
      many_whole bytes_text IsText bytes_from bytes_codec topics os h.1,
      ← h.2,
      many_whole output_text IsLegalOutput output_from output_codec outputs rest h.3,
      placed,
    )
    refl
kept_whole n (Texts texts) rest h = rw (← h.0, texts_whole texts [] [] rest h.1) refl

-- ---- the body

front_of : FoldFile → Front
front_of f = record { wanted = wanted_in f.kept; topic = f.topic; partition = f.partition; base = f.base; bytes = f.bytes; batches = f.batches }

begun_with : (f : Front) (w : Wanted) → f.wanted ≡ w → begin_text f ≡ magic ++ (i8_text (pos 3) ++ (wanted_text w ++ behind_text f))
begun_with f w e = ap (λ (v : Wanted). magic ++ (i8_text (pos 3) ++ (wanted_text v ++ behind_text f))) e

body_sound : (bytes : List ℕ) (x : FoldFile × List ℕ) → IsBytes bytes → body_from bytes ≡ Ok x → Taken body_text IsLegal bytes x
unfolding body_from body_text
body_sound bytes x fits e =
    let f = bind_ok (front_from bytes) _ x e in
    let begin = unsigned_abs f.0.0.base in
    let h = bind_ok (heads_from f.0.0.base f.0.0.bytes f.0.1) _ x f.2 in
    let p = bind_ok (epochs_from begin h.0.0 h.0.1) _ x h.2 in
    let k = bind_ok (kept_from f.0.0.wanted (data_count h.0.0) p.0.1) _ x p.2 in
    let s = bind_ok (inside_from begin (begin + record_count h.0.0) (size_sum h.0.0) f.0.0.bytes k.0.1) _ x k.2 in
    let front = front_codec.sound bytes f.0 fits f.1 in
    let heads = (heads_codec f.0.0.base f.0.0.bytes).sound f.0.1 h.0 front.rest_fits h.1 in
    let epochs = (epochs_codec begin h.0.0).sound h.0.1 p.0 heads.rest_fits p.1 in
    let kept = kept_sound f.0.0.wanted (data_count h.0.0) p.0.1 k.0 epochs.rest_fits k.1 in
    let stop = (inside_codec begin (begin + record_count h.0.0) (size_sum h.0.0) f.0.0.bytes).sound k.0.1 s.0 kept.rest_fits s.1 in
    let file = file_with f.0.0 h.0.0 p.0.0 k.0.0 s.0.0 in
    let made : FoldFile × List ℕ = (file, s.0.1) in
    let q1 = glue p.0.1 (kept_text k.0.0) k.0.1 (stop_text s.0.0) s.0.1 kept.parts stop.parts in
    let q2 = glue h.0.1 (epochs_text p.0.0) p.0.1 (kept_text k.0.0 ++ stop_text s.0.0) s.0.1 epochs.parts q1 in
    let q3 = glue f.0.1 (heads_text h.0.0) h.0.1 (epochs_text p.0.0 ++ (kept_text k.0.0 ++ stop_text s.0.0)) s.0.1 heads.parts q2 in
    let same : begin_text f.0.0 ≡ front_text file = begun_with f.0.0 (wanted_in k.0.0) (sym kept.legal.0) in
    let begun : bytes ≡ front_text file ++ f.0.1 = front.parts ∙ ap (λ (ts : List ℕ). ts ++ f.0.1) same in
    as_read body_text IsLegal bytes made x s.2 (record {
      parts = glue bytes (front_text file) f.0.1 (heads_text h.0.0 ++ (epochs_text p.0.0 ++ (kept_text k.0.0 ++ stop_text s.0.0))) s.0.1 begun q3;
      legal = record {
        topic = front.legal.topic;
        partition = front.legal.partition;
        base = front.legal.base;
        bytes = front.legal.bytes;
        batches = front.legal.batches;
        few = heads.legal.few;
        heads = heads.legal.each;
        offsets = heads.legal.offsets;
        sizes = heads.legal.sizes;
        few_epochs = epochs.legal.few;
        epochs = epochs.legal.each;
        changes = epochs.legal.changes;
        kept = kept.legal.1;
        stop = stop.legal.0;
        inside = stop.legal.1;
      };
      rest_fits = stop.rest_fits;
    })

body_whole : (f : FoldFile) (rest : List ℕ) → IsLegal f → body_from (body_text f ++ rest) ≡ Ok (f, rest)
unfolding body_from body_text front_of
body_whole f rest h =
    let begin = unsigned_abs f.base in
    let b0 = kept_text f.kept ++ (stop_text f.stop ++ rest) in
    let b1 = epochs_text f.epochs ++ b0 in
    let b2 = heads_text f.heads ++ b1 in
    let e : (front_text f ++ (heads_text f.heads ++ (epochs_text f.epochs ++ (kept_text f.kept ++ stop_text f.stop)))) ++ rest ≡ begin_text (front_of f) ++ b2 =
    append_assoc (front_text f) (heads_text f.heads ++ (epochs_text f.epochs ++ (kept_text f.kept ++ stop_text f.stop))) rest
    ∙ ap (λ (ts : List ℕ). front_text f ++ ts) (append_assoc (heads_text f.heads) (epochs_text f.epochs ++ (kept_text f.kept ++ stop_text f.stop)) rest
    ∙ ap (λ (ts : List ℕ). heads_text f.heads ++ ts) (append_assoc (epochs_text f.epochs) (kept_text f.kept ++ stop_text f.stop) rest
    ∙ ap (λ (ts : List ℕ). epochs_text f.epochs ++ ts) (append_assoc (kept_text f.kept) (stop_text f.stop) rest))) in
    rw (
      e,
      front_codec.whole (front_of f) b2 (record { topic = h.topic; partition = h.partition; base = h.base; bytes = h.bytes; batches = h.batches }),
      (heads_codec f.base f.bytes).whole f.heads b1 (record { few = h.few; each = h.heads; offsets = h.offsets; sizes = h.sizes }),
      (epochs_codec begin f.heads).whole f.epochs b0 (record { few = h.few_epochs; each = h.epochs; changes = h.changes }),
      kept_whole (data_count f.heads) f.kept (stop_text f.stop ++ rest) h.kept,
      (inside_codec begin (begin + record_count f.heads) (size_sum f.heads) f.bytes).whole f.stop rest (h.stop, h.inside),
    )
    refl

-- ---- the whole

-- the bytes that were taken
before_is : (text rest : List ℕ) → before (text ++ rest) rest ≡ text
before_is text rest =
    let n : length (text ++ rest) - length rest ≡ length text = omega (arith, length-append text rest) in
    rw n (take_at text rest (length text) refl)

pub record IsOfFold (bytes : List ℕ) (f : FoldFile) : Type 0 where
  pub text : bytes ≡ fold_text f
  pub legal : IsLegal f

pub fold_sound : (bytes : List ℕ) (f : FoldFile) → IsBytes bytes → read_fold bytes ≡ Ok f → IsOfFold bytes f
unfolding read_fold
fold_sound bytes f fits e =
    let b = bind_ok (body_from bytes) _ f e in
    let c = bind_ok (present (u32_at b.0.1)) _ f b.2 in
    let s = bind_ok (must (eqb c.0.0 (crc32c_of (before bytes b.0.1))) faults.Crc c.0) _ f c.2 in
    let m = must_ok (eqb c.0.0 (crc32c_of (before bytes b.0.1))) faults.Crc c.0 s.0 s.1 in
    let l = must_ok (eqb (length s.0.1) 0) faults.Trailing b.0.0 f s.2 in
    let body = body_sound bytes b.0 fits b.1 in
    let crc = u32_sound b.0.1 c.0 body.rest_fits (present_ok (u32_at b.0.1) c.0 c.1) in
    let taken : before bytes b.0.1 ≡ body_text b.0.0 = ap (λ (bs : List ℕ). before bs b.0.1) body.parts ∙ before_is (body_text b.0.0) b.0.1 in
    let sum : c.0.0 ≡ crc32c_of (body_text b.0.0) = eqb-true c.0.0 (crc32c_of (before bytes b.0.1)) m.0 ∙ ap crc32c_of taken in
    let rest : c.0.1 ≡ s.0.1 = ap (λ (p : ℕ × List ℕ). p.1) m.1 in
    let none : c.0.1 ≡ [] = rest ∙ nil_from_length s.0.1 (eqb-true (length s.0.1) 0 l.0) in
    let end : b.0.1 ≡ u32_text (crc32c_of (body_text b.0.0)) =
    crc.parts ∙ (ap (λ (ts : List ℕ). u32_text c.0.0 ++ ts) none ∙ (append-nil (u32_text c.0.0) ∙ ap u32_text sum)) in
    subst (IsOfFold bytes) l.1 (record { text = body.parts ∙ ap (λ (ts : List ℕ). body_text b.0.0 ++ ts) end; legal = body.legal })

pub fold_whole : (f : FoldFile) → IsLegal f → crc32c_of (body_text f) < 2 ^ 32 → read_fold (fold_text f) ≡ Ok f
unfolding read_fold
fold_whole f h lt =
    let crc = crc32c_of (body_text f) in
    let at : present (u32_at (u32_text crc)) ≡ Ok (crc, []) = rw (← append-nil (u32_text crc), u32_whole crc [] lt) refl in
    let taken : before (body_text f ++ u32_text crc) (u32_text crc) ≡ body_text f = before_is (body_text f) (u32_text crc) in
    rw (body_whole f (u32_text crc) h, at, taken, eq-eqb crc crc refl) refl

-- two folds of which one's bytes begin with those of the other are one
pub fold_prefix_free : (f g : FoldFile) (more : List ℕ) → IsLegal f → IsLegal g → fold_text g ≡ fold_text f ++ more → (f ≡ g) × (more ≡ [])
fold_prefix_free f g more hf hg e =
    let cf = u32_text (crc32c_of (body_text f)) in
    let cg = u32_text (crc32c_of (body_text g)) in
    let one : body_from (fold_text g) ≡ Ok (g, cg) = body_whole g cg hg in
    let two : body_from (fold_text f ++ more) ≡ Ok (f, cf ++ more) = rw (append_assoc (body_text f) cf more) (body_whole f (cf ++ more) hf) in
    let last : FoldFile × List ℕ = (g, cg) in
    let first : FoldFile × List ℕ = (f, cf ++ more) in
    let both : last ≡ first = ok_is last first (sym one ∙ (ap body_from e ∙ two)) in
    let rest : cg ≡ cf ++ more = ap (λ (p : FoldFile × List ℕ). p.1) both in
    let long : length cg ≡ length cf + length more = ap length rest ∙ length-append cf more in
    (sym (ap (λ (p : FoldFile × List ℕ). p.0) both), nil_from_length more (omega (arith, long, length-u32_text (crc32c_of (body_text f)), length-u32_text (crc32c_of (body_text g)))))
