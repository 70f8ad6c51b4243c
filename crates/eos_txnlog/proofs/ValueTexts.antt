-- The laws of values and keys and their texts.
use Rattle.std.proofs.Common.{◌≡◌, ℕ, Bool, true, false, cond, eqb, List, [], ◌∷◌, ◌++◌, length, Option, Some, None, Result, Ok, Err, refl, sym, ap, ◌∙◌, subst, append_assoc, arith, inl, inr, ℤ, pos}
use Rattle.std.specs.Prelude.{find, unwrap_or, FitsSigned, IfOk, IfSome}
use Rattle.std.specs.Int.{w8, w16, w32, w64}
use Rattle.std.specs.Ordering.{int_eq}
use Rattle.std.proofs.lemmas.Bool.{eqb-true}
use Rattle.std.proofs.lemmas.Bool.Decides.{Decides-int_eq}
use Rattle.std.proofs.lemmas.List.{append-nil, nil_from_length}
use Rattle.eos_wire.specs.Numbers.{IsBytes, i8_text, i16_text, i32_text, i64_text, i8_at, i16_at, i32_at, i64_at}
use Rattle.eos_wire.proofs.NumberTexts.{i8_sound, i8_whole, i16_sound, i16_whole, i32_sound, i32_whole, i64_sound, i64_whole}
use Rattle.eos_base.specs.declared.record_fault.RecordFault.{RecordFault}
use Rattle.eos_base.specs.declared.record_fault.RecordFault.TheVariants as faults
use Rattle.eos_wire.specs.declared.form.Form.{Form}
use Rattle.eos_wire.specs.declared.form.Form.TheVariants.{Plain, Flexible}
use Rattle.eos_txnlog.specs.declared.status.Status.{Status}
use Rattle.eos_txnlog.specs.declared.status.Status.TheVariants as statuses
use Rattle.eos_txnlog.specs.declared.partitions.TopicPartitions.{TopicPartitions}
use Rattle.eos_txnlog.specs.declared.value.TxnValue.{TxnValue}
use Rattle.eos_txnlog.specs.Status.{status_number, all_statuses, status_of}
use Rattle.eos_wire.specs.Texts.{IsCountText, IsNullText, IsStringText, AreTexts, IsListText}
use Rattle.eos_txnlog.specs.Text.{form_of, IsKeyText, IsTopicText, IsPartitionsText, IsBodyText, IsValueText, IsNumberText}
use Rattle.eos_base.specs.Fallible.{must}
use Rattle.eos_base.specs.Records.{present, ended, Settles}
use Rattle.eos_wire.specs.Reading.{count_from, string_from, section_from}
use Rattle.eos_txnlog.specs.Reading.{known_status, status_from, numbers_from, topic_from, partitions_from, body_from, known_form, read_value, id_from, read_key}
use Rattle.eos_wire.proofs.Takes.{bind_ok, done, ok_is, glue, Taken, IsSound, IsWhole, many_sound, many_whole}
use Rattle.eos_wire.proofs.FieldTexts.{IsSigned, signed_sound, signed_whole, IsCountOrNull, count_sound, count_whole, string_sound, string_whole, IsSection, section_sound, section_whole}
use Rattle.eos_txnlog.proofs.FieldTexts.{numbers_sound, numbers_whole}

-- ---- the status

found_passes : {X : Type 0} (p : X → Bool) (xs : List X) (x : X) → find p xs ≡ Some x → p x ≡ true
found_passes p [] x e = absurd cc
found_passes {X} p (y ∷ ys) x e = at (p y) refl e (λ q. found_passes p ys x q)
  where
    at : (b : Bool) → p y ≡ b → cond b (Some y) (find p ys) ≡ Some x → (find p ys ≡ Some x → p x ≡ true) → p x ≡ true
    at true is q later = let same : y ≡ x = cc in subst (λ (z : X). p z ≡ true) same is
    at false is q later = later q

status_found : (z : ℤ) (s : Status) → status_of z ≡ Some s → status_number s ≡ z
status_found z s e = (Decides-int_eq (status_number s) z).0 (found_passes (λ (t : Status). int_eq (status_number t) z) all_statuses s e)

status_again : (s : Status) → status_of (status_number s) ≡ Some s
status_again statuses.Empty = refl
status_again statuses.Ongoing = refl
status_again statuses.PrepareCommit = refl
status_again statuses.PrepareAbort = refl
status_again statuses.CompleteCommit = refl
status_again statuses.CompleteAbort = refl
status_again statuses.Dead = refl
status_again statuses.PrepareEpochFence = refl

status_fits : (s : Status) → FitsSigned w8 (status_number s)
status_fits statuses.Empty = record { sfits = omega arith }
status_fits statuses.Ongoing = record { sfits = omega arith }
status_fits statuses.PrepareCommit = record { sfits = omega arith }
status_fits statuses.PrepareAbort = record { sfits = omega arith }
status_fits statuses.CompleteCommit = record { sfits = omega arith }
status_fits statuses.CompleteAbort = record { sfits = omega arith }
status_fits statuses.Dead = record { sfits = omega arith }
status_fits statuses.PrepareEpochFence = record { sfits = omega arith }

known_status_ok : (o : Option Status) (s : Status) → known_status o ≡ Ok s → o ≡ Some s
known_status_ok None s e = absurd cc
known_status_ok (Some t) s e = cc

abbrev IsStatus : List ℕ → Status → Type 0
IsStatus text s = text ≡ i8_text (status_number s)

status_sound : IsSound IsStatus status_from
unfolding status_from
status_sound bytes x fits e =
    let n = bind_ok (present (i8_at bytes)) _ x e in
    let s = bind_ok (known_status (status_of n.0.0)) _ x n.2 in
    let t = signed_sound w8 i8_text i8_at i8_sound bytes n.0 fits n.1 in
    let number : status_number s.0 ≡ n.0.0 = status_found n.0.0 s.0 (known_status_ok (status_of n.0.0) s.0 s.1) in
    subst (Taken IsStatus bytes) (ok_is (s.0, n.0.1) x s.2) (record { text = t.text; parts = t.parts; holds = t.holds.1 ∙ ap i8_text (sym number); rest_fits = t.rest_fits })

status_whole : IsWhole IsStatus status_from
unfolding status_from
status_whole text s rest h = rw (signed_whole w8 i8_text i8_at i8_whole text (status_number s) rest (status_fits s, h), status_again s) refl

-- ---- topics

-- the parts that were taken one after the other are a topic
topic_taken : (form : Form) (bytes : List ℕ) (t : List ℕ × List ℕ) (n : List ℤ × List ℕ) (s : Unit {0} × List ℕ) (x : TopicPartitions × List ℕ)
    → Taken (IsStringText form) bytes t → Taken (IsListText form IsNumberText) t.1 n → Taken (IsSection form) n.1 s → done (record { topic = t.0; numbers = n.0 }, s.1) ≡ done x → Taken (IsTopicText form) bytes x
topic_taken form bytes t n s x topic numbers section e =
    let made : TopicPartitions × List ℕ = (record { topic = t.0; numbers = n.0 }, s.1) in
    subst (Taken (IsTopicText form) bytes) (ok_is made x e) (record {
      text = topic.text ++ (numbers.text ++ section.text);
      parts = glue bytes topic.text t.1 (numbers.text ++ section.text) s.1 topic.parts (glue t.1 numbers.text n.1 section.text s.1 numbers.parts section.parts);
      holds = record {
        topic = topic.text;
        numbers = numbers.text;
        section = section.text;
        topic_text = topic.holds;
        numbers_text = numbers.holds;
        section_text = section.holds;
        parts = refl;
      };
      rest_fits = section.rest_fits;
    })

topic_sound : (form : Form) → IsSound (IsTopicText form) (topic_from form)
unfolding topic_from
topic_sound form bytes x fits e =
    let t = bind_ok (string_from form bytes) _ x e in
    let n = bind_ok (numbers_from form t.0.1) _ x t.2 in
    let s = bind_ok (section_from form n.0.1) _ x n.2 in
    let topic = string_sound form bytes t.0 fits t.1 in
    let numbers = numbers_sound form t.0.1 n.0 topic.rest_fits n.1 in
    let section = section_sound form n.0.1 s.0 numbers.rest_fits s.1 in
    topic_taken form bytes t.0 n.0 s.0 x topic numbers section s.2

topic_whole : (form : Form) → IsWhole (IsTopicText form) (topic_from form)
unfolding topic_from
topic_whole form text x rest h =
    let e : text ++ rest ≡ h.topic ++ (h.numbers ++ (h.section ++ rest)) = rw h.parts (simp append_assoc) in
    rw (
      e,
      string_whole form h.topic x.topic (h.numbers ++ (h.section ++ rest)) h.topic_text,
      numbers_whole form h.numbers x.numbers (h.section ++ rest) h.numbers_text,
      section_whole form h.section tt rest h.section_text,
    )
    refl

partitions_sound : (form : Form) → IsSound (IsPartitionsText form) (partitions_from form)
unfolding partitions_from
partitions_sound form bytes x fits e =
    let c = bind_ok (count_from form bytes) _ x e in
    let t = count_sound form bytes c.0 fits c.1 in
    let m = many_sound (IsTopicText form) (topic_from form) (topic_sound form) (unwrap_or c.0.0 0) c.0.1 x t.rest_fits c.2 in
    record {
      text = t.text ++ m.0.text;
      parts = glue bytes t.text c.0.1 m.0.text x.1 t.parts m.0.parts;
      holds = at c.0.0 t.text m.0.text x.0 t.holds m.0.holds m.1;
      rest_fits = m.0.rest_fits;
    }
  where
    at : (o : Option ℕ) (count items : List ℕ) (xs : List TopicPartitions) → IsCountOrNull form count o → AreTexts (IsTopicText form) items xs → length xs ≡ unwrap_or o 0 → IsPartitionsText form (count ++ items) xs
    at None count items [] h a len = inr (subst (IsNullText form) (sym (ap (λ (ys : List ℕ). count ++ ys) a ∙ append-nil count)) h, refl)
    at None count items (y ∷ ys) h a len = absurd (omega arith)
    at (Some n) count items xs h a len = inl (count, items, subst (IsCountText form count) (sym len) h, a, refl)

partitions_whole : (form : Form) → IsWhole (IsPartitionsText form) (partitions_from form)
unfolding partitions_from
partitions_whole form text xs rest (inl h) =
    let e : text ++ rest ≡ h.0 ++ (h.1 ++ rest) = rw h.4 (append_assoc h.0 h.1 rest) in
    rw (e, count_whole form h.0 (Some (length xs)) (h.1 ++ rest) h.2) (many_whole (IsTopicText form) (topic_from form) (topic_whole form) h.1 xs rest h.3)
partitions_whole form text xs rest (inr h) = rw (count_whole form text None rest h.0, h.1) (many_whole (IsTopicText form) (topic_from form) (topic_whole form) [] [] rest refl)

-- ---- the fields of a value

-- the same parts, named otherwise
parts_again : (a b c d l s a' b' c' d' l' s' p t : List ℕ) → a ≡ a' → b ≡ b' → c ≡ c' → d ≡ d' → l ≡ l' → s ≡ s'
    → a ++ (b ++ (c ++ (d ++ (p ++ (l ++ (s ++ t)))))) ≡ a' ++ (b' ++ (c' ++ (d' ++ (p ++ (l' ++ (s' ++ t))))))
parts_again a b c d l s a' b' c' d' l' s' p t ea eb ec ed el es = cc

-- the parts that were taken one after the other are a body
body_taken : (form : Form) (bytes : List ℕ) (a b c : ℤ × List ℕ) (d : Status × List ℕ) (p : List TopicPartitions × List ℕ) (l s : ℤ × List ℕ) (g : Unit {0} × List ℕ) (x : TxnValue × List ℕ)
    → Taken (IsSigned w64 i64_text) bytes a → Taken (IsSigned w16 i16_text) a.1 b → Taken (IsSigned w32 i32_text) b.1 c → Taken IsStatus c.1 d → Taken (IsPartitionsText form) d.1 p
    → Taken (IsSigned w64 i64_text) p.1 l → Taken (IsSigned w64 i64_text) l.1 s → Taken (IsSection form) s.1 g
    → done (record { producer = a.0; epoch = b.0; timeout = c.0; status = d.0; partitions = p.0; last_update = l.0; start = s.0 }, g.1) ≡ done x → Taken (IsBodyText form) bytes x
body_taken form bytes a b c d p l s g x producer epoch timeout status partitions last_update start section e =
    let made : TxnValue × List ℕ = (record { producer = a.0; epoch = b.0; timeout = c.0; status = d.0; partitions = p.0; last_update = l.0; start = s.0 }, g.1) in
    let p7 = glue l.1 start.text s.1 section.text g.1 start.parts section.parts in
    let p6 = glue p.1 last_update.text l.1 (start.text ++ section.text) g.1 last_update.parts p7 in
    let p5 = glue d.1 partitions.text p.1 (last_update.text ++ (start.text ++ section.text)) g.1 partitions.parts p6 in
    let p4 = glue c.1 status.text d.1 (partitions.text ++ (last_update.text ++ (start.text ++ section.text))) g.1 status.parts p5 in
    let p3 = glue b.1 timeout.text c.1 (status.text ++ (partitions.text ++ (last_update.text ++ (start.text ++ section.text)))) g.1 timeout.parts p4 in
    let p2 = glue a.1 epoch.text b.1 (timeout.text ++ (status.text ++ (partitions.text ++ (last_update.text ++ (start.text ++ section.text))))) g.1 epoch.parts p3 in
    subst (Taken (IsBodyText form) bytes) (ok_is made x e) (record {
      text = producer.text ++ (epoch.text ++ (timeout.text ++ (status.text ++ (partitions.text ++ (last_update.text ++ (start.text ++ section.text))))));
      parts = glue bytes producer.text a.1 (epoch.text ++ (timeout.text ++ (status.text ++ (partitions.text ++ (last_update.text ++ (start.text ++ section.text)))))) g.1 producer.parts p2;
      holds = record {
        partitions = partitions.text;
        section = section.text;
        head_fits = record { producer = producer.holds.0; epoch = epoch.holds.0; timeout = timeout.holds.0 };
        tail_fits = record { last_update = last_update.holds.0; start = start.holds.0 };
        partitions_text = partitions.holds;
        section_text = section.holds;
        parts = parts_again _ _ _ _ _ _ _ _ _ _ _ _ partitions.text section.text producer.holds.1 epoch.holds.1 timeout.holds.1 status.holds last_update.holds.1 start.holds.1;
      };
      rest_fits = section.rest_fits;
    })

body_sound : (form : Form) → IsSound (IsBodyText form) (body_from form)
unfolding body_from
body_sound form bytes x fits e =
    let a = bind_ok (present (i64_at bytes)) _ x e in
    let b = bind_ok (present (i16_at a.0.1)) _ x a.2 in
    let c = bind_ok (present (i32_at b.0.1)) _ x b.2 in
    let d = bind_ok (status_from c.0.1) _ x c.2 in
    let p = bind_ok (partitions_from form d.0.1) _ x d.2 in
    let l = bind_ok (present (i64_at p.0.1)) _ x p.2 in
    let s = bind_ok (present (i64_at l.0.1)) _ x l.2 in
    let g = bind_ok (section_from form s.0.1) _ x s.2 in
    let producer = signed_sound w64 i64_text i64_at i64_sound bytes a.0 fits a.1 in
    let epoch = signed_sound w16 i16_text i16_at i16_sound a.0.1 b.0 producer.rest_fits b.1 in
    let timeout = signed_sound w32 i32_text i32_at i32_sound b.0.1 c.0 epoch.rest_fits c.1 in
    let status = status_sound c.0.1 d.0 timeout.rest_fits d.1 in
    let partitions = partitions_sound form d.0.1 p.0 status.rest_fits p.1 in
    let last_update = signed_sound w64 i64_text i64_at i64_sound p.0.1 l.0 partitions.rest_fits l.1 in
    let start = signed_sound w64 i64_text i64_at i64_sound l.0.1 s.0 last_update.rest_fits s.1 in
    let section = section_sound form s.0.1 g.0 start.rest_fits g.1 in
    body_taken form bytes a.0 b.0 c.0 d.0 p.0 l.0 s.0 g.0 x producer epoch timeout status partitions last_update start section g.2

body_whole : (form : Form) → IsWhole (IsBodyText form) (body_from form)
unfolding body_from
body_whole form text v rest h =
    let r7 = i64_text v.start ++ (h.section ++ rest) in
    let r6 = i64_text v.last_update ++ r7 in
    let r5 = h.partitions ++ r6 in
    let r4 = i8_text (status_number v.status) ++ r5 in
    let r3 = i32_text v.timeout ++ r4 in
    let r2 = i16_text v.epoch ++ r3 in
    let e : text ++ rest ≡ i64_text v.producer ++ r2 = rw h.parts (simp append_assoc) in
    rw (
      e,
      i64_whole v.producer r2 h.head_fits.producer,
      i16_whole v.epoch r3 h.head_fits.epoch,
      i32_whole v.timeout r4 h.head_fits.timeout,
      status_whole (i8_text (status_number v.status)) v.status r5 refl,
      partitions_whole form h.partitions v.partitions r6 h.partitions_text,
      i64_whole v.last_update r7 h.tail_fits.last_update,
      i64_whole v.start (h.section ++ rest) h.tail_fits.start,
      section_whole form h.section tt rest h.section_text,
    )
    refl

-- ---- values

must_ok : {X : Type 0} (b : Bool) (d : RecordFault) (x y : X) → must b d x ≡ Ok y → (b ≡ true) × (x ≡ y)
must_ok true d x y e = (refl, ok_is x y e)
must_ok false d x y e = absurd cc

-- nothing is left
ended_ok : {X : Type 0} (read : X × List ℕ) (x : X) → ended read ≡ Ok x → (read.0 ≡ x) × (read.1 ≡ [])
ended_ok read x e =
    let b = must_ok (eqb (length read.1) 0) faults.Trailing read.0 x e in
    (b.1, nil_from_length read.1 (eqb-true (length read.1) 0 b.0))

pub known_form_ok : (o : Option Form) (form : Form) → known_form o ≡ Ok form → o ≡ Some form
known_form_ok None form e = absurd cc
known_form_ok (Some f) form e = cc

-- a known version is a small number
known_fits : (version : ℤ) (form : Form) → form_of version ≡ Some form → FitsSigned w16 version
known_fits version form e = at (int_eq version (pos 0)) refl (int_eq version (pos 1)) refl e
  where
    at : (a : Bool) → int_eq version (pos 0) ≡ a → (b : Bool) → int_eq version (pos 1) ≡ b → cond a (Some Plain) (cond b (Some Flexible) None) ≡ Some form → FitsSigned w16 version
    at true q b r k = subst (FitsSigned w16) (sym ((Decides-int_eq version (pos 0)).0 q)) (record { sfits = omega arith })
    at false q true r k = subst (FitsSigned w16) (sym ((Decides-int_eq version (pos 1)).0 r)) (record { sfits = omega arith })
    at false q false r k = absurd cc

pub value_sound : (bytes : List ℕ) (v : TxnValue) → IsBytes bytes → read_value bytes ≡ Ok v → IsValueText bytes v
unfolding read_value
value_sound bytes v fits e =
    let n = bind_ok (present (i16_at bytes)) _ v e in
    let f = bind_ok (known_form (form_of n.0.0)) _ v n.2 in
    let b = bind_ok (body_from f.0 n.0.1) ended v f.2 in
    let version = signed_sound w16 i16_text i16_at i16_sound bytes n.0 fits n.1 in
    let body = body_sound f.0 n.0.1 b.0 version.rest_fits b.1 in
    let end = ended_ok b.0 v b.2 in
    let whole : n.0.1 ≡ body.text = body.parts ∙ (ap (λ (xs : List ℕ). body.text ++ xs) end.1 ∙ append-nil body.text) in
    record {
      version = n.0.0;
      form = f.0;
      body = body.text;
      known = known_form_ok (form_of n.0.0) f.0 f.1;
      body_text = subst (IsBodyText f.0 body.text) end.0 body.holds;
      parts = version.parts ∙ (ap (λ (xs : List ℕ). version.text ++ xs) whole ∙ ap (λ (xs : List ℕ). xs ++ body.text) version.holds.1);
    }

pub value_whole : (bytes : List ℕ) (v : TxnValue) → IsValueText bytes v → read_value bytes ≡ Ok v
unfolding read_value
value_whole bytes v h =
    let b : body_from h.form h.body ≡ Ok (v, []) = ap (body_from h.form) (sym (append-nil h.body)) ∙ body_whole h.form h.body v [] h.body_text in
    rw (h.parts, i16_whole h.version h.body (known_fits h.version h.form h.known), h.known, b) refl

-- ---- keys

pub key_sound : (bytes id : List ℕ) → IsBytes bytes → read_key bytes ≡ Ok (Some id) → IsKeyText bytes id
unfolding read_key
key_sound bytes id fits e =
    let n = bind_ok (present (i16_at bytes)) _ (Some id) e in
    let version = signed_sound w16 i16_text i16_at i16_sound bytes n.0 fits n.1 in
    at n.0 version (int_eq n.0.0 (pos 0)) refl n.2
  where
    at : (n : ℤ × List ℕ) → Taken (IsSigned w16 i16_text) bytes n → (b : Bool) → int_eq n.0 (pos 0) ≡ b → cond b (id_from n.1) (Ok None) ≡ Ok (Some id) → IsKeyText bytes id
    at n version true is q =
        let s = bind_ok (string_from Plain n.1) _ (Some id) q in
        let w = bind_ok (ended s.0) _ (Some id) s.2 in
        let part = string_sound Plain n.1 s.0 version.rest_fits s.1 in
        let end = ended_ok s.0 w.0 w.1 in
        let same : w.0 ≡ id = let some : Some w.0 ≡ Some id = ok_is (Some w.0) (Some id) w.2 in cc in
        let whole : n.1 ≡ part.text = part.parts ∙ (ap (λ (xs : List ℕ). part.text ++ xs) end.1 ∙ append-nil part.text) in
        let zero : n.0 ≡ pos 0 = (Decides-int_eq n.0 (pos 0)).0 is in
        record {
          id_part = part.text;
          id_text = subst (IsStringText Plain part.text) (end.0 ∙ same) part.holds;
          parts = version.parts ∙ (ap (λ (xs : List ℕ). version.text ++ xs) whole ∙ ap (λ (xs : List ℕ). xs ++ part.text) (version.holds.1 ∙ ap i16_text zero));
        }
    at n version false is q = absurd cc

pub key_whole : (bytes id : List ℕ) → IsKeyText bytes id → read_key bytes ≡ Ok (Some id)
unfolding read_key
key_whole bytes id h =
    let s : string_from Plain h.id_part ≡ Ok (id, []) = ap (string_from Plain) (sym (append-nil h.id_part)) ∙ string_whole Plain h.id_part id [] h.id_text in
    rw (h.parts, i16_whole (pos 0) h.id_part (record { sfits = omega arith }), s) refl

-- ---- as the decoders answer

pub value_answered : (bytes : List ℕ) (result : Result TxnValue RecordFault) → IsBytes bytes → Settles result (read_value bytes) → IfOk result (IsValueText bytes)
value_answered bytes (Ok v) fits e = value_sound bytes v fits e
value_answered bytes (Err f) fits e = tt

pub each_value_answered : (bytes : List ℕ) (result : Result TxnValue RecordFault) → Settles result (read_value bytes) → (v : TxnValue) → IsValueText bytes v → Settles result (Ok v)
each_value_answered bytes result e v h = subst (Settles result) (value_whole bytes v h) e

pub key_answered : (bytes : List ℕ) (result : Result (Option (List ℕ)) RecordFault) → IsBytes bytes → Settles result (read_key bytes) → IfOk result (λ key. IfSome key (IsKeyText bytes))
key_answered bytes (Ok None) fits e = tt
key_answered bytes (Ok (Some id)) fits e = key_sound bytes id fits e
key_answered bytes (Err f) fits e = tt

pub each_key_answered : (bytes : List ℕ) (result : Result (Option (List ℕ)) RecordFault) → Settles result (read_key bytes) → (id : List ℕ) → IsKeyText bytes id → Settles result (Ok (Some id))
each_key_answered bytes result e id h = subst (Settles result) (key_whole bytes id h) e
