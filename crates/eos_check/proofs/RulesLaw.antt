-- A partition's log keeps its rules exactly where no fault stands in it.
use Rattle.std.proofs.Common.{◌≡◌, ◌↔◌, ℕ, ◌+◌, ◌≤◌, Bool, true, false, not, Some, None, List, [], ◌∷◌, ◌++◌, length, refl, sym, ap, subst, ◌∙◌, ℤ, pos, inl, inr}
use Rattle.std.specs.Prelude.{unsigned_abs, ⊤}
use Rattle.std.specs.Ordering.{int_eq}
use Rattle.std.proofs.lemmas.Bool.Decides.{Decides-int_eq}
use Rattle.eos_base.specs.Least.{NoneStands}
use Rattle.eos_batch.specs.declared.batch.Batch.{Batch}
use Rattle.eos_batch.specs.Rules.{IsProducerRight}
use Rattle.eos_batch.specs.Segment.{Splits}
use Rattle.eos_evidence.specs.declared.segment.Segment.{Segment}
use Rattle.eos_evidence.specs.Topics.{is_internal}
use Rattle.eos_touch.specs.declared.touch.Touch.{Touch}
use Rattle.eos_touch.specs.declared.touch.Touch.TheVariants.{Data}
use Rattle.eos_touch.specs.Neighbours.{EachAfter, Accepts}
use Rattle.eos_touch.proofs.TableRows.{not_equal}
use Rattle.eos_fold.specs.declared.stop.Stop.{Stop}
use Rattle.eos_fold.specs.declared.stop.Stop.TheVariants.{AtEnd, NoBatch, Elsewhere}
use Rattle.eos_touch.specs.declared.fault.PartitionFaultKind.{PartitionFaultKind}
use Rattle.eos_touch.specs.declared.fault.PartitionFaultKind.TheVariants.{BadBatch, Gap, Pair, End, OpenAtEnd}
use Rattle.eos_touch.specs.Front.{records_in}
use Rattle.eos_batch.specs.Offsets.{offset_of}
use Rattle.eos_fold.specs.Fronts.{IsFront, GoesOn}
use Rattle.eos_touch.specs.Touches.{touches_of, last_touch, last_of}
use Rattle.eos_fold.specs.Standing.{IsStanding, StandsIn, IsOpen}
use Rattle.eos_check.specs.PartitionRules.{IsWhole, IsTransactional, HasMarker, KeepsRules}
use Rattle.eos_check.proofs.WholeTexts.{same_front, at_the_end}
use Rattle.eos_check.proofs.PairFaults.{EachHasRecords, NoPairAfter, rules_kept, no_pair, after_split, last_behind, touches_cut, each_after}
use Rattle.eos_check.proofs.EndedData.{data_says, marker_among, marker_or_open, open_unended}

-- ---- what holds of the batches of a front

pub record IsRight (b : Batch) : Type 0 where
  pub some : 1 ≤ length b.records
  pub producer : IsProducerRight b

abbrev pub EachRight : List Batch → Type 0
EachRight [] = ⊤
EachRight (b ∷ bs) = IsRight b × EachRight bs

right_append : (xs ys : List Batch) → EachRight xs → EachRight ys → EachRight (xs ++ ys)
right_append [] ys h k = k
right_append (x ∷ xs) ys h k = (h.0, right_append xs ys h.1 k)

right_split : (bytes : List ℕ) (bs : List Batch) (rest : List ℕ) → Splits bytes bs rest → EachRight bs
right_split bytes [] rest h = tt
right_split bytes (b ∷ bs) rest h = (record { some = h.2.counted.some; producer = h.2.producer }, right_split h.1 bs rest h.4)

right_goes : (inner : Stop) (inside : List Batch) (Others : List Batch → Type 0) (bs : List Batch) (stop : Stop)
    → EachRight inside → ((os : List Batch) → Others os → EachRight os) → GoesOn inner inside Others bs stop → EachRight bs
right_goes AtEnd inside Others bs stop h k g = subst EachRight (sym g.1) (right_append inside g.0 h (k g.0 g.2))
right_goes (NoBatch s b f) inside Others bs stop h k g = subst EachRight (sym g.0) h
right_goes (Elsewhere n) inside Others bs stop h k g = subst EachRight (sym g.0) h

pub right_front : (at : ℕ) (ss : List Segment) (bs : List Batch) (stop : Stop) → IsFront at ss bs stop → EachRight bs
right_front at [] bs stop h = subst EachRight (sym h.0) tt
right_front at (s ∷ ss) bs stop (inl h) = subst EachRight (sym h.1) tt
right_front at (s ∷ ss) bs stop (inr h) =
    right_goes h.2 h.1 (λ os. IsFront (at + records_in h.1) ss os stop) bs stop (right_split s.bytes h.1 h.3.rest h.3.texts)
    (λ os f. right_front (at + records_in h.1) ss os stop f) h.4

pub have_records : (bs : List Batch) → EachRight bs → EachHasRecords bs
have_records [] h = tt
have_records (b ∷ bs) h = (h.0.some, have_records bs h.1)

right_at : (before : List Batch) (b : Batch) (after : List Batch) → EachRight (before ++ b ∷ after) → IsRight b
right_at [] b after h = h.0
right_at (x ∷ before) b after h = right_at before b after h.1

-- ---- no fault stands, so the rules are kept

abbrev pub NoFault : List ℕ → ℤ → ℤ → List Batch → Stop → Type 0
NoFault topic number end batches stop = NoneStands (IsStanding topic number end batches stop)

stands_not : (topic : List ℕ) (number end : ℤ) (bs : List Batch) (stop : Stop) → NoFault topic number end bs stop
    → (offset : ℕ) (kind : PartitionFaultKind) → StandsIn (not (is_internal topic)) end bs stop offset kind → ⊥
stands_not topic number end bs stop none offset kind h =
    none (record { topic = topic; partition = number; offset = offset; kind = kind }) (record { of_topic = refl; of_number = refl; stands = h })

at_end : (topic : List ℕ) (number end : ℤ) (bs : List Batch) (stop : Stop) → NoFault topic number end bs stop → stop ≡ AtEnd
at_end topic number end bs AtEnd none = refl
at_end topic number end bs (NoBatch s b f) none = absurd (stands_not topic number end bs (NoBatch s b f) none (records_in bs) (BadBatch s b f) (refl, refl))
at_end topic number end bs (Elsewhere n) none = absurd (stands_not topic number end bs (Elsewhere n) none (records_in bs) (Gap n) (refl, refl))

whole : (topic : List ℕ) (number end : ℤ) (segments : List Segment) (bs : List Batch) (stop : Stop) → IsFront 0 segments bs stop → NoFault topic number end bs stop
    → IsWhole end segments bs
whole topic number end segments bs stop front none =
    record { texts = at_the_end segments bs bs stop front (all, refl); records = by_test (int_eq (pos (records_in bs)) end) refl }
  where
    all : stop ≡ AtEnd
    all = at_end topic number end bs stop none

    by_test : (test : Bool) → int_eq (pos (records_in bs)) end ≡ test → pos (records_in bs) ≡ end
    by_test true e = (Decides-int_eq (pos (records_in bs)) end).0 e
    by_test false e = absurd (stands_not topic number end bs stop none (records_in bs) (End (unsigned_abs end)) (all, not_equal (pos (records_in bs)) end e, refl, refl))

pairs : (topic : List ℕ) (number end : ℤ) (bs : List Batch) (stop : Stop) → NoFault topic number end bs stop → NoPairAfter (not (is_internal topic)) [] bs
pairs topic number end bs stop none inner b after producer next fault e t st =
    stands_not topic number end bs stop none (offset_of b) (Pair fault producer)
    (record { before = inner; here = b; after = after; next = next; parts = e; at = refl; touch = t; wrong = st })

ended : (topic : List ℕ) (number end : ℤ) (bs : List Batch) (stop : Stop) → EachRight bs → NoFault topic number end bs stop
    → (before : List Batch) (b : Batch) (after : List Batch) → bs ≡ before ++ b ∷ after → IsTransactional b → HasMarker b.producer after
ended topic number end bs stop right none before b after e t =
    elim (marker_or_open s here (touches_of b.producer after) behind refl) [
      | inl a ↦ marker_among b.producer after a.0 a.1 a.2
      | inr a ↦ absurd (stands_not topic number end bs stop none (records_in bs) (OpenAtEnd b.producer)
          (at_end topic number end bs stop none, subst IsOpen (sym last) a, refl))
    ]
  where
    s : Bool
    s = not (is_internal topic)

    here : Touch
    here = Data b.epoch true b.sequence (length b.records)

    says : Rattle.eos_touch.specs.Touches.touch_of b ≡ Some (b.producer, here)
    says = data_says b (right_at before b after (subst EachRight e right)).producer t

    cut : touches_of b.producer bs ≡ touches_of b.producer before ++ (here ∷ touches_of b.producer after)
    cut = ap (touches_of b.producer) e ∙ touches_cut before b after b.producer here says

    each : EachAfter (Accepts s) None (touches_of b.producer bs)
    each = each_after s b.producer [] bs (pairs topic number end bs stop none)

    behind : EachAfter (Accepts s) (Some here) (touches_of b.producer after)
    behind = after_split (Accepts s) None (touches_of b.producer before) here (touches_of b.producer after) (subst (EachAfter (Accepts s) None) cut each)

    last : last_touch b.producer bs ≡ last_of (here ∷ touches_of b.producer after)
    last = ap last_of cut ∙ last_behind (touches_of b.producer before) here (touches_of b.producer after)

-- ---- the law

pub law : (topic : List ℕ) (number end : ℤ) (segments : List Segment) (bs : List Batch) (stop : Stop) → IsFront 0 segments bs stop
    → NoFault topic number end bs stop ↔ KeepsRules topic end segments bs
law topic number end segments bs stop front = (forward, backward)
  where
    right : EachRight bs
    right = right_front 0 segments bs stop front

    forward : NoFault topic number end bs stop → KeepsRules topic end segments bs
    forward none =
        let kept = rules_kept (not (is_internal topic)) bs (have_records bs right) (pairs topic number end bs stop none) in
        record {
          whole = whole topic number end segments bs stop front none;
          sequenced = λ i id. (kept id).0 (ap not i);
          fenced = record { pairs = λ id. (kept id).1; ended = ended topic number end bs stop right none };
        }

    if_checked : (b : Bool) → not b ≡ true → b ≡ false
    if_checked true e = absurd cc
    if_checked false e = refl

    at_stop : KeepsRules topic end segments bs → stop ≡ AtEnd
    at_stop k = (same_front segments bs bs stop front k.whole.texts).0

    none_of : KeepsRules topic end segments bs → (offset : ℕ) (kind : PartitionFaultKind) → StandsIn (not (is_internal topic)) end bs stop offset kind → ⊥
    none_of k offset (BadBatch s b f) h = no_batch stop (at_stop k) h.0
      where
        no_batch : (x : Stop) → x ≡ AtEnd → x ≡ NoBatch s b f → ⊥
        no_batch x p q = cc
    none_of k offset (Gap n) h = no_gap stop (at_stop k) h.0
      where
        no_gap : (x : Stop) → x ≡ AtEnd → x ≡ Elsewhere n → ⊥
        no_gap x p q = cc
    none_of k offset (Pair fault producer) h =
        no_pair (not (is_internal topic)) bs (have_records bs right) (λ id. (λ q. k.sequenced (if_checked (is_internal topic) q) id, k.fenced.pairs id))
        h.before h.here h.after producer h.next fault h.parts h.touch h.wrong
    none_of k offset (End declared) h = h.1 k.whole.records
    none_of k offset (OpenAtEnd producer) h = open_unended producer bs k.fenced.ended h.1

    backward : KeepsRules topic end segments bs → NoFault topic number end bs stop
    backward k fault h = none_of k fault.offset fault.kind h.stands
