-- The batches of a chunk, one after the other.
use Rattle.std.proofs.Common.{◌≡◌, ◌≢◌, ℕ, zero, suc, ◌+◌, ◌≤◌, List, [], ◌∷◌, ◌++◌, Bool, true, false, cond, length, take, drop, Some, refl, sym, ap, subst, ◌∙◌, append_assoc, arith, pos}
use Rattle.std.specs.List.{slice_get}
use Rattle.std.specs.Option.{option_to_list}
use Rattle.std.proofs.lemmas.List.{append-nil, length-append, take-append-drop, take_all}
use Rattle.eos_batch.specs.declared.batch.Batch.{Batch}
use Rattle.eos_batch.specs.declared.marker.Marker.{Marker}
use Rattle.eos_batch.specs.declared.head.BatchHead.{BatchHead}
use Rattle.eos_batch.specs.declared.record.Record.{Record}
use Rattle.eos_batch.specs.Attributes.{is_control}
use Rattle.eos_batch.specs.Offsets.{offset_of}
use Rattle.eos_batch.specs.Marker.{marker_of, markers_of}
use Rattle.eos_batch.specs.Segment.{Splits}
use Rattle.eos_touch.specs.Front.{ContinuesFrom, IsNext}
use Rattle.eos_touch.proofs.Continuity.{records_in-push, continues-push, abs_pos, fits_on}
use Rattle.eos_fold.specs.declared.stop.Stop.TheVariants.{AtEnd, Elsewhere}
use Rattle.eos_reading.specs.Heads.{HasHeads}
use Rattle.eos_reading.specs.Kept.{kept_from, kept_in, kept_of}
use Rattle.eos_fold.proofs.JoinedFronts.{markers_of-append}
use Rattle.eos_kept.specs.Runs.{IsRunOf}
use Rattle.eos_kept.specs.declared.front.Front.{Front}
use Rattle.eos_kept.specs.Passing.{IsRealHead, GoesAlong, data_count}
use Rattle.eos_kept.specs.steps.Passing.{AreHeads, Passes}

pub are_heads : (bytes : List ℕ) (bs : List Batch) (hs : List BatchHead) (rest : List ℕ) → HasHeads bytes bs hs rest → AreHeads bs hs
are_heads bytes [] [] rest s = tt
are_heads bytes [] (h ∷ hs) rest s = absurd s
are_heads bytes (b ∷ bs) [] rest s = absurd s
are_heads bytes (b ∷ bs) (h ∷ hs) rest s = (record { of = record { size = length s.0; is = s.4; right = s.2.producer }; counted = s.2.counted }, are_heads s.1 bs hs rest s.5)

-- the bytes after the first of the batches, and the heads of both
pub record Parted (bytes : List ℕ) (xs ys : List Batch) (hs : List BatchHead) (rest : List ℕ) : Type 0 where
  pub mid : List ℕ
  pub texts : Splits bytes xs mid
  pub first : List BatchHead
  pub more : List BatchHead
  pub heads : hs ≡ first ++ more
  pub front : HasHeads bytes xs first mid
  pub left : HasHeads mid ys more rest

pub parted : (bytes : List ℕ) (xs ys : List Batch) (hs : List BatchHead) (rest : List ℕ) → HasHeads bytes (xs ++ ys) hs rest → Parted bytes xs ys hs rest
parted bytes [] ys hs rest s = record { mid = bytes; texts = refl; first = []; more = hs; heads = refl; front = refl; left = s }
parted bytes (x ∷ xs) ys [] rest s = absurd s
parted bytes (x ∷ xs) ys (h ∷ hs) rest s =
    let p = parted s.1 xs ys hs rest s.5 in
    record {
      mid = p.mid;
      texts = (s.0, s.1, s.2, s.3, p.texts);
      first = h ∷ p.first;
      more = p.more;
      heads = ap (λ (gs : List BatchHead). h ∷ gs) p.heads;
      front = (s.0, s.1, s.2, s.3, s.4, p.front);
      left = p.left;
    }

pub as_many : (bytes : List ℕ) (bs : List Batch) (hs : List BatchHead) (rest : List ℕ) → HasHeads bytes bs hs rest → length bs ≡ length hs
as_many bytes [] [] rest s = refl
as_many bytes [] (h ∷ hs) rest s = absurd s
as_many bytes (b ∷ bs) [] rest s = absurd s
as_many bytes (b ∷ bs) (h ∷ hs) rest s = let e = as_many s.1 bs hs rest s.5 in omega (arith, e)

pub left_none : (mid : List ℕ) (hs : List BatchHead) (rest : List ℕ) → HasHeads mid [] hs rest → mid ≡ rest
left_none mid [] rest s = s
left_none mid (h ∷ hs) rest s = absurd s

pub left_next : (mid : List ℕ) (b : Batch) (bs : List Batch) (hs : List BatchHead) (rest : List ℕ) → HasHeads mid (b ∷ bs) hs rest → IsNext mid b
left_next mid b bs [] rest s = absurd s
left_next mid b bs (h ∷ hs) rest s = (s.0, s.1, s.2, s.3)

-- ---- how much is kept

kept_from-length : {K : Type 0} (keep : ℕ → Record → K) (at : ℕ) (rs : List Record) → length (kept_from keep at rs) ≡ length rs
kept_from-length keep at [] = refl
kept_from-length keep at (r ∷ rs) = let e = kept_from-length keep (at + 1) rs in let n : at + 1 ≡ suc at = omega arith in let f = subst (λ (m : ℕ). length (kept_from keep m rs) ≡ length rs) n e in omega (arith, f)

pub kept_of-length : {K : Type 0} (keep : ℕ → Record → K) (bs : List Batch) → length (kept_of keep bs) ≡ data_count bs
kept_of-length keep [] = refl
kept_of-length keep (b ∷ bs) =
    let e = kept_of-length keep bs in
    let n = length-append (kept_in keep b) (kept_of keep bs) in
    let f = one (is_control b.attributes) in
    omega (arith, e, n, f)
  where
    one : (c : Bool) → length (cond c [] (kept_from keep (offset_of b) b.records)) ≡ cond c 0 (length b.records)
    one true = refl
    one false = kept_from-length keep (offset_of b) b.records

-- ---- one batch after the other

pub front_more : (before : List Batch) (b : Batch) (head : BatchHead) (old new : Front) (count : ℕ) → IsRealHead b head → head.offset ≡ old.next → count ≡ head.count → new.begin ≡ old.begin → new.next ≡ old.next + count → new.batches ≡ old.batches + 1
    → new.markers.items ≡ old.markers.items ++ option_to_list head.marker → (IsRunOf before old.run → IsRunOf (before ++ b ∷ []) new.run) → GoesAlong before old → GoesAlong (before ++ b ∷ []) new
front_more before b head old new count h eq number begin next counted markers run g =
    let is = h.of.is in
    let o : offset_of b ≡ old.next = sym (ap (λ (x : BatchHead). x.offset) is) ∙ eq in
    let base : b.base_offset ≡ pos old.next = abs_pos b.base_offset h.counted.first ∙ ap pos o in
    let n : count ≡ length b.records = number ∙ ap (λ (x : BatchHead). x.count) is in
    let all : markers_of (before ++ b ∷ []) ≡ markers_of before ++ option_to_list (marker_of b) = markers_of-append before (b ∷ []) ∙ ap (λ (ms : List Marker). markers_of before ++ ms) (append-nil (option_to_list (marker_of b))) in
    record {
      keeps = record {
        next = let p = records_in-push before b in omega (arith, next, begin, n, p, g.keeps.next);
        counted = let l = length-append before (b ∷ []) in omega (arith, counted, l, g.keeps.counted);
        fits = let f = fits_on b.base_offset old.next (length b.records) base h.counted.last in omega (arith, next, n, f);
        markers = markers ∙ (ap (λ (ms : List Marker). ms ++ option_to_list head.marker) g.keeps.markers ∙ (ap (λ (m : BatchHead). markers_of before ++ option_to_list m.marker) is ∙ sym all));
        run = run g.keeps.run;
      };
      continuous = subst (λ (k : ℕ). ContinuesFrom k (before ++ b ∷ [])) (sym begin) (continues-push old.begin before b g.continuous (base ∙ ap pos g.keeps.next));
    }

-- the next of the heads
pub record Met (bs : List Batch) (i : ℕ) (head : BatchHead) : Type 0 where
  pub batch : Batch
  pub real : IsRealHead batch head
  pub here : drop i bs ≡ batch ∷ drop (i + 1) bs
  pub more : take (i + 1) bs ≡ take i bs ++ batch ∷ []

one_more : (i : ℕ) → suc (i + 1) ≡ suc i + 1
one_more i = omega arith

pub met : (bs : List Batch) (hs : List BatchHead) (i : ℕ) (head : BatchHead) → AreHeads bs hs → slice_get hs i ≡ Some head → Met bs i head
met [] [] i head a e = absurd cc
met [] (h ∷ hs) i head a e = absurd a
met (b ∷ bs) [] i head a e = absurd a
met (b ∷ bs) (h ∷ hs) zero head a e =
    let same : h ≡ head = cc in
    record { batch = b; real = subst (IsRealHead b) same a.0; here = refl; more = refl }
met (b ∷ bs) (h ∷ hs) (suc i) head a e =
    let m = met bs hs i head a.1 e in
    record {
      batch = m.batch;
      real = m.real;
      here = m.here ∙ ap (λ n. m.batch ∷ drop n (b ∷ bs)) (one_more i);
      more = ap (λ n. take n (b ∷ bs)) (sym (one_more i)) ∙ ap (λ (cs : List Batch). b ∷ cs) m.more;
    }

pub heads-length : (bs : List Batch) (hs : List BatchHead) → AreHeads bs hs → length bs ≡ length hs
heads-length [] [] a = refl
heads-length [] (h ∷ hs) a = absurd a
heads-length (b ∷ bs) [] a = absurd a
heads-length (b ∷ bs) (h ∷ hs) a = let e = heads-length bs hs a.1 in omega (arith, e)

pub data_count-push : (bs : List Batch) (b : Batch) → data_count (bs ++ b ∷ []) ≡ data_count bs + cond (is_control b.attributes) 0 (length b.records)
data_count-push [] b = omega arith
data_count-push (x ∷ xs) b = let e = data_count-push xs b in omega (arith, e)

-- so many of the batches were passed
pub record HasPassed (bs : List Batch) (i : ℕ) (old new : Front) (count : ℕ) : Type 0 where
  pub counted : count ≡ data_count (take i bs)
  pub along : (before : List Batch) → GoesAlong before old → GoesAlong (before ++ take i bs) new

pub passed_none : (bs : List Batch) (f : Front) → HasPassed bs 0 f f 0
passed_none bs f = record { counted = refl; along = λ before g. subst (λ (cs : List Batch). GoesAlong cs f) (sym (append-nil before)) g }

pub passed_more : (bs : List Batch) (hs : List BatchHead) (i : ℕ) (head : BatchHead) (old f g : Front) (count count' : ℕ) → AreHeads bs hs → slice_get hs i ≡ Some head → count' ≡ count + cond head.is_control 0 head.count
    → ((before : List Batch) (b : Batch) → IsRealHead b head → GoesAlong before f → GoesAlong (before ++ b ∷ []) g) → HasPassed bs i old f count → HasPassed bs (i + 1) old g count'
passed_more bs hs i head old f g count count' a at c step p =
    let m = met bs hs i head a at in
    let b = m.batch in
    let e : cond head.is_control 0 head.count ≡ cond (is_control b.attributes) 0 (length b.records) = ap (λ (x : BatchHead). cond x.is_control 0 x.count) m.real.of.is in
    record {
      counted = let n = ap data_count m.more ∙ data_count-push (take i bs) b in let q = p.counted in omega (arith, n, q, c, e);
      along = λ before h. subst (λ (cs : List Batch). GoesAlong cs g) (append_assoc before (take i bs) (b ∷ []) ∙ ap (λ (cs : List Batch). before ++ cs) (sym m.more)) (step (before ++ take i bs) b m.real (p.along before h));
    }

pub passed_stop : (bs : List Batch) (hs : List BatchHead) (i : ℕ) (head : BatchHead) (old f g : Front) (count : ℕ) → AreHeads bs hs → slice_get hs i ≡ Some head → head.offset ≢ f.next
    → g.stop ≡ Elsewhere head.offset → g.next ≡ f.next → ((before : List Batch) → GoesAlong before f → GoesAlong before g) → HasPassed bs i old f count → Passes bs old g count
passed_stop bs hs i head old f g count a at ne stop next same p =
    let m = met bs hs i head a at in
    let b = m.batch in
    let o : head.offset ≡ offset_of b = ap (λ (x : BatchHead). x.offset) m.real.of.is in
    record {
      passed = take i bs;
      others = b ∷ drop (i + 1) bs;
      parts = sym (take-append-drop i bs) ∙ ap (λ (cs : List Batch). take i bs ++ cs) m.here;
      counted = p.counted;
      ends = (stop ∙ ap Elsewhere o, λ e. ne (o ∙ (e ∙ next)));
      along = λ before h. same (before ++ take i bs) (p.along before h);
    }

pub passed_all : (bs : List Batch) (hs : List BatchHead) (i : ℕ) (old f : Front) (count : ℕ) → AreHeads bs hs → length hs ≤ i → f.stop ≡ AtEnd → HasPassed bs i old f count → Passes bs old f count
passed_all bs hs i old f count a le stop p =
    let all : take i bs ≡ bs = take_all i bs (let e = heads-length bs hs a in omega (arith, e, le)) in
    record { passed = bs; others = []; parts = sym (append-nil bs); counted = p.counted ∙ ap data_count all; ends = stop; along = λ before h. subst (λ (cs : List Batch). GoesAlong (before ++ cs) f) all (p.along before h) }
