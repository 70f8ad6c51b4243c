-- Batches that have the heads of a fold, passed one after the other.
use Rattle.std.proofs.Common.{◌≡◌, ℕ, zero, suc, ◌+◌, ◌≤◌, pos, List, [], ◌∷◌, ◌++◌, false, cond, length, take, drop, Some, refl, sym, ap, subst, ◌∙◌, arith}
use Rattle.std.specs.Prelude.{unsigned_abs}
use Rattle.std.specs.List.{slice_get}
use Rattle.std.proofs.lemmas.List.{take_all}
use Rattle.std.proofs.lemmas.List.Sums.{sum_by-cons}
use Rattle.eos_batch.specs.declared.batch.Batch.{Batch}
use Rattle.eos_batch.specs.declared.head.BatchHead.{BatchHead}
use Rattle.eos_batch.specs.Attributes.{is_control}
use Rattle.eos_batch.specs.Heads.{head_of}
use Rattle.eos_batch.specs.Offsets.{offset_of}
use Rattle.eos_batch.specs.Segment.{Splits}
use Rattle.eos_touch.specs.Front.{ContinuesFrom}
use Rattle.eos_fold_file.specs.declared.head.BatchKind.TheVariants.{Data}
use Rattle.eos_fold_file.specs.declared.head.FoldHead.{FoldHead}
use Rattle.eos_fold_file.specs.Batches.{HaveHeads}
use Rattle.eos_fold_file.specs.Files as file
use Rattle.eos_fold_file.specs.Folds.{HasFoldHeads}
use Rattle.eos_fold_file.specs.Heads.{is_control_kind, batch_head, fold_head}
use Rattle.eos_fold_file.proofs.RealHeads.{head_again}
use Rattle.eos_kept.specs.declared.front.Front.{Front}
use Rattle.eos_kept.specs.Kept.{KeepsFront}
use Rattle.eos_kept.specs.Passing.{IsRealHead, GoesAlong, data_count}
use Rattle.eos_kept.proofs.PassedHeads.{data_count-push}
use Rattle.eos_fold_file.specs.steps.Heads.{AreFrom}

-- those that any legal fold has
pub from_any : (next : ℕ) (hs : List FoldHead) (bs : List Batch) → HaveHeads next hs bs → AreFrom next hs bs
from_any next [] [] h = tt
from_any next [] (b ∷ bs) h = absurd h
from_any next (x ∷ xs) [] h = absurd h
from_any next (x ∷ xs) (b ∷ bs) h = (record { of = record { size = x.size; is = h.0.head; right = h.0.producer }; counted = h.0.counted }, from_any (next + x.count) xs bs h.1)

-- those of a segment
pub from_segment : (next : ℕ) (bytes : List ℕ) (hs : List FoldHead) (bs : List Batch) (rest : List ℕ) → HasFoldHeads bytes bs hs rest → ContinuesFrom next bs → AreFrom next hs bs
from_segment next bytes [] [] rest s c = tt
from_segment next bytes [] (b ∷ bs) rest s c = absurd s
from_segment next bytes (h ∷ hs) [] rest s c = absurd s
from_segment next bytes (h ∷ hs) (b ∷ bs) rest s c =
    let size = length s.0 in
    let at : offset_of b ≡ next = ap unsigned_abs c.0 in
    let head : batch_head next h ≡ head_of b size = ap (batch_head next) s.4 ∙ (ap (λ (n : ℕ). batch_head n (fold_head (head_of b size))) (sym at) ∙ head_again b size) in
    let count : h.count ≡ length b.records = ap (λ (x : FoldHead). x.count) s.4 in
    let more = subst (λ (n : ℕ). ContinuesFrom (next + n) bs) (sym count) c.1 in
    (record { of = record { size = size; is = head; right = s.2.producer }; counted = s.2.counted }, from_segment (next + h.count) s.1 hs bs rest s.5 more)

pub fold_splits : (bytes : List ℕ) (hs : List FoldHead) (bs : List Batch) (rest : List ℕ) → HasFoldHeads bytes bs hs rest → Splits bytes bs rest
fold_splits bytes [] [] rest s = s
fold_splits bytes [] (b ∷ bs) rest s = absurd s
fold_splits bytes (h ∷ hs) [] rest s = absurd s
fold_splits bytes (h ∷ hs) (b ∷ bs) rest s = (s.0, s.1, s.2, s.3, fold_splits s.1 hs bs rest s.5)

-- ---- how many there are

from_length : (next : ℕ) (hs : List FoldHead) (bs : List Batch) → AreFrom next hs bs → length bs ≡ length hs
from_length next [] [] a = refl
from_length next [] (b ∷ bs) a = absurd a
from_length next (h ∷ hs) [] a = absurd a
from_length next (h ∷ hs) (b ∷ bs) a = let e = from_length (next + h.count) hs bs a.1 in omega (arith, e)

pub from_count : (next : ℕ) (hs : List FoldHead) (bs : List Batch) → AreFrom next hs bs → data_count bs ≡ file.data_count hs
from_count next [] [] a = refl
from_count next [] (b ∷ bs) a = absurd a
from_count next (h ∷ hs) [] a = absurd a
from_count next (h ∷ hs) (b ∷ bs) a =
    let sum : file.data_count (h ∷ hs) ≡ file.data_records h + file.data_count hs = sum_by-cons file.data_records h hs in
    let one : cond (is_control_kind h.kind) 0 h.count ≡ cond (is_control b.attributes) 0 (length b.records) = ap (λ (x : BatchHead). cond x.is_control 0 x.count) a.0.of.is in
    let e = from_count (next + h.count) hs bs a.1 in
    omega (arith, sum, one, e)

-- ---- one after the other

-- where no head is
abbrev pub no_head : FoldHead
no_head = record { kind = Data; is_transactional = false; count = 0; size = 0; producer = pos 0; epoch = pos 0; sequence = pos 0 }

-- so many of these were passed
pub record HasPassed (hs : List FoldHead) (bs : List Batch) (i : ℕ) (f : Front) (count : ℕ) : Type 0 where
  pub counted : count ≡ data_count (take i bs)
  pub along : GoesAlong (take i bs) f
  pub left : AreFrom f.next (drop i hs) (drop i bs)

-- the next of them
pub record Met (next : ℕ) (hs : List FoldHead) (bs : List Batch) (i : ℕ) (head : FoldHead) : Type 0 where
  pub batch : Batch
  pub real : IsRealHead batch (batch_head next head)
  pub more : take (i + 1) bs ≡ take i bs ++ batch ∷ []
  pub left : AreFrom (next + head.count) (drop (i + 1) hs) (drop (i + 1) bs)

one_more : (i : ℕ) → suc (i + 1) ≡ suc i + 1
one_more i = omega arith

none_left : (next : ℕ) (hs : List FoldHead) (i : ℕ) (head : FoldHead) → slice_get hs i ≡ Some head → AreFrom next (drop i hs) [] → ⊥
none_left next [] i head e a = absurd cc
none_left next (h ∷ hs) zero head e a = a
none_left next (h ∷ hs) (suc i) head e a = none_left next hs i head e a

pub met : (next : ℕ) (hs : List FoldHead) (bs : List Batch) (i : ℕ) (head : FoldHead) → slice_get hs i ≡ Some head → AreFrom next (drop i hs) (drop i bs) → Met next hs bs i head
met next [] bs i head e a = absurd cc
met next (h ∷ hs) [] zero head e a = absurd a
met next (h ∷ hs) [] (suc i) head e a = absurd (none_left next hs i head e a)
met next (h ∷ hs) (b ∷ bs) zero head e a =
    let same : h ≡ head = cc in
    record { batch = b; real = subst (λ (x : FoldHead). IsRealHead b (batch_head next x)) same a.0; more = refl; left = subst (λ (x : FoldHead). AreFrom (next + x.count) hs bs) same a.1 }
met next (h ∷ hs) (b ∷ bs) (suc i) head e a =
    let m = met next hs bs i head e a in
    record {
      batch = m.batch;
      real = m.real;
      more = ap (λ n. take n (b ∷ bs)) (sym (one_more i)) ∙ ap (λ (cs : List Batch). b ∷ cs) m.more;
      left = subst (λ (n : ℕ). AreFrom (next + head.count) (drop n (h ∷ hs)) (drop n (b ∷ bs))) (one_more i) m.left;
    }

pub passed_none : (begin : ℕ) (hs : List FoldHead) (bs : List Batch) (f : Front) → f.begin ≡ begin → KeepsFront [] f → AreFrom begin hs bs → HasPassed hs bs 0 f 0
passed_none begin hs bs f e keeps a =
    let next : begin ≡ f.next = let n = keeps.next in omega (arith, e, n) in
    record { counted = refl; along = record { keeps = keeps; continuous = tt }; left = subst (λ (n : ℕ). AreFrom n hs bs) next a }

pub passed_more : (hs : List FoldHead) (bs : List Batch) (i : ℕ) (head : FoldHead) (f g : Front) (count count' : ℕ) → slice_get hs i ≡ Some head → count' ≡ count + cond (is_control_kind head.kind) 0 head.count → g.next ≡ f.next + head.count
    → ((before : List Batch) (b : Batch) → IsRealHead b (batch_head f.next head) → GoesAlong before f → GoesAlong (before ++ b ∷ []) g) → HasPassed hs bs i f count → HasPassed hs bs (i + 1) g count'
passed_more hs bs i head f g count count' at c next step p =
    let m = met f.next hs bs i head at p.left in
    let b = m.batch in
    let one : cond (is_control_kind head.kind) 0 head.count ≡ cond (is_control b.attributes) 0 (length b.records) = ap (λ (x : BatchHead). cond x.is_control 0 x.count) m.real.of.is in
    record {
      counted = let n = ap data_count m.more ∙ data_count-push (take i bs) b in let q = p.counted in omega (arith, n, q, c, one);
      along = subst (λ (cs : List Batch). GoesAlong cs g) (sym m.more) (step (take i bs) b m.real p.along);
      left = subst (λ (n : ℕ). AreFrom n (drop (i + 1) hs) (drop (i + 1) bs)) (sym next) m.left;
    }

pub all_passed : (begin : ℕ) (hs : List FoldHead) (bs : List Batch) (i : ℕ) (f : Front) (count : ℕ) → length hs ≤ i → AreFrom begin hs bs → HasPassed hs bs i f count → (count ≡ data_count bs) × GoesAlong bs f
all_passed begin hs bs i f count le a p =
    let all : take i bs ≡ bs = take_all i bs (let e = from_length begin hs bs a in omega (arith, e, le)) in
    (p.counted ∙ ap data_count all, subst (λ (cs : List Batch). GoesAlong cs f) all p.along)
