-- A front's batches: each base offset is the number of records before, and each batch has a record.
use Rattle.std.proofs.Common.{◌≡◌, ℕ, ◌+◌, ◌<◌, ◌≤◌, inl, inr, List, [], ◌∷◌, ◌++◌, length, sym, ap, subst, ◌∙◌, arith, Bool, Some, ℤ}
use Rattle.std.specs.Prelude.{unsigned_abs, ⊤}
use Rattle.eos_batch.specs.declared.batch.Batch.{Batch}
use Rattle.eos_batch.specs.Segment.{Splits}
use Rattle.eos_touch.specs.declared.pair.PairFault.{PairFault}
use Rattle.eos_evidence.specs.declared.segment.Segment.{Segment}
use Rattle.eos_fold.specs.declared.stop.Stop.{Stop}
use Rattle.eos_fold.specs.declared.stop.Stop.TheVariants.{AtEnd, NoBatch, Elsewhere}
use Rattle.eos_batch.specs.Offsets.{offset_of}
use Rattle.eos_touch.specs.Front.{records_in, ContinuesFrom}
use Rattle.eos_fold.specs.Fronts.{GoesOn, IsFront}
use Rattle.eos_fold.specs.Standing.{StandsAtTouch}
use Rattle.eos_touch.specs.declared.touch.Touch.{Touch}
use Rattle.eos_touch.specs.Touches.{touch_of}
use Rattle.eos_touch.proofs.Continuity.{records_in-append, continues-cut, continues-last}

abbrev pub HaveRecords : List Batch → Type 0
HaveRecords [] = ⊤
HaveRecords (b ∷ bs) = (1 ≤ length b.records) × HaveRecords bs

pub record IsSteady (at : ℕ) (batches : List Batch) : Type 0 where
  pub continuous : ContinuesFrom at batches
  pub counted : HaveRecords batches

splits_have : (bytes : List ℕ) (bs : List Batch) (rest : List ℕ) → Splits bytes bs rest → HaveRecords bs
splits_have bytes [] rest h = tt
splits_have bytes (b ∷ bs) rest h = (h.2.counted.some, splits_have h.1 bs rest h.4)

have-append : (xs ys : List Batch) → HaveRecords xs → HaveRecords ys → HaveRecords (xs ++ ys)
have-append [] ys h k = k
have-append (x ∷ xs) ys h k = (h.0, have-append xs ys h.1 k)

continues-append : (n : ℕ) (xs ys : List Batch) → ContinuesFrom n xs → ContinuesFrom (n + records_in xs) ys → ContinuesFrom n (xs ++ ys)
continues-append n [] ys h k = let z : n + 0 ≡ n = omega arith in subst (λ (m : ℕ). ContinuesFrom m ys) z k
continues-append n (x ∷ xs) ys h k =
    let z : n + (length x.records + records_in xs) ≡ n + length x.records + records_in xs = omega arith in
    (h.0, continues-append (n + length x.records) xs ys h.1 (subst (λ (m : ℕ). ContinuesFrom m ys) z k))

steady-append : (n : ℕ) (xs ys : List Batch) → IsSteady n xs → IsSteady (n + records_in xs) ys → IsSteady n (xs ++ ys)
steady-append n xs ys h k = record { continuous = continues-append n xs ys h.continuous k.continuous; counted = have-append xs ys h.counted k.counted }

steady-none : (n : ℕ) (bs : List Batch) → bs ≡ [] → IsSteady n bs
steady-none n bs e = subst (IsSteady n) (sym e) (record { continuous = tt; counted = tt })

goes_steady : (inner : Stop) (at : ℕ) (inside bs : List Batch) (Others : List Batch → Type 0) (stop : Stop) → IsSteady at inside → ((os : List Batch) → Others os → IsSteady (at + records_in inside) os) → GoesOn inner inside Others bs stop → IsSteady at bs
goes_steady AtEnd at inside bs Others stop h rec g = subst (IsSteady at) (sym g.1) (steady-append at inside g.0 h (rec g.0 g.2))
goes_steady (NoBatch s b f) at inside bs Others stop h rec g = subst (IsSteady at) (sym g.0) h
goes_steady (Elsewhere n) at inside bs Others stop h rec g = subst (IsSteady at) (sym g.0) h

pub front_steady : (at : ℕ) (ss : List Segment) (bs : List Batch) (stop : Stop) → IsFront at ss bs stop → IsSteady at bs
front_steady at [] bs stop h = steady-none at bs h.0
front_steady at (s ∷ ss) bs stop (inl h) = steady-none at bs h.1
front_steady at (s ∷ ss) bs stop (inr h) =
    goes_steady h.2 at h.1 bs (λ os. IsFront (at + records_in h.1) ss os stop) stop (record { continuous = h.3.continuous; counted = splits_have s.bytes h.1 h.3.rest h.3.texts }) (λ os f. front_steady (at + records_in h.1) ss os stop f) h.4

-- ---- places

offset_at : (n : ℕ) (xs : List Batch) (b : Batch) (ys : List Batch) → ContinuesFrom n (xs ++ b ∷ ys) → offset_of b ≡ n + records_in xs
offset_at n xs b ys h = ap unsigned_abs (continues-last n xs b (continues-cut n xs b ys h))

some_at : (xs : List Batch) (b : Batch) (ys : List Batch) → HaveRecords (xs ++ b ∷ ys) → 1 ≤ length b.records
some_at [] b ys h = h.0
some_at (x ∷ xs) b ys h = some_at xs b ys h.1

-- a touch stands before the front's end
pub touch_inside : (s : Bool) (bs : List Batch) (o : ℕ) (k : PairFault) (id : ℤ) → IsSteady 0 bs → StandsAtTouch s bs o k id → o < records_in bs
touch_inside s bs o k id h t =
    let steady = subst (IsSteady 0) t.parts h in
    let at = offset_at 0 t.before t.here t.after steady.continuous in
    let some = some_at t.before t.here t.after steady.counted in
    let all = ap records_in t.parts in
    let sum = records_in-append t.before (t.here ∷ t.after) in
    let here = t.at in
    omega (arith, at, some, all, sum, here)

batch_is : (b : Batch) (bs : List Batch) (c : Batch) (cs : List Batch) → b ∷ bs ≡ c ∷ cs → b ≡ c
batch_is b bs c cs e = cc

rest_is : (b : Batch) (bs : List Batch) (c : Batch) (cs : List Batch) → b ∷ bs ≡ c ∷ cs → bs ≡ cs
rest_is b bs c cs e = cc

same_place : (xs : List Batch) (b : Batch) (ys us : List Batch) (c : Batch) (vs : List Batch) → xs ++ b ∷ ys ≡ us ++ c ∷ vs → HaveRecords (xs ++ b ∷ ys) → HaveRecords (us ++ c ∷ vs) → records_in xs ≡ records_in us → b ≡ c
same_place [] b ys [] c vs e h k n = batch_is b ys c vs e
same_place [] b ys (u ∷ us) c vs e h k n = let some = k.0 in absurd (omega (arith, n, some))
same_place (x ∷ xs) b ys [] c vs e h k n = let some = h.0 in absurd (omega (arith, n, some))
same_place (x ∷ xs) b ys (u ∷ us) c vs e h k n =
    let first = batch_is x (xs ++ b ∷ ys) u (us ++ c ∷ vs) e in
    let size = ap (λ (y : Batch). length y.records) first in
    same_place xs b ys us c vs (rest_is x (xs ++ b ∷ ys) u (us ++ c ∷ vs) e) h.1 k.1 (omega (arith, n, size))

-- at one offset stands one batch, so one producer id
pub one_id : (s : Bool) (bs : List Batch) (o : ℕ) (k l : PairFault) (p q : ℤ) → IsSteady 0 bs → StandsAtTouch s bs o k p → StandsAtTouch s bs o l q → p ≡ q
one_id s bs o k l p q h t u =
    let a = subst (IsSteady 0) t.parts h in
    let b = subst (IsSteady 0) u.parts h in
    let p_at = offset_at 0 t.before t.here t.after a.continuous in
    let q_at = offset_at 0 u.before u.here u.after b.continuous in
    let t_at = t.at in
    let u_at = u.at in
    let m : records_in t.before ≡ records_in u.before = omega (arith, p_at, q_at, t_at, u_at) in
    let same = same_place t.before t.here t.after u.before u.here u.after (sym t.parts ∙ u.parts) a.counted b.counted m in
    ap (λ (x : ℤ × Touch). x.0) (pair_is (p, t.next) (q, u.next) (sym t.touch ∙ (ap touch_of same ∙ u.touch)))
  where
    pair_is : (x y : ℤ × Touch) → Some x ≡ Some y → x ≡ y
    pair_is x y e = cc
