-- The steps by which a run takes over what comes after, told by its heads.
use Rattle.std.proofs.Common.{◌≡◌, ℕ, ◌<◌, Bool, false, cond, List, map, length, Option, Some, None, refl, sym, ap, subst, ◌∙◌, arith, ℤ}
use Rattle.std.specs.List.{All}
use Rattle.std.specs.Ordering.{int_eq, int_cmp}
use Rattle.std.specs.BTreeMap.{get}
use Rattle.eos_batch.specs.declared.batch.Batch.{Batch}
use Rattle.eos_fold.specs.Heads.{DataHead}
use Rattle.eos_fold.specs.Batches.{DataBatch}
use Rattle.eos_fold.specs.declared.ends.Ends.{Ends}
use Rattle.eos_fold.specs.declared.fault.Fault.{Fault}
use Rattle.eos_fold.specs.Settling.{waiting_in, settled}
use Rattle.eos_fold.specs.Tables.{Table, ends_at}
use Rattle.eos_fold.specs.Taken.{IsJoined}
use Rattle.eos_fold.specs.steps.Summaries.{only, TakesFault}
use Rattle.eos_fold.specs.steps.Joins.{Rest, IsTaking, Took}
use Rattle.eos_fold.proofs.Waiting.{all_below}
use Rattle.eos_fold.proofs.TakingOver.{start, taking_step, taken_step, took}
use Rattle.eos_kept.specs.Runs.{heads_of}
use Rattle.eos_kept.specs.steps.Taking.{CanTake, Begins, HasTaken}
use Rattle.eos_kept.proofs.HeadLists.{heads_of-length, waiting-heads}

pub taking_as : (by : ℕ) (t : Table) (xs ys : List DataBatch) (rest : Rest) → heads_of xs ≡ heads_of ys → IsTaking by t xs rest → IsTaking by t ys rest
taking_as by t xs ys rest e h = record {
  ready = h.ready;
  places = λ id f g. h.places id f g ∙ waiting-heads id xs ys e;
  fits = h.fits;
  number = let n = ap length e in let a = heads_of-length xs in let b = heads_of-length ys in omega (arith, n, a, b, h.number);
}

pub begun : (xs ys : List Batch) (s : Bool) (t : Table) (heads : List DataHead) (f : Option Fault) (rest : Rest) → Begins xs ys s t heads f rest → HasTaken xs ys s t heads f rest
begun xs ys s t heads f rest h = record { ds = h.ds; heads_are = h.heads_are; taken = start xs ys s t h.ds f rest h.starts }

pub inside : (by : ℕ) (t : Table) (heads : List DataHead) (rest : Rest) (p : ℤ) (r : Ends) → CanTake by t heads rest → rest p ≡ Some r → All (λ n. n < length heads) (ends_at t p).waiting.list
inside by t heads rest p r h g =
    let ds = h.0 in
    let n : length ds ≡ length heads = sym (ap length h.1 ∙ heads_of-length ds) in
    let below : All (λ m. m < length ds) (waiting_in p ds) = all_below (length ds) p ds (omega arith) in
    subst (λ (ps : List ℕ). All (λ m. m < length heads) ps) (sym (h.2.places p r g)) (subst (λ (k : ℕ). All (λ m. m < k) (waiting_in p ds)) n below)

-- what the heads become where one id is taken over
abbrev pub Settles : Table → ℤ → Ends → List DataHead → List DataHead → Type 0
Settles t k r before after = (ds : List DataBatch) → before ≡ heads_of ds → (ends_at t k).waiting.list ≡ waiting_in k ds → after ≡ heads_of (map (settled (only k r.marker)) ds)

module _ (by : ℕ) (s : Bool) (k p : ℤ) (r : Ends) (P : Table) (H : List DataHead) (F : Option Fault) (A : Rest) (P' : Table) (H' : List DataHead) (F' : Option Fault) (A' : Rest)
    (e : k ≡ p) (was : A p ≡ Some r) (left : (q : ℤ) → A' q ≡ cond (int_eq p q) None (A q)) (joined : IsJoined by (ends_at P k) r (ends_at P' k))
    (others : (q : ℤ) → int_eq k q ≡ false → get int_cmp P' q ≡ get int_cmp P q) (heads : Settles P k r H H') (fault : TakesFault s k (ends_at P k).last r.first F F') where
  one : (ds : List DataBatch) → Took by s p r P ds F A P' (map (settled (only k r.marker)) ds) F' A'
  one ds = took by s k p r P ds F A P' (map (settled (only k r.marker)) ds) F' A' e was left joined others refl fault

  after : (ds : List DataBatch) → H ≡ heads_of ds → IsTaking by P ds A → H' ≡ heads_of (map (settled (only k r.marker)) ds)
  after ds h t = heads ds h (subst (λ (i : ℤ). (ends_at P i).waiting.list ≡ waiting_in i ds) (sym e) (t.places p r was))

  pub can_next : CanTake by P H A → CanTake by P' H' A'
  can_next h = (map (settled (only k r.marker)) h.0, after h.0 h.1 h.2, taking_step by s p r P h.0 F A P' (map (settled (only k r.marker)) h.0) F' A' (one h.0) h.2)

  pub taken_next : (xs ys : List Batch) → CanTake by P H A → HasTaken xs ys s P H F A → HasTaken xs ys s P' H' F' A'
  taken_next xs ys h w =
      let t = taking_as by P h.0 w.ds A (sym h.1 ∙ w.heads_are) h.2 in
      record {
        ds = map (settled (only k r.marker)) w.ds;
        heads_are = after w.ds w.heads_are t;
        taken = taken_step by s p r P w.ds F A P' (map (settled (only k r.marker)) w.ds) F' A' xs ys (one w.ds) t w.taken;
      }
