-- A summary joined from two.
use Rattle.std.proofs.Common.{◌≡◌, ℕ, ◌+◌, ◌<◌, ◌^◌, Bool, List, length, Option, Some, refl, sym, ap, subst, ◌∙◌, arith, ℤ}
use Rattle.std.specs.List.{All}
use Rattle.std.specs.Ordering.{int_cmp}
use Rattle.std.specs.BTreeMap.{get}
use Rattle.eos_batch.specs.declared.batch.Batch.{Batch}
use Rattle.eos_fold.specs.Batches.{DataBatch}
use Rattle.eos_fold.specs.declared.ends.Ends.{Ends}
use Rattle.eos_fold.specs.declared.fault.Fault.{Fault}
use Rattle.eos_fold.specs.Settling.{waiting_in}
use Rattle.eos_fold.specs.Tables.{Table, ends_in, ends_at, AreEnds, KeepsIndexes}
use Rattle.eos_fold.specs.Taken.{IsReadyFor}
use Rattle.eos_fold.specs.Faults.{IsSettled, IsLeastOf}
use Rattle.eos_fold.specs.Earlier.{earlier}
use Rattle.eos_fold.specs.Summaries.{BatchSummary, IsSummary, SameEnds}
use Rattle.eos_fold.specs.steps.Summaries.{SameSummary}
use Rattle.eos_fold.specs.steps.Joins.{rest_of, Starts, IsTaking}
use Rattle.eos_fold.proofs.Waiting.{all_below}
use Rattle.eos_fold.proofs.SettledFaults.{least_or}

pub same_ends_of : (id : ℤ) (hs : List Batch) (e f : Ends) → SameEnds e f → AreEnds id hs e → AreEnds id hs f
same_ends_of id hs e f s a = record { first = s.first ∙ a.first; last = s.last ∙ a.last; marker = s.marker ∙ a.marker }

-- a summary with more room
pub same_summary : (hs : List Batch) (s t : BatchSummary) → SameSummary s t → IsSummary hs s → IsSummary hs t
same_summary hs s t e h = record {
  items = e.items ∙ h.items;
  ends = λ id. same_ends_of id hs (ends_at s.producers id) (ends_at t.producers id) (e.ends id) (h.ends id);
  places = λ id. (e.ends id).waiting ∙ (h.places id ∙ ap (waiting_in id) (sym e.items));
  fault = subst (λ (f : Option Fault). IsLeastOf (IsSettled t.sequenced hs) f) (sym e.fault) (subst (λ (b : Bool). IsLeastOf (IsSettled b hs) s.fault) (sym e.sequenced) h.fault);
}

all_more : (by n m : ℕ) (ps : List ℕ) → All (λ p. p < n) ps → n + by < m → All (λ p. p + by < m) ps
all_more by n m ps h l k d lt = let x = h k d lt in omega (arith, x, l)

-- what joining asks for
pub can_take : (t : Table) (is js : List DataBatch) (u : Table) → ((id : ℤ) (e : Ends) → get int_cmp u id ≡ Some e → IsReadyFor t id e) → KeepsIndexes t is → KeepsIndexes u js → length is + length js < 2 ^ 64 → IsTaking (length is) t is (rest_of u)
can_take t is js u ready places after small = record {
  ready = ready;
  places = λ id e g. places id;
  fits = λ id e g.
      let list : e.waiting.list ≡ waiting_in id js = sym (ap (λ (o : Option Ends). (ends_in o).waiting.list) g) ∙ after id in
      subst (λ (ps : List ℕ). All (λ p. p + length is < 2 ^ 64) ps) (sym list) (all_more (length is) (length js) (2 ^ 64) (waiting_in id js) (all_below (length js) id js (omega arith)) (omega (arith, small)));
  number = refl;
}

pub starts : (xs ys : List Batch) (s t : BatchSummary) → IsSummary xs s → IsSummary ys t → t.sequenced ≡ s.sequenced → Starts xs ys s.sequenced s.producers s.batches (earlier s.fault t.fault) (rest_of t.producers)
starts xs ys s t p q e = record {
  before = p.ends;
  after = q.ends;
  items = p.items;
  places = p.places;
  places_after = λ id. q.places id ∙ ap (waiting_in id) q.items;
  fault = least_or (IsSettled s.sequenced xs) (IsSettled s.sequenced ys) s.fault t.fault p.fault (subst (λ (b : Bool). IsLeastOf (IsSettled b ys) t.fault) e q.fault);
}
