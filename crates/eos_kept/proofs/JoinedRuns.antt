-- A run of two, or of one batch more.
use Rattle.std.proofs.Common.{◌≡◌, ℕ, ◌+◌, ◌<◌, ◌^◌, Bool, true, cond, List, [], ◌∷◌, ◌++◌, length, Option, Some, None, refl, sym, ap, subst, ◌∙◌, arith, ℤ}
use Rattle.std.specs.Prelude.{not}
use Rattle.std.specs.List.{All}
use Rattle.std.specs.Ordering.{int_cmp}
use Rattle.std.specs.BTreeMap.{get}
use Rattle.eos_batch.specs.declared.batch.Batch.{Batch}
use Rattle.eos_batch.specs.Attributes.{is_control}
use Rattle.eos_fold.specs.Heads.{DataHead}
use Rattle.eos_fold.specs.declared.ends.Ends.{Ends}
use Rattle.eos_fold.specs.declared.fault.Fault.{Fault}
use Rattle.eos_fold.specs.Settling.{data_in, data_after, waiting_in}
use Rattle.eos_fold.specs.Tables.{Table, ends_at}
use Rattle.eos_fold.specs.Taken.{IsReadyFor}
use Rattle.eos_fold.specs.Faults.{IsSettled, IsLeastOf}
use Rattle.eos_fold.specs.Earlier.{earlier}
use Rattle.eos_fold.specs.Summaries.{BatchSummary, IsSummary, SameEnds}
use Rattle.eos_fold.specs.steps.Joins.{rest_of, Starts, IsTaking}
use Rattle.eos_fold.proofs.Waiting.{all_below}
use Rattle.eos_fold.proofs.TakingOver.{all_ends, all_places, all_items, all_faults}
use Rattle.eos_fold.proofs.JoinedSummaries.{same_summary, can_take, starts}
use Rattle.eos_kept.specs.declared.run.Run.{Run}
use Rattle.eos_kept.specs.Runs.{heads_of, summary_with, IsRunOf, IsRun, SameRun}
use Rattle.eos_kept.specs.steps.Taking.{CanTake, HaveIndexes, Begins, BeginsWith, HasTaken}
use Rattle.eos_kept.proofs.HeadLists.{heads_of-append, heads_of-length}

pub same_run : (xs : List Batch) (s t : Run) → SameRun s t → IsRunOf xs s → IsRunOf xs t
same_run xs s t e h = record {
  heads = e.heads ∙ h.heads;
  known = same_summary xs (summary_with (data_in xs) s) (summary_with (data_in xs) t) (record { sequenced = e.sequenced; items = refl; ends = e.ends; fault = e.fault }) h.known;
}

pub places_inside : (t : Table) (heads : List DataHead) (p : ℤ) → HaveIndexes t heads → All (λ n. n < length heads) (ends_at t p).waiting.list
places_inside t heads p h =
    let ds = h.0 in
    let n : length ds ≡ length heads = sym (ap length h.1 ∙ heads_of-length ds) in
    let below : All (λ m. m < length ds) (waiting_in p ds) = all_below (length ds) p ds (omega arith) in
    subst (λ (ps : List ℕ). All (λ m. m < length heads) ps) (sym (h.2 p)) (subst (λ (k : ℕ). All (λ m. m < k) (waiting_in p ds)) n below)

-- ---- two runs

pub can_join : (s t : Run) (P : Table) (H : List DataHead) (by : ℕ) → IsRun s → IsRun t → ((id : ℤ) → SameEnds (ends_at s.producers id) (ends_at P id)) → H ≡ s.heads.list → by ≡ length H
    → ((id : ℤ) (e : Ends) → get int_cmp t.producers id ≡ Some e → IsReadyFor P id e) → length s.heads.list + length t.heads.list < 2 ^ 64 → CanTake by P H (rest_of t.producers)
can_join s t P H by h k same heads number ready small =
    let is = data_in h.0 in
    let js = data_in k.0 in
    let a = ap length h.1.heads in
    let b = ap length k.1.heads in
    let c = heads_of-length is in
    let d = heads_of-length js in
    let n : length is ≡ by = let f = ap length heads in omega (arith, a, c, number, f) in
    let fit : length is + length js < 2 ^ 64 = omega (arith, a, b, c, d, small) in
    let taking = can_take P is js t.producers ready (λ id. (same id).waiting ∙ h.1.known.places id) k.1.known.places fit in
    (is, heads ∙ h.1.heads, subst (λ (m : ℕ). IsTaking m P is (rest_of t.producers)) n taking)

pub begins_joining : (xs ys : List Batch) (s t : Run) (P : Table) (H : List DataHead) (f : Option Fault) → IsRunOf xs s → IsRunOf ys t → t.sequenced ≡ s.sequenced → ((id : ℤ) → SameEnds (ends_at s.producers id) (ends_at P id))
    → H ≡ s.heads.list → f ≡ earlier s.fault t.fault → Begins xs ys s.sequenced P H f (rest_of t.producers)
begins_joining xs ys s t P H f h k e same heads fault =
    let before : BatchSummary = record { sequenced = s.sequenced; batches = data_in xs; producers = P; fault = s.fault } in
    let p : IsSummary xs before = same_summary xs (summary_with (data_in xs) s) before (record { sequenced = refl; items = refl; ends = same; fault = refl }) h.known in
    record {
      ds = data_in xs;
      heads_are = heads ∙ h.heads;
      starts = subst (λ (x : Option Fault). Starts xs ys s.sequenced P (data_in xs) x (rest_of t.producers)) (sym fault) (starts xs ys before (summary_with (data_in ys) t) p k.known e);
    }

-- all is taken over
pub made : (xs ys : List Batch) (sequenced : Bool) (r : Run) (H : List DataHead) → HasTaken xs ys sequenced r.producers H r.fault (λ _. None) → r.sequenced ≡ sequenced → r.heads.list ≡ H ++ heads_of (data_in ys) → IsRunOf (xs ++ ys) r
made xs ys sequenced r H w same heads =
    let items = all_items xs ys sequenced r.producers w.ds r.fault (λ id. None) (λ id. refl) w.taken in
    let places = all_places xs ys sequenced r.producers w.ds r.fault (λ id. None) (λ id. refl) w.taken in
    record {
      heads = heads ∙ (ap (λ (hs : List DataHead). hs ++ heads_of (data_in ys)) w.heads_are ∙ (sym (heads_of-append w.ds (data_in ys)) ∙ ap heads_of items));
      known = record {
        items = refl;
        ends = all_ends xs ys sequenced r.producers w.ds r.fault (λ id. None) (λ id. refl) w.taken;
        places = λ id. places id ∙ ap (waiting_in id) items;
        fault = subst (λ (b : Bool). IsLeastOf (IsSettled b (xs ++ ys)) r.fault) (sym same) (all_faults xs ys sequenced r.producers w.ds r.fault (λ id. None) (λ id. refl) w.taken);
      };
    }

pub made_joined : (xs ys : List Batch) (s t r : Run) (H : List DataHead) → IsRunOf ys t → HasTaken xs ys s.sequenced r.producers H r.fault (λ _. None) → r.sequenced ≡ s.sequenced → r.heads.list ≡ H ++ t.heads.list → IsRunOf (xs ++ ys) r
made_joined xs ys s t r H k w same heads = made xs ys s.sequenced r H w same (heads ∙ ap (λ (hs : List DataHead). H ++ hs) k.heads)

-- ---- one batch more

pub begins_with : (xs : List Batch) (s : Run) (heads : List DataHead) → IsRunOf xs s → heads ≡ s.heads.list → BeginsWith xs s.sequenced s.producers heads s.fault
begins_with xs s heads h e = record { ds = data_in xs; heads_are = e ∙ h.heads; places = h.known.places; from = record { ends = h.known.ends; items = refl; fault = h.known.fault } }

pub no_data : (b : Batch) → is_control b.attributes ≡ true → [] ≡ heads_of (data_in (b ∷ []))
no_data b e = ap (λ (x : Bool). heads_of (cond (not x) (data_after b [] ∷ []) [] ++ [])) (sym e)
