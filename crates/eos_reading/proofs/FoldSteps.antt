-- One batch more, one chunk more, and the end.
use Rattle.std.proofs.Common.{◌≡◌, ◌≢◌, ℕ, ◌+◌, ◌-◌, ◌^◌, ◌≤◌, min, List, [], ◌∷◌, ◌++◌, length, drop, Some, None, Err, refl, sym, ap, subst, ◌∙◌, append_assoc, arith}
use Rattle.std.proofs.lemmas.List.{append-nil, length-append, length-drop}
use Rattle.std.proofs.lemmas.Grind.{flat_map-append}
use Rattle.eos_wire.specs.Numbers.{IsBytes}
use Rattle.eos_batch.specs.declared.fault.BatchFault.{BatchFault}
use Rattle.eos_batch.specs.declared.fault.BatchFault.TheVariants as faults
use Rattle.eos_batch.specs.declared.record.Record.{Record}
use Rattle.eos_batch.specs.declared.batch.Batch.{Batch}
use Rattle.eos_batch.specs.declared.head.BatchHead.{BatchHead}
use Rattle.eos_batch.specs.Reading.{batch_at}
use Rattle.eos_batch.proofs.SegmentTexts.{step_at}
use Rattle.eos_fold.proofs.MoreBytes.{batch_more, batch_none}
use Rattle.eos_reading.specs.Heads.{HasHeads}
use Rattle.eos_reading.specs.Kept.{kept_in, kept_of}
use Rattle.eos_reading.specs.Runs.{IsRun}
use Rattle.eos_reading.specs.steps.Keeping.{IsKept}
use Rattle.eos_reading.specs.steps.Fed.{FedView, IsFed, WholeView, IsWhole}
use Rattle.eos_reading.proofs.HeadLists.{has_splits, heads_at, heads_more, heads_join}

-- ---- one batch more

pub record Walked {K : Type 0} (keep : ℕ → Record → K) (bytes : List ℕ) (heads heads' : List BatchHead) (kept kept' : List K) (at : ℕ) : Type 0 where
  pub batches : List Batch
  pub more : List BatchHead
  pub reads : HasHeads bytes batches more (drop at bytes)
  pub heads_are : heads' ≡ heads ++ more
  pub kept_is : kept' ≡ kept ++ kept_of keep batches
  pub within : at ≤ length bytes

pub walked_none : {K : Type 0} (keep : ℕ → Record → K) (bytes : List ℕ) (heads : List BatchHead) (kept : List K) → Walked keep bytes heads heads kept kept 0
walked_none keep bytes heads kept = record { batches = []; more = []; reads = refl; heads_are = sym (append-nil heads); kept_is = sym (append-nil kept); within = omega arith }

pub walked_on : {K : Type 0} (keep : ℕ → Record → K) (bytes : List ℕ) (heads heads' heads'' : List BatchHead) (kept kept' kept'' : List K) (at : ℕ) (head : BatchHead) → IsBytes bytes
    → Walked keep bytes heads heads' kept kept' at → IsKept keep bytes at kept' kept'' head → heads'' ≡ heads' ++ head ∷ []
    → Walked keep bytes heads heads'' kept kept'' (at + head.size) × (1 ≤ head.size)
walked_on {K} keep bytes heads heads' heads'' kept kept' kept'' at head fits w i pushed =
    let s = step_at bytes w.batches at i.batch head.size fits w.within (has_splits bytes w.batches w.more (drop at bytes) w.reads) i.reads in (
      record {
        batches = w.batches ++ i.batch ∷ [];
        more = w.more ++ head ∷ [];
        reads = heads_at bytes w.batches w.more at i.batch head fits w.reads i.reads i.head_is;
        heads_are = pushed ∙ (ap (λ (hs : List BatchHead). hs ++ head ∷ []) w.heads_are ∙ append_assoc heads w.more (head ∷ []));
        kept_is = i.kept ∙ (ap (λ (ks : List K). ks ++ kept_in keep i.batch) w.kept_is ∙ (append_assoc kept (kept_of keep w.batches) (kept_in keep i.batch)
            ∙ ap (λ (ks : List K). kept ++ ks) (ap (λ (ks : List K). kept_of keep w.batches ++ ks) (sym (append-nil (kept_in keep i.batch))) ∙ sym (flat_map-append (kept_in keep) w.batches (i.batch ∷ [])))));
        within = s.within;
      },
      omega (arith, s.some),
    )

pub run_ends : {K : Type 0} (keep : ℕ → Record → K) (bytes : List ℕ) (heads heads' : List BatchHead) (kept kept' : List K) (at : ℕ) (fault : BatchFault) → Walked keep bytes heads heads' kept kept' at
    → batch_at (drop at bytes) ≡ Err fault → fault ≢ faults.OutOfMemory → IsRun keep bytes heads heads' kept kept' at fault
run_ends keep bytes heads heads' kept kept' at fault w e real =
    record { batches = w.batches; more = w.more; reads = w.reads; within = w.within; heads_are = w.heads_are; kept_is = w.kept_is; ends = e; real = real }

-- ---- one chunk more

pub fold_none : {K : Type 0} (keep : ℕ → Record → K) (v : FedView K) → v.heads ≡ [] → v.kept ≡ [] → v.place ≡ 0 → v.fault ≡ faults.Truncated → v.taken ≡ 0 → IsFed keep [] [] v
fold_none keep v hs ks p f t =
    record {
      batches = [];
      rest = [];
      heads_are = rw hs refl;
      place_is = omega (arith, p);
      kept_is = ks;
      ends = batch_none ∙ ap (λ (e : BatchFault). Err e) (sym f);
      real = λ m. let q : faults.Truncated ≡ faults.OutOfMemory = sym f ∙ m in cc;
      waits = λ _. refl;
      taken_is = omega (arith, t);
    }

pub fold_on : {K : Type 0} (keep : ℕ → Record → K) (fed waiting more : List ℕ) (v w : FedView K) (at : ℕ) → IsFed keep fed waiting v → v.fault ≡ faults.Truncated
    → IsRun keep (waiting ++ more) v.heads w.heads v.kept w.kept at w.fault → w.place ≡ v.place + at → w.taken ≡ w.place → IsFed keep (fed ++ more) (drop at (waiting ++ more)) w
fold_on {K} keep fed waiting more v w at f waits run place took =
    let same = f.waits waits in
    let heads : HasHeads (fed ++ more) f.batches v.heads (waiting ++ more) = rw same (heads_more fed f.batches v.heads f.rest more f.heads_are) in
    record {
      batches = f.batches ++ run.batches;
      rest = drop at (waiting ++ more);
      heads_are = rw run.heads_are (heads_join (fed ++ more) f.batches run.batches v.heads run.more (waiting ++ more) (drop at (waiting ++ more)) heads run.reads);
      place_is = omega (arith, place, run.within, length-drop at (waiting ++ more), length-append waiting more, length-append fed more, ap length same, f.place_is);
      kept_is = run.kept_is ∙ (ap (λ (ks : List K). ks ++ kept_of keep run.batches) f.kept_is ∙ sym (flat_map-append (kept_in keep) f.batches run.batches));
      ends = run.ends;
      real = run.real;
      waits = λ _. refl;
      taken_is = omega (arith, took, place, run.within, length-drop at (waiting ++ more), length-append waiting more, length-append fed more, ap length same, f.place_is);
    }

-- in a buffer
pub fold_taken : {K : Type 0} (keep : ℕ → Record → K) (fed waiting more buffer : List ℕ) (v w : FedView K) (at : ℕ) → buffer ≡ waiting ++ more → IsFed keep fed waiting v → v.fault ≡ faults.Truncated
    → IsRun keep buffer v.heads w.heads v.kept w.kept at w.fault → w.place ≡ v.place + at → w.taken ≡ w.place → IsFed keep (fed ++ more) (drop at buffer) w
fold_taken keep fed waiting more buffer v w at e f waits run place took =
    subst (λ (xs : List ℕ). IsFed keep (fed ++ more) (drop at xs) w) (sym e)
    (fold_on keep fed waiting more v w at f waits (subst (λ (xs : List ℕ). IsRun keep xs v.heads w.heads v.kept w.kept at w.fault) e run) place took)

pub fold_stopped : {K : Type 0} (keep : ℕ → Record → K) (fed waiting more buffer : List ℕ) (v w : FedView K) (taken : ℕ) → buffer ≡ waiting ++ more → taken ≡ length buffer → IsFed keep fed waiting v → v.fault ≢ faults.Truncated
    → w.heads ≡ v.heads → w.kept ≡ v.kept → w.place ≡ v.place → w.fault ≡ v.fault → w.taken ≡ v.taken + taken → IsFed keep (fed ++ more) (drop taken buffer) w
fold_stopped {K} keep fed waiting more buffer v w taken is all f stopped heads kept place fault took = subst (λ (x : FedView K). IsFed keep (fed ++ more) (drop taken buffer) x) so (
    let still : batch_at f.rest ≢ Err faults.Truncated = λ q. stopped (let both : Err v.fault ≡ Err faults.Truncated = sym f.ends ∙ q in cc) in
    record {
      batches = f.batches;
      rest = f.rest ++ more;
      heads_are = heads_more fed f.batches v.heads f.rest more f.heads_are;
      place_is = omega (arith, f.place_is, length-append f.rest more, length-append fed more);
      kept_is = f.kept_is;
      ends = batch_more f.rest more still ∙ f.ends;
      real = f.real;
      waits = λ q. absurd (stopped q);
      taken_is = omega (arith, all, f.taken_is, length-drop taken buffer, ap length is, length-append waiting more, length-append fed more);
    })
  where
    so : ◌≡◌ {A = FedView K} (record { heads = v.heads; kept = v.kept; place = v.place; fault = v.fault; taken = v.taken + taken }) (record { heads = w.heads; kept = w.kept; place = w.place; fault = w.fault; taken = w.taken })
    so = cc (heads, kept, place, fault, took)

-- ---- the end

not_none : (rest : List ℕ) (fault : BatchFault) → batch_at rest ≡ Err fault → fault ≢ faults.Truncated → rest ≢ []
not_none rest fault e ne none = ne (let both : Err fault ≡ Err faults.Truncated = sym e ∙ (ap batch_at none ∙ batch_none) in cc)

-- a batch never stands there
pub folded_stop : {K : Type 0} (keep : ℕ → Record → K) (bytes waiting : List ℕ) (v : FedView K) (w : WholeView K) → IsFed keep bytes waiting v → v.fault ≢ faults.Truncated
    → w.heads ≡ v.heads → w.kept ≡ v.kept → w.stop ≡ Some (v.place, v.fault) → (count : ℕ) → length waiting ≡ count → w.bytes ≡ min (v.taken + count) (2 ^ 64 - 1) → IsWhole keep bytes w
folded_stop keep bytes waiting v w f stopped heads kept stop count len size =
    record {
      batches = f.batches;
      rest = f.rest;
      heads_are = rw heads f.heads_are;
      stops = rw stop (not_none f.rest v.fault f.ends stopped, f.place_is, f.ends, f.real);
      kept_is = kept ∙ f.kept_is;
      sized = λ few. omega (arith, size, few, len, f.taken_is);
    }

-- the bytes end in a batch
pub folded_cut : {K : Type 0} (keep : ℕ → Record → K) (bytes waiting : List ℕ) (v : FedView K) (w : WholeView K) → IsFed keep bytes waiting v → v.fault ≡ faults.Truncated → waiting ≢ []
    → w.heads ≡ v.heads → w.kept ≡ v.kept → w.stop ≡ Some (v.place, v.fault) → (count : ℕ) → length waiting ≡ count → w.bytes ≡ min (v.taken + count) (2 ^ 64 - 1) → IsWhole keep bytes w
folded_cut keep bytes waiting v w f waits some heads kept stop count len size =
    record {
      batches = f.batches;
      rest = f.rest;
      heads_are = rw heads f.heads_are;
      stops = rw stop (λ none. some (f.waits waits ∙ none), f.place_is, f.ends, f.real);
      kept_is = kept ∙ f.kept_is;
      sized = λ few. omega (arith, size, few, len, f.taken_is);
    }

-- nothing is left
pub folded_all : {K : Type 0} (keep : ℕ → Record → K) (bytes waiting : List ℕ) (v : FedView K) (w : WholeView K) → IsFed keep bytes waiting v → v.fault ≡ faults.Truncated → waiting ≡ []
    → w.heads ≡ v.heads → w.kept ≡ v.kept → w.stop ≡ None → (count : ℕ) → length waiting ≡ count → w.bytes ≡ min (v.taken + count) (2 ^ 64 - 1) → IsWhole keep bytes w
folded_all keep bytes waiting v w f waits none heads kept stop count len size =
    record {
      batches = f.batches;
      rest = f.rest;
      heads_are = rw heads f.heads_are;
      stops = rw stop (sym (f.waits waits) ∙ none);
      kept_is = kept ∙ f.kept_is;
      sized = λ few. omega (arith, size, few, len, f.taken_is);
    }
