-- The seals of batches: one chunk more; and their checksums.
use Rattle.std.proofs.Common.{◌≡◌, ℕ, List, [], ◌∷◌, ◌++◌, length, map, take, drop, flat_map, Some, refl, sym, ap, subst, ◌∙◌}
use Rattle.std.proofs.lemmas.List.{drop_at}
use Rattle.eos_batch.specs.declared.batch.Batch.{Batch}
use Rattle.eos_batch.specs.declared.fault.BatchFault.{BatchFault}
use Rattle.eos_batch.specs.declared.fault.BatchFault.TheVariants as faults
use Rattle.eos_batch.specs.declared.head.BatchHead.{BatchHead}
use Rattle.eos_batch.specs.declared.record.Record.{Record}
use Rattle.eos_reading.specs.Heads.{HasHeads}
use Rattle.eos_reading.specs.Runs.{IsRun}
use Rattle.eos_reading.specs.declared.seals.Seal.{Seal}
use Rattle.eos_reading.specs.Seals.{seal_from, AreSeals, AreSealed}
use Rattle.eos_reading.proofs.HeadLists.{heads_more}
use Rattle.eos_reading.proofs.SealTexts.{seal_of, seal_there, checksum_bytes}
use Rattle.eos_reading.proofs.SealSteps.{first, seals_more, seals_join}
use Rattle.eos_fold_file.specs.Folds.{checksums_in}
use Rattle.eos_fold_file.specs.Heads.{fold_head}
use Rattle.eos_fold_file.specs.steps.Seals.{checksum_text}
use Rattle.eos_fold_file.specs.steps.Sealing.{SealingView, IsSealing}

-- the heads that a run put at the end
pub run_heads : {K : Type 0} (keep : ℕ → Record → K) (bytes : List ℕ) (heads heads' : List BatchHead) (kept kept' : List K) (at n : ℕ) (fault : BatchFault) (behind : List BatchHead) → IsRun keep bytes heads heads' kept kept' at fault → n ≡ length heads
    → behind ≡ drop n heads' → (batches : List Batch) × (rest : List ℕ) × HasHeads bytes batches behind rest
run_heads keep bytes heads heads' kept kept' at n fault behind run is these =
    let new : behind ≡ run.more = these ∙ (ap (drop n) run.heads_are ∙ drop_at heads run.more n (sym is)) in
    (run.batches, drop at bytes, subst (λ (hs : List BatchHead). HasHeads bytes run.batches hs (drop at bytes)) (sym new) run.reads)

pub sealed_on : {K : Type 0} (keep : ℕ → Record → K) (fed waiting more buffer : List ℕ) (v : SealingView K) (heads' : List BatchHead) (kept' : List K) (seals' : List Seal) (at n : ℕ) (fault : BatchFault) (behind : List BatchHead)
    → buffer ≡ waiting ++ more → IsSealing keep fed waiting v → v.fold.fault ≡ faults.Truncated → IsRun keep buffer v.fold.heads heads' v.fold.kept kept' at fault → n ≡ length v.fold.heads
    → behind ≡ drop n heads' → AreSealed buffer behind v.seals seals' → AreSeals (fed ++ more) heads' seals'
sealed_on {K} keep fed waiting more buffer v heads' kept' seals' at n fault behind e s waits run is these sealed =
    let f = s.folds in
    let same : waiting ≡ f.rest = f.waits waits in
    let new : behind ≡ run.more = these ∙ (ap (drop n) run.heads_are ∙ drop_at v.fold.heads run.more n (sym is)) in
    let first : AreSeals (fed ++ more) v.fold.heads v.seals = seals_more fed f.batches v.fold.heads f.rest more v.seals f.heads_are s.sealed in
    let buffer_is : buffer ≡ f.rest ++ more = e ∙ ap (λ (xs : List ℕ). xs ++ more) same in
    let heads : HasHeads (fed ++ more) f.batches v.fold.heads buffer = subst (λ (xs : List ℕ). HasHeads (fed ++ more) f.batches v.fold.heads xs) (sym buffer_is) (heads_more fed f.batches v.fold.heads f.rest more f.heads_are) in
    let others : AreSeals buffer run.more sealed.0 = subst (λ (hs : List BatchHead). AreSeals buffer hs sealed.0) new sealed.2 in
    let both = seals_join (fed ++ more) f.batches v.fold.heads run.more buffer v.seals sealed.0 heads first others in
    rw (run.heads_are, sealed.1) both

-- no batch follows
pub sealed_stopped : {K : Type 0} (keep : ℕ → Record → K) (fed waiting more : List ℕ) (v : SealingView K) → IsSealing keep fed waiting v → AreSeals (fed ++ more) v.fold.heads v.seals
sealed_stopped keep fed waiting more v s = seals_more fed s.folds.batches v.fold.heads s.folds.rest more v.seals s.folds.heads_are s.sealed

-- ---- the checksums

pub checksums_are : (bytes : List ℕ) (bs : List Batch) (hs : List BatchHead) (rest : List ℕ) (ss : List Seal) → HasHeads bytes bs hs rest → AreSeals bytes hs ss → flat_map checksum_text ss ≡ checksums_in bytes (map fold_head hs)
checksums_are bytes [] [] rest [] s a = refl
checksums_are bytes [] [] rest (x ∷ ss) s a = absurd a
checksums_are bytes [] (h ∷ hs) rest ss s a = absurd s
checksums_are bytes (b ∷ bs) [] rest ss s a = absurd s
checksums_are bytes (b ∷ bs) (h ∷ hs) rest [] s a = absurd a
checksums_are bytes (b ∷ bs) (h ∷ hs) rest (x ∷ ss) s a =
    let f = first bytes h b s.0 s.1 s.3 s.4 in
    let made = seal_of h.offset b s.2.covered in
    let found : Some made ≡ Some x = sym (seal_there h.offset s.0 b s.2 s.1) ∙ (ap (seal_from h.offset) (sym s.3) ∙ a.0) in
    let same : made ≡ x = cc in
    let field : checksum_text x ≡ take 4 (drop 17 bytes) =
    ap checksum_text (sym same) ∙ (sym (checksum_bytes s.0 b s.2 s.1) ∙ ap (λ (xs : List ℕ). take 4 (drop 17 xs)) (sym s.3)) in
    let others : AreSeals s.1 hs ss = subst (λ (xs : List ℕ). AreSeals xs hs ss) f.left a.1 in
    let more : flat_map checksum_text ss ≡ checksums_in s.1 (map fold_head hs) = checksums_are s.1 bs hs rest ss s.5 others in
    rw (field, f.left, more) refl
