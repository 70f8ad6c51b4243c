-- The order of the faults of the log is total, and only equal faults are tied in it.
use Rattle.std.proofs.Common.{◌≡◌, refl, ap}
use Rattle.std.specs.declared.cmp.Ordering.TheVariants.{Less, Equal, Greater}
use Rattle.std.specs.Ordering.{nat_cmp, int_cmp}
use Rattle.std.specs.Cmp.{IsTotalOrder}
use Rattle.std.specs.Cmp.Lexicographic.{slice_cmp}
use Rattle.eos_base.specs.steps.Least.{IsExact}
use Rattle.eos_base.proofs.RecordFaults.{record_exact}
use Rattle.eos_base.proofs.Exact.{then_parts, nat_exact, int_exact, bytes_exact}
use Rattle.eos_txnlog.specs.declared.step.TxnFault.TheVariants as steps
use Rattle.eos_txnlog.specs.contracts.step.TxnFaultOrd.TheImpl.{ghosts as why_ghosts}
use Rattle.eos_verdict.specs.declared.log_fault.LogFaultKind.TheVariants.{BadRecord, Step, SplitId, SharedProducer, Unfinished}
use Rattle.eos_verdict.specs.contracts.log_fault.LogFaultKindOrd.TheImpl.{ghosts as kind_ghosts}
use Rattle.eos_verdict.specs.contracts.log_fault.LogFaultOrd.TheImpl.Laws.{total-law}
use Rattle.eos_table.specs.LogFaults.{log_cmp}

less_apart : {X : Type 0} → Less ≡ Equal → X
less_apart e = absurd cc

greater_apart : {X : Type 0} → Greater ≡ Equal → X
greater_apart e = absurd cc

why_exact : IsExact why_ghosts.cmp
why_exact steps.Order steps.Order e = refl
why_exact steps.Producer steps.Producer e = refl
why_exact steps.Epoch steps.Epoch e = refl
why_exact x y e = absurd cc

kind_exact : IsExact kind_ghosts.cmp
kind_exact (BadRecord f) (BadRecord g) e = ap BadRecord (record_exact f g e)
kind_exact (Step a v) (Step b w) e =
    let r = then_parts (slice_cmp nat_cmp a b) (why_ghosts.cmp v w) e in
    let id = bytes_exact a b r.0 in
    let why = why_exact v w r.1 in
    λ i. Step (id i) (why i)
kind_exact (SplitId a) (SplitId b) e = ap SplitId (bytes_exact a b e)
kind_exact (SharedProducer a) (SharedProducer b) e = ap SharedProducer (bytes_exact a b e)
kind_exact (Unfinished a) (Unfinished b) e = ap Unfinished (bytes_exact a b e)
kind_exact (BadRecord a) (Step b bw) e = less_apart e
kind_exact (BadRecord a) (SplitId b) e = less_apart e
kind_exact (BadRecord a) (SharedProducer b) e = less_apart e
kind_exact (BadRecord a) (Unfinished b) e = less_apart e
kind_exact (Step a aw) (BadRecord b) e = greater_apart e
kind_exact (Step a aw) (SplitId b) e = less_apart e
kind_exact (Step a aw) (SharedProducer b) e = less_apart e
kind_exact (Step a aw) (Unfinished b) e = less_apart e
kind_exact (SplitId a) (BadRecord b) e = greater_apart e
kind_exact (SplitId a) (Step b bw) e = greater_apart e
kind_exact (SplitId a) (SharedProducer b) e = less_apart e
kind_exact (SplitId a) (Unfinished b) e = less_apart e
kind_exact (SharedProducer a) (BadRecord b) e = greater_apart e
kind_exact (SharedProducer a) (Step b bw) e = greater_apart e
kind_exact (SharedProducer a) (SplitId b) e = greater_apart e
kind_exact (SharedProducer a) (Unfinished b) e = less_apart e
kind_exact (Unfinished a) (BadRecord b) e = greater_apart e
kind_exact (Unfinished a) (Step b bw) e = greater_apart e
kind_exact (Unfinished a) (SplitId b) e = greater_apart e
kind_exact (Unfinished a) (SharedProducer b) e = greater_apart e

pub log_exact : IsExact log_cmp
log_exact f g e =
    let r = then_parts (int_cmp f.partition g.partition) _ e in
    let s = then_parts (nat_cmp f.offset g.offset) (kind_ghosts.cmp f.kind g.kind) r.1 in
    let partition = int_exact f.partition g.partition r.0 in
    let offset = nat_exact f.offset g.offset s.0 in
    let kind = kind_exact f.kind g.kind s.1 in
    λ i. record { partition = partition i; offset = offset i; kind = kind i }

pub log_total : IsTotalOrder log_cmp
log_total = total-law
