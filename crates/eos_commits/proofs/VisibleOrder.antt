-- The order of the faults of visible records is total, and only equal faults are tied in it.
use Rattle.std.proofs.Common.{refl, ap}
use Rattle.std.specs.Ordering.{nat_cmp}
use Rattle.std.specs.Cmp.{IsTotalOrder}
use Rattle.std.specs.declared.cmp.Ordering.{Ordering}
use Rattle.eos_base.specs.steps.Least.{IsExact}
use Rattle.eos_base.specs.PartitionNames.{name_cmp}
use Rattle.eos_base.proofs.RecordFaults.{record_exact}
use Rattle.eos_base.proofs.Exact.{then_parts, nat_exact}
use Rattle.eos_base.proofs.NamesInOrder.{name_exact}
use Rattle.eos_verdict.specs.declared.visible_fault.VisibleFaultKind.{VisibleFaultKind}
use Rattle.eos_verdict.specs.declared.visible_fault.VisibleFaultKind.TheVariants.{BadLineage, BadOffset, SplitGroup, OffsetDeleted}
use Rattle.eos_verdict.specs.contracts.visible_fault.VisibleFaultKindOrd.TheImpl.{ghosts as kind_ghosts}
use Rattle.eos_verdict.specs.contracts.visible_fault.VisibleFaultOrd.TheImpl.Laws.{total-law}
use Rattle.eos_commits.specs.Faults.{visible_cmp}

abbrev pub kind_cmp : VisibleFaultKind → VisibleFaultKind → Ordering
kind_cmp = kind_ghosts.cmp

kind_exact : IsExact kind_cmp
kind_exact BadLineage BadLineage e = refl
kind_exact (BadOffset f) (BadOffset g) e = ap BadOffset (record_exact f g e)
kind_exact SplitGroup SplitGroup e = refl
kind_exact OffsetDeleted OffsetDeleted e = refl
kind_exact k l e = absurd cc

pub visible_exact : IsExact visible_cmp
visible_exact f g e =
    let r = then_parts (name_cmp f.partition g.partition) _ e in
    let s = then_parts (nat_cmp f.offset g.offset) (kind_cmp f.kind g.kind) r.1 in
    let partition = name_exact f.partition g.partition r.0 in
    let offset = nat_exact f.offset g.offset s.0 in
    let kind = kind_exact f.kind g.kind s.1 in
    λ i. record { partition = partition i; offset = offset i; kind = kind i }

pub visible_total : IsTotalOrder visible_cmp
visible_total = total-law
