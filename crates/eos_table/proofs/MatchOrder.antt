-- The order of the faults is total, and only equal faults are tied in it.
use Rattle.std.proofs.Common.{refl, sym, subst}
use Rattle.std.specs.Option.{option_cmp}
use Rattle.std.specs.Ordering.{int_cmp}
use Rattle.std.specs.Cmp.{IsTotalOrder}
use Rattle.std.specs.declared.cmp.Ordering.{Ordering}
use Rattle.std.specs.declared.cmp.Ordering.TheVariants.{Less, Equal, Greater}
use Rattle.eos_base.specs.steps.Least.{IsExact}
use Rattle.eos_base.specs.PartitionNames.{name_cmp}
use Rattle.eos_base.proofs.Exact.{then_parts, int_exact, option_exact}
use Rattle.eos_base.proofs.NamesInOrder.{name_exact}
use Rattle.eos_verdict.specs.declared.match_fault.MatchFaultKind.{MatchFaultKind}
use Rattle.eos_verdict.specs.declared.match_fault.MatchFaultKind.TheVariants.{TwiceDecided, Undecided, WrongKind, NotListed, StrayMarker, AbsentPartition, MissingMarker}
use Rattle.eos_verdict.specs.contracts.match_fault.MatchFaultKindOrd.TheImpl.{ghosts as kind_ghosts}
use Rattle.eos_verdict.specs.contracts.match_fault.MatchFaultOrd.TheImpl.Laws.{total-law}
use Rattle.eos_table.specs.MatchFaults.{fault_cmp}

abbrev pub kind_cmp : MatchFaultKind → MatchFaultKind → Ordering
kind_cmp = kind_ghosts.cmp

abbrev IsTie : Ordering → Type 0
IsTie Less = ⊥
IsTie Equal = Unit {0}
IsTie Greater = ⊥

pub kind_exact : IsExact kind_cmp
kind_exact TwiceDecided TwiceDecided e = refl
kind_exact Undecided Undecided e = refl
kind_exact WrongKind WrongKind e = refl
kind_exact NotListed NotListed e = refl
kind_exact StrayMarker StrayMarker e = refl
kind_exact AbsentPartition AbsentPartition e = refl
kind_exact MissingMarker MissingMarker e = refl
kind_exact k l e = absurd (subst IsTie (sym e) tt)

pub fault_exact : IsExact fault_cmp
fault_exact f g e =
    let r = then_parts (int_cmp f.producer g.producer) _ e in
    let s = then_parts (int_cmp f.epoch g.epoch) _ r.1 in
    let t = then_parts (kind_cmp f.kind g.kind) (option_cmp name_cmp f.partition g.partition) s.1 in
    let producer = int_exact f.producer g.producer r.0 in
    let epoch = int_exact f.epoch g.epoch s.0 in
    let kind = kind_exact f.kind g.kind t.0 in
    let partition = option_exact name_cmp name_exact f.partition g.partition t.1 in
    λ i. record { producer = producer i; epoch = epoch i; kind = kind i; partition = partition i }

pub fault_total : IsTotalOrder fault_cmp
fault_total = total-law
