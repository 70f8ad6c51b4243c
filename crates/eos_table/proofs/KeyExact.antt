-- The orders of the keys are total, and only equal keys are tied in them; so a look-up finds exactly the members.
use Rattle.std.proofs.Common.{◌≡◌, ℤ, List, refl, ap, ◌∙◌, IsPermutation, arith}
use Rattle.std.specs.Ordering.{int_cmp, nat_cmp}
use Rattle.std.specs.Cmp.{IsTotalOrder}
use Rattle.std.proofs.lemmas.Cmp.{nat_cmp_total, int_cmp_total, on_total, then_total}
use Rattle.eos_base.specs.declared.partition_name.PartitionName.{PartitionName}
use Rattle.eos_base.specs.steps.Least.{IsExact}
use Rattle.eos_base.specs.PartitionNames.{name_cmp}
use Rattle.eos_base.proofs.Exact.{then_parts, int_exact, nat_exact}
use Rattle.eos_base.proofs.Membership.{Finds, finds}
use Rattle.eos_base.proofs.NamesInOrder.{name_exact, name_total}
use Rattle.eos_batch.specs.declared.marker.Kind.{Kind}
use Rattle.eos_batch.specs.declared.marker.Kind.TheVariants.{Commit, Abort}
use Rattle.eos_fold.specs.declared.close.Close.{Close}
use Rattle.eos_fold.specs.Closes.{rank_of, close_cmp}
use Rattle.eos_table.specs.steps.Keys.{pair_cmp, listed_cmp, ended_cmp}

kind_exact : (a b : Kind) → rank_of a ≡ rank_of b → a ≡ b
kind_exact Commit Commit e = refl
kind_exact Abort Abort e = refl
kind_exact Commit Abort e = absurd (omega (arith, e))
kind_exact Abort Commit e = absurd (omega (arith, e))

pub pair_total : IsTotalOrder pair_cmp
pair_total = then_total (on_total (λ x. x.0) int_cmp_total) (on_total (λ x. x.1) int_cmp_total)

pub pair_exact : IsExact pair_cmp
pair_exact x y e =
    let r = then_parts (int_cmp x.0 y.0) (int_cmp x.1 y.1) e in
    let p = int_exact x.0 y.0 r.0 in
    let q = int_exact x.1 y.1 r.1 in
    ap (λ (z : ℤ). joined z x.1) p ∙ ap (λ (z : ℤ). joined y.0 z) q
  where
    joined : ℤ → ℤ → ℤ × ℤ
    joined a b = (a, b)

pub close_total : IsTotalOrder close_cmp
close_total = then_total (on_total (λ c. c.producer) int_cmp_total) (then_total (on_total (λ c. c.epoch) int_cmp_total) (then_total (on_total (λ c. c.marker_epoch) int_cmp_total) (on_total (λ c. rank_of c.kind) nat_cmp_total)))

abbrev close_from : ℤ → ℤ → ℤ → Kind → Close
close_from p e m k = record { producer = p; epoch = e; marker_epoch = m; kind = k }

pub close_exact : IsExact close_cmp
close_exact x y e =
    let r = then_parts (int_cmp x.producer y.producer) _ e in
    let s = then_parts (int_cmp x.epoch y.epoch) _ r.1 in
    let t = then_parts (int_cmp x.marker_epoch y.marker_epoch) (nat_cmp (rank_of x.kind) (rank_of y.kind)) s.1 in
    ap (λ p. close_from p x.epoch x.marker_epoch x.kind) (int_exact x.producer y.producer r.0)
    ∙ (ap (λ z. close_from y.producer z x.marker_epoch x.kind) (int_exact x.epoch y.epoch s.0)
    ∙ (ap (λ z. close_from y.producer y.epoch z x.kind) (int_exact x.marker_epoch y.marker_epoch t.0)
    ∙ ap (λ z. close_from y.producer y.epoch y.marker_epoch z) (kind_exact x.kind y.kind (nat_exact (rank_of x.kind) (rank_of y.kind) t.1))))

listed_total : IsTotalOrder listed_cmp
listed_total = then_total (on_total (λ x. x.0) int_cmp_total) (then_total (on_total (λ x. x.1) int_cmp_total) (on_total (λ x. x.2) name_total))

abbrev listed_from : ℤ → ℤ → PartitionName → ℤ × ℤ × PartitionName
listed_from p e n = (p, e, n)

listed_exact : IsExact listed_cmp
listed_exact x y e =
    let r = then_parts (int_cmp x.0 y.0) _ e in
    let s = then_parts (int_cmp x.1 y.1) (name_cmp x.2 y.2) r.1 in
    ap (λ p. listed_from p x.1 x.2) (int_exact x.0 y.0 r.0) ∙ (ap (λ z. listed_from y.0 z x.2) (int_exact x.1 y.1 s.0) ∙ ap (λ z. listed_from y.0 y.1 z) (name_exact x.2 y.2 s.1))

ended_total : IsTotalOrder ended_cmp
ended_total = then_total (on_total (λ x. x.0) int_cmp_total) (then_total (on_total (λ x. x.1) int_cmp_total) (then_total (on_total (λ x. rank_of x.2) nat_cmp_total) (on_total (λ x. x.3) name_total)))

abbrev ended_from : ℤ → ℤ → Kind → PartitionName → ℤ × ℤ × Kind × PartitionName
ended_from p e k n = (p, e, k, n)

ended_exact : IsExact ended_cmp
ended_exact x y e =
    let r = then_parts (int_cmp x.0 y.0) _ e in
    let s = then_parts (int_cmp x.1 y.1) _ r.1 in
    let t = then_parts (nat_cmp (rank_of x.2) (rank_of y.2)) (name_cmp x.3 y.3) s.1 in
    ap (λ p. ended_from p x.1 x.2 x.3) (int_exact x.0 y.0 r.0)
    ∙ (ap (λ z. ended_from y.0 z x.2 x.3) (int_exact x.1 y.1 s.0)
    ∙ (ap (λ z. ended_from y.0 y.1 z x.3) (kind_exact x.2 y.2 (nat_exact (rank_of x.2) (rank_of y.2) t.0))
    ∙ ap (λ z. ended_from y.0 y.1 y.2 z) (name_exact x.3 y.3 t.1)))

pub finds_closes : (xs keys : List Close) → IsPermutation xs keys → Finds close_cmp keys xs
finds_closes = finds close_cmp close_total close_exact

pub finds_listed : (xs keys : List (ℤ × ℤ × PartitionName)) → IsPermutation xs keys → Finds listed_cmp keys xs
finds_listed = finds listed_cmp listed_total listed_exact

pub finds_ended : (xs keys : List (ℤ × ℤ × Kind × PartitionName)) → IsPermutation xs keys → Finds ended_cmp keys xs
finds_ended = finds ended_cmp ended_total ended_exact
