-- The order of names is total, and only equal names are tied in it.
use Rattle.std.proofs.lemmas.Cmp.{nat_list_cmp_total, int_cmp_total, then_total, on_total}
use Rattle.std.specs.Cmp.{IsTotalOrder}
use Rattle.std.specs.Cmp.Lexicographic.{slice_cmp}
use Rattle.std.specs.Ordering.{nat_cmp, int_cmp}
use Rattle.eos_base.specs.steps.Least.{IsExact}
use Rattle.eos_base.specs.PartitionNames.{name_cmp}
use Rattle.eos_base.proofs.Exact.{then_parts, bytes_exact, int_exact}

pub name_total : IsTotalOrder name_cmp
name_total = then_total (on_total (λ n. n.topic) nat_list_cmp_total) (on_total (λ n. n.partition) int_cmp_total)

pub name_exact : IsExact name_cmp
name_exact x y e =
    let r = then_parts (slice_cmp nat_cmp x.topic y.topic) (int_cmp x.partition y.partition) e in
    let p = bytes_exact x.topic y.topic r.0 in
    let q = int_exact x.partition y.partition r.1 in
    λ i. record { topic = p i; partition = q i }
