-- What is found where a front ends, by the last touches and a list of producer ids; and the order of what was found.
use Rattle.std.specs.Prelude.{ℕ, ℤ, pos, unsigned_abs, Option, List, [], ◌∷◌, ◌++◌, if◌then◌else◌}
use Rattle.std.specs.List.{flat_map}
use Rattle.std.specs.Ordering.{int_eq, nat_cmp, int_cmp, then_cmp, on}
use Rattle.std.specs.Cmp.{IsTotalOrder}
use Rattle.std.specs.declared.cmp.Ordering.{Ordering}
use Rattle.std.proofs.lemmas.Cmp.{nat_cmp_total, int_cmp_total, on_total, then_total}
use Rattle.eos_touch.specs.declared.touch.Touch.{Touch}
use Rattle.eos_touch.specs.declared.fault.PartitionFaultKind.TheVariants.{BadBatch, Gap, End, OpenAtEnd}
use Rattle.eos_touch.specs.FaultNames.{number_of}
use Rattle.eos_fold.specs.declared.stop.Stop.{Stop}
use Rattle.eos_fold.specs.declared.stop.Stop.TheVariants.{AtEnd, NoBatch, Elsewhere}
use Rattle.eos_fold.specs.Standing.{producer_of}
use Rattle.eos_faults.specs.PartitionPlaces.{Placed, is_left_open}

abbrev pub placed_cmp : Placed → Placed → Ordering
placed_cmp = then_cmp (on (λ x. x.0) nat_cmp) (then_cmp (on (λ x. number_of x.1) nat_cmp) (on (λ x. producer_of x.1) int_cmp))

pub placed_total : IsTotalOrder placed_cmp
placed_total = then_total (on_total (λ (x : Placed). x.0) nat_cmp_total) (then_total (on_total (λ (x : Placed). number_of x.1) nat_cmp_total) (on_total (λ (x : Placed). producer_of x.1) int_cmp_total))

-- the declared end
abbrev pub end_at : ℤ → ℕ → List Placed
end_at end next = if int_eq (pos next) end then [] else (next, End (unsigned_abs end)) ∷ []

-- a producer id, by the last touches
abbrev pub open_of : (ℤ → Option Touch) → ℕ → ℤ → List Placed
open_of last next id = if is_left_open (last id) then (next, OpenAtEnd id) ∷ [] else []

abbrev pub found_at : (ℤ → Option Touch) → List ℤ → ℤ → ℕ → Stop → List Placed
found_at last ids end next (NoBatch segment byte fault) = (next, BadBatch segment byte fault) ∷ []
found_at last ids end next (Elsewhere found) = (next, Gap found) ∷ []
found_at last ids end next AtEnd = end_at end next ++ flat_map (open_of last next) ids
