-- The names of parts that stand in order ascend.
use Rattle.std.proofs.Common.{◌≡◌, ◌<◌, ℕ, zero, suc, List, [], ◌∷◌, length, map, refl, sym, subst, arith}
use Rattle.std.specs.Prelude.{slice_index_or}
use Rattle.std.specs.declared.cmp.Ordering.TheVariants.{Less}
use Rattle.eos_base.specs.PartitionNames.{name_cmp}
use Rattle.eos_fold.specs.Parts.{part_name, PartLog}
use Rattle.eos_commits.specs.Faults.{AreInOrder}
use Rattle.eos_commits.specs.NameTables.{AreAscending}

get_mapped : {X Y : Type 0} (f : X → Y) (xs : List X) (k : ℕ) (d : Y) (e : X) → k < length (map f xs) → slice_index_or (map f xs) k d ≡ f (slice_index_or xs k e)
get_mapped f [] k d e lt = absurd (omega (arith, lt))
get_mapped f (x ∷ xs) zero d e lt = refl
get_mapped f (x ∷ xs) (suc k) d e lt = get_mapped f xs k d e (omega (arith, lt))

length_mapped : {X Y : Type 0} (f : X → Y) (xs : List X) → length (map f xs) ≡ length xs
length_mapped f [] = refl
length_mapped f (x ∷ xs) = let r = length_mapped f xs in omega (arith, r)

pub names_ascend : (ps : List PartLog) → AreInOrder ps → AreAscending (map part_name ps)
names_ascend [] are = λ i j d lt le. absurd (omega (arith, le))
names_ascend (p ∷ ps) are = λ i j d lt le.
    let n = length_mapped part_name (p ∷ ps) in
    let a = get_mapped part_name (p ∷ ps) i d p (omega (arith, lt, le)) in
    let b = get_mapped part_name (p ∷ ps) j d p le in
    let r = are.names i j p lt (omega (arith, le, n)) in
    subst (λ x. name_cmp x (slice_index_or (map part_name (p ∷ ps)) j d) ≡ Less) (sym a) (subst (λ y. name_cmp (part_name (slice_index_or (p ∷ ps) i p)) y ≡ Less) (sym b) r)
