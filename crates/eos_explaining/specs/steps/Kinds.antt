-- The line of how many faults there are, and of which kinds, by their counts.
use Rattle.std.specs.Prelude.{ℕ, List, [], ◌∷◌, ◌++◌, Option, Some, None, codes, flat_map}
use Rattle.std.specs.BTreeMap.{get}
use Rattle.std.specs.Fmt.{decimal}
use Rattle.std.specs.Ordering.{nat_cmp}
use Rattle.eos_explaining.specs.declared.kinds.KindCount.{KindCount}
use Rattle.eos_explaining.specs.declared.kinds.KindCounts.{KindCounts}

abbrev pub kind_line : ℕ → Option KindCount → List ℕ
kind_line n None = []
kind_line n (Some k) = (codes ", " ++ decimal k.count) ++ ((codes " of " ++ decimal k.phase) ++ ((codes "." ++ decimal n) ++ (codes " " ++ k.name.now)))

abbrev pub kind_at : KindCounts → ℕ → List ℕ
kind_at counts n = kind_line n (get nat_cmp counts.kinds n)

unfoldable pub counts_text : KindCounts → List ℕ
counts_text counts =
    (codes "Faults: " ++ decimal counts.all)
    ++ (codes " in all" ++ (flat_map (kind_at counts) (1 ∷ 2 ∷ 3 ∷ 4 ∷ 5 ∷ 6 ∷ 7 ∷ 8 ∷ 9 ∷ 10 ∷ 11 ∷ 12 ∷ []) ++ codes "\n"))
