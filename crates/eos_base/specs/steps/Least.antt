-- The least of what stands, in an order.
use Rattle.std.specs.Prelude.{◌≡◌}
use Rattle.std.specs.declared.cmp.Ordering.{Ordering}
use Rattle.std.specs.declared.cmp.Ordering.TheVariants.{Equal}

-- values that are tied are equal
abbrev pub IsExact : {X : Type 0} → (X → X → Ordering) → Type 0
IsExact {X} cmp = (x y : X) → cmp x y ≡ Equal → x ≡ y
