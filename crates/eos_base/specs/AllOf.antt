-- All that stands, as a list in an order.
use Rattle.std.specs.Prelude.{◌↔◌, List}
use Rattle.std.specs.List.Sorted.{IsStrictlySortedBy}
use Rattle.std.specs.declared.cmp.Ordering.{Ordering}
use Rattle.eos_base.specs.Members.{Has}

-- the list rises strictly, each of it stands, and each that stands is in it
pub record IsAllOf {X : Type 0} (cmp : X → X → Ordering) (Stands : X → Type 0) (list : List X) : Type 0 where
  pub rises : IsStrictlySortedBy cmp list
  pub members : (x : X) → Has list x ↔ Stands x
