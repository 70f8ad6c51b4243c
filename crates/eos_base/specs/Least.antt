-- The least of what stands, in an order.
use Rattle.std.specs.Prelude.{◌≡◌, Option, Some, None, MatchOption, false, if◌then◌else◌}
use Rattle.std.specs.Ordering.{is_gt}
use Rattle.std.specs.declared.cmp.Ordering.{Ordering}

-- the first is not greater
abbrev pub UpTo : {X : Type 0} → (X → X → Ordering) → X → X → Type 0
UpTo cmp x y = is_gt (cmp x y) ≡ false

abbrev pub NoneStands : {X : Type 0} → (X → Type 0) → Type 0
NoneStands {X} Stands = (x : X) → Stands x → ⊥

pub record IsLeast {X : Type 0} (cmp : X → X → Ordering) (Stands : X → Type 0) (x : X) : Type 0 where
  pub stands : Stands x
  pub least : (y : X) → Stands y → UpTo cmp x y

-- nothing stands, or this is the least that does
abbrev pub IsLeastOrNone : {X : Type 0} → (X → X → Ordering) → (X → Type 0) → Option X → Type 0
IsLeastOrNone cmp Stands o = MatchOption o (NoneStands Stands) (IsLeast cmp Stands)

-- the lesser of the least so far and another one
abbrev pub lesser_of : {X : Type 0} → (X → X → Ordering) → Option X → X → Option X
lesser_of cmp None y = Some y
lesser_of cmp (Some x) y = if is_gt (cmp x y) then Some y else Some x
