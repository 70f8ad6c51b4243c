-- What is kept of faults as they are found: all of them, or the least.
use Rattle.std.specs.Prelude.{Bool, Option, None, List, [], ◌∷◌, ◌++◌, if◌then◌else◌}
use Rattle.std.specs.declared.cmp.Ordering.{Ordering}
use Rattle.eos_base.specs.Least.{lesser_of}

pub record Kept (F : Type 0) : Type 0 where
  pub keeps_all : Bool
  pub least : Option F
  pub all : List F

abbrev pub none_kept : {F : Type 0} → Bool → Kept F
none_kept keeps_all = record { keeps_all = keeps_all; least = None; all = [] }

-- with one more, in this order
abbrev pub kept_with : {F : Type 0} → (F → F → Ordering) → Kept F → F → Kept F
kept_with cmp kept f =
    if kept.keeps_all then record { keeps_all = kept.keeps_all; least = kept.least; all = kept.all ++ f ∷ [] }
    else record { keeps_all = kept.keeps_all; least = lesser_of cmp kept.least f; all = kept.all }
