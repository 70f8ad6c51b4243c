-- What is kept of faults after all were taken.
use Rattle.std.proofs.Common.{◌≡◌, true, false, Option, None, List, [], ◌∷◌, ◌++◌, fold, refl, sym, append_assoc, ◌∙◌}
use Rattle.std.specs.declared.cmp.Ordering.{Ordering}
use Rattle.std.proofs.lemmas.List.{append-nil}
use Rattle.eos_base.specs.Least.{lesser_of}
use Rattle.eos_table.specs.steps.KeptFaults.{Kept, none_kept, kept_with}

abbrev with_least : {F : Type 0} → Option F → Kept F
with_least best = record { keeps_all = false; least = best; all = [] }

abbrev with_all : {F : Type 0} → List F → Kept F
with_all fs = record { keeps_all = true; least = None; all = fs }

least_from : {F : Type 0} (cmp : F → F → Ordering) (fs : List F) (best : Option F) → (fold (kept_with cmp) (with_least best) fs).least ≡ fold (lesser_of cmp) best fs
least_from cmp [] best = refl
least_from cmp (f ∷ fs) best = least_from cmp fs (lesser_of cmp best f)

all_from : {F : Type 0} (cmp : F → F → Ordering) (fs before : List F) → (fold (kept_with cmp) (with_all before) fs).all ≡ before ++ fs
all_from cmp [] before = sym (append-nil before)
all_from cmp (f ∷ fs) before = all_from cmp fs (before ++ f ∷ []) ∙ append_assoc before (f ∷ []) fs

pub least_kept : {F : Type 0} (cmp : F → F → Ordering) (fs : List F) → (fold (kept_with cmp) (none_kept false) fs).least ≡ fold (lesser_of cmp) None fs
least_kept cmp fs = least_from cmp fs None

pub all_kept : {F : Type 0} (cmp : F → F → Ordering) (fs : List F) → (fold (kept_with cmp) (none_kept true) fs).all ≡ fs
all_kept cmp fs = all_from cmp fs []
