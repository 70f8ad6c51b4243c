-- Sets of names that grow, and their names in a row.
use Rattle.std.proofs.Common.{◌≡◌, ◌||◌, ◌++◌, ◌∷◌, [], List, Bool, true, false, cond, IsPermutation, refl, sym, ap, ◌∙◌}
use Rattle.std.proofs.Math.Bool.{or_assoc}
use Rattle.std.proofs.lemmas.List.Folds.{list_any-append}
use Rattle.std.proofs.lemmas.List.Sorted.{list_any-IsPermutation}
use Rattle.std.specs.List.{list_any}
use Rattle.std.specs.BTreeMap.{is_at}
use Rattle.std.specs.BTreeSet.{BTreeSet, contains, Updates, IsEmpty}
use Rattle.std.specs.Ordering.{is_eq, ordering_reverse}
use Rattle.std.specs.declared.cmp.Ordering.{Ordering}
use Rattle.std.specs.declared.cmp.Ordering.TheVariants.{Less, Equal, Greater}
use Rattle.eos_base.specs.Members.{is_found}
use Rattle.eos_base.specs.PartitionNames.{name_cmp}
use Rattle.eos_base.specs.declared.partition_name.PartitionName.{PartitionName}
use Rattle.eos_base.proofs.NamesInOrder.{name_total}
use Rattle.eos_commands.specs.steps.Names.{Gains}

or_false : (b : Bool) → (b || false) ≡ b
or_false true = refl
or_false false = refl

pub gains_nothing : (old : BTreeSet PartitionName) → Gains old [] old
gains_nothing old name = sym (or_false (contains name_cmp old name))

one_or : (found had : Bool) → cond found true had ≡ (had || (found || false))
one_or true true = refl
one_or true false = refl
one_or false true = refl
one_or false false = refl

pub gains_one : (old new : BTreeSet PartitionName) (key : PartitionName) → Updates name_cmp old new key true → Gains old (key ∷ []) new
gains_one old new key updates name = updates.0 name ∙ one_or (is_at (name_cmp key) name) (contains name_cmp old name)

pub gains_more : (a b c : BTreeSet PartitionName) (xs ys : List PartitionName) → Gains a xs b → Gains b ys c → Gains a (xs ++ ys) c
gains_more a b c xs ys p q name =
    q name ∙ (ap (λ had. had || is_found name_cmp ys name) (p name)
    ∙ (or_assoc (contains name_cmp a name) (is_found name_cmp xs name) (is_found name_cmp ys name)
    ∙ ap (λ found. contains name_cmp a name || found) (sym (list_any-append (λ y. is_eq (name_cmp y name)) xs ys))))

-- ---- in a row

reversed : (o : Ordering) → is_eq (ordering_reverse o) ≡ is_eq o
reversed Less = refl
reversed Equal = refl
reversed Greater = refl

pub tied_back : (x y : PartitionName) → is_eq (name_cmp x y) ≡ is_eq (name_cmp y x)
tied_back x y = ap is_eq (name_total.antisymm x y) ∙ reversed (name_cmp y x)

found_in_row : (keys : List PartitionName) (name : PartitionName) → list_any (λ y. is_eq (name_cmp y name)) keys ≡ list_any (is_at (name_cmp name)) keys
found_in_row [] name = refl
found_in_row (key ∷ keys) name = ap (λ b. b || list_any (λ y. is_eq (name_cmp y name)) keys) (tied_back key name)
    ∙ ap (λ b. is_at (name_cmp name) key || b) (found_in_row keys name)

pub row_found : (set : BTreeSet PartitionName) (row sorted : List PartitionName) (name : PartitionName) → row ≡ set.keys → IsPermutation row sorted
    → is_found name_cmp sorted name ≡ contains name_cmp set name
row_found set row sorted name is same =
    sym (list_any-IsPermutation (λ y. is_eq (name_cmp y name)) row sorted same)
    ∙ (ap (λ xs. list_any (λ y. is_eq (name_cmp y name)) xs) is ∙ found_in_row set.keys name)

pub empty_lacks : (set : BTreeSet PartitionName) (name : PartitionName) → IsEmpty set → contains name_cmp set name ≡ false
empty_lacks set name none = ap (λ keys. list_any (is_at (name_cmp name)) keys) none
