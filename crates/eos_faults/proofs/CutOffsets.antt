-- The offsets of a partition that are in a range.
use Rattle.std.proofs.Common.{◌≡◌, ◌∙◌, ℕ, ℤ, Bool, true, false, not, ◌&&◌, List, [], ◌∷◌, ◌++◌, Some, None, refl, sym, ap, subst, filter, flat_map, arith}
use Rattle.std.specs.Prelude.{if◌then◌else◌, nat_le, nat_lt}
use Rattle.std.specs.Ordering.{int_eq, is_eq, is_lt, nat_cmp, ordering_then}
use Rattle.std.specs.declared.cmp.Ordering.{Ordering}
use Rattle.std.specs.declared.cmp.Ordering.TheVariants.{Less, Equal, Greater}
use Rattle.eos_base.specs.declared.partition_name.PartitionName.{PartitionName}
use Rattle.eos_base.specs.PartitionNames.{name_cmp}
use Rattle.eos_base.proofs.Exact.{is_tied}
use Rattle.eos_base.proofs.NamesInOrder.{name_exact}
use Rattle.eos_claims.specs.declared.place.Place.{Place}
use Rattle.eos_fold.specs.declared.item.Item.{Item}
use Rattle.eos_commits.specs.Visible.{is_visible}
use Rattle.eos_fold.specs.Parts.{part_name, PartLog}
use Rattle.eos_commits.specs.Applications.{Topic, is_part_of}
use Rattle.eos_lineage.specs.steps.Walks.{input_at, inputs_at}
use Rattle.eos_faults.specs.declared.cuts.Cut.{Cut}
use Rattle.eos_faults.specs.declared.lent.LentName.{LentName}
use Rattle.eos_faults.specs.declared.lent.LentPlace.{LentPlace}
use Rattle.eos_faults.specs.steps.Cuts.{IsSpanOf, IsCutOf, is_before, is_from, spot}
use Rattle.eos_faults.specs.steps.Plain.{name_at}
use Rattle.eos_faults.specs.steps.Ranges.{is_below}

-- ---- a range of one partition

below_is : (b : LentPlace) (n : PartitionName) (o : ℕ) (v : Ordering) → name_cmp n (name_at b.partition) ≡ v → is_below b (spot n o) ≡ is_lt (ordering_then v (nat_cmp o b.offset))
below_is b n o v e = ap (λ w. is_lt (ordering_then w (nat_cmp o b.offset))) e

at_least : (k o : ℕ) → not (is_lt (nat_cmp o k)) ≡ nat_le k o
at_least k o = grind (arith)

below_of : (k o : ℕ) → is_lt (nat_cmp o k) ≡ nat_lt o k
below_of k o = grind (arith)

itself : (z : ℤ) → int_eq z z ≡ true
itself z = grind (arith)

and_none : (b : Bool) → (b && false) ≡ false
and_none true = refl
and_none false = refl

and_all : (b : Bool) → (b && true) ≡ b
and_all true = refl
and_all false = refl

none_of_three : (a b c : Bool) → (a && (b && (c && false))) ≡ false
none_of_three true true c = and_none c
none_of_three true false c = refl
none_of_three false b c = refl

pub span_is : (from end : LentPlace) → is_eq (name_cmp (name_at from.partition) (name_at end.partition)) ≡ true
    → IsSpanOf (record { from = Some from; below = Some end }) (record { partition = from.partition; from = from.offset; below = end.offset })
span_is from end same p = go (name_cmp n f) refl
  where
    n : PartitionName
    n = p.partition

    f : PartitionName
    f = name_at from.partition

    o : ℕ
    o = p.offset

    one : f ≡ name_at end.partition
    one = name_exact f (name_at end.partition) (is_tied (name_cmp f (name_at end.partition)) same)

    number : Bool
    number = int_eq n.partition f.partition

    go : (v : Ordering) → name_cmp n f ≡ v → (not (is_below from (spot n o)) && is_below end (spot n o)) ≡ (number && (nat_le from.offset o && (nat_lt o end.offset && is_eq (name_cmp n f))))
    go Less e =
        let first = below_is from n o Less e in
        let none = none_of_three number (nat_le from.offset o) (nat_lt o end.offset) in
        ap (λ b. not b && is_below end (spot n o)) first ∙ sym (ap (λ v. number && (nat_le from.offset o && (nat_lt o end.offset && is_eq v))) e ∙ none)
    go Greater e =
        let last = below_is end n o Greater (ap (name_cmp n) (sym one) ∙ e) in
        let none = none_of_three number (nat_le from.offset o) (nat_lt o end.offset) in
        ap (λ b. not (is_below from (spot n o)) && b) last ∙ (and_none (not (is_below from (spot n o))) ∙ sym (ap (λ v. number && (nat_le from.offset o && (nat_lt o end.offset && is_eq v))) e ∙ none))
    go Equal e =
        let first = ap not (below_is from n o Equal e) ∙ at_least from.offset o in
        let last = below_is end n o Equal (ap (name_cmp n) (sym one) ∙ e) ∙ below_of end.offset o in
        let named : n ≡ f = name_exact n f e in
        let numbered : number ≡ true = ap (λ (m : PartitionName). int_eq m.partition f.partition) named ∙ itself f.partition in
        let whole : is_eq (name_cmp n f) ≡ true = ap is_eq e in
        (λ i. first i && last i) ∙ sym ((λ i. numbered i && (nat_le from.offset o && (nat_lt o end.offset && whole i))) ∙ ap (λ b. nat_le from.offset o && b) (and_all (nat_lt o end.offset)))

-- ---- another name

pub same_cut : (within : Place → Bool) (n m : LentName) (c : Cut) → is_eq (name_cmp (name_at m) (name_at n)) ≡ true → IsCutOf within (name_at n) c → IsCutOf within (name_at m) c
same_cut within n m c e are = subst (λ x. IsCutOf within x c) (sym (name_exact (name_at m) (name_at n) (is_tied (name_cmp (name_at m) (name_at n)) e))) are

-- ---- a partition of which a range has none

pub none_within : (within : Place → Bool) (n : PartitionName) (c : Cut) → IsCutOf within n c → c.from ≡ None → (items : List Item) → filter within (flat_map (input_at n) items) ≡ []
none_within within n c are none [] = refl
none_within within n c are none (x ∷ xs) = go (is_visible x.fate) (none_within within n c are none xs)
  where
    out : within (spot n x.offset) ≡ false
    out = are x.offset ∙ ap (λ f. is_from f x.offset && is_before c.below x.offset) none

    go : (b : Bool) → filter within (flat_map (input_at n) xs) ≡ [] → filter within ((if b then spot n x.offset ∷ [] else []) ++ flat_map (input_at n) xs) ≡ []
    go true rest = rw out rest
    go false rest = rest

pub no_inputs : (within : Place → Bool) (topics : List Topic) (p : PartLog) (c : Cut) → IsCutOf within (part_name p) c → c.from ≡ None → filter within (inputs_at topics p) ≡ []
no_inputs within topics p c are none = go (is_part_of topics p)
  where
    go : (b : Bool) → filter within (if b then flat_map (input_at (part_name p)) p.items else []) ≡ []
    go true = none_within within (part_name p) c are none p.items
    go false = refl
