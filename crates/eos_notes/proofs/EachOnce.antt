-- Names in order, each once, and what is among them.
use Rattle.std.proofs.Common.{◌≡◌, List, [], ◌∷◌, map, refl, sym, ap, subst, ◌∙◌, true, false, Bool, not, IsPermutation}
use Rattle.std.specs.List.{AllByRecursion, filter}
use Rattle.std.specs.List.Sorted.{IsStrictlySortedBy}
use Rattle.std.specs.Ordering.{is_eq}
use Rattle.std.specs.declared.cmp.Ordering.TheVariants.{Less}
use Rattle.eos_base.specs.declared.partition_name.PartitionName.{PartitionName}
use Rattle.eos_base.specs.Members.{Has, is_found}
use Rattle.eos_base.specs.PartitionNames.{name_cmp}
use Rattle.eos_base.proofs.Exact.{is_tied}
use Rattle.eos_base.proofs.Membership.{map_has, has_map, filter_has, has_filter}
use Rattle.eos_base.proofs.NamesInOrder.{name_exact}
use Rattle.eos_claims.specs.Outputs.{Commit}
use Rattle.eos_commits.proofs.RoleSearch.{found_in_order}
use Rattle.eos_evidence.specs.declared.ends.End.{End}
use Rattle.eos_notes.specs.declared.unlisted.NameRef.{NameRef}
use Rattle.eos_notes.specs.CommitNotes.{end_name, is_listed, AreUnlisted}
use Rattle.eos_notes.specs.steps.Unlisted.{plain_name, by_name, commit_name, is_unlisted, AreEachOnce}

-- ---- in order

all_plain : (x : NameRef) (ys : List NameRef) → AllByRecursion (λ y. by_name x y ≡ Less) ys → AllByRecursion (λ m. name_cmp (plain_name x) m ≡ Less) (map plain_name ys)
all_plain x [] h = h
all_plain x (y ∷ ys) h = (h.0, all_plain x ys h.1)

plain_ascend : (xs : List NameRef) → IsStrictlySortedBy by_name xs → IsStrictlySortedBy name_cmp (map plain_name xs)
unfolding IsStrictlySortedBy
plain_ascend [] h = h
plain_ascend (x ∷ xs) h = (all_plain x xs h.0, plain_ascend xs h.1)

pub each_once : (all kept : List NameRef) → IsStrictlySortedBy by_name kept → ((x : NameRef) → Has kept x → Has all x)
    → ((x : NameRef) → Has all x → (y : NameRef) × Has kept y × (is_eq (by_name x y) ≡ true)) → AreEachOnce (map plain_name all) (map plain_name kept)
each_once all kept up sound whole = record { ascend = plain_ascend kept up; members = λ n. (there n, back n) }
  where
    there : (n : PartitionName) → Has (map plain_name kept) n → Has (map plain_name all) n
    there n h =
        let r = map_has plain_name kept n h in
        subst (Has (map plain_name all)) r.2 (has_map plain_name all r.0 (sound r.0 r.1))

    back : (n : PartitionName) → Has (map plain_name all) n → Has (map plain_name kept) n
    back n h =
        let r = map_has plain_name all n h in
        let w = whole r.0 r.1 in
        let y = w.0 in
        let same : plain_name y ≡ n = sym (name_exact (plain_name r.0) (plain_name y) (is_tied (by_name r.0 y) w.2)) ∙ r.2 in
        subst (Has (map plain_name kept)) same (has_map plain_name kept y w.1)

-- ---- those that aren't listed

not_true : (b : Bool) → not b ≡ true → b ≡ false
not_true false e = refl
not_true true e = absurd cc

pub are_unlisted : (ends : List End) (listed : List PartitionName) (commits : List Commit) (names : List PartitionName) → IsPermutation (map end_name ends) listed
    → AreEachOnce (filter (is_unlisted listed) (map commit_name commits)) names → AreUnlisted ends commits names
are_unlisted ends listed commits names perm once = record { ascend = once.ascend; members = λ n. (there n, back n) }
  where
    same : (n : PartitionName) → is_found name_cmp listed n ≡ is_listed ends n
    same n = found_in_order name_cmp (map end_name ends) listed n perm

    there : (n : PartitionName) → Has names n → Has (map commit_name commits) n × (is_listed ends n ≡ false)
    there n h =
        let f = filter_has (is_unlisted listed) (map commit_name commits) n ((once.members n).0 h) in
        (f.0, sym (same n) ∙ not_true (is_found name_cmp listed n) f.1)

    back : (n : PartitionName) → Has (map commit_name commits) n × (is_listed ends n ≡ false) → Has names n
    back n h = (once.members n).1 (has_filter (is_unlisted listed) (map commit_name commits) n h.0 (ap not (same n ∙ h.1)))
