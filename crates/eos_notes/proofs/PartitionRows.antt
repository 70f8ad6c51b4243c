-- The rows of partitions, one after the other.
use Rattle.std.proofs.Common.{◌≡◌, ℕ, ◌+◌, ◌<◌, ◌≤◌, List, [], ◌∷◌, ◌++◌, length, map, take, get_or, min, sym, ap, subst, ◌∙◌, arith, IsPermutation, Option}
use Rattle.std.specs.List.{zip}
use Rattle.std.specs.Ordering.{nat_cmp}
use Rattle.std.specs.Cmp.Lexicographic.{slice_cmp}
use Rattle.std.proofs.Math.Nat.{min-le_left, min-le_right}
use Rattle.std.proofs.lemmas.List.{take_all}
use Rattle.std.proofs.lemmas.Slice.Zip.{length-zip, get_or-zip}
use Rattle.eos_base.specs.Members.{is_found}
use Rattle.eos_evidence.specs.declared.application.App.{App}
use Rattle.eos_evidence.specs.SpecFields.{outputs_of}
use Rattle.eos_fold.specs.Parts.{PartLog}
use Rattle.eos_touch.specs.declared.fault.PartitionFault.{PartitionFault}
use Rattle.eos_commits.specs.Commits.{Topic}
use Rattle.eos_commits.proofs.RoleSearch.{found_in_order}
use Rattle.eos_commits.proofs.MappedMore.{mapped_more}
use Rattle.eos_notes.specs.declared.tally.Counted.{Counted}
use Rattle.eos_notes.specs.declared.tally.TopicRoles.{TopicRoles}
use Rattle.eos_notes.specs.declared.tally.PartitionTally.{PartitionTally}
use Rattle.eos_notes.specs.PartitionTallies.{sources_of, roles_by, roles_of}
use Rattle.eos_notes.specs.TalliesByLogs.{beside, partition_tally}

below_left : (i a b : ℕ) → i < min a b → i < a
below_left i a b lt = omega (arith, lt, min-le_left a b)

below_right : (i a b : ℕ) → i < min a b → i < b
below_right i a b lt = omega (arith, lt, min-le_right a b)

-- so many rows have each of the three
pub has_log : (ls : List PartLog) (fs : List (Option PartitionFault)) (cs : List Counted) (i : ℕ) → i < length (beside ls fs cs) → i < length ls
has_log ls fs cs i lt = below_left i (length ls) (length (zip fs cs)) (subst (λ (n : ℕ). i < n) (length-zip ls (zip fs cs)) lt)

has_both : (ls : List PartLog) (fs : List (Option PartitionFault)) (cs : List Counted) (i : ℕ) → i < length (beside ls fs cs) → i < length (zip fs cs)
has_both ls fs cs i lt = below_right i (length ls) (length (zip fs cs)) (subst (λ (n : ℕ). i < n) (length-zip ls (zip fs cs)) lt)

pub has_fault : (ls : List PartLog) (fs : List (Option PartitionFault)) (cs : List Counted) (i : ℕ) → i < length (beside ls fs cs) → i < length fs
has_fault ls fs cs i lt = below_left i (length fs) (length cs) (subst (λ (n : ℕ). i < n) (length-zip fs cs) (has_both ls fs cs i lt))

pub has_counts : (ls : List PartLog) (fs : List (Option PartitionFault)) (cs : List Counted) (i : ℕ) → i < length (beside ls fs cs) → i < length cs
has_counts ls fs cs i lt = below_right i (length fs) (length cs) (subst (λ (n : ℕ). i < n) (length-zip fs cs) (has_both ls fs cs i lt))

pub rows_are : (ls : List PartLog) (fs : List (Option PartitionFault)) (cs : List Counted) → min (length ls) (min (length fs) (length cs)) ≡ length (beside ls fs cs)
rows_are ls fs cs = ap (λ (n : ℕ). min (length ls) n) (sym (length-zip fs cs)) ∙ sym (length-zip ls (zip fs cs))

-- so many rows are all
pub rows_done : (roles : Topic → TopicRoles) (ls ms : List PartLog) (fs gs : List (Option PartitionFault)) (cs : List Counted) (all : List PartitionTally) (i rows : ℕ) → rows ≡ length (beside ls fs cs) → rows ≤ i → ls ≡ ms → fs ≡ gs
    → all ≡ map (partition_tally roles) (take i (beside ls fs cs)) → all ≡ map (partition_tally roles) (beside ms gs cs)
rows_done roles ls ms fs gs cs all i rows are le e g so_far =
    so_far ∙ (ap (map (partition_tally roles)) (take_all i (beside ls fs cs) (omega (arith, are, le))) ∙ (λ j. map (partition_tally roles) (beside (e j) (g j) cs)))

-- one row further
pub rows_more : (roles : Topic → TopicRoles) (ls : List PartLog) (fs : List (Option PartitionFault)) (cs : List Counted) (before after : List PartitionTally) (i : ℕ) (l : PartLog) (f : Option PartitionFault) (d : Counted) (t : PartitionTally)
    → i < length (beside ls fs cs) → l ≡ get_or ls i l → f ≡ get_or fs i f → before ≡ map (partition_tally roles) (take i (beside ls fs cs)) → t ≡ partition_tally roles (l, (f, get_or cs i d))
    → after ≡ before ++ t ∷ [] → after ≡ map (partition_tally roles) (take (i + 1) (beside ls fs cs))
rows_more roles ls fs cs before after i l f d t lt is_l is_f so_far row pushed =
    let c = get_or cs i d in
    let both : get_or (zip fs cs) i (f, d) ≡ (f, c) = get_or-zip fs cs i (f, d) (has_fault ls fs cs i lt) (has_counts ls fs cs i lt) ∙ (λ j. (sym is_f j, c)) in
    let all : get_or (beside ls fs cs) i (l, (f, d)) ≡ (l, (f, c)) = get_or-zip ls (zip fs cs) i (l, (f, d)) (has_log ls fs cs i lt) (has_both ls fs cs i lt) ∙ (λ j. (sym is_l j, both j)) in
    mapped_more (partition_tally roles) before after (beside ls fs cs) i (l, (f, d)) lt so_far
    (pushed ∙ ap (λ (u : PartitionTally). before ++ u ∷ []) (row ∙ ap (partition_tally roles) (sym all)))

-- whatever the order of the topics
pub same_roles : (apps : List App) (sources outputs : List Topic) → IsPermutation (sources_of apps) sources → IsPermutation (outputs_of apps) outputs
    → roles_by (is_found (slice_cmp nat_cmp) sources) (is_found (slice_cmp nat_cmp) outputs) ≡ roles_of apps
same_roles apps sources outputs p q =
    let same : (topics set : List Topic) → IsPermutation topics set → is_found (slice_cmp nat_cmp) set ≡ is_found (slice_cmp nat_cmp) topics =
    λ topics set r i topic. found_in_order (slice_cmp nat_cmp) topics set topic r i in
    λ i. roles_by (same (sources_of apps) sources p i) (same (outputs_of apps) outputs q i)
