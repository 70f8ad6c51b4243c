-- Which partitions are asked for, one folder and one segment after the other.
use Rattle.std.proofs.Common.{◌≡◌, ◌<◌, ◌+◌, ◌||◌, ◌++◌, ◌∷◌, [], ℕ, ℤ, List, Bool, true, length, get_or, take, refl, sym, ap, ◌∙◌, subst, append_assoc, append-nil, slice_index_or, IsPermutation}
use Rattle.std.proofs.lemmas.List.{take_more}
use Rattle.std.specs.BTreeSet.{BTreeSet, IsEmpty}
use Rattle.eos_base.specs.Members.{is_found}
use Rattle.eos_base.specs.PartitionNames.{name_cmp}
use Rattle.eos_base.specs.declared.partition_name.PartitionName.{PartitionName}
use Rattle.eos_disk.specs.Entries.{Entry, HasBytes}
use Rattle.eos_evidence.specs.declared.application.App.{App}
use Rattle.eos_evidence.specs.declared.ends.End.{End}
use Rattle.eos_disk.specs.declared.names.Form.TheVariants.{Log}
use Rattle.eos_disk.specs.Paths.{partition_path, file_path, path_of_end}
use Rattle.eos_disk.specs.Shapes.{AreLogsAt}
use Rattle.eos_manifest.specs.Listing.{IsListing}
use Rattle.eos_commands.specs.Copies.{path_of_name, AreListedBy, AreListedAt, is_states, own_name, AreAsked, AreRequired}
use Rattle.eos_commands.specs.steps.Names.{Gains}
use Rattle.eos_commands.proofs.NameSets.{row_found, empty_lacks}

pub path_same : (folder : List ℕ) (e : End) (name : PartitionName) → e.topic ≡ name.topic → e.partition ≡ name.partition → path_of_end folder e ≡ path_of_name folder name
path_same folder e name p q = λ i. partition_path folder (p i) (q i)

-- ---- of a partition

-- ---- one segment more

listed_more : (holds : List ℕ → Entry) (path : List ℕ) (bases : List ℤ) (base : ℤ) (bytes : List ℕ) (listed here : List PartitionName)
    → AreListedBy holds path bases listed → HasBytes (holds (file_path path base Log)) bytes → IsListing bytes here
    → AreListedBy holds path (bases ++ base ∷ []) (listed ++ here)
listed_more holds path [] base bytes listed here are has is = (
  bytes,
  here,
  [],
  has,
  is,
  ap (λ (xs : List PartitionName). xs ++ here) are ∙ sym (append-nil here),
  refl,
)
listed_more holds path (b ∷ bases) base bytes listed here are has is = (
  are.0,
  are.1,
  are.2 ++ here,
  are.3,
  are.4,
  ap (λ (xs : List PartitionName). xs ++ here) are.5 ∙ append_assoc are.1 are.2 here,
  listed_more holds path bases base bytes are.2 here are.6 has is,
)

pub next_listed : (holds : List ℕ → Entry) (path : List ℕ) (bases : List ℤ) (i : ℕ) (d base : ℤ) (bytes : List ℕ) (listed here : List PartitionName)
    → i < length bases → base ≡ get_or bases i d → AreListedBy holds path (take i bases) listed → HasBytes (holds (file_path path base Log)) bytes → IsListing bytes here
    → AreListedBy holds path (take (i + 1) bases) (listed ++ here)
next_listed holds path bases i d base bytes listed here lt at are has is =
    subst (λ (bs : List ℤ). AreListedBy holds path bs (listed ++ here)) (sym (take_more bases i d lt ∙ ap (λ (b : ℤ). take i bases ++ b ∷ []) (sym at)))
    (listed_more holds path (take i bases) base bytes listed here are has is)

pub all_listed : (holds : List ℕ → Entry) (folder : List ℕ) (e : End) (name : PartitionName) (bases : List ℤ) (listed : List PartitionName)
    → e.topic ≡ name.topic → e.partition ≡ name.partition → AreLogsAt holds (path_of_end folder e) bases → AreListedBy holds (path_of_end folder e) bases listed
    → AreListedAt true holds (path_of_name folder name) listed
all_listed holds folder e name bases listed p q logs are =
    subst (λ (path : List ℕ). AreListedAt true holds path listed) (path_same folder e name p q) (bases, logs, are)

-- ---- one folder more

asked_more : (holds : List ℕ → Entry) (folder : List ℕ) (apps : List App) (names : List PartitionName) (name : PartitionName) (asked listed : List PartitionName)
    → AreAsked holds folder apps names asked → AreListedAt (is_states name.topic) holds (path_of_name folder name) listed
    → AreAsked holds folder apps (names ++ name ∷ []) (asked ++ (own_name apps name ++ listed))
asked_more holds folder apps [] name asked listed are at = (
  listed,
  [],
  at,
  ap (λ (xs : List PartitionName). xs ++ (own_name apps name ++ listed)) are ∙ sym (append-nil (own_name apps name ++ listed)),
  refl,
)
asked_more holds folder apps (n ∷ names) name asked listed are at = (
  are.0,
  are.1 ++ (own_name apps name ++ listed),
  are.2,
  ap (λ (xs : List PartitionName). xs ++ (own_name apps name ++ listed)) are.3 ∙ append_assoc (own_name apps n ++ are.0) are.1 (own_name apps name ++ listed),
  asked_more holds folder apps names name are.1 listed are.4 at,
)

pub next_asked : (holds : List ℕ → Entry) (folder : List ℕ) (apps : List App) (names : List PartitionName) (i : ℕ) (name : PartitionName) (asked listed : List PartitionName)
    → i < length names → name ≡ slice_index_or names i name → AreAsked holds folder apps (take i names) asked → AreListedAt (is_states name.topic) holds (path_of_name folder name) listed
    → AreAsked holds folder apps (take (i + 1) names) (asked ++ (own_name apps name ++ listed))
next_asked holds folder apps names i name asked listed lt at are is =
    subst (λ (ns : List PartitionName). AreAsked holds folder apps ns (asked ++ (own_name apps name ++ listed)))
    (sym (take_more names i name lt ∙ ap (λ (x : PartitionName). take i names ++ x ∷ []) (sym at)))
    (asked_more holds folder apps (take i names) name asked listed are is)

pub required_are : (holds : List ℕ → Entry) (folder : List ℕ) (apps : List App) (folders asked row sorted : List PartitionName) (none set : BTreeSet PartitionName)
    → AreAsked holds folder apps folders asked → IsEmpty none → Gains none asked set → row ≡ set.keys → IsPermutation row sorted → AreRequired holds folder apps folders sorted
required_are holds folder apps folders asked row sorted none set are empty gains is same = record {
  asked = asked;
  are = are;
  same = λ name. row_found set row sorted name is same ∙ (gains name ∙ ap (λ (b : Bool). b || is_found name_cmp asked name) (empty_lacks none name empty));
}
