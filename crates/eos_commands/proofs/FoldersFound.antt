-- The folders at the paths so far, and the first that is refused.
use Rattle.std.proofs.Common.{◌≡◌, ◌<◌, ◌≤◌, ◌+◌, ◌||◌, ◌++◌, ℕ, List, Bor, [], ◌∷◌, Bool, true, false, not, length, get_or, take, drop, map, refl, sym, ap, ◌∙◌, subst}
use Rattle.std.proofs.lemmas.List.{take_all, map-append}
use Rattle.std.proofs.lemmas.List.Folds.{list_any-append}
use Rattle.std.specs.BTreeSet.{BTreeSet, contains, Updates}
use Rattle.std.specs.Ordering.{is_eq}
use Rattle.eos_base.specs.Members.{is_found}
use Rattle.eos_base.specs.PartitionNames.{name_cmp}
use Rattle.eos_base.specs.declared.partition_name.PartitionName.{PartitionName}
use Rattle.eos_disk.specs.Entries.{Entry}
use Rattle.eos_evidence.specs.declared.ends.End.{End}
use Rattle.eos_commands.specs.Folding.{IsFolderAt, AreFoldersAt}
use Rattle.eos_commands.specs.FoldRefusals.{IsUnfolded, AreApart, AreFit, RefusesGiven, IsFirstGiven}
use Rattle.eos_commands.specs.declared.fold_fault.FoldingFault.{FoldingFault}
use Rattle.eos_commands.specs.declared.folder.PartitionFolder.{PartitionFolder}
use Rattle.eos_commands.specs.steps.Fits.{FitsAfter}
use Rattle.eos_commands.specs.steps.Names.{Gains, HasNamesOf}
use Rattle.eos_commands.proofs.FoldsRefused.{parts_at, front_at, all_append}
use Rattle.eos_commands.proofs.NameSets.{gains_one, gains_more, empty_lacks, tied_back}

abbrev pub texts_of : List (Bor (List ℕ)) → List (List ℕ)
texts_of paths = map (λ p. p.now) paths

abbrev pub names_of : List PartitionFolder → List PartitionName
names_of folders = map (λ f. f.name) folders

-- ---- one more

found_more : (holds : List ℕ → Entry) (ends : List End) (paths : List (List ℕ)) (path : List ℕ) (folders : List PartitionFolder) (folder : PartitionFolder)
    → AreFoldersAt holds ends paths folders → IsFolderAt holds ends path folder → AreFoldersAt holds ends (paths ++ path ∷ []) (folders ++ folder ∷ [])
found_more holds ends [] path folders folder are is = (folder, [], is, ap (λ (fs : List PartitionFolder). fs ++ folder ∷ []) are, refl)
found_more holds ends (p ∷ paths) path folders folder are is = (
  are.0,
  are.1 ++ folder ∷ [],
  are.2,
  ap (λ (fs : List PartitionFolder). fs ++ folder ∷ []) are.3,
  found_more holds ends paths path are.1 folder are.4 is,
)

left_false : (a b : Bool) → (a || b) ≡ false → a ≡ false
left_false false b h = refl
left_false true b h = h

right_false : (a b : Bool) → (a || b) ≡ false → b ≡ false
right_false false b h = h
right_false true false h = refl
right_false true true h = h

both_false : (a b : Bool) → a ≡ false → b ≡ false → (a || b) ≡ false
both_false false b p q = q
both_false true b p q = p

apart_more : (folders : List PartitionFolder) (folder : PartitionFolder) → AreApart folders → is_found name_cmp (names_of folders) folder.name ≡ false → AreApart (folders ++ folder ∷ [])
apart_more [] folder apart new = (refl, tt)
apart_more (f ∷ folders) folder apart new = (
  ap (λ (ns : List PartitionName). is_found name_cmp ns f.name) (map-append (λ (x : PartitionFolder). x.name) folders (folder ∷ []))
      ∙ (list_any-append (λ (y : PartitionName). is_eq (name_cmp y f.name)) (names_of folders) (folder.name ∷ [])
      ∙ both_false (is_found name_cmp (names_of folders) f.name) (is_eq (name_cmp folder.name f.name) || false) apart.0
      (both_false (is_eq (name_cmp folder.name f.name)) false
      (tied_back folder.name f.name ∙ left_false (is_eq (name_cmp f.name folder.name)) (is_found name_cmp (names_of folders) folder.name) new) refl)),
  apart_more folders folder apart.1 (right_false (is_eq (name_cmp f.name folder.name)) (is_found name_cmp (names_of folders) folder.name) new),
)

pub fit_next : (holds : List ℕ → Entry) (ends : List End) (out : List ℕ) (paths : List (Bor (List ℕ))) (i : ℕ) (d : Bor (List ℕ)) (folders more : List PartitionFolder) (folder : PartitionFolder)
    → i < length paths → AreFit holds ends out (texts_of (take i paths)) folders → FitsAfter holds ends out folders (get_or paths i d).now folder
    → more ≡ folders ++ folder ∷ [] → AreFit holds ends out (texts_of (take (i + 1) paths)) more
fit_next holds ends out paths i d folders more folder lt fit here longer =
    let front : texts_of (take (i + 1) paths) ≡ texts_of (take i paths) ++ (get_or paths i d).now ∷ []
    = ap texts_of (front_at paths i d (get_or paths i d) lt refl) ∙ map-append (λ (p : Bor (List ℕ)). p.now) (take i paths) (get_or paths i d ∷ []) in
    subst (λ (ps : List (List ℕ)). AreFit holds ends out ps more) (sym front) (subst (λ (fs : List PartitionFolder). AreFit holds ends out (texts_of (take i paths) ++ (get_or paths i d).now ∷ []) fs) (sym longer) (record {
      found = found_more holds ends (texts_of (take i paths)) (get_or paths i d).now folders folder fit.found here.is;
      apart = apart_more folders folder fit.apart here.new;
      unfolded = all_append (IsUnfolded holds out) folders (folder ∷ []) fit.unfolded (here.unfolded, tt);
    }))

pub fit_all : (holds : List ℕ → Entry) (ends : List End) (out : List ℕ) (paths : List (Bor (List ℕ))) (i : ℕ) (folders : List PartitionFolder) → length paths ≤ i
    → AreFit holds ends out (texts_of (take i paths)) folders → AreFit holds ends out (texts_of paths) folders
fit_all holds ends out paths i folders all fit = subst (λ (ps : List (Bor (List ℕ))). AreFit holds ends out (texts_of ps) folders) (take_all i paths all) fit

-- ---- their names

pub names_next : (old new : BTreeSet PartitionName) (folders more : List PartitionFolder) (folder : PartitionFolder) (key : PartitionName) → HasNamesOf old folders → Updates name_cmp old new key true → key ≡ folder.name
    → more ≡ folders ++ folder ∷ [] → HasNamesOf new more
names_next old new folders more folder key has updates is longer = (
  has.0,
  has.1,
  subst (λ (ns : List PartitionName). Gains has.0 ns new)
      (sym (ap names_of longer ∙ map-append (λ (f : PartitionFolder). f.name) folders (folder ∷ []) ∙ ap (λ (k : PartitionName). names_of folders ++ k ∷ []) (sym is)))
      (gains_more has.0 old new (names_of folders) (key ∷ []) has.2 (gains_one old new key updates)),
)

pub same_names : (names : BTreeSet PartitionName) (folders more : List PartitionFolder) → more ≡ folders → HasNamesOf names folders → HasNamesOf names more
same_names names folders more is has = subst (λ (fs : List PartitionFolder). HasNamesOf names fs) (sym is) has

pub is_named : (names : BTreeSet PartitionName) (folders : List PartitionFolder) (folder : PartitionFolder) (key : PartitionName) → HasNamesOf names folders → key ≡ folder.name
    → contains name_cmp names key ≡ is_found name_cmp (names_of folders) folder.name
is_named names folders folder key has is =
    has.2 key ∙ (ap (λ (b : Bool). b || is_found name_cmp (names_of folders) key) (empty_lacks has.0 key has.1) ∙ ap (λ (k : PartitionName). is_found name_cmp (names_of folders) k) is)

not_true : (b : Bool) → true ≡ not b → b ≡ false
not_true false h = refl
not_true true h = h

not_false : (b : Bool) → false ≡ not b → b ≡ true
not_false true h = refl
not_false false h = h

pub is_new : (names : BTreeSet PartitionName) (folders : List PartitionFolder) (folder : PartitionFolder) (key : PartitionName) (added : Bool) → HasNamesOf names folders → key ≡ folder.name
    → added ≡ not (contains name_cmp names key) → added ≡ true → is_found name_cmp (names_of folders) folder.name ≡ false
is_new names folders folder key added has is told so = sym (is_named names folders folder key has is) ∙ not_true (contains name_cmp names key) (sym so ∙ told)

pub is_second : (names : BTreeSet PartitionName) (folders : List PartitionFolder) (folder : PartitionFolder) (key : PartitionName) (added : Bool) → HasNamesOf names folders → key ≡ folder.name
    → added ≡ not (contains name_cmp names key) → added ≡ false → is_found name_cmp (names_of folders) folder.name ≡ true
is_second names folders folder key added has is told so = sym (is_named names folders folder key has is) ∙ not_false (contains name_cmp names key) (sym so ∙ told)

-- ---- the first that is refused

pub given_at : (holds : List ℕ → Entry) (ends : List End) (out : List ℕ) (paths : List (Bor (List ℕ))) (i : ℕ) (d : Bor (List ℕ)) (folders : List PartitionFolder) (why : FoldingFault) → i < length paths
    → AreFit holds ends out (texts_of (take i paths)) folders → RefusesGiven holds ends out folders (get_or paths i d).now why → IsFirstGiven holds ends out (texts_of paths) why
given_at holds ends out paths i d folders why lt fit refused = record {
  before = texts_of (take i paths);
  path = (get_or paths i d).now;
  later = texts_of (drop (i + 1) paths);
  are = ap texts_of (parts_at paths i d (get_or paths i d) lt refl) ∙ map-append (λ (p : Bor (List ℕ)). p.now) (take i paths) (get_or paths i d ∷ drop (i + 1) paths);
  folders = folders;
  fit = fit;
  refused = refused;
}
