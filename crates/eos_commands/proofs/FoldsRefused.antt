-- What refuses one folder, or one log, is what refuses all: it is the first.
use Rattle.std.proofs.Common.{◌≡◌, ◌<◌, ◌+◌, ◌⊎◌, ◌++◌, ℕ, List, [], ◌∷◌, Ok, length, get_or, take, drop, map, slice_index_or, inl, inr, refl, sym, ap, ◌∙◌, subst, append_assoc, ℤ}
use Rattle.std.proofs.lemmas.List.{take_more, drop_more, take-append-drop, map-append}
use Rattle.std.specs.List.{AllByRecursion}
use Rattle.eos_disk.specs.Entries.{Entry, HasBytes, MayBeAbsent, MayStand}
use Rattle.eos_disk.specs.Paths.{file_path, partition_path, segment_path}
use Rattle.eos_disk.specs.declared.names.Form.TheVariants.{Log, Fold}
use Rattle.eos_evidence.specs.declared.application.App.{App}
use Rattle.eos_evidence.specs.declared.ends.End.{End}
use Rattle.eos_evidence.specs.declared.segment.Segment.{Segment}
use Rattle.eos_evidence.specs.Manifest.{spec_said_by}
use Rattle.eos_evidence.specs.SpecFields.{SpecFields}
use Rattle.eos_fold_file.specs.declared.file.FoldFile.{FoldFile}
use Rattle.eos_reading.specs.declared.wanted.Wanted.{Wanted}
use Rattle.eos_reading.specs.Wanted.{wanted_of}
use Rattle.eos_commits.specs.SourceTopics.{AreSourceTopics}
use Rattle.eos_commands.specs.FoldRefusals.{fold_in, AreFit, IsFoldedTo, IsFirstGiven, IsUnwritten, IsUnreadLog, RefusesLog, IsFirstLog, RefusesByParts, RefusesFolds}
use Rattle.eos_commands.specs.Folding.{Item, segment_of, item_of, items_in, items_of, IsFoldAt, IsFoldLeft, Folded}
use Rattle.eos_commands.specs.declared.fold_fault.FoldingFault.{FoldingFault}
use Rattle.eos_commands.specs.declared.fold_fault.FoldingFault.TheVariants.{OutOfMemory}
use Rattle.eos_commands.specs.declared.folder.PartitionFolder.{PartitionFolder}
use Rattle.eos_commands.proofs.FoldsMore.{folded_then}

-- ---- lists

pub parts_at : {X : Type 0} (xs : List X) (i : ℕ) (d x : X) → i < length xs → x ≡ get_or xs i d → xs ≡ take i xs ++ x ∷ drop (i + 1) xs
parts_at {X} xs i d x lt at = sym (take-append-drop i xs) ∙ ap (λ (ys : List X). take i xs ++ ys) (drop_more xs i d lt ∙ ap (λ (y : X). y ∷ drop (i + 1) xs) (sym at))

pub front_at : {X : Type 0} (xs : List X) (i : ℕ) (d x : X) → i < length xs → x ≡ get_or xs i d → take (i + 1) xs ≡ take i xs ++ x ∷ []
front_at {X} xs i d x lt at = take_more xs i d lt ∙ ap (λ (y : X). take i xs ++ y ∷ []) (sym at)

pub all_append : {X : Type 0} (P : X → Type 0) (xs ys : List X) → AllByRecursion P xs → AllByRecursion P ys → AllByRecursion P (xs ++ ys)
all_append P [] ys a b = b
all_append P (x ∷ xs) ys a b = (a.0, all_append P xs ys a.1 b)

pub all_next : {X : Type 0} (P : X → Type 0) (xs : List X) (i : ℕ) (d x : X) → i < length xs → x ≡ get_or xs i d → AllByRecursion P (take i xs) → P x → AllByRecursion P (take (i + 1) xs)
all_next {X} P xs i d x lt at all this = subst (AllByRecursion P) (sym (front_at xs i d x lt at)) (all_append P (take i xs) (x ∷ []) all (this, tt))

-- ---- a fold that is there

pub unfolded_next : (holds : List ℕ → Entry) (out : List ℕ) (folder : PartitionFolder) (bases : List ℤ) (i : ℕ) (d base : ℤ) (path : List ℕ) → i < length bases → base ≡ get_or bases i d
    → path ≡ fold_in out folder base → MayBeAbsent (holds path)
    → AllByRecursion (λ b. MayBeAbsent (holds (fold_in out folder b))) (take i bases) → AllByRecursion (λ b. MayBeAbsent (holds (fold_in out folder b))) (take (i + 1) bases)
unfolded_next holds out folder bases i d base path lt at is free all =
    all_next (λ b. MayBeAbsent (holds (fold_in out folder b))) bases i d base lt at all (subst (λ (p : List ℕ). MayBeAbsent (holds p)) is free)

pub folded_to : (holds : List ℕ → Entry) (out : List ℕ) (folder : PartitionFolder) (bases : List ℤ) (i : ℕ) (d base : ℤ) (path : List ℕ) → i < length bases → base ≡ get_or bases i d
    → bases ≡ folder.bases.items → path ≡ fold_in out folder base → MayStand (holds path)
    → AllByRecursion (λ b. MayBeAbsent (holds (fold_in out folder b))) (take i bases) → IsFoldedTo holds out folder path
folded_to holds out folder bases i d base path lt at lent is there all = record {
  before = take i bases;
  base = base;
  later = drop (i + 1) bases;
  are = sym lent ∙ parts_at bases i d base lt at;
  unfolded = all;
  at = is;
  there = there;
}

-- ---- one log

pub unread_log : (holds : List ℕ → Entry) (topics : List (List ℕ)) (out : List ℕ) (item : Item) (why : FoldingFault) → IsUnreadLog holds (file_path item.folder item.base Log) why
    → RefusesLog holds topics out item why
unread_log holds topics out item why h = inl h

pub unwritten_log : (holds : List ℕ → Entry) (topics : List (List ℕ)) (out : List ℕ) (item : Item) (name : Segment) (fold : FoldFile) (why : FoldingFault) → name ≡ segment_of item [] → IsFoldAt holds topics item fold
    → IsUnwritten (partition_path out name.topic name.partition) why ⊎ IsUnwritten (segment_path out name Fold) why → RefusesLog holds topics out item why
unwritten_log holds topics out item name fold why named is h =
    inr (fold, is, subst (λ (s : Segment). IsUnwritten (partition_path out s.topic s.partition) why ⊎ IsUnwritten (segment_path out s Fold) why) named h)

-- ---- one of several

pub first_in_folder : (old mid new : List ℕ → Entry) (topics : List (List ℕ)) (out : List ℕ) (wanted : Wanted) (folder : PartitionFolder) (bases : List ℤ) (i : ℕ) (d base : ℤ) (why : FoldingFault)
    → i < length bases → base ≡ get_or bases i d → bases ≡ folder.bases.items → Folded old topics out (map (item_of wanted folder) (take i bases)) mid
    → RefusesLog mid topics out (item_of wanted folder base) why → IsFoldLeft mid out (item_of wanted folder base) new → IsFirstLog old topics out (items_in wanted folder) new why
first_in_folder old mid new topics out wanted folder bases i d base why lt at lent folded refused left = record {
  before = map (item_of wanted folder) (take i bases);
  item = item_of wanted folder base;
  later = map (item_of wanted folder) (drop (i + 1) bases);
  are = ap (λ (bs : List ℤ). map (item_of wanted folder) bs) (sym lent ∙ parts_at bases i d base lt at) ∙ map-append (item_of wanted folder) (take i bases) (base ∷ drop (i + 1) bases);
  mid = mid;
  folded = folded;
  refused = refused;
  left = left;
}

items_append : (apps : List App) (xs ys : List PartitionFolder) → items_of apps (xs ++ ys) ≡ items_of apps xs ++ items_of apps ys
items_append apps [] ys = refl
items_append apps (f ∷ xs) ys =
    ap (λ (zs : List Item). items_in (wanted_of apps f.name.topic) f ++ zs) (items_append apps xs ys)
    ∙ sym (append_assoc (items_in (wanted_of apps f.name.topic) f) (items_of apps xs) (items_of apps ys))

pub first_in_all : (old mid new : List ℕ → Entry) (topics : List (List ℕ)) (out : List ℕ) (apps : List App) (folders : List PartitionFolder) (i : ℕ) (folder : PartitionFolder) (wanted : Wanted) (why : FoldingFault)
    → i < length folders → folder ≡ slice_index_or folders i folder → wanted ≡ wanted_of apps folder.name.topic → Folded old topics out (items_of apps (take i folders)) mid
    → IsFirstLog mid topics out (items_in wanted folder) new why → IsFirstLog old topics out (items_of apps folders) new why
first_in_all old mid new topics out apps folders i folder wanted why lt at is folded first = record {
  before = items_of apps (take i folders) ++ first.before;
  item = first.item;
  later = first.later ++ items_of apps (drop (i + 1) folders);
  are = ap (λ (fs : List PartitionFolder). items_of apps fs) (parts_at folders i folder folder lt at)
      ∙ (items_append apps (take i folders) (folder ∷ drop (i + 1) folders)
      ∙ (ap (λ (xs : List Item). items_of apps (take i folders) ++ (xs ++ items_of apps (drop (i + 1) folders))) (ap (λ (w : Wanted). items_in w folder) (sym is) ∙ first.are)
      ∙ (ap (λ (xs : List Item). items_of apps (take i folders) ++ xs) (append_assoc first.before (first.item ∷ first.later) (items_of apps (drop (i + 1) folders)))
      ∙ sym (append_assoc (items_of apps (take i folders)) first.before (first.item ∷ (first.later ++ items_of apps (drop (i + 1) folders)))))));
  mid = first.mid;
  folded = folded_then old mid first.mid topics out (items_of apps (take i folders)) first.before folded first.folded;
  refused = first.refused;
  left = first.left;
}

-- ---- all

pub given_refused : (old : List ℕ → Entry) (out : List ℕ) (paths : List (List ℕ)) (spec : SpecFields) (ends : List End) (why : FoldingFault)
    → ends ≡ spec.ends → (why ≡ OutOfMemory) ⊎ IsFirstGiven old ends out paths why → (why ≡ OutOfMemory) ⊎ RefusesByParts old spec out paths old why
given_refused old out paths spec ends why are (inl memory) = inl memory
given_refused old out paths spec ends why are (inr first) = inr (inl (subst (λ (es : List End). IsFirstGiven old es out paths why) are first))

pub log_refused : (old new : List ℕ → Entry) (out : List ℕ) (paths : List (List ℕ)) (spec : SpecFields) (ends : List End) (folders lent : List PartitionFolder) (apps : List App)
    (topics wanted : List (List ℕ)) (why : FoldingFault) → ends ≡ spec.ends → AreFit old ends out paths folders → lent ≡ folders
    → apps ≡ spec.apps → AreSourceTopics apps topics → wanted ≡ topics → (why ≡ OutOfMemory) ⊎ IsFirstLog old wanted out (items_of apps lent) new why
    → (why ≡ OutOfMemory) ⊎ RefusesByParts old spec out paths new why
log_refused old new out paths spec ends folders lent apps topics wanted why are fit l a read w (inl memory) = inl memory
log_refused old new out paths spec ends folders lent apps topics wanted why are fit l a read w (inr first) = inr (inr (
  folders,
  topics,
  subst (λ (es : List End). AreFit old es out paths folders) are fit,
  subst (λ (xs : List App). AreSourceTopics xs topics) a read,
  subst (λ (ts : List (List ℕ)). IsFirstLog old ts out (items_of spec.apps folders) new why) w
      (subst (λ (xs : List App). IsFirstLog old wanted out (items_of xs folders) new why) a
      (subst (λ (fs : List PartitionFolder). IsFirstLog old wanted out (items_of apps fs) new why) l first)),
))

pub refused_by : (old new : List ℕ → Entry) (manifest own out : List ℕ) (paths : List (List ℕ)) (text : List ℕ) (spec : SpecFields) (why : FoldingFault) → own ≡ manifest → HasBytes (old own) text
    → spec_said_by text ≡ Ok spec → (why ≡ OutOfMemory) ⊎ RefusesByParts old spec out paths new why → RefusesFolds old manifest out paths new why
refused_by old new manifest own out paths text spec why is stands says (inl memory) = inl memory
refused_by old new manifest own out paths text spec why is stands says (inr refused) = inr (inr (record {
  text = text;
  spec = spec;
  stands = subst (λ (p : List ℕ). HasBytes (old p) text) is stands;
  says = says;
  refused = refused;
}))
