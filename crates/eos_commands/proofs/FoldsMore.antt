-- One fold more, one folder more, and what stands where one of them is refused.
use Rattle.std.proofs.Common.{◌≡◌, ◌<◌, ◌+◌, ℕ, ℤ, List, [], ◌∷◌, ◌++◌, Ok, Option, length, get_or, take, map, slice_index_or, refl, sym, ap, ◌∙◌, subst, append_assoc, append-nil, inl, inr}
use Rattle.std.proofs.lemmas.List.{take_more, map-append}
use Rattle.std.specs.Io.KnownBytes.{Consumes, IsAtEnd}
use Rattle.eos_disk.specs.Entries.{Entry, Leaves}
use Rattle.eos_disk.specs.Changes.{AreMade, AreMadeTo}
use Rattle.eos_disk.specs.Putting.{IsPlaced, IsLeft}
use Rattle.eos_evidence.specs.declared.application.App.{App}
use Rattle.eos_evidence.specs.declared.segment.Segment.{Segment}
use Rattle.eos_fold_file.specs.declared.file.FoldFile.{FoldFile}
use Rattle.eos_fold_file.specs.Files.{fold_text}
use Rattle.eos_fold_file.specs.Folds.{IsFoldOf, IsAskedAs}
use Rattle.eos_fold_file.specs.Reading.{read_fold}
use Rattle.eos_disk.proofs.WholeFiles.{all_left, left_stands}
use Rattle.eos_disk.specs.Paths.{file_path, partition_path, segment_path}
use Rattle.eos_disk.specs.declared.names.Form.TheVariants.{Log, Fold}
use Rattle.eos_reading.specs.declared.wanted.Wanted.{Wanted}
use Rattle.eos_reading.specs.Wanted.{wanted_of}
use Rattle.eos_commands.specs.Folding.{Item, segment_of, folder_of, fold_path, item_of, items_in, items_of, IsFoldAt, IsFoldPut, IsFoldLeft, Folded, FoldedInPart}
use Rattle.eos_commands.specs.declared.folder.PartitionFolder.{PartitionFolder}
use Rattle.eos_commands.proofs.Unmade.{none_made, none_left}

-- ---- chains

pub folded_then : (a b c : List ℕ → Entry) (topics : List (List ℕ)) (out : List ℕ) (xs ys : List Item) → Folded a topics out xs b → Folded b topics out ys c → Folded a topics out (xs ++ ys) c
folded_then a b c topics out [] ys p q = subst (λ (h : List ℕ → Entry). Folded h topics out ys c) p q
folded_then a b c topics out (x ∷ xs) ys p q = (p.0, p.1, folded_then p.0 b c topics out xs ys p.2 q)

one_folded : (a b : List ℕ → Entry) (topics : List (List ℕ)) (out : List ℕ) (item : Item) → IsFoldPut a topics out item b → Folded a topics out (item ∷ []) b
one_folded a b topics out item put = (b, put, refl)

pub next_fold : (old mid new : List ℕ → Entry) (topics : List (List ℕ)) (out : List ℕ) (wanted : Wanted) (folder : PartitionFolder) (bases : List ℤ) (i : ℕ) (d base : ℤ)
    → i < length bases → base ≡ get_or bases i d → Folded old topics out (map (item_of wanted folder) (take i bases)) mid → IsFoldPut mid topics out (item_of wanted folder base) new
    → Folded old topics out (map (item_of wanted folder) (take (i + 1) bases)) new
next_fold old mid new topics out wanted folder bases i d base lt at so_far put =
    let longer : map (item_of wanted folder) (take (i + 1) bases) ≡ map (item_of wanted folder) (take i bases) ++ item_of wanted folder base ∷ []
    = ap (λ (bs : List ℤ). map (item_of wanted folder) bs) (take_more bases i d lt ∙ ap (λ (x : ℤ). take i bases ++ x ∷ []) (sym at))
    ∙ map-append (item_of wanted folder) (take i bases) (base ∷ []) in
    subst (λ (xs : List Item). Folded old topics out xs new) (sym longer)
    (folded_then old mid new topics out (map (item_of wanted folder) (take i bases)) (item_of wanted folder base ∷ []) so_far (one_folded mid new topics out (item_of wanted folder base) put))

items_more : (apps : List App) (folders : List PartitionFolder) (folder : PartitionFolder)
    → items_of apps (folders ++ folder ∷ []) ≡ items_of apps folders ++ items_in (wanted_of apps folder.name.topic) folder
items_more apps [] folder = append-nil (items_in (wanted_of apps folder.name.topic) folder)
items_more apps (f ∷ folders) folder =
    ap (λ (xs : List Item). items_in (wanted_of apps f.name.topic) f ++ xs) (items_more apps folders folder)
    ∙ sym (append_assoc (items_in (wanted_of apps f.name.topic) f) (items_of apps folders) (items_in (wanted_of apps folder.name.topic) folder))

pub next_folder : (old mid new : List ℕ → Entry) (topics : List (List ℕ)) (out : List ℕ) (apps : List App) (folders : List PartitionFolder) (i : ℕ) (folder : PartitionFolder) (wanted : Wanted)
    → i < length folders → folder ≡ slice_index_or folders i folder → wanted ≡ wanted_of apps folder.name.topic → Folded old topics out (items_of apps (take i folders)) mid
    → Folded mid topics out (items_in wanted folder) new → Folded old topics out (items_of apps (take (i + 1) folders)) new
next_folder old mid new topics out apps folders i folder wanted lt at is so_far put =
    let longer : items_of apps (take (i + 1) folders) ≡ items_of apps (take i folders) ++ items_in (wanted_of apps folder.name.topic) folder
    = ap (λ (fs : List PartitionFolder). items_of apps fs) (take_more folders i folder lt ∙ ap (λ (x : PartitionFolder). take i folders ++ x ∷ []) (sym at))
    ∙ items_more apps (take i folders) folder in
    subst (λ (xs : List Item). Folded old topics out xs new) (sym longer)
    (folded_then old mid new topics out (items_of apps (take i folders)) (items_in (wanted_of apps folder.name.topic) folder) so_far
    (subst (λ (w : Wanted). Folded mid topics out (items_in w folder) new) is put))

-- ---- in part

pub none_folded : (old : List ℕ → Entry) (topics : List (List ℕ)) (out : List ℕ) → FoldedInPart old topics out old
none_folded old topics out = record { done = []; mid = old; folded = refl; left = inl refl }

pub nothing_folded : (old : List ℕ → Entry) (out : List ℕ) → (topics : List (List ℕ)) × FoldedInPart old topics out old
nothing_folded old out = ([], none_folded old [] out)

pub one_left : (old mid new : List ℕ → Entry) (topics : List (List ℕ)) (out : List ℕ) (done : List Item) (item : Item) → Folded old topics out done mid → IsFoldLeft mid out item new
    → FoldedInPart old topics out new
one_left old mid new topics out done item folded left = record { done = done; mid = mid; folded = folded; left = inr (item, left) }

pub more_in_part : (old mid new : List ℕ → Entry) (topics : List (List ℕ)) (out : List ℕ) (done : List Item) → Folded old topics out done mid → FoldedInPart mid topics out new
    → FoldedInPart old topics out new
more_in_part old mid new topics out done folded part = record {
  done = done ++ part.done;
  mid = part.mid;
  folded = folded_then old mid part.mid topics out done part.done folded part.folded;
  left = part.left;
}

-- ---- one fold

pub fold_is : (holds : List ℕ → Entry) (topics : List (List ℕ)) (item : Item) (name : Segment) (left new : Option (List ℕ)) (bytes : List ℕ) (fold : FoldFile) → name ≡ segment_of item []
    → Leaves (holds (file_path item.folder item.base Log)) left → Consumes left new bytes → IsAtEnd new
    → ((segment : Segment) → segment.topic ≡ name.topic → segment.partition ≡ name.partition → segment.base ≡ name.base → segment.bytes ≡ bytes → IsFoldOf segment fold)
    → IsAskedAs item.wanted topics fold.kept → IsFoldAt holds topics item fold
fold_is holds topics item name left new bytes fold named leaves taken end is asked = record {
  log = bytes;
  stands = left_stands (holds (file_path item.folder item.base Log)) left bytes leaves (all_left left new bytes taken end);
  is = is (segment_of item bytes) (sym (ap (λ (s : Segment). s.topic) named)) (sym (ap (λ (s : Segment). s.partition) named)) (sym (ap (λ (s : Segment). s.base) named)) refl;
  asked = asked;
}

pub put_is : (old mid new : List ℕ → Entry) (topics : List (List ℕ)) (out : List ℕ) (item : Item) (fold : FoldFile) (name : Segment) (bytes : List ℕ)
    → IsFoldAt old topics item fold → name ≡ segment_of item [] → bytes ≡ fold_text fold → read_fold bytes ≡ Ok fold
    → AreMade old (partition_path out name.topic name.partition) mid → IsPlaced mid (segment_path out name Fold) bytes new → IsFoldPut old topics out item new
put_is old mid new topics out item fold name bytes is named text reads made placed = record {
  fold = fold;
  is = is;
  reads = subst (λ (b : List ℕ). read_fold b ≡ Ok fold) text reads;
  mid = mid;
  made = subst (λ (s : Segment). AreMade old (partition_path out s.topic s.partition) mid) named made;
  placed = subst (λ (b : List ℕ). IsPlaced mid (fold_path out item) b new) text (subst (λ (s : Segment). IsPlaced mid (segment_path out s Fold) bytes new) named placed);
}

pub left_is : (old mid new : List ℕ → Entry) (out : List ℕ) (item : Item) (name : Segment) (bytes : List ℕ) → name ≡ segment_of item []
    → AreMadeTo old (partition_path out name.topic name.partition) mid → IsLeft mid (segment_path out name Fold) bytes new → IsFoldLeft old out item new
left_is old mid new out item name bytes named made left = record {
  mid = mid;
  made = subst (λ (s : Segment). AreMadeTo old (partition_path out s.topic s.partition) mid) named made;
  text = bytes;
  left = subst (λ (s : Segment). IsLeft mid (segment_path out s Fold) bytes new) named left;
}

pub left_nothing : (old : List ℕ → Entry) (out : List ℕ) (item : Item) → IsFoldLeft old out item old
left_nothing old out item = record { mid = old; made = none_made old (folder_of out item); text = []; left = none_left old (fold_path out item) [] }
