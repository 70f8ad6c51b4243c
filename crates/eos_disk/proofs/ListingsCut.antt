-- A listing that is refused.
use Rattle.std.proofs.Common.{◌≡◌, ◌<◌, ◌+◌, ◌-◌, ℕ, List, [], ◌∷◌, ◌++◌, length, take, drop, map, slice_index_or, inl, inr, refl, sym, ap, ◌∙◌, subst, append_assoc, append-nil, IsSorted, arith}
use Rattle.std.proofs.lemmas.List.{take_more, take-append-drop, length-take}
use Rattle.std.specs.List.Sorted.{IsStrictlySortedBy}
use Rattle.eos_disk.specs.Entries.{Entry}
use Rattle.eos_evidence.specs.declared.ends.End.{End}
use Rattle.eos_evidence.specs.declared.segment.Segment.{Segment}
use Rattle.eos_disk.specs.declared.folder.FolderFault.{FolderFault}
use Rattle.eos_disk.specs.declared.folder.FolderFault.TheVariants as faults
use Rattle.eos_disk.specs.declared.names.FileName.{FileName}
use Rattle.eos_disk.specs.declared.names.Form.{Form}
use Rattle.eos_disk.specs.declared.names.Form.TheVariants.{Fold}
use Rattle.eos_disk.specs.Paths.{file_path, path_of_end}
use Rattle.eos_disk.specs.Refusals.{IsUnread, RefusesFold}
use Rattle.eos_disk.specs.Shapes.{IsFound, segment_of, by_base}
use Rattle.eos_disk.specs.Stopped.{IsNextRefused, IsTwice}
use Rattle.eos_disk.specs.steps.Listing.{IsApart, AreNamed, IsTakenTo, IsCut}
use Rattle.eos_disk.proofs.FilesInOrder.{front_rises}
use Rattle.eos_disk.proofs.FilesMore.{all_left}

-- ---- a log beside its fold

pub two_first : (files : List FileName) (f g : FileName) → 1 < length files → g ≡ slice_index_or files 1 g → f ≡ slice_index_or files 0 f → g.base ≡ f.base → IsTwice files f
two_first [] f g lt second first same = absurd (omega (arith, lt))
two_first (x ∷ []) f g lt second first same = absurd (omega (arith, lt))
two_first (x ∷ y ∷ later) f g lt second first same =
    record { other = y; later = later; are = ap (λ (z : FileName). z ∷ y ∷ later) (sym first); same = ap (λ (z : FileName). z.base) (sym second) ∙ same }

pub twice_refused : (path : List ℕ) (many : ℕ) (files : List FileName) (file : FileName) (why : FolderFault) → IsTwice files file → RefusesFold (file_path path file.base Fold) why
    → IsNextRefused path many files why
twice_refused path many files file (faults.Fold named name cause) twice h = (file, twice, h)
twice_refused path many files file (faults.CannotRead named cause) twice h = absurd h
twice_refused path many files file (faults.Limit cause) twice h = absurd h
twice_refused path many files file (faults.Manifest fault cause) twice h = absurd h
twice_refused path many files file faults.OutOfMemory twice h = tt

-- ---- up to a place

-- the file at this place is refused
pub taken_to : (e : End) (path : List ℕ) (files : List FileName) (i : ℕ) (names now more : List Segment) (forms then further : List Form) (why : FolderFault)
    → now ≡ names ++ map (segment_of e) (take i files) → then ≡ forms ++ map (λ f. f.form) (take i files) → ((k : ℕ) → k < i → IsApart (drop k files)) → more ≡ now → further ≡ then
    → IsNextRefused path (length now) (take (length files - i) (drop i files)) why → IsTakenTo e path files names more forms further why
taken_to e path files i names now more forms then further why n f apart m k next =
    let left = subst (λ (fs : List FileName). IsNextRefused path (length now) fs why) (all_left files i) next in
    record {
      taken = take i files;
      later = drop i files;
      parts = sym (take-append-drop i files);
      rises = λ sorted. front_rises (take i files) (drop i files) (subst (IsSorted by_base) (sym (take-append-drop i files)) sorted)
          (λ k lt. subst (λ (fs : List FileName). IsApart (drop k fs)) (sym (take-append-drop i files)) (apart k (omega (arith, lt, length-take i files))));
      next = subst (λ (l : List Segment). IsNextRefused path (length l) (drop i files) why) (sym m) left;
      named = m ∙ n;
      formed = k ∙ f;
    }

no_rises : IsStrictlySortedBy by_base []
unfolding IsStrictlySortedBy
no_rises = tt

parts_at : (es : List End) (i : ℕ) (e : End) → i < length es → e ≡ slice_index_or es i e → es ≡ take i es ++ e ∷ drop (i + 1) es
parts_at es i e lt at =
    let front : take (i + 1) es ≡ take i es ++ e ∷ [] = take_more es i e lt ∙ ap (λ (x : End). take i es ++ x ∷ []) (sym at) in
    sym (take-append-drop (i + 1) es) ∙ (ap (λ (l : List End). l ++ drop (i + 1) es) front ∙ append_assoc (take i es) (e ∷ []) (drop (i + 1) es))

-- the folder of the partition at this place can't be listed
pub cut_unlisted : (holds : List ℕ → Entry) (folder : List ℕ) (es : List End) (i : ℕ) (e : End) (names : List Segment) (forms : List Form) (why : FolderFault) → i < length es
    → e ≡ slice_index_or es i e → AreNamed holds folder (take i es) names forms → IsUnread (path_of_end folder e) why → IsCut holds folder es names forms why
cut_unlisted holds folder es i e names forms why lt at are unread = record {
  front = take i es;
  end = e;
  back = drop (i + 1) es;
  parts = parts_at es i e lt at;
  early = names;
  early_forms = forms;
  before = are;
  taken = [];
  rises = no_rises;
  stopped = inl (refl, unread);
  named = sym (append-nil names);
  formed = sym (append-nil forms);
}

-- one of the files of the partition at this place is refused
pub cut_taken : (holds : List ℕ → Entry) (folder : List ℕ) (es : List End) (i : ℕ) (e : End) (names more : List Segment) (forms further : List Form) (files : List FileName) (why : FolderFault)
    → i < length es → e ≡ slice_index_or es i e → AreNamed holds folder (take i es) names forms → IsFound holds (path_of_end folder e) files
    → IsTakenTo e (path_of_end folder e) files names more forms further why → IsCut holds folder es more further why
cut_taken holds folder es i e names more forms further files why lt at are found t = record {
  front = take i es;
  end = e;
  back = drop (i + 1) es;
  parts = parts_at es i e lt at;
  early = names;
  early_forms = forms;
  before = are;
  taken = t.taken;
  rises = t.rises found.are.sorted;
  stopped = inr (t.later, subst (IsFound holds (path_of_end folder e)) t.parts found, t.next);
  named = t.named;
  formed = t.formed;
}
