-- The first fold of the files of a partition.
use Rattle.std.proofs.Common.{◌≡◌, ◌<◌, ◌+◌, ℕ, List, [], ◌∷◌, ◌++◌, length, take, drop, slice_index_or, inr, sym, ap, ◌∙◌, subst}
use Rattle.std.proofs.lemmas.List.{take_more, drop_more, take-append-drop}
use Rattle.std.specs.List.{AllByRecursion}
use Rattle.eos_disk.specs.Entries.{Entry}
use Rattle.eos_disk.specs.declared.folder.FolderFault.{FolderFault}
use Rattle.eos_disk.specs.declared.names.FileName.{FileName}
use Rattle.eos_disk.specs.declared.names.Form.TheVariants.{Log, Fold}
use Rattle.eos_disk.specs.Paths.{file_path}
use Rattle.eos_disk.specs.Refusals.{RefusesFold}
use Rattle.eos_disk.specs.Shapes.{IsFound}
use Rattle.eos_disk.specs.Stopped.{IsFirstFold, RefusesLogs}

abbrev pub AreLogs : List FileName → Type 0
AreLogs = AllByRecursion (λ f. f.form ≡ Log)

logs_append : (xs ys : List FileName) → AreLogs xs → AreLogs ys → AreLogs (xs ++ ys)
logs_append [] ys a b = b
logs_append (x ∷ xs) ys a b = (a.0, logs_append xs ys a.1 b)

pub log_next : (files : List FileName) (i : ℕ) (d file : FileName) → i < length files → file ≡ slice_index_or files i d → file.form ≡ Log → AreLogs (take i files) → AreLogs (take (i + 1) files)
log_next files i d file lt at log all =
    let front : take (i + 1) files ≡ take i files ++ file ∷ [] = take_more files i d lt ∙ ap (λ (x : FileName). take i files ++ x ∷ []) (sym at) in
    subst AreLogs (sym front) (logs_append (take i files) (file ∷ []) all (log, tt))

pub fold_at : (files : List FileName) (i : ℕ) (d file : FileName) → i < length files → file ≡ slice_index_or files i d → file.form ≡ Fold → AreLogs (take i files) → IsFirstFold files file
fold_at files i d file lt at fold all = record {
  before = take i files;
  later = drop (i + 1) files;
  are = sym (take-append-drop i files) ∙ ap (λ (fs : List FileName). take i files ++ fs) (drop_more files i d lt ∙ ap (λ (x : FileName). x ∷ drop (i + 1) files) (sym at));
  logs = all;
  is = fold;
}

pub fold_refused : (holds : List ℕ → Entry) (path : List ℕ) (files lent : List FileName) (fold : FileName) (why : FolderFault) → lent ≡ files → IsFound holds path files → IsFirstFold lent fold
    → RefusesFold (file_path path fold.base fold.form) why → RefusesLogs holds path why
fold_refused holds path files lent fold why is found first refused = inr (files, fold, found, subst (λ (fs : List FileName). IsFirstFold fs fold) is first, refused)
