-- What was opened says what stands there.
use Rattle.std.proofs.Common.{◌≡◌, ℕ, List, Option, Some, IfSome, IfOk, Result, Ok, refl, sym, subst}
use Rattle.std.specs.Prelude.{slice_get}
use Rattle.eos_disk.specs.Entries.{Entry, Unknown, Absent, File, Folder, Leaves}
use Rattle.eos_evidence.specs.declared.segment.Segment.{Segment}
use Rattle.eos_fold_file.specs.declared.fault.FoldFault.{FoldFault}
use Rattle.eos_fold_file.specs.declared.file.FoldFile.{FoldFile}
use Rattle.eos_fold_file.specs.Reading.{read_fold}
use Rattle.eos_disk.specs.declared.names.Form.{Form}
use Rattle.eos_disk.specs.declared.names.Form.TheVariants.{Log, Fold}
use Rattle.eos_disk.specs.Paths.{segment_path}
use Rattle.eos_source.specs.Said.{Said, WillSay}
use Rattle.eos_source.specs.declared.source.Piece.TheVariants as pieces
use Rattle.eos_source.specs.Saying.{said_in, said_by, said_at}
use Rattle.eos_source.specs.steps.Folds.{IsFoldIn}

said_is : (holds : List ℕ → Entry) (folder : List ℕ) (names : List Segment) (forms : List Form) (piece : ℕ) (name : Segment) (form : Form)
    → slice_get names piece ≡ Some name → slice_get forms piece ≡ Some form → said_at holds folder names forms piece ≡ said_by form (holds (segment_path folder name form))
said_is holds folder names forms piece name form n f = rw (n, f) refl

-- the file that was opened
pub opened_leaves : {F E : Type 0} (remains : F → Option (List ℕ)) (e : Entry) (opened : Result F E) (file : F) → IfOk opened (λ f. Leaves e (remains f)) → opened ≡ Ok file → Leaves e (remains file)
opened_leaves remains e opened file l o = subst (λ r. IfOk r (λ f. Leaves e (remains f))) o l

-- ---- a log

log_said : {R : Type 0} (left : R → Option (List ℕ)) (reader : R) (e : Entry) → Leaves e (left reader) → IfSome (said_by Log e) (WillSay left (pieces.Log reader))
log_said left reader Unknown l = tt
log_said left reader Absent l = absurd l
log_said left reader (File bytes) l = l
log_said left reader (Folder names) l = absurd l

pub log_at : {F E R : Type 0} (remains : F → Option (List ℕ)) (left : R → Option (List ℕ)) (opened : Result F E) (file : F) (reader : R) (holds : List ℕ → Entry) (folder : List ℕ)
    (names : List Segment) (forms : List Form) (piece : ℕ) (name : Segment) (path : List ℕ) → slice_get names piece ≡ Some name → slice_get forms piece ≡ Some Log → path ≡ segment_path folder name Log
    → IfOk opened (λ f. Leaves (holds path) (remains f)) → opened ≡ Ok file → left reader ≡ remains file → IfSome (said_at holds folder names forms piece) (WillSay left (pieces.Log reader))
log_at remains left opened file reader holds folder names forms piece name path n f p l o r =
    let had = subst (λ (x : List ℕ). Leaves (holds x) (remains file)) p (opened_leaves remains (holds path) opened file l o) in
    let leaves : Leaves (holds (segment_path folder name Log)) (left reader) = subst (Leaves (holds (segment_path folder name Log))) (sym r) had in
    subst (λ (s : Option Said). IfSome s (WillSay left (pieces.Log reader))) (sym (said_is holds folder names forms piece name Log n f))
    (log_said left reader (holds (segment_path folder name Log)) leaves)

-- ---- a fold

pub fold_left : (e : Entry) (had : Option (List ℕ)) (bytes : List ℕ) (fold : FoldFile) → Leaves e had → IfSome had (λ xs. bytes ≡ xs) → read_fold bytes ≡ Ok fold → IsFoldIn e fold
fold_left Unknown had bytes fold l h r = tt
fold_left Absent had bytes fold l h r = absurd l
fold_left (File known) had bytes fold l h r =
    let same = subst (λ (o : Option (List ℕ)). IfSome o (λ xs. bytes ≡ xs)) l h in
    subst (λ (xs : List ℕ). read_fold xs ≡ Ok fold) same r
fold_left (Folder names) had bytes fold l h r = absurd l

fold_said : {R : Type 0} (left : R → Option (List ℕ)) (fold : FoldFile) (e : Entry) → IsFoldIn e fold → IfSome (said_by Fold e) (WillSay left (pieces.Fold fold))
fold_said left fold Unknown h = tt
fold_said left fold Absent h = absurd h
fold_said left fold (File bytes) h = subst (λ (r : Result FoldFile FoldFault). IfSome (said_in r) (WillSay left (pieces.Fold fold))) (sym h) refl
fold_said left fold (Folder names) h = absurd h

pub fold_at : {F E R : Type 0} (remains : F → Option (List ℕ)) (left : R → Option (List ℕ)) (opened : Result F E) (file : F) (bytes : List ℕ) (fold : FoldFile) (holds : List ℕ → Entry)
    (folder : List ℕ) (names : List Segment) (forms : List Form) (piece : ℕ) (name : Segment) (path : List ℕ) → slice_get names piece ≡ Some name → slice_get forms piece ≡ Some Fold
    → path ≡ segment_path folder name Fold → IfOk opened (λ f. Leaves (holds path) (remains f)) → opened ≡ Ok file → IfSome (remains file) (λ xs. bytes ≡ xs) → read_fold bytes ≡ Ok fold
    → IfSome (said_at holds folder names forms piece) (WillSay left (pieces.Fold fold))
fold_at remains left opened file bytes fold holds folder names forms piece name path n f p l o h r =
    let had = subst (λ (x : List ℕ). Leaves (holds x) (remains file)) p (opened_leaves remains (holds path) opened file l o) in
    let stands = holds (segment_path folder name Fold) in
    subst (λ (s : Option Said). IfSome s (WillSay left (pieces.Fold fold))) (sym (said_is holds folder names forms piece name Fold n f))
    (fold_said left fold stands (fold_left stands (remains file) bytes fold had h r))
