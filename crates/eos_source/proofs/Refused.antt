-- What can become of a piece, by what its file's calls answer.
use Rattle.std.proofs.Common.{◌≡◌, ℕ, ◌≤◌, ◌⊎◌, inl, inr, List, length, Option, None, Some, Result, Ok, Err, IfOk, IfSome, refl, sym, subst, String, Global, string_bytes}
use Rattle.std.specs.Prelude.{slice_get}
use Rattle.std.proofs.lemmas.Option.{slice_get_past, slice_get_within}
use Rattle.eos_disk.specs.Entries.{Entry, Unknown, Absent, File, Folder, Leaves, MayLackFile}
use Rattle.eos_disk.specs.declared.fault.DiskFault.{DiskFault}
use Rattle.eos_disk.specs.declared.fault.DiskFault.TheVariants.{NotThere}
use Rattle.eos_evidence.specs.declared.segment.Segment.{Segment}
use Rattle.eos_disk.specs.declared.folder.FolderFault.{FolderFault}
use Rattle.eos_disk.specs.declared.folder.FolderFault.TheVariants.{CannotRead, Manifest, Limit, Fold, OutOfMemory}
use Rattle.eos_disk.specs.declared.cause.Cause.{Cause}
use Rattle.eos_disk.specs.declared.cause.Cause.TheVariants as causes
use Rattle.eos_disk.specs.declared.names.Form.{Form}
use Rattle.eos_disk.specs.declared.names.Form.TheVariants as in_form
use Rattle.eos_disk.specs.Paths.{segment_path}
use Rattle.eos_disk.specs.Refusals.{IsLong, IsLongPiece, IsSoAt, MayRefuse, RefusesFile, RefusesFold, RefusesPiece}
use Rattle.eos_fold_file.specs.declared.file.FoldFile.{FoldFile}
use Rattle.eos_fold_file.specs.Reading.{read_fold}
use Rattle.eos_source.proofs.Saying.{opened_leaves, fold_left}
use Rattle.eos_source.specs.steps.Folds.{IsFoldIn}
use Rattle.eos_source.specs.FolderRefusals.{IsForName, MayBePiece, OutcomeOf, OutcomeAt, IsOfAny}

-- ---- the refusals of a file

long_piece : (path : List ℕ) (cause : Cause) → IsLong path cause → IsLongPiece path cause
long_piece path (causes.LongFile named) h = h
long_piece path causes.Unknown h = absurd h
long_piece path causes.NoSuchFile h = absurd h
long_piece path causes.PermissionDenied h = absurd h
long_piece path causes.Folder h = absurd h
long_piece path causes.NotFolder h = absurd h
long_piece path (causes.Told words) h = absurd h
long_piece path (causes.Words words) h = absurd h
long_piece path (causes.LongFold named) h = absurd h
long_piece path (causes.ManySegments named) h = absurd h

file_piece : (path : List ℕ) (why : FolderFault) → RefusesFile path why → RefusesPiece path why
file_piece path (CannotRead named cause) h = h
file_piece path (Limit cause) h = long_piece path cause h
file_piece path (Manifest fault cause) h = absurd h
file_piece path (Fold named name cause) h = absurd h
file_piece path OutOfMemory h = tt

pub fold_piece : (path : List ℕ) (why : FolderFault) → RefusesFold path why → RefusesPiece path why
fold_piece path (Fold named name cause) h = h
fold_piece path (CannotRead named cause) h = absurd h
fold_piece path (Limit cause) h = absurd h
fold_piece path (Manifest fault cause) h = absurd h
fold_piece path OutOfMemory h = tt

pub fold_so : (path : List ℕ) (e : Entry) (why : FolderFault) → RefusesFold path why → MayRefuse e why
fold_so path e (Fold named name cause) h = tt
fold_so path e (CannotRead named cause) h = absurd h
fold_so path e (Limit cause) h = tt
fold_so path e (Manifest fault cause) h = tt
fold_so path e OutOfMemory h = tt

-- ---- of a piece

outcome_is : (holds : List ℕ → Entry) (folder : List ℕ) (names : List Segment) (forms : List Form) (piece : ℕ) (name : Segment) (form : Form) (o : Option FolderFault)
    → slice_get names piece ≡ Some name → slice_get forms piece ≡ Some form → OutcomeOf holds folder (Some name) (Some form) o → OutcomeAt holds folder names forms piece o
outcome_is holds folder names forms piece name form o n f h =
    subst (λ (x : Option Segment). OutcomeOf holds folder x (slice_get forms piece) o) (sym n) (subst (λ (x : Option Form). OutcomeOf holds folder (Some name) x o) (sym f) h)

pub memory_at : (holds : List ℕ → Entry) (folder : List ℕ) (names : List Segment) (forms : List Form) (piece : ℕ) (name : Segment) (form : Form) (why : FolderFault)
    → slice_get names piece ≡ Some name → slice_get forms piece ≡ Some form → why ≡ OutOfMemory → OutcomeAt holds folder names forms piece (Some why)
memory_at holds folder names forms piece name form why n f is =
    subst (λ (w : FolderFault). OutcomeAt holds folder names forms piece (Some w)) (sym is) (outcome_is holds folder names forms piece name form (Some OutOfMemory) n f (tt, tt))

outside : (holds : List ℕ → Entry) (folder : List ℕ) (name : Option Segment) (form : Option Form) → form ≡ None → OutcomeOf holds folder name form (Some (Limit causes.Unknown))
outside holds folder None form none = refl
outside holds folder (Some name) None none = refl
outside holds folder (Some name) (Some form) none = absurd (cc none)

-- there is no piece of this number
pub no_piece : (holds : List ℕ → Entry) (folder : List ℕ) (names : List Segment) (forms seen : List Form) (piece : ℕ) → seen ≡ forms → (length names ≤ piece) ⊎ (length seen ≤ piece)
    → OutcomeAt holds folder names forms piece (Some (Limit causes.Unknown))
no_piece holds folder names forms seen piece same (inl past) =
    subst (λ (n : Option Segment). OutcomeOf holds folder n (slice_get forms piece) (Some (Limit causes.Unknown))) (sym (slice_get_past names piece past)) refl
no_piece holds folder names forms seen piece same (inr past) =
    outside holds folder (slice_get names piece) (slice_get forms piece) (slice_get_past forms piece (subst (λ (fs : List Form). length fs ≤ piece) same past))

-- its file is refused while it is read
pub file_at : (holds : List ℕ → Entry) (folder : List ℕ) (names : List Segment) (forms : List Form) (piece : ℕ) (name : Segment) (form : Form) (path : List ℕ) (why : FolderFault)
    → slice_get names piece ≡ Some name → slice_get forms piece ≡ Some form → path ≡ segment_path folder name form → RefusesFile path why → ((e : Entry) → MayRefuse e why)
    → OutcomeAt holds folder names forms piece (Some why)
file_at holds folder names forms piece name form path why n f p h so =
    outcome_is holds folder names forms piece name form (Some why) n f (
      file_piece (segment_path folder name form) why (subst (λ (x : List ℕ). RefusesFile x why) p h),
      so (holds (segment_path folder name form)),
    )

-- it is no fold of its segment
pub piece_at : (holds : List ℕ → Entry) (folder : List ℕ) (names : List Segment) (forms : List Form) (piece : ℕ) (name : Segment) (why : FolderFault) → slice_get names piece ≡ Some name
    → slice_get forms piece ≡ Some in_form.Fold → RefusesPiece (segment_path folder name in_form.Fold) why → ((e : Entry) → MayRefuse e why)
    → OutcomeAt holds folder names forms piece (Some why)
piece_at holds folder names forms piece name why n f h so =
    outcome_is holds folder names forms piece name in_form.Fold (Some why) n f (h, so (holds (segment_path folder name in_form.Fold)))

-- the fold in its file is refused
pub fold_at : {E : Type 0} (holds : List ℕ → Entry) (folder : List ℕ) (names : List Segment) (forms : List Form) (piece : ℕ) (name : Segment) (form : Form) (path : Result (String Global) E) (why : FolderFault)
    → slice_get names piece ≡ Some name → slice_get forms piece ≡ Some form → IfOk path (λ named. string_bytes named ≡ segment_path folder name form)
    → ((at : List ℕ) → IfOk path (λ named. string_bytes named ≡ at) → RefusesFold at why) → OutcomeAt holds folder names forms piece (Some why)
fold_at holds folder names forms piece name form path why n f p h =
    let refused = h (segment_path folder name form) p in
    outcome_is holds folder names forms piece name form (Some why) n f (
      fold_piece (segment_path folder name form) why refused,
      fold_so (segment_path folder name form) (holds (segment_path folder name form)) why refused,
    )

-- its file can't be opened
pub unopened_at : {F : Type 0} (opened : Result F DiskFault) (holds : List ℕ → Entry) (folder : List ℕ) (names : List Segment) (forms : List Form) (piece : ℕ) (name : Segment) (form : Form)
    (asked path : List ℕ) (why : FolderFault) → slice_get names piece ≡ Some name → slice_get forms piece ≡ Some form → asked ≡ segment_path folder name form
    → path ≡ segment_path folder name form → (opened ≡ Err NotThere → MayLackFile (holds asked)) → RefusesFile path why
    → ((e : Entry) → (opened ≡ Err NotThere → MayLackFile e) → MayRefuse e why) → OutcomeAt holds folder names forms piece (Some why)
unopened_at opened holds folder names forms piece name form asked path why n f a p absent h so =
    outcome_is holds folder names forms piece name form (Some why) n f (
      file_piece (segment_path folder name form) why (subst (λ (x : List ℕ). RefusesFile x why) p h),
      subst (λ (x : List ℕ). MayRefuse (holds x) why) a (so (holds asked) absent),
    )

log_left : (name : Segment) (e : Entry) (left : Option (List ℕ)) → Leaves e left → MayBePiece name in_form.Log e
log_left name Unknown left l = tt
log_left name Absent left l = absurd l
log_left name (File bytes) left l = tt
log_left name (Folder names) left l = absurd l

fold_there : (name : Segment) (e : Entry) (fold : FoldFile) → IsFoldIn e fold → IsForName name fold → MayBePiece name in_form.Fold e
fold_there name Unknown fold h is = tt
fold_there name Absent fold h is = absurd h
fold_there name (File bytes) fold h is = (fold, h, is)
fold_there name (Folder names) fold h is = absurd h

-- its log was opened
pub opened_log : {F E : Type 0} (remains : F → Option (List ℕ)) (opened : Result F E) (file : F) (holds : List ℕ → Entry) (folder : List ℕ) (names : List Segment) (forms : List Form)
    (piece : ℕ) (name : Segment) (path : List ℕ) → slice_get names piece ≡ Some name → slice_get forms piece ≡ Some in_form.Log → path ≡ segment_path folder name in_form.Log
    → IfOk opened (λ f. Leaves (holds path) (remains f)) → opened ≡ Ok file → OutcomeAt holds folder names forms piece None
opened_log remains opened file holds folder names forms piece name path n f p l o =
    outcome_is holds folder names forms piece name in_form.Log None n f
    (subst (λ (x : List ℕ). MayBePiece name in_form.Log (holds x)) p (log_left name (holds path) (remains file) (opened_leaves remains (holds path) opened file l o)))

-- its fold was read, and says that it is of this segment
pub opened_fold : {F E : Type 0} (remains : F → Option (List ℕ)) (opened : Result F E) (file : F) (bytes : List ℕ) (fold : FoldFile) (holds : List ℕ → Entry) (folder : List ℕ)
    (names : List Segment) (forms : List Form) (piece : ℕ) (name : Segment) (path : List ℕ) → slice_get names piece ≡ Some name → slice_get forms piece ≡ Some in_form.Fold
    → path ≡ segment_path folder name in_form.Fold → IfOk opened (λ f. Leaves (holds path) (remains f)) → opened ≡ Ok file → IfSome (remains file) (λ xs. bytes ≡ xs)
    → read_fold bytes ≡ Ok fold → IsForName name fold → OutcomeAt holds folder names forms piece None
opened_fold remains opened file bytes fold holds folder names forms piece name path n f p l o h r is =
    let leaves = opened_leaves remains (holds path) opened file l o in
    outcome_is holds folder names forms piece name in_form.Fold None n f
    (subst (λ (x : List ℕ). MayBePiece name in_form.Fold (holds x)) p (fold_there name (holds path) fold (fold_left (holds path) (remains file) bytes fold leaves h r) is))

-- ---- of some piece

any_is : (holds : List ℕ → Entry) (folder : List ℕ) (names : List Segment) (forms : List Form) (piece : ℕ) (name : Segment) (why : FolderFault) → slice_get names piece ≡ Some name
    → OutcomeAt holds folder names forms piece (Some why) → IsOfAny (OutcomeAt holds folder names forms) (length names) why
any_is holds folder names forms piece name why n h = inl (piece, slice_get_within names piece name n, h)

pub memory_any : (holds : List ℕ → Entry) (folder : List ℕ) (names : List Segment) (forms : List Form) (piece : ℕ) (name : Segment) (form : Form) → slice_get names piece ≡ Some name
    → slice_get forms piece ≡ Some form → IsOfAny (OutcomeAt holds folder names forms) (length names) OutOfMemory
memory_any holds folder names forms piece name form n f = any_is holds folder names forms piece name OutOfMemory n (memory_at holds folder names forms piece name form OutOfMemory n f refl)

-- it isn't as it was
pub changed_any : (holds : List ℕ → Entry) (folder : List ℕ) (names : List Segment) (forms : List Form) (piece : ℕ) (name : Segment) (form : Form) (path : String Global) (cause : Cause)
    → slice_get names piece ≡ Some name → slice_get forms piece ≡ Some form → string_bytes path ≡ segment_path folder name form → ((e : Entry) → IsSoAt e cause)
    → IsOfAny (OutcomeAt holds folder names forms) (length names) (CannotRead path cause)
changed_any holds folder names forms piece name form path cause n f p so =
    any_is holds folder names forms piece name (CannotRead path cause) n
    (outcome_is holds folder names forms piece name form (Some (CannotRead path cause)) n f (p, so (holds (segment_path folder name form))))
