-- What a refusal says that is the first of a folder: a path that it names is below the folder, and the manifest is refused by what stands there.
use Rattle.std.proofs.Common.{◌≡◌, inl, inr, ℕ, ℤ, Bool, List, [], ◌∷◌, ◌++◌, length, Option, None, Some, Err, codes, refl, sym, ap, subst, ◌∙◌, append_assoc}
use Rattle.eos_disk.specs.Entries.{Entry, HasBytes}
use Rattle.eos_disk.specs.Paths.{manifest_path, partition_path, path_of_end, file_path, segment_path, padded_base, ending_of}
use Rattle.eos_disk.specs.Refusals.{IsLong, IsLongPiece, IsUnread, RefusesManifest, RefusesPiece}
use Rattle.eos_disk.specs.Stopped.{IsManyBy, IsNextRefused, IsStopped, AreListedTo}
use Rattle.eos_disk.specs.declared.cause.Cause.{Cause}
use Rattle.eos_disk.specs.declared.cause.Cause.TheVariants as causes
use Rattle.eos_disk.specs.declared.folder.FolderFault.{FolderFault}
use Rattle.eos_disk.specs.declared.folder.FolderFault.TheVariants.{CannotRead, Manifest, Limit, Fold, OutOfMemory}
use Rattle.eos_disk.specs.declared.names.Form.{Form}
use Rattle.eos_disk.specs.declared.names.Form.TheVariants as in_form
use Rattle.eos_evidence.specs.declared.fault.SpecFault.{SpecFault}
use Rattle.eos_evidence.specs.declared.partition.Partition.{Partition}
use Rattle.eos_evidence.specs.declared.segment.Segment.{Segment}
use Rattle.eos_evidence.specs.Evidence.{segments_of}
use Rattle.eos_evidence.specs.Manifest.{spec_said_by}
use Rattle.eos_source.specs.FolderRefusals.{IsOfAny, OutcomeOf, OutcomeAt}
use Rattle.eos_source.specs.Refusals.{IsRefusal}
use Rattle.std.specs.Fmt.{signed_decimal}
use Rattle.std.specs.Prelude.{slice_get}
use Rattle.std.specs.Str.Lossy.{utf8_lossy}
use Rattle.eos_source.specs.Named.{IsBelow, NamesBy, Names}
use Rattle.eos_source.specs.FirstRefusals.{IsOfPieces, IsFirstOfFolder}

-- ---- paths below a folder

below_more : (folder path rest : List ℕ) → IsBelow folder path → IsBelow folder (path ++ rest)
below_more folder path rest b = (
  b.0 ++ rest,
  ap (λ (xs : List ℕ). xs ++ rest) b.1 ∙ (append_assoc folder (codes "/" ++ b.0) rest ∙ ap (λ (xs : List ℕ). folder ++ xs) (append_assoc (codes "/") b.0 rest)),
)

below_manifest : (folder : List ℕ) → IsBelow folder (manifest_path folder)
below_manifest folder = (codes "evidence.json", refl)

pub below_partition : (folder topic : List ℕ) (number : ℤ) → IsBelow folder (partition_path folder topic number)
below_partition folder topic number = (utf8_lossy topic ++ (codes "-" ++ signed_decimal number), refl)

below_file : (folder path : List ℕ) (base : ℤ) (form : Form) → IsBelow folder path → IsBelow folder (file_path path base form)
below_file folder path base form b = below_more folder path (codes "/" ++ (padded_base base ++ ending_of form)) b

pub below_segment : (folder : List ℕ) (name : Segment) (form : Form) → IsBelow folder (segment_path folder name form)
below_segment folder name form = below_file folder (partition_path folder name.topic name.partition) name.base form (below_partition folder name.topic name.partition)

-- ---- what is named

long_named : (path p : List ℕ) (cause : Cause) → IsLong path cause → NamesBy cause p → p ≡ path
long_named path p (causes.LongFile named) h n = sym n ∙ h
long_named path p (causes.LongFold named) h n = absurd h
long_named path p (causes.ManySegments named) h n = absurd h
long_named path p causes.Unknown h n = absurd h
long_named path p causes.NoSuchFile h n = absurd h
long_named path p causes.PermissionDenied h n = absurd h
long_named path p causes.Folder h n = absurd h
long_named path p causes.NotFolder h n = absurd h
long_named path p (causes.Told words) h n = absurd h
long_named path p (causes.Words words) h n = absurd h

long_piece_named : (path p : List ℕ) (cause : Cause) → IsLongPiece path cause → NamesBy cause p → p ≡ path
long_piece_named path p (causes.LongFile named) h n = sym n ∙ h
long_piece_named path p (causes.LongFold named) h n = sym n ∙ h
long_piece_named path p (causes.ManySegments named) h n = absurd h
long_piece_named path p causes.Unknown h n = absurd h
long_piece_named path p causes.NoSuchFile h n = absurd h
long_piece_named path p causes.PermissionDenied h n = absurd h
long_piece_named path p causes.Folder h n = absurd h
long_piece_named path p causes.NotFolder h n = absurd h
long_piece_named path p (causes.Told words) h n = absurd h
long_piece_named path p (causes.Words words) h n = absurd h

many_named : (path p : List ℕ) (cause : Cause) → IsManyBy path cause → NamesBy cause p → p ≡ path
many_named path p (causes.ManySegments named) h n = sym n ∙ h
many_named path p (causes.LongFile named) h n = absurd h
many_named path p (causes.LongFold named) h n = absurd h
many_named path p causes.Unknown h n = absurd h
many_named path p causes.NoSuchFile h n = absurd h
many_named path p causes.PermissionDenied h n = absurd h
many_named path p causes.Folder h n = absurd h
many_named path p causes.NotFolder h n = absurd h
many_named path p (causes.Told words) h n = absurd h
many_named path p (causes.Words words) h n = absurd h

piece_named : (path p : List ℕ) (why : FolderFault) → RefusesPiece path why → Names why p → p ≡ path
piece_named path p (CannotRead named cause) h n = sym n ∙ h
piece_named path p (Limit cause) h n = long_piece_named path p cause h n
piece_named path p (Manifest fault cause) h n = absurd h
piece_named path p (Fold named name cause) h n = sym n ∙ h
piece_named path p OutOfMemory h n = absurd n

-- ---- of the manifest

manifest_named : (holds : List ℕ → Entry) (path p : List ℕ) (why : FolderFault) → RefusesManifest holds path why → Names why p → p ≡ path
manifest_named holds path p (CannotRead named cause) h n = sym n ∙ h.0
manifest_named holds path p (Limit cause) h n = long_named path p cause h n
manifest_named holds path p (Manifest fault cause) h n = absurd n
manifest_named holds path p (Fold named name cause) h n = absurd h
manifest_named holds path p OutOfMemory h n = absurd n

-- ---- of a piece

no_words : (why : FolderFault) (p : List ℕ) → why ≡ Limit causes.Unknown → Names why p → ⊥
no_words why p e n = subst (λ (w : FolderFault). Names w p) e n

no_memory : (why : FolderFault) (p : List ℕ) → why ≡ OutOfMemory → Names why p → ⊥
no_memory why p e n = subst (λ (w : FolderFault). Names w p) e n

outcome_below : (holds : List ℕ → Entry) (folder p : List ℕ) (why : FolderFault) (name : Option Segment) (form : Option Form) → OutcomeOf holds folder name form (Some why) → Names why p → IsBelow folder p
outcome_below holds folder p why None form h n = absurd (no_words why p (cc h) n)
outcome_below holds folder p why (Some name) None h n = absurd (no_words why p (cc h) n)
outcome_below holds folder p why (Some name) (Some form) h n =
    subst (IsBelow folder) (sym (piece_named (segment_path folder name form) p why h.0 n)) (below_segment folder name form)

any_below : (holds : List ℕ → Entry) (folder p : List ℕ) (names : List Segment) (forms : List Form) (pieces : ℕ) (why : FolderFault) → IsOfAny (OutcomeAt holds folder names forms) pieces why
    → Names why p → IsBelow folder p
any_below holds folder p names forms pieces why (inl one) n = outcome_below holds folder p why (slice_get names one.0) (slice_get forms one.0) one.2 n
any_below holds folder p names forms pieces why (inr none) n = absurd (no_words why p none n)

first_below : (holds : List ℕ → Entry) (folder p : List ℕ) (names : List Segment) (forms : List Form) (pieces : ℕ) (why : FolderFault)
    → IsRefusal (OutcomeAt holds folder names forms) (λ w. w ≡ OutOfMemory) pieces why → Names why p → IsBelow folder p
first_below holds folder p names forms pieces why (inl first) n = outcome_below holds folder p why (slice_get names first.piece) (slice_get forms first.piece) first.refused n
first_below holds folder p names forms pieces why (inr memory) n = absurd (no_memory why p memory n)

pieces_below : (holds : List ℕ → Entry) (folder p : List ℕ) (names : List Segment) (forms : List Form) (pieces : ℕ) (all : Bool) (why : FolderFault)
    → IsOfPieces (OutcomeAt holds folder names forms) pieces all why → Names why p → IsBelow folder p
pieces_below holds folder p names forms pieces all why (inl first) n = first_below holds folder p names forms pieces why first n
pieces_below holds folder p names forms pieces all why (inr again) n = any_below holds folder p names forms pieces why again.2 n

-- ---- of the listing

unread_named : (path p : List ℕ) (why : FolderFault) → IsUnread path why → Names why p → p ≡ path
unread_named path p (CannotRead named cause) h n = sym n ∙ h
unread_named path p (Limit cause) h n = absurd h
unread_named path p (Manifest fault cause) h n = absurd h
unread_named path p (Fold named name cause) h n = absurd h
unread_named path p OutOfMemory h n = absurd n

next_below : (folder path p : List ℕ) (many : ℕ) (files : List _) (why : FolderFault) → IsBelow folder path → IsNextRefused path many files why → Names why p → IsBelow folder p
next_below folder path p many files (Limit cause) b h n =
    let file = h.0 in
    subst (IsBelow folder) (sym (many_named (file_path path file.base file.form) p cause h.4 n)) (below_file folder path file.base file.form b)
next_below folder path p many files (Fold named name cause) b h n = subst (IsBelow folder) (sym (sym n ∙ h.2)) (below_file folder path h.0.base in_form.Fold b)
next_below folder path p many files (CannotRead named cause) b h n = absurd h
next_below folder path p many files (Manifest fault cause) b h n = absurd h
next_below folder path p many files OutOfMemory b h n = absurd n

stopped_below : (holds : List ℕ → Entry) (folder path p : List ℕ) (many : ℕ) (taken : List _) (why : FolderFault) → IsBelow folder path → IsStopped holds path many taken why → Names why p
    → IsBelow folder p
stopped_below holds folder path p many taken why b (inl unread) n = subst (IsBelow folder) (sym (unread_named path p why unread.1 n)) b
stopped_below holds folder path p many taken why b (inr next) n = next_below folder path p many next.0 why b next.2 n

listing_below : (holds : List ℕ → Entry) (folder p : List ℕ) (many : ℕ) (why : FolderFault) (ps : List Partition) (forms : List Form) → AreListedTo holds folder many why ps forms → Names why p → IsBelow folder p
listing_below holds folder p many why [] forms h n = absurd h
listing_below holds folder p many why (q ∷ ps) forms (inl later) n = listing_below holds folder p many why ps later.1 later.5 n
listing_below holds folder p many why (q ∷ ps) forms (inr here) n = stopped_below holds folder (path_of_end folder q.end) p many here.0 why (below_partition folder q.end.topic q.end.partition) here.1 n

pub named_below : (holds : List ℕ → Entry) (folder : List ℕ) (all : Bool) (why : FolderFault) (path : List ℕ) → IsFirstOfFolder holds folder all why → Names why path → IsBelow folder path
named_below holds folder all why path (inl manifest) n = subst (IsBelow folder) (sym (manifest_named holds (manifest_path folder) path why manifest n)) (below_manifest folder)
named_below holds folder all why path (inr (inl piece)) n = pieces_below holds folder path (segments_of piece.shape.partitions) piece.forms _ all why piece.refused n
named_below holds folder all why path (inr (inr listing)) n = listing_below holds folder path _ why listing.shape.partitions listing.forms listing.is.listed n

-- ---- the manifest

outcome_other : (holds : List ℕ → Entry) (folder : List ℕ) (fault : SpecFault) (cause : Cause) (name : Option Segment) (form : Option Form) → OutcomeOf holds folder name form (Some (Manifest fault cause)) → ⊥
outcome_other holds folder fault cause None form h = cc h
outcome_other holds folder fault cause (Some name) None h = cc h
outcome_other holds folder fault cause (Some name) (Some form) h = h.0

any_other : (holds : List ℕ → Entry) (folder : List ℕ) (names : List Segment) (forms : List Form) (pieces : ℕ) (fault : SpecFault) (cause : Cause)
    → IsOfAny (OutcomeAt holds folder names forms) pieces (Manifest fault cause) → ⊥
any_other holds folder names forms pieces fault cause (inl one) = outcome_other holds folder fault cause (slice_get names one.0) (slice_get forms one.0) one.2
any_other holds folder names forms pieces fault cause (inr none) = cc none

first_other : (holds : List ℕ → Entry) (folder : List ℕ) (names : List Segment) (forms : List Form) (pieces : ℕ) (fault : SpecFault) (cause : Cause)
    → IsRefusal (OutcomeAt holds folder names forms) (λ w. w ≡ OutOfMemory) pieces (Manifest fault cause) → ⊥
first_other holds folder names forms pieces fault cause (inl first) = outcome_other holds folder fault cause (slice_get names first.piece) (slice_get forms first.piece) first.refused
first_other holds folder names forms pieces fault cause (inr memory) = cc memory

pieces_other : (holds : List ℕ → Entry) (folder : List ℕ) (names : List Segment) (forms : List Form) (pieces : ℕ) (all : Bool) (fault : SpecFault) (cause : Cause)
    → IsOfPieces (OutcomeAt holds folder names forms) pieces all (Manifest fault cause) → ⊥
pieces_other holds folder names forms pieces all fault cause (inl first) = first_other holds folder names forms pieces fault cause first
pieces_other holds folder names forms pieces all fault cause (inr again) = any_other holds folder names forms pieces fault cause again.2

stopped_other : (holds : List ℕ → Entry) (path : List ℕ) (many : ℕ) (taken : List _) (fault : SpecFault) (cause : Cause) → IsStopped holds path many taken (Manifest fault cause) → ⊥
stopped_other holds path many taken fault cause (inl unread) = unread.1
stopped_other holds path many taken fault cause (inr next) = next.2

listing_other : (holds : List ℕ → Entry) (folder : List ℕ) (many : ℕ) (fault : SpecFault) (cause : Cause) (ps : List Partition) (forms : List Form) → AreListedTo holds folder many (Manifest fault cause) ps forms → ⊥
listing_other holds folder many fault cause [] forms h = h
listing_other holds folder many fault cause (q ∷ ps) forms (inl later) = listing_other holds folder many fault cause ps later.1 later.5
listing_other holds folder many fault cause (q ∷ ps) forms (inr stop) = stopped_other holds (path_of_end folder q.end) many stop.0 fault cause stop.1

pub manifest_refused : (holds : List ℕ → Entry) (folder : List ℕ) (all : Bool) (fault : SpecFault) (cause : Cause) → IsFirstOfFolder holds folder all (Manifest fault cause)
    → (text : List ℕ) × HasBytes (holds (manifest_path folder)) text × (spec_said_by text ≡ Err fault)
manifest_refused holds folder all fault cause (inl manifest) = manifest
manifest_refused holds folder all fault cause (inr (inl piece)) = absurd (pieces_other holds folder (segments_of piece.shape.partitions) piece.forms _ all fault cause piece.refused)
manifest_refused holds folder all fault cause (inr (inr listing)) = absurd (listing_other holds folder (length listing.forms) fault cause listing.shape.partitions listing.forms listing.is.listed)
