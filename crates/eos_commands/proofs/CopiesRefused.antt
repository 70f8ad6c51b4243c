-- Which refusal it is of a copied log, one segment and one partition after the other.
use Rattle.std.proofs.Common.{◌≡◌, ◌<◌, ◌+◌, ◌⊎◌, arith, ℕ, zero, suc, ℤ, Some, List, [], ◌∷◌, true, length, get_or, take, drop, slice_index_or, inl, inr, refl, sym, ap, ◌∙◌, subst}
use Rattle.std.specs.List.{AllByRecursion, slice_get}
use Rattle.std.proofs.lemmas.Option.{none-some, same_Some}
use Rattle.eos_base.specs.Members.{Has, is_found}
use Rattle.eos_base.specs.PartitionNames.{name_cmp}
use Rattle.eos_base.specs.declared.partition_name.PartitionName.{PartitionName}
use Rattle.eos_disk.specs.Entries.{Entry, HasBytes}
use Rattle.eos_disk.specs.Paths.{file_path, path_of_end}
use Rattle.eos_disk.specs.Shapes.{AreLogsAt}
use Rattle.eos_disk.specs.Stopped.{RefusesLogs}
use Rattle.eos_disk.specs.declared.folder.FolderFault.{FolderFault}
use Rattle.eos_disk.specs.declared.names.Form.TheVariants.{Log}
use Rattle.eos_evidence.specs.declared.application.App.{App}
use Rattle.eos_evidence.specs.declared.ends.End.{End}
use Rattle.eos_commands.specs.Copies.{AreListedBy, AreAsked, AreEndsOfCopies, is_states, path_of_name}
use Rattle.eos_commands.specs.InitRefusals.{RefusesBy, RefusesAt, IsReadAt, IsFirstUnread, RefusesCopy, RefusesStates, RefusesEnd, RefusesCopies}
use Rattle.eos_commands.specs.declared.init_fault.InitFault.{InitFault}
use Rattle.eos_commands.specs.declared.init_fault.InitFault.TheVariants.{ThereAlready, App as NoApp, Unread, CannotWrite, Line, NoEnd, Apps, Ends, Limit, OutOfMemory}
use Rattle.eos_commands.proofs.Asked.{path_same}
use Rattle.eos_commands.proofs.FoldsRefused.{parts_at, all_next}

-- ---- by a file

pub by_weaker : (P Q : FolderFault → Type 0) (why : InitFault) → ((w : FolderFault) → P w → Q w) → RefusesBy P why → RefusesBy Q why
by_weaker P Q (Unread w) f h = f w h
by_weaker P Q (ThereAlready path) f h = h
by_weaker P Q (NoApp at) f h = h
by_weaker P Q (CannotWrite path) f h = h
by_weaker P Q (Line number) f h = h
by_weaker P Q (NoEnd name) f h = h
by_weaker P Q (Apps fault) f h = h
by_weaker P Q (Ends fault) f h = h
by_weaker P Q Limit f h = h
by_weaker P Q OutOfMemory f h = h

by_end : (P : FolderFault → Type 0) (holds : List ℕ → Entry) (path : List ℕ) (why : InitFault) → ((w : FolderFault) → P w → RefusesCopy holds path w) → RefusesBy P why → RefusesEnd holds path why
by_end P holds path (Unread w) f h = f w h
by_end P holds path (ThereAlready at) f h = h
by_end P holds path (NoApp at) f h = h
by_end P holds path (CannotWrite at) f h = h
by_end P holds path (Line number) f h = h
by_end P holds path (NoEnd name) f h = h
by_end P holds path (Apps fault) f h = h
by_end P holds path (Ends fault) f h = h
by_end P holds path Limit f h = absurd h
by_end P holds path OutOfMemory f h = h

-- ---- of one partition

pub listed_read : (holds : List ℕ → Entry) (path : List ℕ) (bases : List ℤ) (listed : List PartitionName) → AreListedBy holds path bases listed → AllByRecursion (IsReadAt holds path) bases
listed_read holds path [] listed are = tt
listed_read holds path (base ∷ bases) listed are = ((are.0, are.3), listed_read holds path bases are.2 are.6)

first_unread : (holds : List ℕ → Entry) (path : List ℕ) (bases : List ℤ) (i : ℕ) (d base : ℤ) (why : FolderFault) → i < length bases → base ≡ get_or bases i d
    → AllByRecursion (IsReadAt holds path) (take i bases) → RefusesAt holds (file_path path base Log) why → IsFirstUnread holds path bases why
first_unread holds path bases i d base why lt at read refused =
    record { before = take i bases; base = base; later = drop (i + 1) bases; are = parts_at bases i d base lt at; read = read; refused = refused }

pub unread_at : (holds : List ℕ → Entry) (path : List ℕ) (bases : List ℤ) (i : ℕ) (d base : ℤ) (why : InitFault) → i < length bases → base ≡ get_or bases i d
    → AllByRecursion (IsReadAt holds path) (take i bases) → RefusesBy (RefusesAt holds (file_path path base Log)) why → RefusesBy (IsFirstUnread holds path bases) why
unread_at holds path bases i d base why lt at read refused =
    by_weaker (RefusesAt holds (file_path path base Log)) (IsFirstUnread holds path bases) why (λ w h. first_unread holds path bases i d base w lt at read h) refused

pub read_next : (holds : List ℕ → Entry) (path : List ℕ) (bases : List ℤ) (i : ℕ) (d base : ℤ) (bytes : List ℕ) → i < length bases → base ≡ get_or bases i d
    → AllByRecursion (IsReadAt holds path) (take i bases) → HasBytes (holds (file_path path base Log)) bytes → AllByRecursion (IsReadAt holds path) (take (i + 1) bases)
read_next holds path bases i d base bytes lt at read has = all_next (IsReadAt holds path) bases i d base lt at read (bytes, has)

unlisted_copy : (holds : List ℕ → Entry) (folder : List ℕ) (e : End) (name : PartitionName) (w : FolderFault) → e.topic ≡ name.topic → e.partition ≡ name.partition
    → RefusesLogs holds (path_of_end folder e) w → RefusesCopy holds (path_of_name folder name) w
unlisted_copy holds folder e name w p q h = inl (subst (λ (path : List ℕ). RefusesLogs holds path w) (path_same folder e name p q) h)

unread_copy : (holds : List ℕ → Entry) (folder : List ℕ) (e : End) (name : PartitionName) (bases lent : List ℤ) (w : FolderFault) → e.topic ≡ name.topic → e.partition ≡ name.partition → lent ≡ bases
    → AreLogsAt holds (path_of_end folder e) bases → IsFirstUnread holds (path_of_end folder e) lent w → RefusesCopy holds (path_of_name folder name) w
unread_copy holds folder e name bases lent w p q is logs h =
    subst (λ (path : List ℕ). RefusesCopy holds path w) (path_same folder e name p q)
    (inr (bases, logs, subst (λ (bs : List ℤ). IsFirstUnread holds (path_of_end folder e) bs w) is h))

pub of_listing : (holds : List ℕ → Entry) (folder : List ℕ) (e : End) (name : PartitionName) (why : InitFault) → e.topic ≡ name.topic → e.partition ≡ name.partition
    → RefusesBy (RefusesLogs holds (path_of_end folder e)) why → RefusesBy (RefusesCopy holds (path_of_name folder name)) why
of_listing holds folder e name why p q h =
    by_weaker (RefusesLogs holds (path_of_end folder e)) (RefusesCopy holds (path_of_name folder name)) why (λ w r. unlisted_copy holds folder e name w p q r) h

pub of_segments : (holds : List ℕ → Entry) (folder : List ℕ) (e : End) (name : PartitionName) (bases lent : List ℤ) (why : InitFault) → e.topic ≡ name.topic → e.partition ≡ name.partition → lent ≡ bases
    → AreLogsAt holds (path_of_end folder e) bases → RefusesBy (IsFirstUnread holds (path_of_end folder e) lent) why → RefusesBy (RefusesCopy holds (path_of_name folder name)) why
of_segments holds folder e name bases lent why p q is logs h =
    by_weaker (IsFirstUnread holds (path_of_end folder e) lent) (RefusesCopy holds (path_of_name folder name)) why (λ w r. unread_copy holds folder e name bases lent w p q is logs r) h

pub end_unlisted : (holds : List ℕ → Entry) (folder : List ℕ) (e : End) (name : PartitionName) (why : InitFault) → e.topic ≡ name.topic → e.partition ≡ name.partition
    → RefusesBy (RefusesLogs holds (path_of_end folder e)) why → RefusesEnd holds (path_of_name folder name) why
end_unlisted holds folder e name why p q h =
    by_end (RefusesLogs holds (path_of_end folder e)) holds (path_of_name folder name) why (λ w r. unlisted_copy holds folder e name w p q r) h

pub end_unread : (holds : List ℕ → Entry) (folder : List ℕ) (e : End) (name : PartitionName) (bases lent : List ℤ) (why : InitFault) → e.topic ≡ name.topic → e.partition ≡ name.partition → lent ≡ bases
    → AreLogsAt holds (path_of_end folder e) bases → RefusesBy (IsFirstUnread holds (path_of_end folder e) lent) why → RefusesEnd holds (path_of_name folder name) why
end_unread holds folder e name bases lent why p q is logs h =
    by_end (IsFirstUnread holds (path_of_end folder e) lent) holds (path_of_name folder name) why (λ w r. unread_copy holds folder e name bases lent w p q is logs r) h

-- ---- of one of several

pub states_at : (holds : List ℕ → Entry) (folder : List ℕ) (apps : List App) (folders : List PartitionName) (i : ℕ) (name : PartitionName) (listed : List PartitionName) (why : InitFault) → i < length folders
    → name ≡ slice_index_or folders i name → AreAsked holds folder apps (take i folders) listed
    → (why ≡ OutOfMemory) ⊎ ((is_states name.topic ≡ true) × RefusesBy (RefusesCopy holds (path_of_name folder name)) why) → (why ≡ OutOfMemory) ⊎ RefusesStates holds folder apps folders why
states_at holds folder apps folders i name listed why lt at asked (inl memory) = inl memory
states_at holds folder apps folders i name listed why lt at asked (inr h) = inr (record {
  before = take i folders;
  name = name;
  later = drop (i + 1) folders;
  are = parts_at folders i name name lt at;
  listed = listed;
  asked = asked;
  lists = h.0;
  refused = h.1;
})

pub copies_at : (holds : List ℕ → Entry) (folder : List ℕ) (folders names : List PartitionName) (i : ℕ) (name : PartitionName) (ends : List End) (why : InitFault) → i < length names
    → name ≡ slice_index_or names i name → AreEndsOfCopies holds folder folders (take i names) ends
    → (why ≡ OutOfMemory) ⊎ ((is_found name_cmp folders name ≡ true) × RefusesEnd holds (path_of_name folder name) why) → (why ≡ OutOfMemory) ⊎ RefusesCopies holds folder folders names why
copies_at holds folder folders names i name ends why lt at copied (inl memory) = inl memory
copies_at holds folder folders names i name ends why lt at copied (inr h) = inr (record {
  before = take i names;
  name = name;
  later = drop (i + 1) names;
  are = parts_at names i name name lt at;
  ends = ends;
  copied = copied;
  there = h.0;
  refused = h.1;
})

-- ---- of which notes are told

has_at : {X : Type 0} (xs : List X) (i : ℕ) (d : X) → i < length xs → Has xs (get_or xs i d)
has_at [] i d lt = absurd (omega (arith, lt))
has_at (x ∷ xs) zero d lt = inl refl
has_at (x ∷ xs) (suc i) d lt = inr (has_at xs i d (omega (arith, lt)))

pub note_unlisted : (holds : List ℕ → Entry) (path : List ℕ) (why : InitFault) → RefusesBy (RefusesLogs holds path) why → RefusesBy (RefusesCopy holds path) why
note_unlisted holds path why h = by_weaker (RefusesLogs holds path) (RefusesCopy holds path) why (λ w r. inl r) h

pub note_unread : (holds : List ℕ → Entry) (path : List ℕ) (bases lent : List ℤ) (first base : ℤ) (why : InitFault) → lent ≡ bases → Some first ≡ slice_get lent 0 → base ≡ first → AreLogsAt holds path bases
    → RefusesBy (RefusesAt holds (file_path path base Log)) why → RefusesBy (RefusesCopy holds path) why
note_unread holds path bases [] first base why is at same logs h = absurd (none-some first (sym at))
note_unread holds path bases (b ∷ lent) first base why is at same logs h =
    by_weaker (RefusesAt holds (file_path path base Log)) (RefusesCopy holds path) why
    (λ w r. inr (
      bases,
      logs,
      subst (λ (bs : List ℤ). IsFirstUnread holds path bs w) is (record {
        before = [];
        base = base;
        later = lent;
        are = ap (λ (x : ℤ). x ∷ lent) (same_Some b first (sym at) ∙ sym same);
        read = tt;
        refused = r;
      }),
    )) h

pub noted_at : (holds : List ℕ → Entry) (folder : List ℕ) (ends lent : List End) (i : ℕ) (e : End) (why : InitFault) → i < length lent → e ≡ slice_index_or lent i e → lent ≡ ends
    → RefusesBy (RefusesCopy holds (path_of_end folder e)) why → (why ≡ OutOfMemory) ⊎ ((f : End) × Has ends f × RefusesBy (RefusesCopy holds (path_of_end folder f)) why)
noted_at holds folder ends lent i e why lt at is h =
    inr (e, subst (λ (es : List End). Has es e) is (subst (λ (f : End). Has lent f) (sym at) (has_at lent i e lt)), h)
