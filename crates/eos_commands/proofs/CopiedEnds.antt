-- Where copied logs end, one segment and one partition after the other.
use Rattle.std.proofs.Common.{◌≡◌, ◌≢◌, ◌<◌, ◌≤◌, ◌+◌, ◌↔◌, ◌++◌, ◌∷◌, [], ℕ, ℤ, pos, List, Bool, true, false, length, get_or, take, drop, refl, sym, ap, ◌∙◌, subst, append_assoc, append-nil, slice_index_or, inl, inr}
use Rattle.std.proofs.lemmas.Bool.{false≢true}
use Rattle.std.proofs.lemmas.List.{take_more, drop_more, drop_all}
use Rattle.eos_base.specs.Members.{is_found}
use Rattle.eos_base.specs.PartitionNames.{name_cmp}
use Rattle.eos_base.specs.declared.partition_name.PartitionName.{PartitionName}
use Rattle.eos_disk.specs.Entries.{Entry, HasBytes}
use Rattle.eos_evidence.specs.declared.ends.End.{End}
use Rattle.eos_disk.specs.declared.names.Form.TheVariants.{Log}
use Rattle.eos_disk.specs.Paths.{file_path, path_of_end}
use Rattle.eos_disk.specs.Shapes.{AreLogsAt}
use Rattle.eos_manifest.specs.Front.{IsFrontTo}
use Rattle.eos_commands.specs.Copies.{EndsAt, IsEndOfCopy, IsCopied, AreEndsOfCopies}
use Rattle.eos_commands.proofs.Asked.{path_same}

-- ---- of one partition

-- the rest of the segments, begun at an offset, ends where all of them end
abbrev pub GoesOn : (List ℕ → Entry) → List ℕ → List ℤ → ℕ → List ℤ → Type 0
GoesOn holds path bases next rest = (end : ℕ) → EndsAt holds path next rest end → EndsAt holds path 0 bases end

pub stops_before : (holds : List ℕ → Entry) (path : List ℕ) (bases later : List ℤ) (base : ℤ) (next : ℕ) → GoesOn holds path bases next (base ∷ later) → base ≢ pos next → EndsAt holds path 0 bases next
stops_before holds path bases later base next on other = on next (inl (other, refl))

pub stops_in : (holds : List ℕ → Entry) (path : List ℕ) (bases later : List ℤ) (base : ℤ) (bytes rest : List ℕ) (next after : ℕ) → GoesOn holds path bases next (base ∷ later) → base ≡ pos next
    → HasBytes (holds (file_path path base Log)) bytes → IsFrontTo next bytes after rest → rest ≢ [] → EndsAt holds path 0 bases after
stops_in holds path bases later base bytes rest next after on is has front some = on after (inr (is, bytes, rest, after, has, front, inr (some, refl)))

pub goes_on : (holds : List ℕ → Entry) (path : List ℕ) (bases later : List ℤ) (base : ℤ) (bytes rest : List ℕ) (next after : ℕ) → GoesOn holds path bases next (base ∷ later) → base ≡ pos next
    → HasBytes (holds (file_path path base Log)) bytes → IsFrontTo next bytes after rest → rest ≡ [] → GoesOn holds path bases after later
goes_on holds path bases later base bytes rest next after on is has front none = λ end h. on end (inr (is, bytes, rest, after, has, front, inl (none, h)))

-- the front of a segment ends there, and that is all of it or not
abbrev pub Reaches : ℕ → List ℕ → ℕ → Bool → Type 0
Reaches next bytes after whole = (rest : List ℕ) × IsFrontTo next bytes after rest × ((whole ≡ true) ↔ (rest ≡ []))

next_at : (holds : List ℕ → Entry) (path : List ℕ) (bases : List ℤ) (i : ℕ) (d base : ℤ) (next : ℕ) → i < length bases → base ≡ get_or bases i d → GoesOn holds path bases next (drop i bases)
    → GoesOn holds path bases next (base ∷ drop (i + 1) bases)
next_at holds path bases i d base next lt at on =
    subst (λ (bs : List ℤ). GoesOn holds path bases next bs) (drop_more bases i d lt ∙ ap (λ (b : ℤ). b ∷ drop (i + 1) bases) (sym at)) on

pub gap_segment : (holds : List ℕ → Entry) (path : List ℕ) (bases : List ℤ) (i : ℕ) (d base : ℤ) (next : ℕ) → i < length bases → base ≡ get_or bases i d → GoesOn holds path bases next (drop i bases)
    → base ≢ pos next → EndsAt holds path 0 bases next
gap_segment holds path bases i d base next lt at on other = stops_before holds path bases (drop (i + 1) bases) base next (next_at holds path bases i d base next lt at on) other

pub cut_segment : (holds : List ℕ → Entry) (path : List ℕ) (bases : List ℤ) (i : ℕ) (d base : ℤ) (bytes : List ℕ) (next after : ℕ) (whole : Bool) → i < length bases → base ≡ get_or bases i d
    → GoesOn holds path bases next (drop i bases) → base ≡ pos next → HasBytes (holds (file_path path base Log)) bytes → Reaches next bytes after whole → whole ≡ false
    → EndsAt holds path 0 bases after
cut_segment holds path bases i d base bytes next after whole lt at on is has reaches not_so =
    stops_in holds path bases (drop (i + 1) bases) base bytes reaches.0 next after (next_at holds path bases i d base next lt at on) is has reaches.1
    (λ e. false≢true (sym not_so ∙ (reaches.2).1 e))

pub next_segment : (holds : List ℕ → Entry) (path : List ℕ) (bases : List ℤ) (i : ℕ) (d base : ℤ) (bytes : List ℕ) (next after : ℕ) (whole : Bool) → i < length bases → base ≡ get_or bases i d
    → GoesOn holds path bases next (drop i bases) → base ≡ pos next → HasBytes (holds (file_path path base Log)) bytes → Reaches next bytes after whole → whole ≡ true
    → GoesOn holds path bases after (drop (i + 1) bases)
next_segment holds path bases i d base bytes next after whole lt at on is has reaches so =
    goes_on holds path bases (drop (i + 1) bases) base bytes reaches.0 next after (next_at holds path bases i d base next lt at on) is has reaches.1 ((reaches.2).0 so)

pub all_segments : (holds : List ℕ → Entry) (path : List ℕ) (bases : List ℤ) (i next : ℕ) → length bases ≤ i → GoesOn holds path bases next (drop i bases) → EndsAt holds path 0 bases next
all_segments holds path bases i next all on =
    let none : GoesOn holds path bases next [] = subst (λ (bs : List ℤ). GoesOn holds path bases next bs) (drop_all i bases all) on in
    none next refl

pub end_is : (holds : List ℕ → Entry) (folder : List ℕ) (name : PartitionName) (e f : End) (bases : List ℤ) (end : ℕ) → e.topic ≡ name.topic → e.partition ≡ name.partition
    → f ≡ record { topic = e.topic; partition = e.partition; end = pos end } → AreLogsAt holds (path_of_end folder e) bases → EndsAt holds (path_of_end folder e) 0 bases end → IsEndOfCopy holds folder name f
end_is holds folder name e f bases end p q is logs ends = record {
  topic = ap (λ (x : End). x.topic) is ∙ p;
  partition = ap (λ (x : End). x.partition) is ∙ q;
  bases = bases;
  logs = subst (λ (path : List ℕ). AreLogsAt holds path bases) (path_same folder e name p q) logs;
  end = end;
  offset = ap (λ (x : End). x.end) is;
  ends = subst (λ (path : List ℕ). EndsAt holds path 0 bases end) (path_same folder e name p q) ends;
}

-- ---- of one more

pub copied_in : (holds : List ℕ → Entry) (folder : List ℕ) (folders : List PartitionName) (name : PartitionName) (e : End) → is_found name_cmp folders name ≡ true → IsEndOfCopy holds folder name e
    → IsCopied (is_found name_cmp folders name) holds folder name (e ∷ [])
copied_in holds folder folders name e so is = rw (so) (e, is, refl)

pub copied_out : (holds : List ℕ → Entry) (folder : List ℕ) (folders : List PartitionName) (name : PartitionName) → is_found name_cmp folders name ≡ false
    → IsCopied (is_found name_cmp folders name) holds folder name []
copied_out holds folder folders name not_so = rw (not_so) refl

copies_more : (holds : List ℕ → Entry) (folder : List ℕ) (folders names : List PartitionName) (name : PartitionName) (ends here : List End)
    → AreEndsOfCopies holds folder folders names ends → IsCopied (is_found name_cmp folders name) holds folder name here
    → AreEndsOfCopies holds folder folders (names ++ name ∷ []) (ends ++ here)
copies_more holds folder folders [] name ends here are is = (
  here,
  [],
  is,
  ap (λ (xs : List End). xs ++ here) are ∙ sym (append-nil here),
  refl,
)
copies_more holds folder folders (n ∷ names) name ends here are is = (
  are.0,
  are.1 ++ here,
  are.2,
  ap (λ (xs : List End). xs ++ here) are.3 ∙ append_assoc are.0 are.1 here,
  copies_more holds folder folders names name are.1 here are.4 is,
)

pub next_copied : (holds : List ℕ → Entry) (folder : List ℕ) (folders names : List PartitionName) (i : ℕ) (name : PartitionName) (ends here more : List End)
    → i < length names → name ≡ slice_index_or names i name → AreEndsOfCopies holds folder folders (take i names) ends → IsCopied (is_found name_cmp folders name) holds folder name here
    → more ≡ ends ++ here → AreEndsOfCopies holds folder folders (take (i + 1) names) more
next_copied holds folder folders names i name ends here more lt at are is longer =
    subst (λ (ns : List PartitionName). AreEndsOfCopies holds folder folders ns more) (sym (take_more names i name lt ∙ ap (λ (x : PartitionName). take i names ++ x ∷ []) (sym at)))
    (subst (λ (es : List End). AreEndsOfCopies holds folder folders (take i names ++ name ∷ []) es) (sym longer)
    (copies_more holds folder folders (take i names) name ends here are is))
