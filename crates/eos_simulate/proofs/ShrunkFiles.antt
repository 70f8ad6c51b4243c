-- What stands at the file's path in the end, and what its text is.
use Rattle.std.proofs.Common.{◌≡◌, ◌≢◌, ◌∙◌, ◌+◌, ◌++◌, ℕ, List, [], length, codes, Option, refl, ap, subst, arith, length-append}
use Rattle.eos_disk.specs.Entries.{Entry}
use Rattle.eos_disk.specs.Putting.{ChangesOnly, IsBegun, IsTaken, IsLeft, IsPlaced, beside}
use Rattle.eos_disk.proofs.Kept.{known_same, known_trans}
use Rattle.eos_ending.specs.Leaving.{Stays}
use Rattle.eos_drive.specs.declared.deed.Deed.{Deed}
use Rattle.eos_history_lines.specs.declared.schedule.Schedule.{Schedule}
use Rattle.eos_words.specs.declared.request.Shrink.{Shrink}
use Rattle.eos_simulate.specs.Folders.{IsScheduleAt}
use Rattle.eos_simulate.specs.HistoryTexts.{IsHistoryText}
use Rattle.eos_simulate.specs.Parts.{unnamed_lines}
use Rattle.eos_simulate.specs.Shrinking.{IsShrunk, IsShrunkText, IsShrunkFile, shrunk_line}

-- ---- the path

other : (path : List ℕ) → path ≢ beside path
other path e =
    let same : length path ≡ length (path ++ codes ".new") = ap length e in
    let more : length (path ++ codes ".new") ≡ length path + 4 = length-append path (codes ".new") in
    omega (arith, same, more)

stays : (old new : List ℕ → Entry) (path : List ℕ) → ChangesOnly (beside path) old new → Stays old path new
stays old new path only = record { at = only.others path (other path); others = only }

only_trans : (a b c : List ℕ → Entry) (path : List ℕ) → ChangesOnly path a b → ChangesOnly path b c → ChangesOnly path a c
only_trans a b c path p q = record { known = λ r. known_trans (a r) (b r) (c r) (p.known r) (q.known r); others = λ r n. q.others r n ∙ p.others r n }

-- nothing was done
pub nothing : (old : List ℕ → Entry) (path : List ℕ) → Stays old path old
nothing old path = record { at = refl; others = record { known = λ q. known_same (old q) (old q) refl; others = λ q n. refl } }

pub unbegun : (old new : List ℕ → Entry) (path : List ℕ) → IsLeft old path [] new → Stays old path new
unbegun old new path h = stays old new path h.0

-- after a file was begun there
after_begun : (old begun new : List ℕ → Entry) (path : List ℕ) → IsBegun old path begun → ChangesOnly (beside path) begun new → Stays old path new
after_begun old begun new path b h = stays old new path (only_trans old begun new (beside path) b.1.0 h)

-- it was dropped
pub dropped : (old begun new : List ℕ → Entry) (path file : List ℕ) → file ≡ path → IsBegun old path begun → IsTaken begun file new → Stays old path new
dropped old begun new path file is b h = after_begun old begun new path b (subst (λ (x : List ℕ). ChangesOnly (beside x) begun new) is h.0)

-- or couldn't be ended
pub unplaced : (old begun new : List ℕ → Entry) (path file : List ℕ) → file ≡ path → IsBegun old path begun → Stays begun file new → Stays old path new
unplaced old begun new path file is b h = after_begun old begun new path b (subst (λ (x : List ℕ). ChangesOnly (beside x) begun new) is h.others)

-- ---- the text

pub shrunk_text : (s : Schedule) (code text line : List ℕ) (deeds : List Deed) (of runs : ℕ) → IsShrunk s.head.config code (unnamed_lines s.lines) deeds → IsHistoryText s.head deeds text
    → of ≡ length s.lines → line ≡ shrunk_line (length deeds) of runs → IsShrunkText s code text line
shrunk_text s code text line deeds of runs is says all tells = record {
  deeds = deeds;
  runs = runs;
  shrunk = is;
  says = says;
  tells = tells ∙ ap (λ (n : ℕ). shrunk_line (length deeds) n runs) all;
}

pub shrunk_file : (words : Shrink) (left rest : Option (List ℕ)) (old begun new : List ℕ → Entry) (file text line : List ℕ) → file ≡ words.file.now → IsBegun old words.file.now begun
    → ((s : Schedule) × IsScheduleAt begun words.history.now left rest s × IsShrunkText s words.code.now text line) → IsPlaced begun file text new → IsShrunkFile words left rest old new line
shrunk_file words left rest old begun new file text line is b h placed = record {
  begun = begun;
  schedule = h.0;
  text = text;
  begins = b;
  read = h.1;
  shrunk = h.2;
  ends = subst (λ (x : List ℕ). IsPlaced begun x text new) is placed;
}
