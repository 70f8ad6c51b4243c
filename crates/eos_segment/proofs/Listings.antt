-- A listing that grows batch by batch.
use Rattle.std.proofs.Common.{◌≡◌, ℕ, zero, suc, ◌+◌, ◌≤◌, ◌<◌, List, [], ◌∷◌, ◌++◌, length, take, drop, Option, Some, None, Result, Ok, Err, sym, subst, ap, ◌∙◌, append_assoc, take-append-drop, length-take, length-drop, arith, refl, get_or}
use Rattle.std.proofs.lemmas.List.{get_or-drop, take_at, length-append}
use Rattle.eos_batch.proofs.BatchTexts.{batch_sound, text_length}
use Rattle.std.proofs.lemmas.List.{drop-drop}
use Rattle.std.proofs.KnownBytes.{Appends-nil, Appends-trans}
use Rattle.std.specs.Io.KnownBytes.{Appends}
use Rattle.eos_batch.specs.declared.batch.Batch.{Batch}
use Rattle.eos_batch.specs.declared.fault.BatchFault.{BatchFault}
use Rattle.eos_batch.specs.Text.{IsBatchText}
use Rattle.eos_batch.specs.Reading.{batch_at}
use Rattle.eos_text.specs.Adding.{Adds}
use Rattle.eos_text.specs.Writing.{Writes, WritesFront, WritesFrontOf}
use Rattle.eos_segment.specs.steps.Holding.{HasListed, Passes}
use Rattle.eos_segment.specs.Listing.{Lists, IsListingFrom, StopsHere, last_line, status_of}

abbrev pub IsBytes : List ℕ → Type 0
IsBytes bytes = (i : ℕ) → get_or bytes i 0 < 256

-- what lines each batch has
abbrev pub LinesOf : Type 0
LinesOf = ℕ → Batch → List ℕ

-- ---- every segment has a listing

pub record Listed (lines_of : LinesOf) (byte : ℕ) (bytes : List ℕ) : Type 0 where
  pub text : List ℕ
  pub status : ℕ
  pub is : IsListingFrom lines_of byte bytes text status

-- a batch, and then what is listed after it
pub one_more : (lines_of : LinesOf) (byte size : ℕ) (bytes : List ℕ) (b : Batch) (text : List ℕ) (status : ℕ) → IsBatchText (take size bytes) b → size ≤ length bytes
    → IsListingFrom lines_of (byte + size) (drop size bytes) text status → IsListingFrom lines_of byte bytes (lines_of byte b ++ text) status
one_more lines_of byte size bytes b text status is le rest =
    let n : length (take size bytes) ≡ size = omega (arith, length-take size bytes) in
    (b ∷ rest.0, (take size bytes, drop size bytes, text, is, sym (take-append-drop size bytes), refl, subst (λ (m : ℕ). Lists lines_of (byte + m) (drop size bytes) rest.0 text status) (sym n) rest.1))

pub last_one : (lines_of : LinesOf) (byte : ℕ) (bytes : List ℕ) (stop : Option BatchFault) → StopsHere bytes stop → IsListingFrom lines_of byte bytes (last_line byte stop) (status_of stop)
last_one lines_of byte bytes stop h = ([], record { stop = stop; stops = h; line = refl; exit = refl })

-- what reading a batch gives is a text at the front
pub record IsAtFront (bytes : List ℕ) (r : Batch × ℕ) : Type 0 where
  pub text : IsBatchText (take r.1 bytes) r.0
  pub some : 0 < r.1
  pub within : r.1 ≤ length bytes

pub sound : (bytes : List ℕ) (r : Batch × ℕ) → IsBytes bytes → batch_at bytes ≡ Ok r → IsAtFront bytes r
sound bytes r fits e =
    let t = batch_sound bytes r fits e in
    let cut : take r.1 bytes ≡ t.text = ap (take r.1) t.parts ∙ take_at t.text t.rest r.1 (sym t.len) in
    record {
      text = subst (λ (l : List ℕ). IsBatchText l r.0) (sym cut) t.holds;
      some = omega (arith, t.len, text_length t.text r.0 t.holds);
      within = omega (arith, t.len, ap length t.parts, length-append t.text t.rest);
    }

pub IsBytes-drop : (n : ℕ) (bytes : List ℕ) → IsBytes bytes → IsBytes (drop n bytes)
IsBytes-drop n bytes fits i = rw (get_or-drop n bytes i 0) (fits (n + i))

pub listed_within : (lines_of : LinesOf) (most byte : ℕ) (bytes : List ℕ) → length bytes ≤ most → IsBytes bytes → Listed lines_of byte bytes
listed_within lines_of most byte [] le fits = record { text = last_line byte None; status = 0; is = last_one lines_of byte [] None refl }
listed_within lines_of zero byte (x ∷ xs) le fits = absurd (omega arith)
listed_within lines_of (suc most) byte (x ∷ xs) le fits = cases (λ at size some. listed_within lines_of most at (drop size (x ∷ xs)) (omega (arith, length-drop size (x ∷ xs))) (IsBytes-drop size (x ∷ xs) fits)) (batch_at (x ∷ xs)) refl
  where
    cases : ((at size : ℕ) → 0 < size → Listed lines_of at (drop size (x ∷ xs))) → (r : Result (Batch × ℕ) BatchFault) → batch_at (x ∷ xs) ≡ r → Listed lines_of byte (x ∷ xs)
    cases after (Err fault) e = record { text = last_line byte (Some fault); status = 1; is = last_one lines_of byte (x ∷ xs) (Some fault) ((λ q. cc), e) }
    cases after (Ok r) e =
        let f = sound (x ∷ xs) r fits e in
        let l = after (byte + r.1) r.1 f.some in
        record { text = lines_of byte r.0 ++ l.text; status = l.status; is = one_more lines_of byte r.1 (x ∷ xs) r.0 l.text l.status f.text f.within l.is }

-- every rest of a segment has a listing
pub listed_from : (lines_of : LinesOf) (byte : ℕ) (bytes : List ℕ) → IsBytes bytes → Listed lines_of byte (drop byte bytes)
listed_from lines_of byte bytes fits = listed_within lines_of (length (drop byte bytes)) byte (drop byte bytes) (omega arith) (IsBytes-drop byte bytes fits)

-- ---- the loop

pub goes_on : (lines_of : LinesOf) (bytes : List ℕ) (old new : Option (List ℕ)) (held more : List ℕ) (byte size : ℕ) (b : Batch) → HasListed lines_of bytes old new held byte
    → IsBatchText (take size (drop byte bytes)) b → byte + size ≤ length bytes → Adds held more (lines_of byte b) → HasListed lines_of bytes old new more (byte + size)
goes_on lines_of bytes old new held more byte size b h is le adds =
    record {
      written = h.written;
      grown = h.grown;
      within = le;
      goes_on = λ text status rest.
          let from : IsListingFrom lines_of (byte + size) (drop size (drop byte bytes)) text status = subst (λ (l : List ℕ). IsListingFrom lines_of (byte + size) l text status) (sym (drop-drop size byte bytes)) rest in
          let whole = h.goes_on (lines_of byte b ++ text) status (one_more lines_of byte size (drop byte bytes) b text status is (omega (arith, length-drop byte bytes)) from) in
          let e : (h.written ++ held) ++ (lines_of byte b ++ text) ≡ (h.written ++ more) ++ text = rw adds.whole (simp append_assoc) in
          subst (λ (l : List ℕ). IsListingFrom lines_of 0 bytes l status) e whole;
    }

-- what is held back is passed on
pub passes_on : (lines_of : LinesOf) (bytes : List ℕ) (old mid new : Option (List ℕ)) (held still : List ℕ) (byte : ℕ) → HasListed lines_of bytes old mid held byte → Passes mid new held still → HasListed lines_of bytes old new still byte
passes_on lines_of bytes old mid new held still byte h p =
    record {
      written = h.written ++ p.0;
      grown = Appends-trans old mid new h.written p.0 h.grown p.2;
      within = h.within;
      goes_on = λ text status rest.
          let e : (h.written ++ held) ++ text ≡ ((h.written ++ p.0) ++ still) ++ text = rw p.1 (simp append_assoc) in
          subst (λ (l : List ℕ). IsListingFrom lines_of 0 bytes l status) e (h.goes_on text status rest);
    }

-- a front of what is held back was written
pub front_of : (lines_of : LinesOf) (bytes : List ℕ) (old mid new : Option (List ℕ)) (held : List ℕ) (byte : ℕ) → HasListed lines_of bytes old mid held byte → Listed lines_of byte (drop byte bytes) → WritesFront mid new held → WritesFrontOf (IsListingFrom lines_of 0 bytes) old new
front_of lines_of bytes old mid new held byte h l w =
    let e : (h.written ++ held) ++ l.text ≡ (h.written ++ w.0) ++ (w.1 ++ l.text) = rw w.2 (simp append_assoc) in
    ((h.written ++ held) ++ l.text, l.status, h.goes_on l.text l.status l.is, (h.written ++ w.0, w.1 ++ l.text, e, Appends-trans old mid new h.written w.0 h.grown w.3))

-- nothing of it was written
pub no_front : (new : Option (List ℕ)) (held : List ℕ) → WritesFront new new held
no_front new held = ([], held, refl, Appends-nil new)

-- ---- the end

pub finished : (lines_of : LinesOf) (bytes : List ℕ) (old mid new : Option (List ℕ)) (held all : List ℕ) (byte : ℕ) (stop : Option BatchFault) → HasListed lines_of bytes old mid held byte → StopsHere (drop byte bytes) stop
    → Adds held all (last_line byte stop) → Appends mid new all → Writes (IsListingFrom lines_of 0 bytes) old new (status_of stop)
finished lines_of bytes old mid new held all byte stop h stops adds written =
    let whole = h.goes_on (last_line byte stop) (status_of stop) (last_one lines_of byte (drop byte bytes) stop stops) in
    let e : (h.written ++ held) ++ last_line byte stop ≡ h.written ++ all = rw adds.whole (append_assoc h.written held (last_line byte stop)) in
    (h.written ++ all, subst (λ (l : List ℕ). IsListingFrom lines_of 0 bytes l (status_of stop)) e whole, Appends-trans old mid new h.written all h.grown written)

pub finished_in_part : (lines_of : LinesOf) (bytes : List ℕ) (old mid new : Option (List ℕ)) (held all : List ℕ) (byte : ℕ) (stop : Option BatchFault) → HasListed lines_of bytes old mid held byte → StopsHere (drop byte bytes) stop
    → Adds held all (last_line byte stop) → WritesFront mid new all → WritesFrontOf (IsListingFrom lines_of 0 bytes) old new
finished_in_part lines_of bytes old mid new held all byte stop h stops adds w =
    let whole = h.goes_on (last_line byte stop) (status_of stop) (last_one lines_of byte (drop byte bytes) stop stops) in
    let e : (h.written ++ held) ++ last_line byte stop ≡ (h.written ++ w.0) ++ w.1 = rw (append_assoc h.written held (last_line byte stop), ← adds.whole, w.2) (sym (append_assoc h.written w.0 w.1)) in
    ((h.written ++ held) ++ last_line byte stop, status_of stop, whole, (h.written ++ w.0, w.1, e, Appends-trans old mid new h.written w.0 h.grown w.3))
