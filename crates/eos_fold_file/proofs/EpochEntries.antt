-- The bounds that the fold of a segment keeps: its entries of leader epochs, its sizes, and where its front ends.
use Rattle.std.proofs.Common.{◌≡◌, ◌≢◌, ℕ, ◌+◌, ◌≤◌, Bool, true, false, not, eqb, ltb, ℤ, pos, List, [], ◌∷◌, ◌++◌, length, Option, Some, None, refl, ap, subst, arith}
use Rattle.std.specs.Prelude.{⊤}
use Rattle.std.proofs.lemmas.Bool.{eq-eqb, ne_eqb, lt-ltb}
use Rattle.std.specs.Ordering.{int_eq}
use Rattle.std.proofs.lemmas.Bool.Decides.{Decides-int_eq}
use Rattle.std.proofs.lemmas.List.{length-append}
use Rattle.std.proofs.lemmas.List.Sums.{sum_by-cons}
use Rattle.eos_batch.specs.declared.batch.Batch.{Batch}
use Rattle.eos_batch.specs.Offsets.{offset_of}
use Rattle.eos_batch.proofs.BatchTexts.{text_length}
use Rattle.eos_touch.specs.Front.{ContinuesFrom}
use Rattle.eos_fold.specs.declared.stop.Stop.{Stop}
use Rattle.eos_fold.specs.declared.stop.Stop.TheVariants.{AtEnd, NoBatch, Elsewhere}
use Rattle.eos_fold.specs.Fronts.{StopsAt}
use Rattle.eos_reading.specs.declared.epoch.EpochEntry.{EpochEntry}
use Rattle.eos_fold_file.specs.declared.head.FoldHead.{FoldHead}
use Rattle.eos_reading.specs.Epochs.{is_change, entry_at, epoch_entries}
use Rattle.eos_fold_file.specs.Epochs.{are_entries}
use Rattle.eos_fold_file.specs.Files.{size_sum}
use Rattle.eos_fold_file.specs.Folds.{HasFoldHeads}
use Rattle.eos_fold_file.specs.Stops.{is_inside}

-- ---- leader epochs

-- none of these begins before
abbrev StartsFrom : ℕ → List EpochEntry → Type 0
StartsFrom at [] = ⊤
StartsFrom at (e ∷ es) = at ≤ e.start_offset

begins : (at : ℕ) (b : Batch) → b.base_offset ≡ pos at → at ≡ offset_of b
begins at b e = rw e refl

later : (at n : ℕ) (es : List EpochEntry) → StartsFrom (at + n) es → StartsFrom at es
later at n [] s = tt
later at n (e ∷ es) s = omega (arith, s)

entries_later : (at : ℕ) (last : Option ℤ) (bs : List Batch) → ContinuesFrom at bs → StartsFrom at (epoch_entries last bs)
entries_later at last [] c = tt
entries_later at last (b ∷ bs) c = by (is_change last b.leader_epoch) (entries_later (at + length b.records) (Some b.leader_epoch) bs c.1)
  where
    by : (t : Bool) → StartsFrom (at + length b.records) (epoch_entries (Some b.leader_epoch) bs) → StartsFrom at (entry_at t (offset_of b) b.leader_epoch ++ epoch_entries (Some b.leader_epoch) bs)
    by true s = let here = begins at b c.0 in omega (arith, here)
    by false s = later at (length b.records) (epoch_entries (Some b.leader_epoch) bs) s

-- a batch that has none
passes : (at n : ℕ) (l : ℤ) (h : FoldHead) (hs : List FoldHead) (es : List EpochEntry) → 1 ≤ n → h.count ≡ n → StartsFrom (at + n) es → are_entries (at + n) (Some l) hs es ≡ true → are_entries at (Some l) (h ∷ hs) es ≡ true
passes at n l h hs [] some is s e = rw (is, e) refl
passes at n l h hs (x ∷ es) some is s e =
    let ne : eqb at x.start_offset ≡ false = ne_eqb at x.start_offset (λ q. omega (arith, q, s, some)) in
    rw (ne, is, e) refl

unchanged : (l z : ℤ) (t : Bool) → int_eq l z ≡ t → not t ≡ false → l ≡ z
unchanged l z true is e = (Decides-int_eq l z).0 is
unchanged l z false is e = absurd cc

entry_fits : (at n : ℕ) (epoch : ℤ) (h : FoldHead) (hs : List FoldHead) (es : List EpochEntry) → 1 ≤ n → h.count ≡ n → StartsFrom (at + n) es → are_entries (at + n) (Some epoch) hs es ≡ true
    → (last : Option ℤ) (t : Bool) → is_change last epoch ≡ t → are_entries at last (h ∷ hs) (entry_at t at epoch ++ es) ≡ true
entry_fits at n epoch h hs es some is s e last true change = rw (eq-eqb at at refl, change, is, e) refl
entry_fits at n epoch h hs es some is s e None false change = absurd cc
entry_fits at n epoch h hs es some is s e (Some l) false change =
    let same : l ≡ epoch = unchanged l epoch (int_eq l epoch) refl change in
    passes at n l h hs es some is s (rw same e)

pub entries_fit : (at : ℕ) (bytes : List ℕ) (bs : List Batch) (hs : List FoldHead) (rest : List ℕ) (last : Option ℤ) → HasFoldHeads bytes bs hs rest → ContinuesFrom at bs → are_entries at last hs (epoch_entries last bs) ≡ true
entries_fit at bytes [] [] rest last s c = refl
entries_fit at bytes [] (h ∷ hs) rest last s c = absurd s
entries_fit at bytes (b ∷ bs) [] rest last s c = absurd s
entries_fit at bytes (b ∷ bs) (h ∷ hs) rest last s c =
    let n : h.count ≡ length b.records = ap (λ (x : FoldHead). x.count) s.4 in
    let others = entries_fit (at + length b.records) s.1 bs hs rest (Some b.leader_epoch) s.5 c.1 in
    let later = entries_later (at + length b.records) (Some b.leader_epoch) bs c.1 in
    let one = entry_fits at (length b.records) b.leader_epoch h hs (epoch_entries (Some b.leader_epoch) bs) s.2.counted.some n later others last (is_change last b.leader_epoch) refl in
    subst (λ (o : ℕ). are_entries at last (h ∷ hs) (entry_at (is_change last b.leader_epoch) o b.leader_epoch ++ epoch_entries (Some b.leader_epoch) bs) ≡ true) (begins at b c.0) one

-- ---- sizes

pub sizes_are : (bytes : List ℕ) (bs : List Batch) (hs : List FoldHead) (rest : List ℕ) → HasFoldHeads bytes bs hs rest → size_sum hs + length rest ≡ length bytes
sizes_are bytes [] [] rest s = let e : length bytes ≡ length rest = ap length s in omega (arith, e)
sizes_are bytes [] (h ∷ hs) rest s = absurd s
sizes_are bytes (b ∷ bs) [] rest s = absurd s
sizes_are bytes (b ∷ bs) (h ∷ hs) rest s =
    let e = sizes_are s.1 bs hs rest s.5 in
    let n : h.size ≡ length s.0 = ap (λ (x : FoldHead). x.size) s.4 in
    let c = sum_by-cons (λ (x : FoldHead). x.size) h hs in
    omega (arith, e, n, c, ap length s.3, length-append s.0 s.1)

-- ---- the stop

some_left : (rest : List ℕ) → rest ≢ [] → 1 ≤ length rest
some_left [] ne = absurd (ne refl)
some_left (x ∷ xs) ne = omega arith

pub stop_inside : (begin next size : ℕ) (bytes rest : List ℕ) (stop : Stop) → size + length rest ≡ length bytes → StopsAt begin next bytes rest stop → is_inside begin next size (length bytes) stop ≡ true
stop_inside begin next size bytes rest AtEnd e s = eq-eqb size (length bytes) (omega (arith, e, ap length s))
stop_inside begin next size bytes rest (NoBatch segment byte fault) e s =
    let segment_is : eqb segment begin ≡ true = eq-eqb segment begin s.2 in
    let byte_is : eqb byte size ≡ true = eq-eqb byte size (omega (arith, e, s.3)) in
    let inside : ltb size (length bytes) ≡ true = lt-ltb size (length bytes) (omega (arith, e, some_left rest s.0)) in
    rw (segment_is, byte_is, inside) refl
stop_inside begin next size bytes rest (Elsewhere found) e s =
    let other : eqb found next ≡ false = ne_eqb found next s.3 in
    let some : 61 ≤ length s.1.0 = text_length s.1.0 s.0 s.1.2 in
    let inside : ltb size (length bytes) ≡ true = lt-ltb size (length bytes) (omega (arith, e, some, ap length s.1.3, length-append s.1.0 s.1.1)) in
    rw (other, inside) refl
