-- The batches of a segment are those of its fold.
use Rattle.std.proofs.Common.{◌≡◌, ◌⊎◌, ℕ, ℤ, ◌+◌, ◌<◌, ◌≤◌, pos, List, [], ◌∷◌, ◌++◌, length, drop, map, Result, Ok, Err, get_or, Bool, append_assoc, refl, sym, ap, subst, ◌∙◌, inl, inr, arith, drop-drop}
use Rattle.std.specs.Prelude.{unsigned_abs}
use Rattle.std.specs.List.{filter}
use Rattle.std.proofs.lemmas.List.{length-drop, drop_more}
use Rattle.std.proofs.lemmas.List.Elements.{filter-append}
use Rattle.eos_batch.specs.declared.batch.Batch.{Batch}
use Rattle.eos_batch.specs.declared.fault.BatchFault.{BatchFault}
use Rattle.eos_batch.specs.declared.head.BatchHead.{BatchHead}
use Rattle.eos_batch.specs.Heads.{head_of}
use Rattle.eos_batch.specs.Offsets.{offset_of}
use Rattle.eos_batch.specs.Reading.{batch_at}
use Rattle.eos_evidence.specs.declared.segment.Segment.{Segment}
use Rattle.eos_touch.specs.Front.{records_in, ContinuesFrom}
use Rattle.eos_touch.proofs.BatchReading.{reads_first, ok_is}
use Rattle.eos_fold.specs.declared.stop.Stop.{Stop}
use Rattle.eos_fold.specs.declared.stop.Stop.TheVariants.{AtEnd, NoBatch, Elsewhere}
use Rattle.eos_fold.specs.Fronts.{base_of, StopsAt}
use Rattle.eos_fold_file.specs.declared.file.FoldFile.{FoldFile}
use Rattle.eos_fold_file.specs.declared.head.FoldHead.{FoldHead}
use Rattle.eos_fold_file.specs.Folds.{HasFoldHeads, IsFoldOf}
use Rattle.eos_fold_file.specs.Heads.{fold_head, batch_head}
use Rattle.eos_fold_file.proofs.RealHeads.{head_again}
use Rattle.eos_sought.specs.declared.wanted.Standing.{Standing}
use Rattle.eos_sought.specs.declared.wanted.Wanted.{Wanted}
use Rattle.eos_sought.specs.Folded.{standings, wanted_in, AreFoldsOf}
use Rattle.eos_sought.specs.steps.Placing.{wanted_of, placed_at}
use Rattle.eos_sought.specs.Partitions.{ArePlacedIn}
use Rattle.eos_sought.specs.Wanted.{is_wanted}
use Rattle.eos_sought.specs.Places.{IsRun, IsEnd, byte_after, offset_after, AreWantedIn}

-- ---- the heads

size_is : (h : FoldHead) (b : Batch) (n : ℕ) → h ≡ fold_head (head_of b n) → h.size ≡ n
size_is h b n e = ap (λ (x : FoldHead). x.size) e

count_is : (h : FoldHead) (b : Batch) (n : ℕ) → h ≡ fold_head (head_of b n) → h.count ≡ length b.records
count_is h b n e = ap (λ (x : FoldHead). x.count) e

-- it is the batch's head where it stands
head_is : (h : FoldHead) (b : Batch) (n next : ℕ) → h ≡ fold_head (head_of b n) → b.base_offset ≡ pos next → batch_head next h ≡ head_of b h.size
head_is h b n next e at =
    let offset : offset_of b ≡ next = ap unsigned_abs at in
    ap (batch_head next) e ∙ (ap (λ (m : ℕ). batch_head m (fold_head (head_of b n))) (sym offset) ∙ (head_again b n ∙ ap (head_of b) (sym (size_is h b n e))))

further : (all bytes text more : List ℕ) (at : ℕ) → drop at all ≡ bytes → bytes ≡ text ++ more → drop (at + length text) all ≡ more
further all bytes text more at here is = sym (drop-drop (length text) at all) ∙ (ap (drop (length text)) (here ∙ is) ∙ front_dropped text more)
  where
    front_dropped : (xs ys : List ℕ) → drop (length xs) (xs ++ ys) ≡ ys
    front_dropped [] ys = refl
    front_dropped (x ∷ xs) ys = front_dropped xs ys

-- what is left behind them
record Runs (all : List ℕ) (at next : ℕ) (bs : List Batch) (hs : List FoldHead) (rest : List ℕ) : Type 0 where
  pub run : IsRun all at next (standings at next hs)
  pub left : drop (byte_after at (standings at next hs)) all ≡ rest
  pub offset : offset_after next (standings at next hs) ≡ next + records_in bs

runs : (all bytes : List ℕ) (at next : ℕ) (bs : List Batch) (hs : List FoldHead) (rest : List ℕ) → drop at all ≡ bytes → HasFoldHeads bytes bs hs rest → ContinuesFrom next bs → Runs all at next bs hs rest
runs all bytes at next [] [] rest here s c = record { run = tt; left = here ∙ s; offset = omega arith }
runs all bytes at next [] (h ∷ hs) rest here s c = absurd s
runs all bytes at next (b ∷ bs) [] rest here s c = absurd s
runs all bytes at next (b ∷ bs) (h ∷ hs) rest here s c =
    let size : h.size ≡ length s.0 = size_is h b (length s.0) s.4 in
    let count : h.count ≡ length b.records = count_is h b (length s.0) s.4 in
    let read : batch_at (drop at all) ≡ Ok (b, h.size) = ap batch_at here ∙ (reads_first bytes b s.0 s.1 s.2 s.3 ∙ ap (λ (n : ℕ). Ok (b, n)) (sym size)) in
    let next_byte : drop (at + h.size) all ≡ s.1 = ap (λ (n : ℕ). drop (at + n) all) size ∙ further all bytes s.0 s.1 at here s.3 in
    let on : ContinuesFrom (next + h.count) bs = subst (λ (n : ℕ). ContinuesFrom (next + n) bs) (sym count) c.1 in
    let others = runs all s.1 (at + h.size) (next + h.count) bs hs rest next_byte s.5 on in
    record {
      run = (refl, refl, record { batch = b; reads = read; head = head_is h b (length s.0) next s.4 c.0 }, others.run);
      left = others.left;
      offset = let e = others.offset in omega (arith, e, count);
    }

-- ---- why they end

no_value : (x : Batch × ℕ) (fault : BatchFault) → Path (Result (Batch × ℕ) BatchFault) (Ok x) (Err fault) → ⊥
no_value x fault e = cc

ended : (all rest : List ℕ) (base at next : ℕ) (stop : Stop) → drop at all ≡ rest → StopsAt base next all rest stop → (length all ≤ at) ⊎ IsEnd all at next
ended all rest base at next AtEnd left stops =
    inl (let none : length (drop at all) ≡ 0 = ap length (left ∙ stops) in let l = length-drop at all in omega (arith, none, l))
ended all rest base at next (NoBatch segment byte fault) left stops = inr (λ s here h same.
    let read : batch_at (drop at all) ≡ Ok (h.batch, s.head.size) = subst (λ (n : ℕ). batch_at (drop n all) ≡ Ok (h.batch, s.head.size)) here h.reads in
    no_value (h.batch, s.head.size) fault (sym read ∙ (ap batch_at left ∙ stops.1)))
ended all rest base at next (Elsewhere found) left stops = inr (λ s here h same.
    let read : batch_at (drop at all) ≡ Ok (h.batch, s.head.size) = subst (λ (n : ℕ). batch_at (drop n all) ≡ Ok (h.batch, s.head.size)) here h.reads in
    let b = stops.0 in
    let text = stops.1 in
    let there : batch_at rest ≡ Ok (b, length text.0) = reads_first rest b text.0 text.1 text.2 text.3 in
    let one : (h.batch, s.head.size) ≡ (b, length text.0) = ok_is (h.batch, s.head.size) (b, length text.0) (sym read ∙ (ap batch_at left ∙ there)) in
    let offset : s.head.offset ≡ offset_of b = ap (λ (x : BatchHead). x.offset) h.head ∙ ap (λ (x : Batch × ℕ). offset_of x.0) one in
    stops.3 (stops.2 ∙ (sym offset ∙ same)))

-- ---- the segment

pub folded_in : (s : Segment) (f : FoldFile) (wanted : Wanted) → IsFoldOf s f → AreWantedIn s wanted (wanted_in f wanted)
folded_in s f wanted is =
    let base : base_of s ≡ unsigned_abs f.base = ap unsigned_abs (sym is.base) in
    let r = runs s.bytes s.bytes 0 (base_of s) is.batches f.heads is.rest refl is.heads is.continuous in
    let end = ended s.bytes is.rest (base_of s) (byte_after 0 (standings 0 (base_of s) f.heads)) (base_of s + records_in is.batches) f.stop r.left is.stops in
    let all = standings 0 (base_of s) f.heads in
    let whole : (length s.bytes ≤ byte_after 0 all) ⊎ IsEnd s.bytes (byte_after 0 all) (offset_after (base_of s) all) =
    subst (λ (n : ℕ). (length s.bytes ≤ byte_after 0 all) ⊎ IsEnd s.bytes (byte_after 0 all) n) (sym r.offset) end in
    record {
      all = all;
      run = r.run;
      whole = whole;
      kept = ap (λ (n : ℕ). filter (λ x. is_wanted wanted x.head) (standings 0 n f.heads)) (sym base);
    }

-- one batch more
pub in_more : (hs : List FoldHead) (i : ℕ) (d : FoldHead) (wanted : Wanted) (byte next after behind : ℕ) (head : BatchHead) (found new all : List Standing) → i < length hs → head ≡ batch_head next (get_or hs i d)
    → after ≡ byte + (get_or hs i d).size → behind ≡ next + (get_or hs i d).count → new ≡ found ++ filter (λ s. is_wanted wanted s.head) (record { byte = byte; head = head } ∷ [])
    → found ++ filter (λ s. is_wanted wanted s.head) (standings byte next (drop i hs)) ≡ all → new ++ filter (λ s. is_wanted wanted s.head) (standings after behind (drop (i + 1) hs)) ≡ all
in_more hs i d wanted byte next after behind head found new all lt at size count pushed so_far =
    let p : Standing → Bool = λ s. is_wanted wanted s.head in
    let h = get_or hs i d in
    let s : Standing = record { byte = byte; head = batch_head next h } in
    let rest = standings (byte + h.size) (next + h.count) (drop (i + 1) hs) in
    let parts : filter p (standings byte next (drop i hs)) ≡ filter p (s ∷ []) ++ filter p rest = ap (λ xs. filter p (standings byte next xs)) (drop_more hs i d lt) ∙ filter-append p (s ∷ []) rest in
    let first : new ≡ found ++ filter p (s ∷ []) = pushed ∙ ap (λ (x : BatchHead). found ++ filter p (record { byte = byte; head = x } ∷ [])) at in
    ap (λ xs. xs ++ filter p (standings after behind (drop (i + 1) hs))) first
    ∙ (ap (λ n. (found ++ filter p (s ∷ [])) ++ filter p (standings n behind (drop (i + 1) hs))) size
    ∙ (ap (λ n. (found ++ filter p (s ∷ [])) ++ filter p (standings (byte + h.size) n (drop (i + 1) hs))) count
    ∙ (append_assoc found (filter p (s ∷ [])) (filter p rest) ∙ (ap (λ xs. found ++ xs) (sym parts) ∙ so_far))))

-- ---- the partition

pub folded_of : (ss : List Segment) (fs : List FoldFile) (wanted : Wanted) → AreFoldsOf ss fs → ArePlacedIn ss wanted (wanted_of fs wanted)
folded_of [] [] wanted are = refl
folded_of [] (f ∷ fs) wanted are = absurd are
folded_of (s ∷ ss) [] wanted are = absurd are
folded_of (s ∷ ss) (f ∷ fs) wanted are = (
  wanted_in f wanted,
  wanted_of fs wanted,
  folded_in s f wanted are.0,
  folded_of ss fs wanted are.1,
  ap (λ (n : ℤ). map (placed_at n) (wanted_in f wanted) ++ wanted_of fs wanted) are.0.base,
)
