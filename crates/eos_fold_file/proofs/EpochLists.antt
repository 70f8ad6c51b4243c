-- Going along a front's heads beside the entries of its leader epochs.
use Rattle.std.proofs.Common.{◌≡◌, ℕ, zero, suc, ◌+◌, ◌-◌, ◌<◌, ◌≤◌, ◌^◌, Bool, true, false, eqb, cond, ◌&&◌, ℤ, List, [], ◌∷◌, length, get_or, drop, take, Option, Some, None, refl, sym, ap, ◌∙◌, arith}
use Rattle.std.specs.Prelude.{is_some}
use Rattle.std.proofs.lemmas.Bool.{eq-eqb, ne_eqb}
use Rattle.std.proofs.lemmas.List.{drop_more, drop-drop, take_more, length-drop}
use Rattle.std.proofs.lemmas.List.Sums.{sum_by-cons, sum_by_push}
use Rattle.std.proofs.Math.ListN.{drop_of_length-le}
use Rattle.eos_reading.specs.declared.epoch.EpochEntry.{EpochEntry}
use Rattle.eos_fold_file.specs.declared.head.FoldHead.{FoldHead}
use Rattle.eos_reading.specs.Epochs.{is_change}
use Rattle.eos_fold_file.specs.Epochs.{are_entries}
use Rattle.eos_fold_file.specs.Files.{record_count}
use Rattle.eos_fold_file.specs.steps.Walks.{begun}

pub none_here : (next : ℕ) (last : Option ℤ) (es : List EpochEntry) → begun next es ≡ None → is_some last ≡ true
    → (h : FoldHead) (hs : List FoldHead) → are_entries next last (h ∷ hs) es ≡ are_entries (next + h.count) last hs es
none_here next last [] e some h hs = rw some refl
none_here next last (x ∷ es) e some h hs = by (eqb next x.start_offset) refl e
  where
    by : (b : Bool) → eqb next x.start_offset ≡ b → cond b (Some x.epoch) None ≡ None → are_entries next last (h ∷ hs) (x ∷ es) ≡ are_entries (next + h.count) last hs (x ∷ es)
    by true is e = absurd cc
    by false is e = rw (is, some) refl

pub none_first : (next : ℕ) (last : Option ℤ) (es : List EpochEntry) → begun next es ≡ None → is_some last ≡ false → (h : FoldHead) (hs : List FoldHead) → are_entries next last (h ∷ hs) es ≡ false
none_first next last [] e none h hs = rw none refl
none_first next last (x ∷ es) e none h hs = by (eqb next x.start_offset) refl e
  where
    by : (b : Bool) → eqb next x.start_offset ≡ b → cond b (Some x.epoch) None ≡ None → are_entries next last (h ∷ hs) (x ∷ es) ≡ false
    by true is e = absurd cc
    by false is e = rw (is, none) refl

-- the entry that begins here
begun_at : (next : ℕ) (last : Option ℤ) (epoch : ℤ) (es : List EpochEntry) → begun next es ≡ Some epoch
    → (h : FoldHead) (hs : List FoldHead) → are_entries next last (h ∷ hs) es ≡ (is_change last epoch && are_entries (next + h.count) (Some epoch) hs (drop 1 es))
begun_at next last epoch [] e h hs = absurd cc
begun_at next last epoch (x ∷ es) e h hs = by (eqb next x.start_offset) refl e
  where
    by : (b : Bool) → eqb next x.start_offset ≡ b → cond b (Some x.epoch) None ≡ Some epoch → are_entries next last (h ∷ hs) (x ∷ es) ≡ (is_change last epoch && are_entries (next + h.count) (Some epoch) hs es)
    by true is e = let same : x.epoch ≡ epoch = cc in rw (is, same) refl
    by false is e = absurd cc

pub begun_within : (next at : ℕ) (epoch : ℤ) (es : List EpochEntry) → begun next (drop at es) ≡ Some epoch → at < length es
begun_within next at epoch es e = some (drop at es) e (length-drop at es)
  where
    some : (xs : List EpochEntry) → begun next xs ≡ Some epoch → length xs ≡ length es - at → at < length es
    some [] e n = absurd cc
    some (x ∷ xs) e n = omega (arith, n)

drop_one : (at : ℕ) (es : List EpochEntry) → drop 1 (drop at es) ≡ drop (at + 1) es
drop_one at es = drop-drop 1 at es

pub some_here : (next at : ℕ) (last : Option ℤ) (epoch : ℤ) (es : List EpochEntry) → begun next (drop at es) ≡ Some epoch → is_change last epoch ≡ true
    → (h : FoldHead) (hs : List FoldHead) → are_entries next last (h ∷ hs) (drop at es) ≡ are_entries (next + h.count) (Some epoch) hs (drop (at + 1) es)
some_here next at last epoch es e change h hs =
    begun_at next last epoch (drop at es) e h hs ∙ (rw change refl ∙ ap (λ (xs : List EpochEntry). are_entries (next + h.count) (Some epoch) hs xs) (drop_one at es))

pub some_same : (next at : ℕ) (last : Option ℤ) (epoch : ℤ) (es : List EpochEntry) → begun next (drop at es) ≡ Some epoch → is_change last epoch ≡ false
    → (h : FoldHead) (hs : List FoldHead) → are_entries next last (h ∷ hs) (drop at es) ≡ false
some_same next at last epoch es e change h hs = begun_at next last epoch (drop at es) e h hs ∙ rw change refl

-- ---- the loop

pub next_fits : (begin : ℕ) (hs : List FoldHead) (i : ℕ) (d : FoldHead) (next n : ℕ) → i < length hs → begin + record_count hs ≤ 2 ^ 63 → next ≡ begin + record_count (take i hs) → n ≡ (get_or hs i d).count → next + n ≤ 2 ^ 63
next_fits begin [] i d next n lt le is count = absurd (omega (arith, lt))
next_fits begin (h ∷ hs) zero d next n lt le is count = omega (arith, le, is, count, sum_by-cons (λ (x : FoldHead). x.count) h hs)
next_fits begin (h ∷ hs) (suc i) d next n lt le is count =
    let all = sum_by-cons (λ (x : FoldHead). x.count) h hs in
    let some = sum_by-cons (λ (x : FoldHead). x.count) h (take i hs) in
    next_fits (begin + h.count) hs i d next n (omega (arith, lt)) (omega (arith, le, all)) (omega (arith, is, some)) count

pub record Walked (begin : ℕ) (heads : List FoldHead) (epochs : List EpochEntry) (i next at : ℕ) (last : Option ℤ) : Type 0 where
  pub same : are_entries next last (drop i heads) (drop at epochs) ≡ are_entries begin None heads epochs
  pub next_is : next ≡ begin + record_count (take i heads)
  pub within : at ≤ length epochs

pub walked_none : (begin : ℕ) (heads : List FoldHead) (epochs : List EpochEntry) → Walked begin heads epochs 0 begin 0 None
walked_none begin heads epochs = record { same = refl; next_is = omega arith; within = omega arith }

pub walked_on : (begin : ℕ) (heads : List FoldHead) (epochs : List EpochEntry) (i next at at' n : ℕ) (last last' : Option ℤ) (d : FoldHead) → i < length heads → n ≡ (get_or heads i d).count
    → ((h : FoldHead) (hs : List FoldHead) → are_entries next last (h ∷ hs) (drop at epochs) ≡ are_entries (next + h.count) last' hs (drop at' epochs))
    → at' ≤ length epochs → Walked begin heads epochs i next at last → Walked begin heads epochs (i + 1) (next + n) at' last'
walked_on begin heads epochs i next at at' n last last' d lt count step le w =
    let h : FoldHead = get_or heads i d in
    let here : drop i heads ≡ h ∷ drop (i + 1) heads = drop_more heads i d lt in
    let more : record_count (take (i + 1) heads) ≡ record_count (take i heads) + h.count = ap record_count (take_more heads i d lt) ∙ sum_by_push (λ (x : FoldHead). x.count) (take i heads) h in
    record {
      same = ap (λ (m : ℕ). are_entries (next + m) last' (drop (i + 1) heads) (drop at' epochs)) count
          ∙ (sym (step h (drop (i + 1) heads)) ∙ (ap (λ (hs : List FoldHead). are_entries next last hs (drop at epochs)) (sym here) ∙ w.same));
      next_is = let e = w.next_is in omega (arith, e, count, more);
      within = le;
    }

pub walked_off : (begin : ℕ) (heads : List FoldHead) (epochs : List EpochEntry) (i next at : ℕ) (last : Option ℤ) → i < length heads
    → ((h : FoldHead) (hs : List FoldHead) → are_entries next last (h ∷ hs) (drop at epochs) ≡ false) → Walked begin heads epochs i next at last → false ≡ are_entries begin None heads epochs
walked_off begin heads epochs i next at last lt step w = some (drop i heads) refl (length-drop i heads)
  where
    some : (hs : List FoldHead) → drop i heads ≡ hs → length hs ≡ length heads - i → false ≡ are_entries begin None heads epochs
    some [] here n = absurd (omega (arith, lt, n))
    some (h ∷ hs) here n = sym (step h hs) ∙ (ap (λ (xs : List FoldHead). are_entries next last xs (drop at epochs)) (sym here) ∙ w.same)

none_left : (next : ℕ) (last : Option ℤ) (hs : List FoldHead) → is_some last ≡ true → are_entries next last hs [] ≡ true
none_left next last [] some = refl
none_left next last (h ∷ hs) some = rw some (none_left (next + h.count) last hs some)

pub walked_done : (begin : ℕ) (heads : List FoldHead) (epochs : List EpochEntry) (i next at : ℕ) (last : Option ℤ) → is_some last ≡ true → at ≡ length epochs → Walked begin heads epochs i next at last → true ≡ are_entries begin None heads epochs
walked_done begin heads epochs i next at last some is w =
    let none : drop at epochs ≡ [] = drop_of_length-le epochs (omega (arith, is)) in
    sym (none_left next last (drop i heads) some) ∙ (ap (λ (es : List EpochEntry). are_entries next last (drop i heads) es) (sym none) ∙ w.same)

pub walked_all : (begin : ℕ) (heads : List FoldHead) (epochs : List EpochEntry) (i next at : ℕ) (last : Option ℤ) → length heads ≤ i → Walked begin heads epochs i next at last → eqb at (length epochs) ≡ are_entries begin None heads epochs
walked_all begin heads epochs i next at last le w =
    let none : drop i heads ≡ [] = drop_of_length-le heads le in
    left (drop at epochs) (length-drop at epochs) ∙ (ap (λ (hs : List FoldHead). are_entries next last hs (drop at epochs)) (sym none) ∙ w.same)
  where
    left : (es : List EpochEntry) → length es ≡ length epochs - at → eqb at (length epochs) ≡ are_entries next last [] es
    left [] n = let within = w.within in eq-eqb at (length epochs) (omega (arith, n, within))
    left (x ∷ xs) n = ne_eqb at (length epochs) (λ q. omega (arith, n, q))
