-- The heads of data batches, and what waits among them.
use Rattle.std.proofs.Common.{◌≡◌, ℕ, zero, suc, ◌+◌, ◌<◌, ◌≤◌, List, [], ◌∷◌, ◌++◌, length, drop, set, slice_index_or, Some, refl, sym, ap, ◌∙◌, ℤ, arith}
use Rattle.std.specs.List.{slice_get}
use Rattle.eos_fold.specs.declared.entry.Ending.{Ending}
use Rattle.eos_fold.specs.Batches.{DataBatch}
use Rattle.eos_fold.specs.Heads.{DataHead, data_head}
use Rattle.eos_fold.specs.Settling.{waiting_from, waiting_in}
use Rattle.eos_fold.specs.steps.Endings.{set_ending, set_endings}
use Rattle.eos_fold.proofs.FatesSet.{ending_next}
use Rattle.std.proofs.lemmas.List.{drop_all}
use Rattle.eos_kept.specs.Runs.{heads_of}

pub heads_of-append : (xs ys : List DataBatch) → heads_of (xs ++ ys) ≡ heads_of xs ++ heads_of ys
heads_of-append [] ys = refl
heads_of-append (x ∷ xs) ys = ap (λ (hs : List DataHead). data_head x ∷ hs) (heads_of-append xs ys)

pub heads_of-length : (xs : List DataBatch) → length (heads_of xs) ≡ length xs
heads_of-length [] = refl
heads_of-length (x ∷ xs) = let e = heads_of-length xs in omega (arith, e)

-- another ending at a place
abbrev pub with_end : Ending → DataHead → DataHead
with_end ending h = record h { ending = ending }

pub set_heads : (ending : Ending) (xs : List DataBatch) (i : ℕ) (h : DataHead) → slice_get (heads_of xs) i ≡ Some h → set (heads_of xs) i (with_end ending h) ≡ heads_of (set_ending ending i xs)
set_heads ending [] i h e = absurd cc
set_heads ending (x ∷ xs) zero h e =
    let same : data_head x ≡ h = cc in
    ap (λ (g : DataHead). with_end ending g ∷ heads_of xs) (sym same)
set_heads ending (x ∷ xs) (suc i) h e = ap (λ (hs : List DataHead). data_head x ∷ hs) (set_heads ending xs i h e)

pub set_heads_in : (ending : Ending) (hs : List DataHead) (xs : List DataBatch) (i : ℕ) (h : DataHead) → slice_get hs i ≡ Some h → hs ≡ heads_of xs → set hs i (with_end ending h) ≡ heads_of (set_ending ending i xs)
set_heads_in ending hs xs i h at e = ap (λ (gs : List DataHead). set gs i (with_end ending h)) e ∙ set_heads ending xs i h (ap (λ (gs : List DataHead). slice_get gs i) (sym e) ∙ at)

-- what waits is told by the heads
pub waiting_from-heads : (at : ℕ) (id : ℤ) (xs ys : List DataBatch) → heads_of xs ≡ heads_of ys → waiting_from at id xs ≡ waiting_from at id ys
waiting_from-heads at id [] [] e = refl
waiting_from-heads at id [] (y ∷ ys) e = absurd cc
waiting_from-heads at id (x ∷ xs) [] e = absurd cc
waiting_from-heads at id (x ∷ xs) (y ∷ ys) e =
    let first : data_head x ≡ data_head y = cc in
    let others : heads_of xs ≡ heads_of ys = cc in
    let ending : x.ending ≡ y.ending = ap (λ (h : DataHead). h.ending) first in
    rw (ending, waiting_from-heads (at + 1) id xs ys others) refl

pub waiting-heads : (id : ℤ) (xs ys : List DataBatch) → heads_of xs ≡ heads_of ys → waiting_in id xs ≡ waiting_in id ys
waiting-heads id xs ys e = waiting_from-heads 0 id xs ys e

-- endings were set at so many of these places
abbrev pub SetsOn : Ending → List ℕ → ℕ → List DataHead → List DataHead → Type 0
SetsOn ending places i before after =
    (ds : List DataBatch) → before ≡ heads_of ds → (es : List DataBatch) × (after ≡ heads_of es) × (set_endings ending (drop i places) es ≡ set_endings ending places ds)

pub sets_none : (ending : Ending) (places : List ℕ) (hs : List DataHead) → SetsOn ending places 0 hs hs
sets_none ending places hs ds e = (ds, e, refl)

pub sets_more : (ending : Ending) (places : List ℕ) (i d : ℕ) (before after more : List DataHead) → i < length places → SetsOn ending places i before after
    → ((ds : List DataBatch) → after ≡ heads_of ds → more ≡ heads_of (set_ending ending (slice_index_or places i d) ds)) → SetsOn ending places (i + 1) before more
sets_more ending places i d before after more lt h step ds e =
    let w = h ds e in
    (set_ending ending (slice_index_or places i d) w.0, step w.0 w.1, ending_next ending places w.0 i d lt ∙ w.2)

pub sets_all : (ending : Ending) (places : List ℕ) (i : ℕ) (before after : List DataHead) → length places ≤ i → SetsOn ending places i before after → (ds : List DataBatch) → before ≡ heads_of ds → after ≡ heads_of (set_endings ending places ds)
sets_all ending places i before after le h ds e =
    let w = h ds e in
    let none : drop i places ≡ [] = drop_all i places le in
    w.1 ∙ ap heads_of (ap (λ (ps : List ℕ). set_endings ending ps w.0) (sym none) ∙ w.2)
