-- The state of a producer id after one item more.
use Rattle.std.proofs.Common.{◌≡◌, ◌++◌, ◌∷◌, [], ℕ, suc, zero, ◌+◌, ◌<◌, ◌≤◌, ◌==◌, List, length, ◌∙◌, sym, ap, arith, refl, slice_index_or, slice_set, replicate, true, false, Option, Some, None, if◌then◌else◌, ◌^◌, append-nil}
use Rattle.std.specs.List.{All}
use Rattle.std.proofs.lemmas.List.{get_or-set_same, get_or-set_other, length-set}
use Rattle.std.proofs.lemmas.Bool.{eqb-true, eqb-false}
use Rattle.std.proofs.lemmas.List.Elements.{All-from_all_within, filter_map-append}
use Rattle.eos_machine.specs.Application.{Mark, Batch, End}
use Rattle.eos_machine.specs.declared.item.Item.{Item}
use Rattle.eos_machine.specs.declared.state.Producer.{Producer}
use Rattle.eos_machine.specs.Logs.{mark_in, marks_of, unseen, is_epoch, after_mark, producer_from, producer_of}
use Rattle.eos_machine.proofs.Brokers.{producer_push}
use Rattle.eos_broker.specs.Kept.{AreKept}
use Rattle.eos_broker.specs.steps.Kept.{noted}

-- an item that is no mark of the application, or is one
pub pass : (a : ℕ) (log : List Item) (x : Item) → mark_in a x ≡ None → marks_of a (log ++ x ∷ []) ≡ marks_of a log
pass a log x e = filter_map-append (mark_in a) log (x ∷ []) ∙ rw e (append-nil (marks_of a log))

pub push : (a : ℕ) (log : List Item) (x : Item) (t : Mark) → mark_in a x ≡ Some t → marks_of a (log ++ x ∷ []) ≡ marks_of a log ++ t ∷ []
push a log x t e = filter_map-append (mark_in a) log (x ∷ []) ∙ rw e refl

none_more : (a : ℕ) (log : List Item) (x : Item) → mark_in a x ≡ None → producer_of (marks_of a (log ++ x ∷ [])) ≡ producer_of (marks_of a log)
none_more a log x e = ap producer_of (pass a log x e)

one_more : (a : ℕ) (log : List Item) (x : Item) (t : Mark) → mark_in a x ≡ Some t → producer_of (marks_of a (log ++ x ∷ [])) ≡ after_mark (producer_of (marks_of a log)) t
one_more a log x t e = ap producer_of (push a log x t e) ∙ producer_push unseen (marks_of a log) t

-- an item of nobody in range
pub kept_same : (ps : List Producer) (log : List Item) (x : Item) → AreKept ps log → ((a : ℕ) → a < length ps → mark_in a x ≡ None) → AreKept ps (log ++ x ∷ [])
kept_same ps log x h none a i = h a i ∙ sym (none_more a log x (none a i))

-- an item of one, whose state is kept or not
pub kept_noted : (ps : List Producer) (log : List Item) (x : Item) (b : ℕ) (t : Mark) → AreKept ps log → ((a : ℕ) → mark_in a x ≡ (if b == a then Some t else None)) → AreKept (noted ps b t) (log ++ x ∷ [])
kept_noted ps log x b t h is a i =
    let s : Producer = after_mark (slice_index_or ps b unseen) t in
    let n : length (slice_set ps b s) ≡ length ps = length-set ps b s in
    let k : a < length ps = omega (arith, i, n) in
    elim (b == a) as (λ z. (b == a) ≡ z → slice_index_or (slice_set ps b s) a unseen ≡ producer_of (marks_of a (log ++ x ∷ []))) [
      | true ↦ λ q.
          let m : b ≡ a = eqb-true b a q in
          let w : slice_index_or (slice_set ps b s) a unseen ≡ s = rw (← m) (get_or-set_same ps b s unseen (omega (arith, m, k))) in
          let v : mark_in a x ≡ Some t = is a ∙ ap (λ z. if z then Some t else None) q in
          w ∙ (ap (λ r. after_mark r t) (ap (λ k. slice_index_or ps k unseen) m ∙ h a k) ∙ sym (one_more a log x t v))
      | false ↦ λ q.
          let v : mark_in a x ≡ None = is a ∙ ap (λ z. if z then Some t else None) q in
          let w : slice_index_or (slice_set ps b s) a unseen ≡ slice_index_or ps a unseen = get_or-set_other ps b a s unseen (λ m. eqb-false b a q (sym m)) in
          w ∙ (h a k ∙ sym (none_more a log x v))
    ] refl

-- ---- a count is at most the number of items

one : (t : Mark) (s : Producer) → (after_mark s t).count ≤ s.count + 1
one (End e k) s = omega arith
one (Batch e q) s = elim (is_epoch s.last e) as (λ z. (if z then s.count + 1 else 1) ≤ s.count + 1) [ true ↦ omega arith | false ↦ omega arith ]

counts : (s : Producer) (ts : List Mark) → (producer_from s ts).count ≤ s.count + length ts
counts s [] = omega arith
counts s (t ∷ ts) = let r = counts (after_mark s t) ts in let m = one t s in omega (arith, r, m)

pub few : (a : ℕ) (log : List Item) → length (marks_of a log) ≤ length log
few a [] = omega arith
few a (x ∷ xs) = at (few a xs) (mark_in a x) refl
  where
    at : length (marks_of a xs) ≤ length xs → (r : Option Mark) → mark_in a x ≡ r → length (marks_of a (x ∷ xs)) ≤ length (x ∷ xs)
    at k None e = rw e (omega (arith, k))
    at k (Some t) e = rw e (omega (arith, k))

pub count_bound : (a : ℕ) (log : List Item) → (producer_of (marks_of a log)).count ≤ length log
count_bound a log = let r = counts unseen (marks_of a log) in let k = few a log in omega (arith, r, k)

get_or_default : (ps : List Producer) (k : ℕ) (d e : Producer) → k < length ps → slice_index_or ps k d ≡ slice_index_or ps k e
get_or_default [] k d e i = absurd (omega (arith, i))
get_or_default (p ∷ ps) zero d e i = refl
get_or_default (p ∷ ps) (suc k) d e i = get_or_default ps k d e (omega (arith, i))

pub all_counts : (ps : List Producer) (log : List Item) → AreKept ps log → length log < 2 ^ 63 → All (λ p. p.count < 2 ^ 63) ps
all_counts ps log h n = All-from_all_within (λ p. p.count < 2 ^ 63) ps (λ k d o l.
    let r = count_bound k log in
    let e : slice_index_or ps k d ≡ producer_of (marks_of k log) = get_or_default ps k d unseen l ∙ h k l in
    rw e (omega (arith, r, n)))

-- nothing stands in an empty log
pub kept_none : (n : ℕ) → AreKept (replicate n unseen) []
kept_none zero a i = absurd (omega (arith, i))
kept_none (suc n) zero i = refl
kept_none (suc n) (suc a) i = kept_none n a (omega (arith, i))
