-- Heads that are passed one after the other.
use Rattle.std.proofs.Common.{◌≡◌, ◌≢◌, ℕ, zero, suc, ◌+◌, ◌<◌, ◌≤◌, ◌^◌, List, [], ◌∷◌, ◌++◌, length, get_or, map, take, drop, Some, None, refl, sym, ap, subst, ◌∙◌, arith}
use Rattle.std.proofs.lemmas.List.{append-nil, map-append, take-append-drop, take_all, take_more, drop_more}
use Rattle.std.proofs.lemmas.List.Sums.{sum_by-cons, sum_by_push}
use Rattle.eos_batch.specs.declared.head.BatchHead.{BatchHead}
use Rattle.eos_fold_file.specs.declared.head.FoldHead.{FoldHead}
use Rattle.eos_fold_file.specs.Files.{record_count, data_records, data_count}
use Rattle.eos_fold_file.specs.Heads.{fold_head}
use Rattle.eos_fold_file.specs.declared.pass.Passed.{Passed}
use Rattle.eos_fold_file.specs.steps.Passing.{AllFit, FollowFrom, Passes}

pub fits_at : (hs : List BatchHead) (i : ℕ) (d : BatchHead) → AllFit hs → i < length hs → (get_or hs i d).offset + (get_or hs i d).count ≤ 2 ^ 63
fits_at [] i d fit lt = absurd (omega (arith, lt))
fits_at (x ∷ xs) zero d fit lt = fit.0
fits_at (x ∷ xs) (suc i) d fit lt = fits_at xs i d fit.1 (omega (arith, lt))

pub records_bound : (hs : List BatchHead) (i : ℕ) (d : BatchHead) (next records r : ℕ) → AllFit hs → i < length hs → (get_or hs i d).offset ≡ next → r ≤ (get_or hs i d).count → records ≤ next → records + r ≤ 2 ^ 63
records_bound hs i d next records r fit lt eq few within = let f = fits_at hs i d fit lt in omega (arith, f, eq, few, within)

pub next_bound : (hs : List BatchHead) (i : ℕ) (d : BatchHead) (next n : ℕ) → AllFit hs → i < length hs → (get_or hs i d).offset ≡ next → n ≡ (get_or hs i d).count → next + n ≤ 2 ^ 63
next_bound hs i d next n fit lt eq is = let f = fits_at hs i d fit lt in omega (arith, f, eq, is)

-- so many were passed
pub record HasPassed (begin : ℕ) (hs : List BatchHead) (i : ℕ) (passed : List FoldHead) (next records : ℕ) : Type 0 where
  pub next_is : next ≡ begin + record_count passed
  pub top : next ≤ 2 ^ 63
  pub counted : records ≡ data_count passed
  pub within : records ≤ next
  pub follow : FollowFrom begin (take i hs)
  pub heads_are : passed ≡ map fold_head (take i hs)

pub passed_none : (begin : ℕ) (hs : List BatchHead) (passed : List FoldHead) → begin ≤ 2 ^ 63 → passed ≡ [] → HasPassed begin hs 0 passed begin 0
passed_none begin hs passed le none =
    subst (λ (xs : List FoldHead). HasPassed begin hs 0 xs begin 0) (sym none) (record { next_is = omega arith; top = le; counted = refl; within = omega arith; follow = tt; heads_are = refl })

follow_push : (at : ℕ) (hs : List BatchHead) (h : BatchHead) → FollowFrom at hs → h.offset ≡ at + record_count (map fold_head hs) → FollowFrom at (hs ++ h ∷ [])
follow_push at [] h f e = (omega (arith, e), tt)
follow_push at (x ∷ xs) h f e =
    let c = sum_by-cons (λ (y : FoldHead). y.count) (fold_head x) (map fold_head xs) in
    (f.0, follow_push (at + x.count) xs h f.1 (omega (arith, e, c)))

pub passed_more : (begin : ℕ) (hs : List BatchHead) (i : ℕ) (d : BatchHead) (passed more : List FoldHead) (next records n r : ℕ) → AllFit hs → i < length hs → (get_or hs i d).offset ≡ next
    → more ≡ passed ++ fold_head (get_or hs i d) ∷ [] → n ≡ (get_or hs i d).count → r ≡ data_records (fold_head (get_or hs i d)) → r ≤ (get_or hs i d).count
    → HasPassed begin hs i passed next records → HasPassed begin hs (i + 1) more (next + n) (records + r)
passed_more begin hs i d passed more next records n r fit lt eq pushed on count few p =
    let h : BatchHead = get_or hs i d in
    let here : take (i + 1) hs ≡ take i hs ++ h ∷ [] = take_more hs i d lt in
    let m : record_count more ≡ record_count passed + h.count = ap record_count pushed ∙ sum_by_push (λ (x : FoldHead). x.count) passed (fold_head h) in
    let c : data_count more ≡ data_count passed + data_records (fold_head h) = ap data_count pushed ∙ sum_by_push data_records passed (fold_head h) in
    let z : next ≡ begin + record_count (map fold_head (take i hs)) = p.next_is ∙ ap (λ (xs : List FoldHead). begin + record_count xs) p.heads_are in
    record {
      next_is = let e = p.next_is in omega (arith, on, e, m);
      top = let f = fits_at hs i d fit lt in omega (arith, f, eq, on);
      counted = let e = p.counted in omega (arith, count, e, c);
      within = let e = p.within in omega (arith, e, on, count, few);
      follow = subst (FollowFrom begin) (sym here) (follow_push begin (take i hs) h p.follow (eq ∙ z));
      heads_are = pushed ∙ (ap (λ (xs : List FoldHead). xs ++ fold_head h ∷ []) p.heads_are ∙ (sym (map-append fold_head (take i hs) (h ∷ [])) ∙ ap (map fold_head) (sym here)));
    }

pub passes_stop : (begin : ℕ) (hs : List BatchHead) (i : ℕ) (d : BatchHead) (passed : List FoldHead) (next records : ℕ) (p : Passed) → i < length hs → (get_or hs i d).offset ≢ next
    → p.heads ≡ passed → p.records ≡ records → p.found ≡ Some (get_or hs i d).offset → HasPassed begin hs i passed next records → Passes begin hs p
passes_stop begin hs i d passed next records p lt ne heads count found had = record {
  passed = take i hs;
  others = get_or hs i d ∷ drop (i + 1) hs;
  parts = sym (take-append-drop i hs) ∙ ap (λ (xs : List BatchHead). take i hs ++ xs) (drop_more hs i d lt);
  follow = had.follow;
  heads_are = heads ∙ had.heads_are;
  counted = count ∙ (had.counted ∙ ap data_count (sym heads));
  ends = (found, λ e. ne (e ∙ (ap (λ (xs : List FoldHead). begin + record_count xs) heads ∙ sym had.next_is)));
}

pub passes_all : (begin : ℕ) (hs : List BatchHead) (i : ℕ) (passed : List FoldHead) (next records : ℕ) (p : Passed) → length hs ≤ i
    → p.heads ≡ passed → p.records ≡ records → p.found ≡ None → HasPassed begin hs i passed next records → Passes begin hs p
passes_all begin hs i passed next records p le heads count found had =
    let all : take i hs ≡ hs = take_all i hs le in
    record {
      passed = hs;
      others = [];
      parts = sym (append-nil hs);
      follow = subst (FollowFrom begin) all had.follow;
      heads_are = heads ∙ (had.heads_are ∙ ap (map fold_head) all);
      counted = count ∙ (had.counted ∙ ap data_count (sym heads));
      ends = found;
    }
