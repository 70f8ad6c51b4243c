-- The second pass over the records of the transaction log, one record further.
use Rattle.std.proofs.Common.{◌≡◌, ℕ, suc, ◌+◌, ◌<◌, List, [], ◌∷◌, ◌++◌, length, get_or, take, drop, fold, sym, ap, subst, ◌∙◌, drop-cons, add-one}
use Rattle.std.proofs.lemmas.List.{take_more}
use Rattle.std.proofs.lemmas.List.Sums.{fold-append}
use Rattle.eos_verdict.specs.declared.log_fault.LogFault.{LogFault}
use Rattle.eos_table.specs.declared.mark.Mark.{Mark}
use Rattle.eos_table.specs.steps.LogCandidates.{Faults, taken}
use Rattle.eos_table.specs.steps.Doubled.{home_in, split_at, shared_at, doubled_after}

abbrev kept_with : Faults → List LogFault → Faults
kept_with kept faults = fold taken kept faults

pub passed_more : (marks : List Mark) (i : ℕ) (m : Mark) → i < length marks → m ≡ get_or marks i m → take i marks ++ m ∷ [] ≡ take (i + 1) marks
passed_more marks i m lt is = ap (λ t. take i marks ++ t ∷ []) is ∙ sym (take_more marks i m lt)

next : (marks : List Mark) (i : ℕ) (m : Mark) → i < length marks → m ≡ get_or marks i m → drop i marks ≡ m ∷ drop (i + 1) marks
next marks i m lt is = drop-cons marks i m lt ∙ (ap (λ t. t ∷ drop (suc i) marks) (sym is) ∙ ap (λ n. m ∷ drop n marks) (sym (add-one i)))

pub doubled_more : (kept split both all : Faults) (marks : List Mark) (i : ℕ) (m : Mark) → i < length marks → m ≡ get_or marks i m
    → kept_with kept (doubled_after (take i marks) (drop i marks)) ≡ all → split ≡ kept_with kept (split_at m (home_in (take i marks) m.id))
    → both ≡ kept_with split (shared_at (take i marks) m m.producer) → kept_with both (doubled_after (take (i + 1) marks) (drop (i + 1) marks)) ≡ all
doubled_more kept split both all marks i m lt is so_far split_is both_is =
    let before = take i marks in
    let rest = drop (i + 1) marks in
    let homes = split_at m (home_in before m.id) in
    let ids = shared_at before m m.producer in
    let later = doubled_after (before ++ m ∷ []) rest in
    let here : kept_with kept (homes ++ ids) ≡ both = fold-append taken kept homes ids ∙ (ap (λ b. kept_with b ids) (sym split_is) ∙ sym both_is) in
    let whole = subst (λ ms. kept_with kept (doubled_after before ms) ≡ all) (next marks i m lt is) so_far in
    ap (λ ms. kept_with both (doubled_after ms rest)) (sym (passed_more marks i m lt is))
    ∙ (ap (λ b. kept_with b later) (sym here) ∙ (sym (fold-append taken kept (homes ++ ids) later) ∙ whole))
