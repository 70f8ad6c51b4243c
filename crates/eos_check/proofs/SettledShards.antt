-- The least of what the shards answered is the least of all.
use Rattle.std.proofs.Common.{◌≡◌, ◌<◌, ℕ, zero, suc, List, [], ◌∷◌, length, slice_index_or, fold, Option, Some, None, Ok, Err, MatchOption, refl, sym, ap, subst, arith, inl, inr, ◌⊎◌, ◌∙◌}
use Rattle.std.specs.Prelude.{IfOk}
use Rattle.eos_base.specs.Least.{IsLeastOrNone, lesser_of}
use Rattle.eos_base.specs.Members.{Has}
use Rattle.eos_base.proofs.LeastOf.{IsLeastAmong, fold_least}
use Rattle.eos_txnlog.specs.declared.decision.Decision.{Decision}
use Rattle.eos_fold.specs.Parts.{PartLog}
use Rattle.eos_verdict.specs.declared.match_fault.MatchFault.{MatchFault}
use Rattle.eos_table.specs.MatchFaults.{fault_cmp, Stands}
use Rattle.eos_table.specs.Shards.{IsAnswer, AreAnswers}
use Rattle.eos_table.proofs.MatchOrder.{fault_total}
use Rattle.eos_table.proofs.ShardLaw.{least, none}
use Rattle.eos_check.specs.steps.Shards.{Answer, IsThere, fault_in, lesser_answer, AreSettled}

-- the faults that were answered
abbrev found : List Answer → List MatchFault
found [] = []
found (Err e ∷ xs) = found xs
found (Ok None ∷ xs) = found xs
found (Ok (Some f) ∷ xs) = f ∷ found xs

fold_found : (best : Option MatchFault) (xs : List Answer) → fold (λ b a. lesser_answer b (fault_in a)) best xs ≡ fold (lesser_of fault_cmp) best (found xs)
fold_found best [] = refl
fold_found best (Err e ∷ xs) = fold_found best xs
fold_found best (Ok None ∷ xs) = fold_found best xs
fold_found best (Ok (Some f) ∷ xs) = fold_found (lesser_of fault_cmp best f) xs

abbrev no_fault : Option MatchFault
no_fault = None

-- what shard i answered
abbrev at : List Answer → ℕ → Option MatchFault
at xs i = fault_in (slice_index_or xs i (Ok None))

is_found : (xs : List Answer) (i : ℕ) (f : MatchFault) → i < length xs → at xs i ≡ Some f → Has (found xs) f
is_found [] i f l e = absurd (omega (arith, l))
is_found (Err x ∷ xs) zero f l e = absurd cc
is_found (Ok None ∷ xs) zero f l e = absurd cc
is_found (Ok (Some g) ∷ xs) zero f l e = inl cc
is_found (Err x ∷ xs) (suc i) f l e = is_found xs i f (omega (arith, l)) e
is_found (Ok None ∷ xs) (suc i) f l e = is_found xs i f (omega (arith, l)) e
is_found (Ok (Some g) ∷ xs) (suc i) f l e = inr (is_found xs i f (omega (arith, l)) e)

abbrev Place : List Answer → MatchFault → Type 0
Place xs f = (i : ℕ) × (i < length xs) × (at xs i ≡ Some f)

later : (a : Answer) (xs : List Answer) (f : MatchFault) → Place xs f → Place (a ∷ xs) f
later a xs f p = (suc p.0, omega (arith, p.1), p.2)

place_of : (xs : List Answer) (f : MatchFault) → Has (found xs) f → Place xs f
place_of [] f h = absurd h
place_of (Err e ∷ xs) f h = later (Err e) xs f (place_of xs f h)
place_of (Ok None ∷ xs) f h = later (Ok None) xs f (place_of xs f h)
place_of (Ok (Some g) ∷ xs) f (inl e) = (zero, omega arith, ap Some e)
place_of (Ok (Some g) ∷ xs) f (inr h) = later (Ok (Some g)) xs f (place_of xs f h)

answer_in : (a : Answer) (P : Option MatchFault → Type 0) → IsThere a → IfOk a P → P (fault_in a)
answer_in (Ok o) P there h = h
answer_in (Err e) P there h = absurd there

pub settled : (ds : List Decision) (ps : List PartLog) (n : ℕ) (xs : List Answer) (o : Option MatchFault) → 0 < n → length xs ≡ n
    → ((i : ℕ) → i < n → IfOk (slice_index_or xs i (Ok None)) (IsAnswer ds ps n i)) → AreSettled xs o → IsLeastOrNone fault_cmp (Stands ds ps) o
settled ds ps n xs o some len each s =
    let answers : AreAnswers ds ps n (at xs) = λ i l. answer_in (slice_index_or xs i (Ok None)) (IsAnswer ds ps n i) (s.0 i (Ok None) (omega (arith, l, len))) (each i l) in
    go answers o (s.1 ∙ fold_found None xs)
  where
    Least : Option MatchFault → Type 0
    Least w = MatchOption w ((no_fault ≡ None) × ((y : MatchFault) → Has (found xs) y → ⊥)) (IsLeastAmong {cmp = fault_cmp} fault_total None (found xs))

    nothing : (y : Option MatchFault) → ((f : MatchFault) → y ≡ Some f → ⊥) → y ≡ None
    nothing None h = refl
    nothing (Some f) h = absurd (h f refl)

    go : AreAnswers ds ps n (at xs) → (w : Option MatchFault) → w ≡ fold (lesser_of fault_cmp) None (found xs) → IsLeastOrNone fault_cmp (Stands ds ps) w
    go answers None e =
        let m = subst Least (sym e) (fold_least fault_total None (found xs)) in
        none ds ps n (at xs) some answers (λ i l. nothing (at xs i) (λ f q. m.1 f (is_found xs i f (omega (arith, l, len)) q)))
    go answers (Some f) e =
        let m = subst Least (sym e) (fold_least fault_total None (found xs)) in
        let p = place_of xs f (among m.from) in
        least ds ps n (at xs) p.0 f some answers (omega (arith, p.1, len)) p.2 (λ i g l q. m.all g (is_found xs i g (omega (arith, l, len)) q))
      where
        among : (None ≡ Some f) ⊎ Has (found xs) f → Has (found xs) f
        among (inl q) = absurd cc
        among (inr h) = h
