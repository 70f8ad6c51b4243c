-- The ids of a partition of the transaction log, one after the other, where nothing is unfinished.
use Rattle.std.proofs.Common.{◌≡◌, ◌⊎◌, ℕ, ℤ, List, [], ◌∷◌, ◌++◌, Bool, true, false, Option, Some, None, cond, if◌then◌else◌, refl, sym, ap, subst, ◌∙◌, inl, inr}
use Rattle.std.specs.List.{flat_map}
use Rattle.std.specs.Map.{lookup}
use Rattle.std.specs.BTreeMap.{BTreeMap, is_at}
use Rattle.std.specs.Ordering.{nat_cmp}
use Rattle.std.specs.Cmp.Lexicographic.{slice_cmp}
use Rattle.eos_txnlog.specs.declared.value.TxnValue.{TxnValue}
use Rattle.eos_verdict.specs.declared.log_fault.LogFault.{LogFault}
use Rattle.eos_verdict.specs.declared.log_fault.LogFaultKind.TheVariants.{Unfinished}
use Rattle.eos_table.specs.declared.mark.Mark.{Mark}
use Rattle.eos_table.specs.TransactionLog.{Id, State, same_id, flat, state_of, is_unfinished}
use Rattle.eos_table.specs.steps.LogCandidates.{fault_at, open_at}

abbrev Values : Type 0
Values = List (Id × Option TxnValue)

abbrev found : Values → Id → Option (Option TxnValue)
found rest id = lookup (is_at (slice_cmp nat_cmp id)) rest

-- the id's value is no open one, or is still to come
abbrev pub IsPast : Values → Id → Option TxnValue → Type 0
IsPast rest id v = (is_unfinished v ≡ false) ⊎ (found rest id ≡ Some v)

pub past_step : (rest more : Values) (k : Id) (w : Option TxnValue) (id : Id) (v : Option TxnValue) → rest ≡ (k, w) ∷ more → is_unfinished w ≡ false → IsPast rest id v → IsPast more id v
past_step rest more k w id v is settled (inl h) = inl h
past_step rest more k w id v is settled (inr h) = by_test (same_id id k) refl (sym (ap (λ (xs : Values). found xs id) is) ∙ h)
  where
    some_is : (x y : Option TxnValue) → Some x ≡ Some y → x ≡ y
    some_is x y e = cc

    by_test : (t : Bool) → same_id id k ≡ t → cond (same_id id k) (Some w) (found more id) ≡ Some v → IsPast more id v
    by_test true q g = inl (subst (λ z. is_unfinished z ≡ false) (some_is w v (sym (ap (λ (t : Bool). cond t (Some w) (found more id)) q) ∙ g)) settled)
    by_test false q g = inr (sym (ap (λ (t : Bool). cond t (Some w) (found more id)) q) ∙ g)

pub past_end : (rest : Values) (id : Id) (v : Option TxnValue) → rest ≡ [] → IsPast rest id v → is_unfinished v ≡ false
past_end rest id v is (inl h) = h
past_end rest id v is (inr h) = absurd (none_some (sym (ap (λ (xs : Values). found xs id) is) ∙ h))
  where
    none_some : None ≡ Some v → ⊥
    none_some q = cc

pub all_settled : (last : BTreeMap Id (Option TxnValue)) → ((id : Id) (v : Option TxnValue) → state_of last id ≡ Some v → is_unfinished v ≡ false) → (id : Id) → is_unfinished (flat (state_of last id)) ≡ false
all_settled last h id = by_value (state_of last id) refl
  where
    by_value : (o : Option (Option TxnValue)) → state_of last id ≡ o → is_unfinished (flat o) ≡ false
    by_value None e = refl
    by_value (Some v) e = h id v e

pub none_open : (last : State) (n : ℤ) (o : ℕ) (marks : List Mark) → ((id : Id) → is_unfinished (flat (last id)) ≡ false) → flat_map (open_at last n o) marks ≡ []
none_open last n o [] h = refl
none_open last n o (m ∷ ms) h =
    let here : open_at last n o m ≡ [] = ap (λ (b : Bool). if b then fault_at n o (Unfinished m.id) ∷ [] else []) (h m.id) in
    ap (λ (fs : List LogFault). fs ++ flat_map (open_at last n o) ms) here ∙ none_open last n o ms h
