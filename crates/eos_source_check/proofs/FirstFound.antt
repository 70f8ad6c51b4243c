-- The list begins with the first fault that was found.
use Rattle.std.proofs.Common.{◌≡◌, ◌≤◌, ℕ, zero, suc, ◌+◌, List, [], ◌∷◌, ◌++◌, length, map, take, Option, Some, None, refl, sym, ap, subst, ◌∙◌, append-nil, arith}
use Rattle.std.specs.Prelude.{IfSome}
use Rattle.std.specs.List.{slice_get}
use Rattle.std.proofs.lemmas.List.{take_all}
use Rattle.eos_evidence.specs.declared.partition.Partition.{Partition}
use Rattle.eos_evidence.specs.Evidence.{EvidenceParts}
use Rattle.eos_touch.specs.declared.fault.PartitionFault.{PartitionFault}
use Rattle.eos_kept.specs.declared.logs.Logs.{Logs}
use Rattle.eos_kept.specs.Faults.{first_of}
use Rattle.eos_verdict.specs.declared.verdict.Fault.{Fault}
use Rattle.eos_verdict.specs.declared.verdict.Fault.TheVariants.{Partition as InPartition}
use Rattle.eos_source.specs.Said.{Known}
use Rattle.eos_source_check.specs.Listed.{BeginsAsFound}
use Rattle.eos_source_check.specs.steps.FaultsAgain.{HasFaultsIfFound, BeginsIfFound}

-- ---- partitions that are passed one after the other

-- the first of two that is there
abbrev or_else : Option PartitionFault → Option PartitionFault → Option PartitionFault
or_else None o = o
or_else (Some f) o = Some f

first_added : (found : List (Option PartitionFault)) (f : Option PartitionFault) → first_of (found ++ f ∷ []) ≡ or_else (first_of found) f
first_added [] None = refl
first_added [] (Some f) = refl
first_added (None ∷ found) f = first_added found f
first_added (Some g ∷ found) f = refl

head_added : (list here : List PartitionFault) → slice_get (list ++ here) 0 ≡ or_else (slice_get list 0) (slice_get here 0)
head_added [] here = refl
head_added (f ∷ list) here = refl

same : (x y : Option PartitionFault) → Some x ≡ Some y → x ≡ y
same x y e = cc

taken : (found : List (Option PartitionFault)) (i : ℕ) (f : Option PartitionFault) → slice_get found i ≡ Some f → take (suc i) found ≡ take i found ++ f ∷ []
taken [] i f e = absurd cc
taken (x ∷ found) zero f e = ap (λ (y : Option PartitionFault). y ∷ []) (same x f e)
taken (x ∷ found) (suc i) f e = ap (λ (ys : List (Option PartitionFault)). x ∷ ys) (taken found i f e)

past : (found : List (Option PartitionFault)) (i : ℕ) → slice_get found i ≡ None → length found ≤ i
past [] i e = omega arith
past (x ∷ found) zero e = absurd cc
past (x ∷ found) (suc i) e = let more = past found i e in omega (arith, more)

-- one more, in which this was found
one_found : (found : List (Option PartitionFault)) (i : ℕ) (f : Option PartitionFault) (list here all : List PartitionFault) → slice_get found i ≡ Some f → slice_get here 0 ≡ f → all ≡ list ++ here
    → slice_get list 0 ≡ first_of (take i found) → slice_get all 0 ≡ first_of (take (i + 1) found)
one_found found i f list here all at begins e so_far =
    let z : suc i ≡ i + 1 = omega arith in
    let ends : first_of (take (i + 1) found) ≡ or_else (first_of (take i found)) f =
    ap first_of (subst (λ (n : ℕ). take n found ≡ take i found ++ f ∷ []) z (taken found i f at)) ∙ first_added (take i found) f in
    ap (λ (l : List PartitionFault). slice_get l 0) e ∙ (head_added list here ∙ (ap (λ (o : Option PartitionFault). or_else o (slice_get here 0)) so_far ∙ (ap (or_else (first_of (take i found))) begins ∙ sym ends)))

pub unchanged : (list here all : List PartitionFault) → here ≡ [] → all ≡ list ++ here → all ≡ list
unchanged list here all none e = e ∙ (ap (λ (xs : List PartitionFault). list ++ xs) none ∙ append-nil list)

pub first_passed : (known : ℕ → Known) (first : ℕ) (p : Partition) (found : List (Option PartitionFault)) (i : ℕ) (o : Option (Option PartitionFault)) (list here all : List PartitionFault) → slice_get found i ≡ o
    → HasFaultsIfFound known first p o here → BeginsIfFound o here → all ≡ list ++ here → slice_get list 0 ≡ first_of (take i found)
    → slice_get all 0 ≡ first_of (take (i + 1) found)
first_passed known first p found i None list here all at has begins e so_far =
    let le = past found i at in
    let gone : take (i + 1) found ≡ take i found = take_all (i + 1) found (omega (arith, le)) ∙ sym (take_all i found le) in
    ap (λ (l : List PartitionFault). slice_get l 0) (unchanged list here all has e) ∙ (so_far ∙ ap first_of (sym gone))
first_passed known first p found i (Some None) list here all at has begins e so_far =
    one_found found i None list here all at (ap (λ (l : List PartitionFault). slice_get l 0) has) e so_far
first_passed known first p found i (Some (Some f)) list here all at has begins e so_far = one_found found i (Some f) list here all at begins e so_far

-- ---- all of them

abbrev in_partition : Option PartitionFault → Option Fault
in_partition None = None
in_partition (Some f) = Some (InPartition f)

mapped : (list : List PartitionFault) (f : PartitionFault) → slice_get list 0 ≡ Some f → slice_get (map InPartition list) 0 ≡ Some (InPartition f)
mapped [] f e = absurd cc
mapped (g ∷ list) f e = ap in_partition e

pub begins : (shape : EvidenceParts) (logs : Logs) (list : List PartitionFault) (all : List Fault) → slice_get list 0 ≡ first_of (take (length shape.partitions) logs.faults.items) → all ≡ map InPartition list
    → BeginsAsFound shape logs all
begins shape logs list all h e = λ le. by (first_of logs.faults.items) (h ∙ ap first_of (take_all (length shape.partitions) logs.faults.items le))
  where
    by : (o : Option PartitionFault) → slice_get list 0 ≡ o → IfSome o (λ f. slice_get all 0 ≡ Some (InPartition f))
    by None at = tt
    by (Some f) at = ap (λ (l : List Fault). slice_get l 0) e ∙ mapped list f at

pub none_found : (shape : EvidenceParts) (logs : Logs) (all : List Fault) → first_of logs.faults.items ≡ None → BeginsAsFound shape logs all
none_found shape logs all e = λ le. subst (λ o. IfSome o (λ f. slice_get all 0 ≡ Some (InPartition f))) (sym e) tt
