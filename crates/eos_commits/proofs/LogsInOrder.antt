-- The logs of an evidence stand in the order of their partitions' names.
use Rattle.std.proofs.Common.{◌≡◌, List, [], ◌∷◌, map, sym, ap, subst, ◌∙◌, arith, inl, inr}
use Rattle.std.specs.List.{All, AllPairs, AllByRecursion}
use Rattle.std.specs.List.Sorted.{IsStrictlySortedBy}
use Rattle.std.specs.declared.cmp.Ordering.TheVariants.{Less}
use Rattle.std.proofs.lemmas.List.Elements.{All-nil, All-cons}
use Rattle.std.proofs.lemmas.List.Kept.{AllPairs-cons}
use Rattle.std.proofs.lemmas.Map.Keys.{sorted_head, sorted_tail}
use Rattle.eos_base.specs.declared.partition_name.PartitionName.{PartitionName}
use Rattle.eos_base.specs.PartitionNames.{name_cmp}
use Rattle.eos_base.specs.Members.{Has}
use Rattle.eos_evidence.specs.declared.ends.End.{End}
use Rattle.eos_evidence.specs.declared.partition.Partition.{Partition}
use Rattle.eos_evidence.specs.Ends.{end_cmp}
use Rattle.eos_evidence.specs.Evidence.{EvidenceParts, IsEvidence}
use Rattle.eos_fold.specs.Parts.{part_name, PartLog, Rises}
use Rattle.eos_commits.specs.Faults as commits
use Rattle.eos_commits.specs.EvidenceLogs.{IsLogOf, AreLogsOf}

abbrev pub ends_of : List Partition → List End
ends_of = map (λ p. p.end)

abbrev pub end_name : End → PartitionName
end_name e = record { topic = e.topic; partition = e.partition }

pub name_is : (p : Partition) (l : PartLog) → IsLogOf p l → part_name l ≡ end_name p.end
name_is p l of = λ i. record { topic = of.log.of_topic i; partition = of.log.of_number i }

-- ---- names

below_all : (e : End) (ps : List Partition) (ls : List PartLog) → AreLogsOf ps ls → AllByRecursion (λ f. end_cmp e f ≡ Less) (ends_of ps)
    → All (λ m. name_cmp (end_name e) (part_name m) ≡ Less) ls
below_all e [] [] of h = All-nil (λ m. name_cmp (end_name e) (part_name m) ≡ Less)
below_all e [] (l ∷ ls) of h = absurd of
below_all e (p ∷ ps) [] of h = absurd of
below_all e (p ∷ ps) (l ∷ ls) of h =
    All-cons (λ m. name_cmp (end_name e) (part_name m) ≡ Less) l ls (ap (name_cmp (end_name e)) (name_is p l of.0) ∙ h.0) (below_all e ps ls of.1 h.1)

abbrev pub Below : PartLog → PartLog → Type 0
Below l m = name_cmp (part_name l) (part_name m) ≡ Less

no_pairs : AllPairs Below []
no_pairs i j d lt len = absurd (omega arith)

pub names_rise : (ps : List Partition) (ls : List PartLog) → AreLogsOf ps ls → IsStrictlySortedBy end_cmp (ends_of ps) → AllPairs Below ls
names_rise [] [] of h = no_pairs
names_rise [] (l ∷ ls) of h = absurd of
names_rise (p ∷ ps) [] of h = absurd of
names_rise (p ∷ ps) (l ∷ ls) of h =
    let first : All (λ m. name_cmp (end_name p.end) (part_name m) ≡ Less) ls = below_all p.end ps ls of.1 (sorted_head end_cmp p.end (ends_of ps) h) in
    AllPairs-cons Below l ls (subst (λ n. All (λ m. name_cmp n (part_name m) ≡ Less) ls) (sym (name_is p l of.0)) first)
    (names_rise ps ls of.1 (sorted_tail end_cmp p.end (ends_of ps) h))

-- ---- offsets

pub offsets_rise : (ps : List Partition) (ls : List PartLog) → AreLogsOf ps ls → (l : PartLog) → Has ls l → Rises l.items
offsets_rise [] [] of l h = absurd h
offsets_rise [] (m ∷ ls) of l h = absurd of
offsets_rise (p ∷ ps) [] of l h = absurd of
offsets_rise (p ∷ ps) (m ∷ ls) of l (inl e) = subst (λ (x : PartLog). Rises x.items) e of.0.rises
offsets_rise (p ∷ ps) (m ∷ ls) of l (inr h) = offsets_rise ps ls of.1 l h

pub sorted : (e : EvidenceParts) → IsEvidence e → IsStrictlySortedBy end_cmp (ends_of e.partitions)
sorted e h = subst (IsStrictlySortedBy end_cmp) (sym h.ends) h.accepted.ascending

pub in_order : (e : EvidenceParts) (ls : List PartLog) → IsEvidence e → AreLogsOf e.partitions ls → commits.AreInOrder ls
in_order e ls h of = record { names = names_rise e.partitions ls of (sorted e h); offsets = offsets_rise e.partitions ls of }
