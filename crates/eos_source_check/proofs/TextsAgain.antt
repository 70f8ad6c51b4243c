-- Segments that are read again for the keys, values and claims of their records.
use Rattle.std.proofs.Common.{◌≡◌, ◌<◌, ◌≤◌, ℕ, ℤ, zero, suc, ◌+◌, List, [], ◌∷◌, ◌++◌, length, take, get_or, Option, Some, None, refl, sym, ap, subst, ◌∙◌, arith}
use Rattle.std.specs.List.{AllByRecursion}
use Rattle.std.specs.Prelude.{slice_get}
use Rattle.std.proofs.lemmas.List.{take_more, take_all, length-take-le}
use Rattle.std.proofs.lemmas.List.Elements.{All-nil, All-cons}
use Rattle.eos_base.specs.declared.partition_name.PartitionName.{PartitionName}
use Rattle.eos_evidence.specs.declared.ends.End.{End}
use Rattle.eos_evidence.specs.declared.partition.Partition.{Partition}
use Rattle.eos_evidence.specs.declared.segment.Segment.{Segment}
use Rattle.eos_evidence.specs.Evidence.{EvidenceParts, IsEvidence, IsPartition}
use Rattle.eos_fold.specs.Standing.{AreOf}
use Rattle.eos_kept.specs.declared.kept_run.KeptRun.{KeptRun}
use Rattle.eos_kept.specs.declared.part.Told.{Told}
use Rattle.eos_kept.specs.Held.{IsHeld}
use Rattle.eos_kept.specs.KeptRuns.{IsKeptRun, AreKeptRun, wanted_by, HasClaims}
use Rattle.eos_kept.specs.Parts.{IsTold}
use Rattle.eos_kept.proofs.PartsHeld.{are_of, checked_so, were_kept}
use Rattle.eos_reading.specs.declared.wanted.Wanted.TheVariants.{Texts}
use Rattle.eos_source.specs.Said.{Known}
use Rattle.eos_source_check.specs.Again.{IsLogAgain, AreLogsAgain, AreTextsNamed}
use Rattle.eos_source_check.specs.steps.FaultsAgain.{IsLogOf}
use Rattle.eos_source_check.specs.steps.FoldsAgain.{IsFoundAt}
use Rattle.eos_source_check.specs.steps.TextsAgain.{texts_asked, IsTextAgain, AreTextsAgain}
use Rattle.eos_source_check.proofs.LogsAgain.{named_again, one_more}

-- ---- one

pub text_read : (known : Known) (name : Segment) (run : KeptRun) (bytes : List ℕ) → IsLogOf known bytes
    → ((segment : Segment) → segment.topic ≡ name.topic → segment.base ≡ name.base → segment.bytes ≡ bytes → IsKeptRun [] (segment ∷ []) run) → wanted_by run ≡ Texts → HasClaims [] run → IsTextAgain known name run
text_read known name run bytes is of wanted claims =
    let s : Segment = record { topic = name.topic; partition = name.partition; base = name.base; bytes = bytes } in
    let kept : IsKeptRun [] (s ∷ []) run = of s refl refl refl in
    record {
      segment = s;
      again = named_again known name bytes s is refl refl refl refl;
      held = record { kept = kept; asked = record { wanted = wanted; claims = claims; checked = checked_so [] s [] run kept } };
    }

-- ---- one after the other

pub no_texts : (known : ℕ → Known) (first : ℕ) (names : List Segment) (topic : List ℕ) → AreTextsAgain known first (take 0 names) topic None
no_texts known first names topic = record { segments = []; again = tt; held = refl }

-- of a segment of the partition's topic
pub of_topic : (known : Known) (name : Segment) (topic : List ℕ) (run : KeptRun) → name.topic ≡ topic → (one : IsTextAgain known name run) → IsHeld (texts_asked topic) (one.segment ∷ []) run
of_topic known name topic run same one = subst (λ (t : List ℕ). IsHeld (texts_asked t) (one.segment ∷ []) run) same one.held

pub one_text : (known : ℕ → Known) (first : ℕ) (names : List Segment) (topic : List ℕ) (i : ℕ) (name : Segment) (before : Option KeptRun) (run after : KeptRun) → i < length names → name ≡ get_or names i name → (one : IsTextAgain (known (first + i)) name run)
    → (h : AreTextsAgain known first (take i names) topic before) → IsHeld (texts_asked topic) (h.segments ++ one.segment ∷ []) after → AreTextsAgain known first (take (i + 1) names) topic (Some after)
one_text known first names topic i name before run after lt is one h held =
    let size : length (take i names) ≡ i = length-take-le i names (omega (arith, lt)) in
    let more : take i names ++ name ∷ [] ≡ take (i + 1) names = sym (take_more names i name lt ∙ ap (λ (n : Segment). take i names ++ n ∷ []) (sym is)) in
    let here = subst (λ (n : ℕ). IsLogAgain (known (first + n)) name one.segment) (sym size) one.again in
    record {
      segments = h.segments ++ one.segment ∷ [];
      again = subst (λ (ns : List Segment). AreLogsAgain known first ns (h.segments ++ one.segment ∷ [])) more (one_more known first (take i names) h.segments name one.segment h.again here);
      held = held;
    }

pub all_texts : (known : ℕ → Known) (first : ℕ) (names segments : List Segment) (topic : List ℕ) (i : ℕ) (run : Option KeptRun) → names ≡ segments → length names ≤ i → AreTextsAgain known first (take i names) topic run → AreTextsAgain known first segments topic run
all_texts known first names segments topic i run same le h = subst (λ (ns : List Segment). AreTextsAgain known first ns topic run) (take_all i names le ∙ same) h

-- the name of this number is of the partition's topic
pub own_topic : (p : Partition) (names : List Segment) (i : ℕ) (name : Segment) → IsPartition p → names ≡ p.segments → i < length names → name ≡ get_or names i name → name.topic ≡ p.end.topic
own_topic p names i name is same lt at =
    let of : AreOf p.end.topic p.end.partition names = subst (AreOf p.end.topic p.end.partition) (sym same) (are_of p is) in
    ap (λ (s : Segment). s.topic) at ∙ (of i name lt).0

-- ---- the log of a partition

logs_of : (known : ℕ → Known) (piece : ℕ) (names segments : List Segment) (topic : List ℕ) (number : ℤ) → AreOf topic number names → AreLogsAgain known piece names segments → AreOf topic number segments
logs_of known piece [] [] topic number of again = All-nil (λ s. (s.topic ≡ topic) × (s.partition ≡ number))
logs_of known piece [] (s ∷ ss) topic number of again = absurd again
logs_of known piece (n ∷ ns) [] topic number of again = absurd again
logs_of known piece (n ∷ ns) (s ∷ ss) topic number of again =
    let first = of 0 n (omega arith) in
    All-cons (λ s. (s.topic ≡ topic) × (s.partition ≡ number)) s ss (again.0.piece.topic ∙ first.0, again.0.piece.partition ∙ first.1)
    (logs_of known (suc piece) ns ss topic number (λ i d lt. of (suc i) d (omega (arith, lt))) again.1)

pub named_texts : (known : ℕ → Known) (partitions : List Partition) (name : PartitionName) (place first : ℕ) (shape : Partition) (end : End) (run : Option KeptRun) (told : Told) → IsFoundAt partitions name place first → slice_get partitions place ≡ Some shape
    → IsPartition shape → end ≡ shape.end → AreTextsAgain known first shape.segments shape.end.topic run
    → ((segments : List Segment) → AreKeptRun [] segments run → AreOf end.topic end.partition segments → IsTold Texts end segments told) → AreTextsNamed known partitions name (Some told)
named_texts known partitions name place first shape end run told found at is same h of =
    let segments = h.segments in
    let own : AreOf shape.end.topic shape.end.partition segments = logs_of known first shape.segments segments shape.end.topic shape.end.partition (are_of shape is) h.again in
    let told_is : IsTold Texts end segments told = of segments (were_kept (texts_asked shape.end.topic) segments run h.held) (subst (λ (e : End). AreOf e.topic e.partition segments) (sym same) own) in
    record {
      read = Some (record { end = shape.end; segments = segments });
      again = found.named known shape (record { end = shape.end; segments = segments }) at (record { end = refl; logs = h.again });
      are = subst (λ (e : End). IsTold Texts e segments told) same told_is;
    }

-- one of an evidence's
pub is_partition : (e : EvidenceParts) (shapes : List Partition) (i : ℕ) (p : Partition) → shapes ≡ e.partitions → IsEvidence e → i < length shapes → p ≡ get_or shapes i p → IsPartition p
is_partition e shapes i p same is lt at = go shapes i (subst (AllByRecursion IsPartition) (sym same) is.each) lt at
  where
    go : (ps : List Partition) (k : ℕ) → AllByRecursion IsPartition ps → k < length ps → p ≡ get_or ps k p → IsPartition p
    go [] k all lt at = absurd (omega (arith, lt))
    go (q ∷ qs) zero all lt at = subst IsPartition (sym at) all.0
    go (q ∷ qs) (suc k) all lt at = go qs k all.1 (omega (arith, lt)) at
