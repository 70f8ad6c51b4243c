-- Segments that are read again for their folds, and where a partition stands among all.
use Rattle.std.proofs.Common.{◌≡◌, ◌<◌, ◌≤◌, ℕ, ◌+◌, List, [], ◌∷◌, ◌++◌, length, take, get_or, Option, Some, true, refl, sym, ap, subst, ◌∙◌, arith}
use Rattle.std.specs.Prelude.{slice_get}
use Rattle.std.proofs.lemmas.List.{take_more, take_all, length-take-le}
use Rattle.std.proofs.lemmas.Option.{slice_get_read}
use Rattle.eos_base.specs.declared.partition_name.PartitionName.{PartitionName}
use Rattle.eos_evidence.specs.declared.partition.Partition.{Partition}
use Rattle.eos_evidence.specs.declared.segment.Segment.{Segment}
use Rattle.eos_evidence.specs.Evidence.{EvidenceParts, IsEvidence, segments_of}
use Rattle.eos_fold_file.specs.declared.file.FoldFile.{FoldFile}
use Rattle.eos_fold_file.specs.Folds.{IsFoldOf}
use Rattle.eos_sought.specs.declared.folded.Folded.{Folded}
use Rattle.eos_sought.specs.Folded.{AreFoldsOf}
use Rattle.eos_sought.specs.Partitions.{is_named}
use Rattle.eos_source.specs.Said.{Known}
use Rattle.eos_source_check.specs.Again.{IsLogAgain, AreLogsAgain, IsAgain, IsNamedAgain, AreFoldsNamed}
use Rattle.eos_source_check.specs.declared.fault.Unlisted.{Unlisted}
use Rattle.eos_source_check.specs.Refusals.{IsUnread}
use Rattle.eos_source_check.specs.steps.Earned.{IsOfPieces}
use Rattle.eos_source_check.specs.steps.FaultsAgain.{IsLogOf}
use Rattle.eos_source_check.specs.steps.FoldsAgain.{IsFoldAgain, IsFoldedAgain, IsFoundAt}
use Rattle.eos_source_check.proofs.LogsAgain.{named_again, one_more}
use Rattle.eos_source_check.proofs.NamedAgain.{IsAhead, named}
use Rattle.eos_source_check.proofs.EarnedAgain.{unread}
use Rattle.eos_source_check.proofs.PassedAgain.{first_of, room}

-- ---- one

pub fold_read : (known : Known) (name : Segment) (fold : FoldFile) (bytes : List ℕ) → IsLogOf known bytes
    → ((segment : Segment) → segment.topic ≡ name.topic → segment.partition ≡ name.partition → segment.base ≡ name.base → segment.bytes ≡ bytes → IsFoldOf segment fold) → IsFoldAgain known name fold
fold_read known name fold bytes is of =
    let s : Segment = record { topic = name.topic; partition = name.partition; base = name.base; bytes = bytes } in
    record { segment = s; again = named_again known name bytes s is refl refl refl refl; of = of s refl refl refl refl }

-- ---- one after the other

-- those of so many
pub record HasFolds (known : ℕ → Known) (first : ℕ) (names : List Segment) (folds : List FoldFile) : Type 0 where
  pub segments : List Segment
  pub again : AreLogsAgain known first names segments
  pub of : AreFoldsOf segments folds

pub no_folds : (known : ℕ → Known) (first : ℕ) (names : List Segment) (folds : List FoldFile) → folds ≡ [] → HasFolds known first (take 0 names) folds
no_folds known first names folds none = record { segments = []; again = tt; of = subst (AreFoldsOf []) (sym none) tt }

folds_push : (ss : List Segment) (fs : List FoldFile) (s : Segment) (f : FoldFile) → AreFoldsOf ss fs → IsFoldOf s f → AreFoldsOf (ss ++ s ∷ []) (fs ++ f ∷ [])
folds_push [] [] s f are is = (is, tt)
folds_push [] (g ∷ gs) s f are is = absurd are
folds_push (t ∷ ts) [] s f are is = absurd are
folds_push (t ∷ ts) (g ∷ gs) s f are is = (are.0, folds_push ts gs s f are.1 is)

pub one_fold : (known : ℕ → Known) (first : ℕ) (names : List Segment) (i : ℕ) (name : Segment) (before after : List FoldFile) (fold : FoldFile) → i < length names → name ≡ get_or names i name → after ≡ before ++ fold ∷ []
    → IsFoldAgain (known (first + i)) name fold → HasFolds known first (take i names) before → HasFolds known first (take (i + 1) names) after
one_fold known first names i name before after fold lt is pushed one h =
    let size : length (take i names) ≡ i = length-take-le i names (omega (arith, lt)) in
    let more : take i names ++ name ∷ [] ≡ take (i + 1) names = sym (take_more names i name lt ∙ ap (λ (n : Segment). take i names ++ n ∷ []) (sym is)) in
    let here = subst (λ (n : ℕ). IsLogAgain (known (first + n)) name one.segment) (sym size) one.again in
    record {
      segments = h.segments ++ one.segment ∷ [];
      again = subst (λ (ns : List Segment). AreLogsAgain known first ns (h.segments ++ one.segment ∷ [])) more (one_more known first (take i names) h.segments name one.segment h.again here);
      of = subst (AreFoldsOf (h.segments ++ one.segment ∷ [])) (sym pushed) (folds_push h.segments before one.segment fold h.of one.of);
    }

pub all_folds : (known : ℕ → Known) (first : ℕ) (shape : Partition) (names : List Segment) (i : ℕ) (folds : List FoldFile) (folded : Folded) → names ≡ shape.segments → length names ≤ i → HasFolds known first (take i names) folds
    → folded.end ≡ shape.end → folded.folds.items ≡ folds → IsFoldedAgain known first shape folded
all_folds known first shape names i folds folded of le h end are =
    let all : take i names ≡ shape.segments = take_all i names le ∙ of in
    record {
      partition = record { end = shape.end; segments = h.segments };
      again = record { end = refl; logs = subst (λ (ns : List Segment). AreLogsAgain known first ns h.segments) all h.again };
      of = record { end = end; folds = subst (AreFoldsOf h.segments) (sym are) h.of };
    }

-- ---- the place of a name

pub found_at : (partitions shapes : List Partition) (name : PartitionName) (place first : ℕ) (p : Partition) → shapes ≡ partitions → place < length shapes → p ≡ get_or shapes place p → is_named name p ≡ true → first ≡ first_of shapes place
    → ((known : ℕ → Known) → IsAhead known shapes name first place) → IsFoundAt partitions name place first
found_at partitions shapes name place first p same lt is so pieces ahead = subst (λ ps. IsFoundAt ps name place first) same (record {
  inside = lt;
  pieces = pieces;
  named = λ known shape q at again.
      let one : p ≡ shape = same_one p shape (slice_get_read shapes (length shapes) place p refl lt is) at in
      named known shapes name first place p lt is q so (subst (λ s. IsAgain known first s q) (sym one) again) (ahead known);
})
  where
    same_one : (x y : Partition) → slice_get shapes place ≡ Some x → slice_get shapes place ≡ Some y → x ≡ y
    same_one x y a b = cc (a, b)

pub named_folds : (known : ℕ → Known) (partitions : List Partition) (name : PartitionName) (place first : ℕ) (shape : Partition) (folded : Folded) → IsFoundAt partitions name place first → slice_get partitions place ≡ Some shape
    → IsFoldedAgain known first shape folded → AreFoldsNamed known partitions name (Some folded)
named_folds known partitions name place first shape folded found at again =
    record { read = Some again.partition; again = found.named known shape again.partition at again.again; are = again.of }

-- ---- of the partition that was found there

module _ (e : EvidenceParts) (shapes : List Partition) (name : PartitionName) (place first : ℕ) (p : Partition) (of : shapes ≡ e.partitions) (found : IsFoundAt e.partitions name place first) where
  pub inside : place < length shapes
  inside = subst (λ (ps : List Partition). place < length ps) (sym of) found.inside

  pieces : first ≡ first_of shapes place
  pieces = subst (λ (ps : List Partition). first ≡ first_of ps place) (sym of) found.pieces

  pub stands : p ≡ get_or shapes place p → slice_get e.partitions place ≡ Some p
  stands is = subst (λ (ps : List Partition). slice_get ps place ≡ Some p) of (slice_get_read shapes (length shapes) place p refl inside is)

  pub few : IsEvidence e → p ≡ get_or shapes place p → first + length p.segments ≤ 65536
  few is_evidence is =
      let at = pieces in
      let fits = room e shapes place p of is_evidence inside is in
      omega (arith, at, fits)

  pub read_there : (known : ℕ → Known) (read : Partition) → p ≡ get_or shapes place p → IsAgain known first p read → IsNamedAgain known 0 e.partitions name (Some read)
  read_there known read is again = found.named known p read (stands is) again

  pub folds_there : (known : ℕ → Known) (folded : Folded) → p ≡ get_or shapes place p → IsFoldedAgain known first p folded → AreFoldsNamed known e.partitions name (Some folded)
  folds_there known folded is again = named_folds known e.partitions name place first p folded found (stands is) again

  pub unread_there : {F : Type 0} (outcomes : ℕ → Option F → Type 0) (why : Unlisted F) → p ≡ get_or shapes place p → IsOfPieces outcomes first (length p.segments) why → IsUnread outcomes (length (segments_of e.partitions)) why
  unread_there outcomes why is earned = subst (λ (ps : List Partition). IsUnread outcomes (length (segments_of ps)) why) of (unread outcomes shapes first place p why inside is pieces earned)
