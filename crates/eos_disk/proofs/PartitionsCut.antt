-- What was listed before the listing was refused, put in its partitions.
use Rattle.std.proofs.Common.{◌≡◌, ℕ, List, [], ◌∷◌, ◌++◌, length, map, Ok, inl, inr, refl, sym, ap, ◌∙◌, subst, arith, append_assoc, append-nil, length-append}
use Rattle.std.proofs.lemmas.List.{length-map}
use Rattle.std.specs.List.{AllByRecursion}
use Rattle.std.specs.List.Sorted.{IsStrictlySortedBy}
use Rattle.std.specs.declared.cmp.Ordering.TheVariants.{Less}
use Rattle.eos_disk.specs.Entries.{Entry, HasBytes}
use Rattle.eos_evidence.specs.declared.ends.End.{End}
use Rattle.eos_evidence.specs.declared.partition.Partition.{Partition}
use Rattle.eos_evidence.specs.declared.segment.Segment.{Segment}
use Rattle.eos_evidence.specs.Ends.{end_cmp}
use Rattle.eos_evidence.specs.Evidence.{EvidenceParts, IsEvidence, empty_partition}
use Rattle.eos_evidence.specs.Manifest.{spec_said_by}
use Rattle.eos_evidence.specs.SpecFields.{SpecFields}
use Rattle.eos_disk.specs.declared.folder.FolderFault.{FolderFault}
use Rattle.eos_disk.specs.declared.names.FileName.{FileName}
use Rattle.eos_disk.specs.declared.names.Form.{Form}
use Rattle.eos_disk.specs.Paths.{manifest_path, path_of_end}
use Rattle.eos_disk.specs.Shapes.{segment_of, by_base}
use Rattle.eos_disk.specs.Stopped.{IsStopped, AreUnlisted, AreListedTo, IsShapeTo}
use Rattle.eos_disk.specs.steps.Listing.{AreNamed, IsCut, grown, partitions_with}
use Rattle.eos_disk.proofs.PartitionsGrown.{AreOfNone, partition_of, grown_skips, others_append, after_others, later_others, head_is, none_more, none_at_first}

all_front : (P : End → Type 0) (xs : List End) (y : End) (ys : List End) → AllByRecursion P (xs ++ y ∷ ys) → AllByRecursion P xs
all_front P [] y ys all = tt
all_front P (x ∷ xs) y ys all = (all.0, all_front P xs y ys all.1)

middle : (P : End → Type 0) (xs : List End) (y : End) (ys : List End) → AllByRecursion P (xs ++ y ∷ ys) → P y
middle P [] y ys all = all.0
middle P (x ∷ xs) y ys all = middle P xs y ys all.1

unlisted : (names : List Segment) (es : List End) → AreOfNone names es → AreUnlisted (partitions_with names es)
unlisted names [] none = tt
unlisted names (e ∷ es) none = (ap (λ (p : Partition). p.segments) (grown_skips (empty_partition e) names none.0), unlisted names es none.1)

listed_after : (holds : List ℕ → Entry) (folder : List ℕ) (many : ℕ) (why : FolderFault) (before : List Segment) (front : List End) (e : End) (back : List End) (early : List Segment)
    (forms : List Form) (taken : List FileName) → IsStrictlySortedBy end_cmp (front ++ e ∷ back) → AreNamed holds folder front early forms → IsStrictlySortedBy by_base taken
    → IsStopped holds (path_of_end folder e) many taken why → AreOfNone before (front ++ e ∷ back)
    → AreListedTo holds folder many why (partitions_with (before ++ (early ++ map (segment_of e) taken)) (front ++ e ∷ back)) (forms ++ map (λ f. f.form) taken)
unfolding IsStrictlySortedBy
listed_after holds folder many why before [] e back early forms taken up are rises stopped none =
    let own = map (segment_of e) taken in
    let all = before ++ (early ++ own) in
    let same : all ≡ before ++ own = ap (λ (l : List Segment). before ++ (l ++ own)) are.0 in
    let head : grown (empty_partition e) all ≡ partition_of e taken =
    ap (grown (empty_partition e)) (same ∙ ap (λ (l : List Segment). before ++ l) (sym (append-nil own))) ∙ head_is e before taken [] none.0 rises tt in
    let tail = subst (λ (xs : List Segment). AreUnlisted (partitions_with xs back)) (sym same) (unlisted (before ++ own) back (none_more e back before taken up.0 none.1)) in
    subst (λ (p : Partition). AreListedTo holds folder many why (p ∷ partitions_with all back) (forms ++ map (λ f. f.form) taken)) (sym head)
    (inr (taken, stopped, refl, ap (λ (l : List Form). l ++ map (λ f. f.form) taken) are.1, tail))
listed_after holds folder many why before (g ∷ gs) e back early forms taken up are rises stopped none =
    let own = map (segment_of g) are.0 in
    let last = map (segment_of e) taken in
    let behind = are.1 ++ last in
    let all = before ++ (early ++ last) in
    let whole : all ≡ before ++ (own ++ behind) =
    ap (λ (l : List Segment). before ++ (l ++ last)) are.4 ∙ ap (λ (l : List Segment). before ++ l) (append_assoc own are.1 last) in
    let above = all_front (λ f. end_cmp g f ≡ Less) gs e back up.0 in
    let less : end_cmp g e ≡ Less = middle (λ f. end_cmp g f ≡ Less) gs e back up.0 in
    let others = others_append g are.1 last (later_others holds folder g gs are.1 are.2 above are.6) (after_others g e taken less) in
    let head : grown (empty_partition g) all ≡ partition_of g are.0 = ap (grown (empty_partition g)) whole ∙ head_is g before are.0 behind none.0 are.3.all.rises others in
    let joined : (before ++ own) ++ behind ≡ all = append_assoc before own behind ∙ sym whole in
    let tail = subst (λ (xs : List Segment). AreListedTo holds folder many why (partitions_with xs (gs ++ e ∷ back)) (are.2 ++ map (λ f. f.form) taken)) joined
    (listed_after holds folder many why (before ++ own) gs e back are.1 are.2 taken up.1 are.6 rises stopped (none_more g (gs ++ e ∷ back) before are.0 up.0 none.1)) in
    let of_forms : forms ++ map (λ f. f.form) taken ≡ map (λ f. f.form) are.0 ++ (are.2 ++ map (λ f. f.form) taken) =
    ap (λ (l : List Form). l ++ map (λ f. f.form) taken) are.5 ∙ append_assoc (map (λ f. f.form) are.0) are.2 (map (λ f. f.form) taken) in
    subst (λ (p : Partition). AreListedTo holds folder many why (p ∷ partitions_with all (gs ++ e ∷ back)) (forms ++ map (λ f. f.form) taken)) (sym head)
    (inl (are.0, are.2 ++ map (λ f. f.form) taken, are.3, refl, of_forms, tail))

-- ---- as many segments as forms

as_many : (holds : List ℕ → Entry) (folder : List ℕ) (es : List End) (names : List Segment) (forms : List Form) → AreNamed holds folder es names forms → length names ≡ length forms
as_many holds folder [] names forms are = ap length are.0 ∙ sym (ap length are.1)
as_many holds folder (e ∷ es) names forms are =
    let later = as_many holds folder es are.1 are.2 are.6 in
    let left = ap length are.4 ∙ (length-append (map (segment_of e) are.0) are.1) in
    let right = ap length are.5 ∙ (length-append (map (λ f. f.form) are.0) are.2) in
    omega (arith, left, right, later, length-map are.0 (segment_of e), length-map are.0 (λ f. f.form))

cut_many : (holds : List ℕ → Entry) (folder : List ℕ) (ends : List End) (names : List Segment) (forms : List Form) (why : FolderFault) → IsCut holds folder ends names forms why → length names ≡ length forms
cut_many holds folder ends names forms why c =
    let early = as_many holds folder c.front c.early c.early_forms c.before in
    let left = ap length c.named ∙ length-append c.early (map (segment_of c.end) c.taken) in
    let right = ap length c.formed ∙ length-append c.early_forms (map (λ f. f.form) c.taken) in
    omega (arith, left, right, early, length-map c.taken (segment_of c.end), length-map c.taken (λ f. f.form))

-- ---- the whole

listed_to : (holds : List ℕ → Entry) (folder : List ℕ) (ends : List End) (names : List Segment) (forms : List Form) (why : FolderFault) → IsStrictlySortedBy end_cmp ends
    → IsCut holds folder ends names forms why → AreListedTo holds folder (length forms) why (partitions_with names ends) forms
listed_to holds folder ends names forms why up c =
    let stopped = subst (λ (n : ℕ). IsStopped holds (path_of_end folder c.end) n c.taken why) (cut_many holds folder ends names forms why c) c.stopped in
    let rising = subst (IsStrictlySortedBy end_cmp) c.parts up in
    let own = map (segment_of c.end) c.taken in
    let late = map (λ f. f.form) c.taken in
    let made = listed_after holds folder (length forms) why [] c.front c.end c.back c.early c.early_forms c.taken rising c.before c.rises stopped (none_at_first (c.front ++ c.end ∷ c.back)) in
    let of_ends = subst (λ (es : List End). AreListedTo holds folder (length forms) why (partitions_with (c.early ++ own) es) (c.early_forms ++ late)) (sym c.parts) made in
    let of_names = subst (λ (ns : List Segment). AreListedTo holds folder (length forms) why (partitions_with ns ends) (c.early_forms ++ late)) (sym c.named) of_ends in
    subst (λ (fs : List Form). AreListedTo holds folder (length forms) why (partitions_with names ends) fs) (sym c.formed) of_names

pub shape_to : (holds : List ℕ → Entry) (folder text : List ℕ) (spec : SpecFields) (names : List Segment) (shape : EvidenceParts) (forms : List Form) (why : FolderFault)
    → HasBytes (holds (manifest_path folder)) text → spec_said_by text ≡ Ok spec → shape.spec ≡ spec → shape.partitions ≡ partitions_with names spec.ends → IsEvidence shape
    → IsCut holds folder spec.ends names forms why → IsShapeTo holds folder shape forms why
shape_to holds folder text spec names shape forms why stands says same partitions is cut = record {
  manifest = text;
  stands = stands;
  says = says ∙ ap Ok (sym same);
  is_evidence = is;
  listed = subst (λ (ps : List Partition). AreListedTo holds folder (length forms) why ps forms) (sym partitions)
      (listed_to holds folder spec.ends names forms why (subst (λ (s : SpecFields). IsStrictlySortedBy end_cmp s.ends) same is.accepted.ascending) cut);
}
