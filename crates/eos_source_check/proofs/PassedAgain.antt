-- Partitions that are passed one after the other: those in which a fault was found are read again.
use Rattle.std.proofs.Common.{◌≡◌, ◌<◌, ◌≤◌, ℕ, zero, suc, ◌+◌, List, [], ◌∷◌, ◌++◌, length, take, drop, get_or, Option, Some, None, refl, sym, ap, subst, ◌∙◌, append_assoc, append-nil, arith}
use Rattle.std.specs.Prelude.{IfSome, option_map}
use Rattle.std.specs.Option.{MatchOption}
use Rattle.std.specs.List.{slice_get}
use Rattle.std.proofs.lemmas.Option.{slice_get_past, slice_get_read}
use Rattle.std.proofs.lemmas.List.{drop_more, drop_all, take_more, length-append}
use Rattle.std.proofs.lemmas.List.Folds.{length-flat_map-take}
use Rattle.eos_evidence.specs.declared.partition.Partition.{Partition}
use Rattle.eos_evidence.specs.Evidence.{EvidenceParts, IsEvidence, segments_of}
use Rattle.eos_touch.specs.declared.fault.PartitionFault.{PartitionFault}
use Rattle.eos_source.specs.Said.{Known}
use Rattle.eos_source_check.proofs.FirstFound.{unchanged}
use Rattle.eos_source_check.specs.steps.FaultsAgain.{HasFaultsAgain, HasFaultsIfFound, AreFaultsAgain, AreListedAgain}

-- ---- the numbers of their pieces

-- the first piece of the partition behind so many
abbrev pub first_of : List Partition → ℕ → ℕ
first_of shapes i = length (segments_of (take i shapes))

segments_added : (xs : List Partition) (p : Partition) → length (segments_of (xs ++ p ∷ [])) ≡ length (segments_of xs) + length p.segments
segments_added [] p =
    let e : length (p.segments ++ []) ≡ length p.segments = ap length (append-nil p.segments) in
    omega (arith, e)
segments_added (x ∷ xs) p =
    let more = segments_added xs p in
    let here : length (x.segments ++ segments_of (xs ++ p ∷ [])) ≡ length x.segments + length (segments_of (xs ++ p ∷ [])) = length-append x.segments (segments_of (xs ++ p ∷ [])) in
    let there : length (x.segments ++ segments_of xs) ≡ length x.segments + length (segments_of xs) = length-append x.segments (segments_of xs) in
    omega (arith, more, here, there)

pub first_next : (shapes : List Partition) (i : ℕ) (p : Partition) → i < length shapes → p ≡ get_or shapes i p → first_of shapes (i + 1) ≡ first_of shapes i + length p.segments
first_next shapes i p lt is =
    let more : take (i + 1) shapes ≡ take i shapes ++ p ∷ [] = take_more shapes i p lt ∙ ap (λ (n : Partition). take i shapes ++ n ∷ []) (sym is) in
    ap (λ (ps : List Partition). length (segments_of ps)) more ∙ segments_added (take i shapes) p

pub room : (e : EvidenceParts) (shapes : List Partition) (i : ℕ) (p : Partition) → shapes ≡ e.partitions → IsEvidence e → i < length shapes → p ≡ get_or shapes i p
    → first_of shapes i + length p.segments ≤ 65536
room e shapes i p of is lt here =
    let few : length (segments_of shapes) ≤ 65536 = subst (λ (ps : List Partition). length (segments_of ps) ≤ 65536) (sym of) is.few in
    let within : first_of shapes i + length (get_or shapes i p).segments ≤ length (segments_of shapes) = length-flat_map-take (λ (q : Partition). q.segments) shapes i p lt in
    let same : length p.segments ≡ length (get_or shapes i p).segments = ap (λ (q : Partition). length q.segments) here in
    omega (arith, few, within, same)

-- ---- what was found in them

front_of : (found : List (Option PartitionFault)) (i : ℕ) (f : Option PartitionFault) → slice_get found i ≡ Some f → drop i found ≡ f ∷ drop (suc i) found
front_of [] i f e = absurd cc
front_of (x ∷ xs) zero f e = ap (λ (y : Option PartitionFault). y ∷ xs) (same x f e)
  where
    same : (x f : Option PartitionFault) → Some x ≡ Some f → x ≡ f
    same x f e = cc
front_of (x ∷ xs) (suc i) f e = front_of xs i f e

left_of : (found : List (Option PartitionFault)) (i : ℕ) (f : Option PartitionFault) → slice_get found i ≡ Some f → drop i found ≡ f ∷ drop (i + 1) found
left_of found i f e =
    let z : suc i ≡ i + 1 = omega arith in
    subst (λ (n : ℕ). drop i found ≡ f ∷ drop n found) z (front_of found i f e)

past_all : (found : List (Option PartitionFault)) (i : ℕ) → slice_get found i ≡ None → length found ≤ i
past_all [] i e = omega arith
past_all (x ∷ xs) zero e = absurd cc
past_all (x ∷ xs) (suc i) e = let more = past_all xs i e in omega (arith, more)

none_left : (found : List (Option PartitionFault)) (i : ℕ) → slice_get found i ≡ None → (drop i found ≡ []) × (drop (i + 1) found ≡ [])
none_left found i e = let le = past_all found i e in (drop_all i found le, drop_all (i + 1) found (omega (arith, le)))

-- as it was looked up
pub looked_up : {B : Type 0} (f : B → Option PartitionFault) (found : List (Option PartitionFault)) (i : ℕ) (H : B → Type 0) (o : Option B) → IfSome o (λ x. f x ≡ get_or found i (f x))
    → MatchOption o (length found ≤ i) (λ x. (i < length found) × H x) → slice_get found i ≡ option_map f o
looked_up f found i H None is there = slice_get_past found i there
looked_up f found i H (Some x) is there = slice_get_read found (length found) i (f x) refl there.0 is

-- ---- one after the other

-- so many were passed, with these faults
abbrev pub Passed : (ℕ → Known) → List Partition → List (Option PartitionFault) → ℕ → List PartitionFault → Type 0
Passed known shapes found i list = (more : List (Option Partition)) (others : List PartitionFault) → AreFaultsAgain known (first_of shapes i) (drop i shapes) (drop i found) more others
    → AreListedAgain known shapes found (list ++ others)

module _ (known : ℕ → Known) (shapes : List Partition) (found : List (Option PartitionFault)) (i : ℕ) (p : Partition) (lt : i < length shapes) (is : p ≡ get_or shapes i p) where
  left : drop i shapes ≡ p ∷ drop (i + 1) shapes
  left = drop_more shapes i p lt ∙ ap (λ (s : Partition). s ∷ drop (i + 1) shapes) (sym is)

  -- what is said of those behind it, by its own place
  from_here : (fs : List (Option PartitionFault)) (more : List (Option Partition)) (others : List PartitionFault) → AreFaultsAgain known (first_of shapes (i + 1)) (drop (i + 1) shapes) fs more others
      → AreFaultsAgain known (first_of shapes i + length p.segments) (drop (i + 1) shapes) fs more others
  from_here fs more others h = subst (λ (n : ℕ). AreFaultsAgain known n (drop (i + 1) shapes) fs more others) (first_next shapes i p lt is) h

  -- a fault was found in it
  read_passed : (f : PartitionFault) (list here all : List PartitionFault) → slice_get found i ≡ Some (Some f) → HasFaultsAgain known (first_of shapes i) p here → all ≡ list ++ here
      → Passed known shapes found i list → Passed known shapes found (i + 1) all
  read_passed f list here all at has e so_far = λ more others h.
      let behind = from_here (drop (i + 1) found) more others h in
      let with_it : AreFaultsAgain known (first_of shapes i) (p ∷ drop (i + 1) shapes) (Some f ∷ drop (i + 1) found) (Some has.partition ∷ more) (here ++ others) =
      (here, others, refl, has.again, has.faults, behind) in
      let by_found = subst (λ (fs : List (Option PartitionFault)). AreFaultsAgain known (first_of shapes i) (p ∷ drop (i + 1) shapes) fs (Some has.partition ∷ more) (here ++ others)) (sym (left_of found i (Some f) at)) with_it in
      let by_shapes = subst (λ (ps : List Partition). AreFaultsAgain known (first_of shapes i) ps (drop i found) (Some has.partition ∷ more) (here ++ others)) (sym left) by_found in
      subst (AreListedAgain known shapes found) (sym (append_assoc list here others) ∙ ap (λ (z : List PartitionFault). z ++ others) (sym e)) (so_far (Some has.partition ∷ more) (here ++ others) by_shapes)

  -- none was
  other_passed : (list : List PartitionFault) → slice_get found i ≡ Some None → Passed known shapes found i list → Passed known shapes found (i + 1) list
  other_passed list at so_far = λ more others h.
      let with_it : AreFaultsAgain known (first_of shapes i) (p ∷ drop (i + 1) shapes) (None ∷ drop (i + 1) found) (None ∷ more) others = from_here (drop (i + 1) found) more others h in
      let by_found = subst (λ (fs : List (Option PartitionFault)). AreFaultsAgain known (first_of shapes i) (p ∷ drop (i + 1) shapes) fs (None ∷ more) others) (sym (left_of found i None at)) with_it in
      so_far (None ∷ more) others (subst (λ (ps : List Partition). AreFaultsAgain known (first_of shapes i) ps (drop i found) (None ∷ more) others) (sym left) by_found)

  -- it has no place among those of which it was asked
  last_passed : (list : List PartitionFault) → slice_get found i ≡ None → Passed known shapes found i list → Passed known shapes found (i + 1) list
  last_passed list at so_far = λ more others h.
      let gone = none_left found i at in
      let behind = from_here (drop (i + 1) found) more others h in
      let with_it : AreFaultsAgain known (first_of shapes i) (p ∷ drop (i + 1) shapes) [] (None ∷ more) others =
      subst (λ (fs : List (Option PartitionFault)). AreFaultsAgain known (first_of shapes i + length p.segments) (drop (i + 1) shapes) fs more others) gone.1 behind in
      let by_found = subst (λ (fs : List (Option PartitionFault)). AreFaultsAgain known (first_of shapes i) (p ∷ drop (i + 1) shapes) fs (None ∷ more) others) (sym gone.0) with_it in
      so_far (None ∷ more) others (subst (λ (ps : List Partition). AreFaultsAgain known (first_of shapes i) ps (drop i found) (None ∷ more) others) (sym left) by_found)

  -- whichever
  pub passed : (o : Option (Option PartitionFault)) (list here all : List PartitionFault) → slice_get found i ≡ o → HasFaultsIfFound known (first_of shapes i) p o here → all ≡ list ++ here
      → Passed known shapes found i list → Passed known shapes found (i + 1) all
  passed (Some (Some f)) list here all at has e so_far = read_passed f list here all at has e so_far
  passed (Some None) list here all at has e so_far = subst (Passed known shapes found (i + 1)) (sym (unchanged list here all has e)) (other_passed list at so_far)
  passed None list here all at has e so_far = subst (Passed known shapes found (i + 1)) (sym (unchanged list here all has e)) (last_passed list at so_far)

pub all_passed : (known : ℕ → Known) (shapes : List Partition) (found : List (Option PartitionFault)) (i : ℕ) (list : List PartitionFault) → length shapes ≤ i → Passed known shapes found i list
    → AreListedAgain known shapes found list
all_passed known shapes found i list le so_far =
    let nothing : AreFaultsAgain known (first_of shapes i) [] (drop i found) [] [] = refl in
    subst (AreListedAgain known shapes found) (append-nil list)
    (so_far [] [] (subst (λ (ps : List Partition). AreFaultsAgain known (first_of shapes i) ps (drop i found) [] []) (sym (drop_all i shapes le)) nothing))
