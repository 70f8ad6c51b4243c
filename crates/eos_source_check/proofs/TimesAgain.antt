-- Times of segments and of partitions, one after the other.
use Rattle.std.proofs.Common.{◌≡◌, ◌<◌, ◌≤◌, ℕ, ℤ, suc, ◌+◌, List, [], ◌∷◌, ◌++◌, length, drop, get_or, Option, Bool, true, false, refl, sym, ap, subst, ◌∙◌, append_assoc, append-nil, arith}
use Rattle.std.proofs.lemmas.List.{drop_more, drop_all}
use Rattle.eos_base.specs.declared.partition_name.PartitionName.{PartitionName}
use Rattle.eos_evidence.specs.declared.partition.Partition.{Partition}
use Rattle.eos_evidence.specs.declared.segment.Segment.{Segment}
use Rattle.eos_sought.specs.Partitions.{is_named}
use Rattle.eos_source.specs.Said.{Known}
use Rattle.eos_source_check.specs.Times.{begins_next, AreTimesOf, AreTimesAgain, AreTimesIf, AreTimesNamed}

-- ---- a partition

-- so many segments were passed, with these times
abbrev pub Passed : (ℕ → Known) → ℕ → List Segment → List ℕ → ℕ → List (ℕ × ℤ) → Type 0
Passed known first names offsets i times = (more : List (ℕ × ℤ)) → AreTimesAgain known (first + i) (drop i names) offsets more → AreTimesAgain known first names offsets (times ++ more)

pub none_passed : (known : ℕ → Known) (first : ℕ) (names : List Segment) (offsets : List ℕ) (times : List (ℕ × ℤ)) → times ≡ [] → Passed known first names offsets 0 times
none_passed known first names offsets times none = λ more h.
    let z : first + 0 ≡ first = omega arith in
    let there = subst (λ (n : ℕ). AreTimesAgain known n names offsets more) z h in
    subst (λ (ts : List (ℕ × ℤ)). AreTimesAgain known first names offsets (ts ++ more)) (sym none) there

pub one_passed : (known : ℕ → Known) (first : ℕ) (names : List Segment) (offsets : List ℕ) (i : ℕ) (name : Segment) (next : Option ℕ) (before here after : List (ℕ × ℤ)) → i < length names → name ≡ get_or names i name
    → next ≡ begins_next (drop (i + 1) names) → AreTimesOf (known (first + i)) name next offsets here → after ≡ before ++ here → Passed known first names offsets i before → Passed known first names offsets (i + 1) after
one_passed known first names offsets i name next before here after lt is behind of pushed passed = λ more h.
    let left : drop i names ≡ name ∷ drop (i + 1) names = drop_more names i name lt ∙ ap (λ (s : Segment). s ∷ drop (i + 1) names) (sym is) in
    let z : first + (i + 1) ≡ suc (first + i) = omega arith in
    let rest = subst (λ (n : ℕ). AreTimesAgain known n (drop (i + 1) names) offsets more) z h in
    let one = subst (λ (o : Option ℕ). AreTimesOf (known (first + i)) name o offsets here) behind of in
    let whole : AreTimesAgain known (first + i) (name ∷ drop (i + 1) names) offsets (here ++ more) = (here, more, one, rest, refl) in
    let there = passed (here ++ more) (subst (λ (ns : List Segment). AreTimesAgain known (first + i) ns offsets (here ++ more)) (sym left) whole) in
    let same : before ++ (here ++ more) ≡ after ++ more = sym (append_assoc before here more) ∙ ap (λ (ts : List (ℕ × ℤ)). ts ++ more) (sym pushed) in
    subst (λ (ts : List (ℕ × ℤ)). AreTimesAgain known first names offsets ts) same there

pub all_passed : (known : ℕ → Known) (first : ℕ) (names segments : List Segment) (offsets : List ℕ) (i : ℕ) (times : List (ℕ × ℤ)) → names ≡ segments → length names ≤ i → Passed known first names offsets i times
    → AreTimesAgain known first segments offsets times
all_passed known first names segments offsets i times same le passed =
    let e : drop i names ≡ [] = drop_all i names le in
    let last = passed [] (subst (λ (ns : List Segment). AreTimesAgain known (first + i) ns offsets []) (sym e) refl) in
    subst (λ (ns : List Segment). AreTimesAgain known first ns offsets times) same (subst (λ (ts : List (ℕ × ℤ)). AreTimesAgain known first names offsets ts) (append-nil times) last)

-- ---- of partitions the one that is named

-- none of so many is named so, and the next one's first piece has this number
abbrev pub IsAhead : (ℕ → Known) → List Partition → PartitionName → List ℕ → ℕ → ℕ → Type 0
IsAhead known partitions name offsets first i = (times : List (ℕ × ℤ)) → AreTimesNamed known first (drop i partitions) name offsets times → AreTimesNamed known 0 partitions name offsets times

pub none_ahead : (known : ℕ → Known) (partitions : List Partition) (name : PartitionName) (offsets : List ℕ) → IsAhead known partitions name offsets 0 0
none_ahead known partitions name offsets = λ times h. h

module _ (known : ℕ → Known) (partitions : List Partition) (name : PartitionName) (offsets : List ℕ) (first i : ℕ) (p : Partition) (lt : i < length partitions) (is : p ≡ get_or partitions i p) where
  left : drop i partitions ≡ p ∷ drop (i + 1) partitions
  left = drop_more partitions i p lt ∙ ap (λ (q : Partition). q ∷ drop (i + 1) partitions) (sym is)

  pub named : (times : List (ℕ × ℤ)) → is_named name p ≡ true → AreTimesAgain known first p.segments offsets times → IsAhead known partitions name offsets first i → AreTimesNamed known 0 partitions name offsets times
  named times so again ahead =
      let here = subst (λ (b : Bool). AreTimesIf b (AreTimesAgain known first p.segments offsets times) (AreTimesNamed known (first + length p.segments) (drop (i + 1) partitions) name offsets times)) (sym so) again in
      ahead times (subst (λ (ps : List Partition). AreTimesNamed known first ps name offsets times) (sym left) here)

  pub not_named : (next : ℕ) → is_named name p ≡ false → next ≡ first + length p.segments → IsAhead known partitions name offsets first i → IsAhead known partitions name offsets next (i + 1)
  not_named next so at ahead = λ times h.
      let rest = subst (λ (n : ℕ). AreTimesNamed known n (drop (i + 1) partitions) name offsets times) at h in
      let here = subst (λ (b : Bool). AreTimesIf b (AreTimesAgain known first p.segments offsets times) (AreTimesNamed known (first + length p.segments) (drop (i + 1) partitions) name offsets times)) (sym so) rest in
      ahead times (subst (λ (ps : List Partition). AreTimesNamed known first ps name offsets times) (sym left) here)

pub all_ahead : (known : ℕ → Known) (shapes partitions : List Partition) (name : PartitionName) (offsets : List ℕ) (first i : ℕ) (times : List (ℕ × ℤ)) → partitions ≡ shapes → length partitions ≤ i → times ≡ []
    → IsAhead known partitions name offsets first i → AreTimesNamed known 0 shapes name offsets times
all_ahead known shapes partitions name offsets first i times same le none ahead =
    let e : drop i partitions ≡ [] = drop_all i partitions le in
    subst (λ (ps : List Partition). AreTimesNamed known 0 ps name offsets times) same (ahead times (subst (λ (ps : List Partition). AreTimesNamed known first ps name offsets times) (sym e) none))
