-- Times at many offsets, each of them as it is where it is read for alone.
use Rattle.std.proofs.Common.{◌≡◌, ◌<◌, ◌≤◌, ◌&&◌, ◌||◌, ◌==◌, ℕ, ℤ, zero, suc, ◌+◌, ◌-◌, List, [], ◌∷◌, ◌++◌, length, drop, get_or, flat_map, Option, Some, None, Bool, true, false, if◌then◌else◌, refl, sym, ap, subst, ◌∙◌, arith, inl, inr}
use Rattle.std.specs.List.{Contains, filter}
use Rattle.std.specs.Option.{option_or}
use Rattle.std.proofs.lemmas.Bool.{eqb-true, eq-eqb}
use Rattle.eos_base.specs.declared.partition_name.PartitionName.{PartitionName}
use Rattle.eos_evidence.specs.declared.partition.Partition.{Partition}
use Rattle.eos_evidence.specs.declared.segment.Segment.{Segment}
use Rattle.eos_fold.specs.Fronts.{base_of}
use Rattle.eos_sought.specs.declared.wanted.Standing.{Standing}
use Rattle.eos_sought.specs.declared.wanted.Wanted.TheVariants.{Holding}
use Rattle.eos_sought.specs.Times.{time_in_bytes}
use Rattle.eos_sought.specs.Wanted.{is_wanted}
use Rattle.eos_source.specs.Said.{Known}
use Rattle.eos_source_check.specs.Again.{IsLogAgain}
use Rattle.eos_source_check.specs.Timed.{timed, timed_by, all_timed_by, AreTimesIn}
use Rattle.eos_source_check.specs.Times.{begins_next, lies_in, some_lie_in, AreTimesOf, AreTimesNamed, first_at, AreTimesEach}
use Rattle.eos_source_check.specs.steps.Each.{among, AreEachOf, AreEachAgain}
use Rattle.eos_source_check.specs.steps.Timing.{AskedView, IsTimedAgain}
use Rattle.eos_source_check.proofs.LogsAgain.{named_again}
use Rattle.eos_source_check.proofs.TimesAgain.{Passed, none_passed, one_passed, all_passed, IsAhead, all_ahead}

-- ---- the first time at an offset

first_append : (o : ℕ) (xs ys : List (ℕ × ℤ)) → first_at o (xs ++ ys) ≡ option_or (first_at o xs) (first_at o ys)
first_append o [] ys = refl
first_append o (x ∷ xs) ys = go (x.0 == o) (first_append o xs ys)
  where
    go : (b : Bool) → first_at o (xs ++ ys) ≡ option_or (first_at o xs) (first_at o ys) → (if b then Some x.1 else first_at o (xs ++ ys)) ≡ option_or (if b then Some x.1 else first_at o xs) (first_at o ys)
    go true later = refl
    go false later = later

-- what two lists have at an offset they have as well behind others that agree there
first_joined : (o : ℕ) (xs ys us vs : List (ℕ × ℤ)) → first_at o xs ≡ first_at o us → first_at o ys ≡ first_at o vs → first_at o (xs ++ ys) ≡ first_at o (us ++ vs)
first_joined o xs ys us vs front back =
    first_append o xs ys ∙ (ap (λ (w : Option ℤ). option_or w (first_at o ys)) front ∙ (ap (λ (w : Option ℤ). option_or (first_at o us) w) back ∙ sym (first_append o us vs)))

-- ---- a batch, and a segment

-- what is read for one offset
abbrev one_if : Bool → List (ℕ × ℤ) → List (ℕ × ℤ)
one_if true times = times
one_if false times = []

module _ (bytes : List ℕ) (o : ℕ) where
  -- the time of another offset isn't this one's
  elsewhere : (s : Standing) (x : ℕ) → (x == o) ≡ false → first_at o (timed_by bytes s x) ≡ None
  elsewhere s x ne = go (is_wanted (Holding x) s.head)
    where
      told : (time : Option ℤ) → first_at o (timed x time) ≡ None
      told None = refl
      told (Some t) = ap (λ (b : Bool). if b then Some t else first_at o []) ne

      go : (b : Bool) → first_at o (if b then timed x (time_in_bytes bytes s.byte (x - s.head.offset)) else []) ≡ None
      go true = told (time_in_bytes bytes s.byte (x - s.head.offset))
      go false = refl

  in_batch : (s : Standing) (xs : List ℕ) → first_at o (all_timed_by bytes xs s) ≡ first_at o (one_if (among o xs) (timed_by bytes s o))
  in_batch s [] = refl
  in_batch s (x ∷ xs) = first_append o (timed_by bytes s x) (all_timed_by bytes xs s) ∙ go (x == o) refl (in_batch s xs)
    where
      again : (w : Option ℤ) (b : Bool) (us : List (ℕ × ℤ)) → w ≡ first_at o us → option_or w (first_at o (one_if b us)) ≡ w
      again None true us e = sym e
      again None false us e = refl
      again (Some t) b us e = refl

      go : (b : Bool) → (x == o) ≡ b → first_at o (all_timed_by bytes xs s) ≡ first_at o (one_if (among o xs) (timed_by bytes s o))
          → option_or (first_at o (timed_by bytes s x)) (first_at o (all_timed_by bytes xs s)) ≡ first_at o (one_if (b || among o xs) (timed_by bytes s o))
      go true e later =
          let same : first_at o (timed_by bytes s x) ≡ first_at o (timed_by bytes s o) = ap (λ (y : ℕ). first_at o (timed_by bytes s y)) (eqb-true x o e) in
          ap (λ (w : Option ℤ). option_or w (first_at o (all_timed_by bytes xs s))) same
          ∙ (ap (λ (w : Option ℤ). option_or (first_at o (timed_by bytes s o)) w) later ∙ again (first_at o (timed_by bytes s o)) (among o xs) (timed_by bytes s o) refl)
      go false e later = ap (λ (w : Option ℤ). option_or w (first_at o (all_timed_by bytes xs s))) (elsewhere s x e) ∙ later

  -- the offset is among them: they have the time that is read for it alone
  in_batches : (xs : List ℕ) → among o xs ≡ true → (all : List Standing) → first_at o (flat_map (all_timed_by bytes xs) all) ≡ first_at o (flat_map (all_timed_by bytes (o ∷ [])) all)
  in_batches xs here [] = refl
  in_batches xs here (s ∷ ss) =
      let self : among o (o ∷ []) ≡ true = ap (λ (b : Bool). b || false) (eq-eqb o o refl) in
      let p : first_at o (all_timed_by bytes xs s) ≡ first_at o (timed_by bytes s o) = in_batch s xs ∙ ap (λ (b : Bool). first_at o (one_if b (timed_by bytes s o))) here in
      let q : first_at o (all_timed_by bytes (o ∷ []) s) ≡ first_at o (timed_by bytes s o) = in_batch s (o ∷ []) ∙ ap (λ (b : Bool). first_at o (one_if b (timed_by bytes s o))) self in
      first_joined o (all_timed_by bytes xs s) (flat_map (all_timed_by bytes xs) ss) (all_timed_by bytes (o ∷ []) s) (flat_map (all_timed_by bytes (o ∷ [])) ss) (p ∙ sym q) (in_batches xs here ss)

  -- it isn't: they have none of it
  none_in_batches : (xs : List ℕ) → among o xs ≡ false → (all : List Standing) → first_at o (flat_map (all_timed_by bytes xs) all) ≡ None
  none_in_batches xs absent [] = refl
  none_in_batches xs absent (s ∷ ss) =
      let p : first_at o (all_timed_by bytes xs s) ≡ first_at o [] = in_batch s xs ∙ ap (λ (b : Bool). first_at o (one_if b (timed_by bytes s o))) absent in
      first_joined o (all_timed_by bytes xs s) (flat_map (all_timed_by bytes xs) ss) [] [] p (none_in_batches xs absent ss)

-- ---- the offsets that lie in a segment

pub contained : (o : ℕ) (xs : List ℕ) → Contains xs o → among o xs ≡ true
contained o [] h = absurd (omega (arith, h.1))
contained o (x ∷ xs) h = go h.0 h.1 h.2 (contained o xs)
  where
    later : (b : Bool) → among o xs ≡ true → (b || among o xs) ≡ true
    later true e = refl
    later false e = e

    go : (k : ℕ) → k < length (x ∷ xs) → get_or (x ∷ xs) k o ≡ o → (Contains xs o → among o xs ≡ true) → ((x == o) || among o xs) ≡ true
    go zero lt is rest = ap (λ (b : Bool). b || among o xs) (eq-eqb x o is)
    go (suc k) lt is rest = later (x == o) (rest (k, omega (arith, lt), is))

neither : (b : Bool) → (b && false) ≡ false
neither true = refl
neither false = refl

among_filter : (p : ℕ → Bool) (o : ℕ) (xs : List ℕ) → among o (filter p xs) ≡ (among o xs && p o)
among_filter p o [] = refl
among_filter p o (x ∷ xs) = go (p x) (x == o) (p o) refl refl refl (among_filter p o xs)
  where
    go : (b c d : Bool) → p x ≡ b → (x == o) ≡ c → p o ≡ d → among o (filter p xs) ≡ (among o xs && p o) → among o (filter p (x ∷ xs)) ≡ (((x == o) || among o xs) && p o)
    go true true d e f g later = let same : p o ≡ true = ap p (sym (eqb-true x o f)) ∙ e in rw (e, f, same) refl
    go true false d e f g later = rw (e, f) later
    go false true d e f g later = let same : p o ≡ false = ap p (sym (eqb-true x o f)) ∙ e in rw (e, f, same) (later ∙ rw same (neither (among o xs)))
    go false false d e f g later = rw (e, f) later

-- ---- the times of a segment

module _ (known : Known) (name : Segment) (next : Option ℕ) (offsets lying : List ℕ) (base : ℕ) (at : base ≡ base_of name) (are : lying ≡ filter (lies_in base next) offsets) where
  which : (o : ℕ) → among o offsets ≡ true → among o lying ≡ lies_in (base_of name) next o
  which o here = ap (among o) are ∙ (among_filter (lies_in base next) o offsets ∙ (ap (λ (b : Bool). b && lies_in base next o) here ∙ ap (λ (n : ℕ). lies_in n next o) at))

  lies_alone : (o : ℕ) → lies_in (base_of name) next o ≡ false → some_lie_in (base_of name) next (o ∷ []) ≡ false
  lies_alone o out = ap (λ (b : Bool). b || false) out

  -- none lies there
  pub each_of_none : (times : List (ℕ × ℤ)) → lying ≡ [] → times ≡ [] → AreEachOf known name next offsets times
  each_of_none times empty none = λ o here.
      let out : lies_in (base_of name) next o ≡ false = sym (which o here) ∙ ap (among o) empty in
      ([], inr (inr (lies_alone o out), refl), ap (first_at o) none)

  pub each_of_fold : (times : List (ℕ × ℤ)) → known.log ≡ false → times ≡ [] → AreEachOf known name next offsets times
  each_of_fold times fold none = λ o here. ([], inr (inl fold, refl), ap (first_at o) none)

  by_lying : (segment : Segment) (times : List (ℕ × ℤ)) → IsLogAgain known name segment → AreTimesIn segment lying times → (o : ℕ) → among o offsets ≡ true → (b : Bool) → lies_in (base_of name) next o ≡ b
      → (alone : List (ℕ × ℤ)) × AreTimesOf known name next (o ∷ []) alone × (first_at o times ≡ first_at o alone)
  by_lying segment times again read o here true is_so =
      let alone = flat_map (all_timed_by segment.bytes (o ∷ [])) read.all in
      let reads : AreTimesIn segment (o ∷ []) alone = record { all = read.all; run = read.run; whole = read.whole; are = refl } in
      (alone, inl (segment, again, reads), ap (first_at o) read.are ∙ in_batches segment.bytes o lying (which o here ∙ is_so) read.all)
  by_lying segment times again read o here false isnt =
      ([], inr (inr (lies_alone o isnt), refl), ap (first_at o) read.are ∙ none_in_batches segment.bytes o lying (which o here ∙ isnt) read.all)

  each_of_log : (segment : Segment) (times : List (ℕ × ℤ)) → IsLogAgain known name segment → AreTimesIn segment lying times → AreEachOf known name next offsets times
  each_of_log segment times again read = λ o here. by_lying segment times again read o here (lies_in (base_of name) next o) refl

  -- of a log that was read for them
  pub each_of_bytes : (asked : AskedView) (times : List (ℕ × ℤ)) → asked ≡ record { begin = base; offsets = lying } → IsTimedAgain known asked times → AreEachOf known name next offsets times
  each_of_bytes asked times is t =
      let u = subst (λ (x : AskedView). IsTimedAgain known x times) is t in
      let s : Segment = record { topic = name.topic; partition = name.partition; base = name.base; bytes = u.bytes } in
      each_of_log s times (named_again known name u.bytes s u.log refl refl refl refl) (u.are s (sym at) refl)

-- ---- of a partition

-- so many segments were passed
abbrev pub EachPassed : (ℕ → Known) → ℕ → List Segment → List ℕ → ℕ → List (ℕ × ℤ) → Type 0
EachPassed known first names offsets i times = (o : ℕ) → among o offsets ≡ true → (before : List (ℕ × ℤ)) × Passed known first names (o ∷ []) i before × (first_at o times ≡ first_at o before)

pub each_begins : (known : ℕ → Known) (first : ℕ) (names : List Segment) (offsets : List ℕ) (times : List (ℕ × ℤ)) → times ≡ [] → EachPassed known first names offsets 0 times
each_begins known first names offsets times none = λ o here. ([], none_passed known first names (o ∷ []) [] refl, ap (first_at o) none)

pub each_passed : (known : ℕ → Known) (first : ℕ) (names : List Segment) (offsets : List ℕ) (i : ℕ) (name : Segment) (next : Option ℕ) (before here after : List (ℕ × ℤ)) → i < length names → name ≡ get_or names i name
    → next ≡ begins_next (drop (i + 1) names) → AreEachOf (known (first + i)) name next offsets here → after ≡ before ++ here → EachPassed known first names offsets i before → EachPassed known first names offsets (i + 1) after
each_passed known first names offsets i name next before here after lt is behind of pushed passed = λ o among_them.
    let p = passed o among_them in
    let q = of o among_them in
    (p.0 ++ q.0, one_passed known first names (o ∷ []) i name next p.0 q.0 (p.0 ++ q.0) lt is behind q.1 refl p.1, ap (first_at o) pushed ∙ first_joined o before here p.0 q.0 p.2 q.2)

pub each_ends : (known : ℕ → Known) (first : ℕ) (names segments : List Segment) (offsets : List ℕ) (i : ℕ) (times : List (ℕ × ℤ)) → names ≡ segments → length names ≤ i → EachPassed known first names offsets i times
    → AreEachAgain known first segments offsets times
each_ends known first names segments offsets i times same le passed = λ o here.
    let p = passed o here in
    (p.0, all_passed known first names segments (o ∷ []) i p.0 same le p.1, p.2)

-- ---- of the partition that is named

pub each_named : (known : ℕ → Known) (shapes partitions : List Partition) (name : PartitionName) (offsets : List ℕ) (times : List (ℕ × ℤ)) → partitions ≡ shapes
    → ((o : ℕ) → among o offsets ≡ true → (alone : List (ℕ × ℤ)) × AreTimesNamed known 0 partitions name (o ∷ []) alone × (first_at o times ≡ first_at o alone)) → AreTimesEach known shapes name offsets times
each_named known shapes partitions name offsets times same h = record {
  each = λ o there.
      let p = h o (contained o offsets there) in
      record { alone = p.0; are = subst (λ (ps : List Partition). AreTimesNamed known 0 ps name (o ∷ []) p.0) same p.1; same = p.2 };
}

pub none_named : (known : ℕ → Known) (shapes partitions : List Partition) (name : PartitionName) (offsets : List ℕ) (first i : ℕ) (times : List (ℕ × ℤ)) → partitions ≡ shapes → length partitions ≤ i → times ≡ []
    → ((o : ℕ) → IsAhead known partitions name (o ∷ []) first i) → AreTimesEach known shapes name offsets times
none_named known shapes partitions name offsets first i times same le none ahead = record {
  each = λ o there. record { alone = []; are = all_ahead known shapes partitions name (o ∷ []) first i [] same le refl (ahead o); same = ap (first_at o) none };
}
