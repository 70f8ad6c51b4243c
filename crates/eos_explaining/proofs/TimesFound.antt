-- The times of rows by the partitions that have them.
use Rattle.std.proofs.Common.{◌≡◌, ◌∙◌, ◌<◌, ◌≤◌, ◌+◌, ℕ, zero, suc, ℤ, List, [], ◌∷◌, ◌++◌, Option, Some, None, Bool, true, false, length, map, take, drop, get_or, slice_get, inl, inr, refl, sym, ap, subst, arith, append-nil, append_assoc}
use Rattle.std.specs.Prelude.{◌⊎◌, if◌then◌else◌, option_map}
use Rattle.std.specs.Option.{option_flatten}
use Rattle.std.proofs.lemmas.List.{drop_more, drop_all}
use Rattle.std.proofs.lemmas.Option.{slice_get_read, slice_get-map}
use Rattle.eos_base.specs.Members.{Has}
use Rattle.eos_base.proofs.Membership.{append_cases}
use Rattle.eos_base.specs.declared.partition_name.PartitionName.{PartitionName}
use Rattle.eos_batch.specs.declared.batch.Batch.{Batch}
use Rattle.eos_evidence.specs.declared.partition.Partition.{Partition}
use Rattle.eos_evidence.specs.Evidence.{EvidenceParts, IsEvidence}
use Rattle.eos_sought.specs.Partitions.{is_named, partition_named}
use Rattle.eos_sought.specs.Times.{time_in}
use Rattle.eos_sought.specs.declared.finding.Find.{Find}
use Rattle.eos_sought.specs.declared.partition.Placed.{Placed}
use Rattle.eos_source.specs.Said.{Known}
use Rattle.eos_source_check.specs.Again.{IsNamedAgain}
use Rattle.eos_source_check.specs.Picked.{batch_at, ArePickedNamed, ArePickedOfRead, ArePickedOf}
use Rattle.eos_source_check.specs.declared.picks.Picked.{Picked}
use Rattle.eos_story.specs.declared.row.Row.{Row}
use Rattle.eos_story.specs.declared.row.Row.TheVariants as rows
use Rattle.eos_explaining.specs.Folders.{HasThem}
use Rattle.eos_explaining.specs.Told.{first_time, record_time, row_time}
use Rattle.eos_explaining.specs.steps.Again.{IsNamedOrRead, AreNamedOrRead}
use Rattle.eos_explaining.specs.steps.Times.{name_if, timed_in, first_time_in, record_time_in, row_time_in, at_record, at_first, spot_of, time_at, time_by, is_own, is_timed_in, place_if, spot_in, is_named_if, time_put, first_known, rest_known, times_put, known_times, IsKnown, IsTimeBy, IsTimeIf, AreTimesIf, AreKnownIn, AreTimesKnown, TimesPut, TimesMore, AreRowTimes}
use Rattle.eos_explaining.proofs.Covered.{none_there, there}
use Rattle.eos_explaining.proofs.OwnNames.{name_of, named_is}
use Rattle.eos_explaining.proofs.NamedAgain.{none_again, named_again, none_read, one_read, both_read, them_first, them_more, there_named}

-- ---- one row

first_looked_up : (ps : List Partition) (name n : PartitionName) (placed : Option Placed) → name_if name placed ≡ Some n → first_time ps name placed ≡ first_time_in (partition_named n ps) placed
first_looked_up ps name n None e = refl
first_looked_up ps name n (Some p) e =
    let same : name ≡ n = cc in
    ap (λ (m : PartitionName). time_in (partition_named m ps) p p.standing.head.offset) same

record_looked_up : (ps : List Partition) (find : Find) (n : PartitionName) (spot : Option Placed) → name_if find.partition spot ≡ Some n → record_time ps find spot ≡ record_time_in (partition_named n ps) find spot
record_looked_up ps find n None e = refl
record_looked_up ps find n (Some p) e =
    let same : find.partition ≡ n = cc in
    ap (λ (m : PartitionName). time_in (partition_named m ps) p find.item.offset) same

-- a row's time is that of the partition that it names
looked_up : (ps : List Partition) (row : Row) (n : PartitionName) → timed_in row ≡ Some n → row_time ps row ≡ row_time_in (partition_named n ps) row
looked_up ps (rows.Record sought find spot) n e = record_looked_up ps find n spot e
looked_up ps (rows.NoRecord sought) n e = refl
looked_up ps (rows.MoreRecords shown all sought) n e = refl
looked_up ps (rows.Batch name wanted placed) n e = first_looked_up ps name n (Some placed) e
looked_up ps (rows.First name wanted placed) n e = first_looked_up ps name n placed e
looked_up ps (rows.MoreBatches name wanted shown all) n e = refl
looked_up ps (rows.MorePartitions shown all sought) n e = refl
looked_up ps (rows.Segment name base size) n e = refl
looked_up ps (rows.MoreSegments name shown all) n e = refl
looked_up ps (rows.End name end) n e = refl
looked_up ps (rows.Header place name values) n e = refl

some_none : {X : Type 0} (x : X) → Some x ≡ None → ⊥
some_none x e = cc e

first_untimed : (ps : List Partition) (name : PartitionName) (placed : Option Placed) → name_if name placed ≡ None → first_time ps name placed ≡ None
first_untimed ps name None e = refl
first_untimed ps name (Some p) e = absurd (some_none name e)

record_untimed : (ps : List Partition) (find : Find) (spot : Option Placed) → name_if find.partition spot ≡ None → record_time ps find spot ≡ None
record_untimed ps find None e = refl
record_untimed ps find (Some p) e = absurd (some_none find.partition e)

-- one that names none has no time
untimed : (ps : List Partition) (row : Row) → timed_in row ≡ None → row_time ps row ≡ None
untimed ps (rows.Record sought find spot) e = record_untimed ps find spot e
untimed ps (rows.NoRecord sought) e = refl
untimed ps (rows.MoreRecords shown all sought) e = refl
untimed ps (rows.Batch name wanted placed) e = absurd (some_none name e)
untimed ps (rows.First name wanted placed) e = first_untimed ps name placed e
untimed ps (rows.MoreBatches name wanted shown all) e = refl
untimed ps (rows.MorePartitions shown all sought) e = refl
untimed ps (rows.Segment name base size) e = refl
untimed ps (rows.MoreSegments name shown all) e = refl
untimed ps (rows.End name end) e = refl
untimed ps (rows.Header place name values) e = refl

first_nowhere : (placed : Option Placed) → first_time_in None placed ≡ None
first_nowhere None = refl
first_nowhere (Some p) = refl

record_nowhere : (find : Find) (spot : Option Placed) → record_time_in None find spot ≡ None
record_nowhere find None = refl
record_nowhere find (Some p) = refl

-- and one whose partition isn't there has none
nowhere : (row : Row) → row_time_in None row ≡ None
nowhere (rows.Record sought find spot) = record_nowhere find spot
nowhere (rows.NoRecord sought) = refl
nowhere (rows.MoreRecords shown all sought) = refl
nowhere (rows.Batch name wanted placed) = refl
nowhere (rows.First name wanted placed) = first_nowhere placed
nowhere (rows.MoreBatches name wanted shown all) = refl
nowhere (rows.MorePartitions shown all sought) = refl
nowhere (rows.Segment name base size) = refl
nowhere (rows.MoreSegments name shown all) = refl
nowhere (rows.End name end) = refl
nowhere (rows.Header place name values) = refl

-- ---- in each evidence that has what was read

still : (shape : EvidenceParts) (before more : List Partition) (row : Row) (time : Option ℤ) → IsTimeBy shape before row time → IsTimeBy shape (before ++ more) row time
still shape before more row time is = λ e is_shape is_e spec has. is e is_shape is_e spec (them_first e before more has)

by_read : (shape : EvidenceParts) (before : List Partition) (p : Partition) (row : Row) (n : PartitionName) → timed_in row ≡ Some n → is_named n p ≡ true → IsTimeBy shape (before ++ p ∷ []) row (row_time_in (Some p) row)
by_read shape before p row n names named = λ e is_shape is_e spec has.
    let there : partition_named n e.partitions ≡ Some p = there_named e n p named (them_more e before (p ∷ []) has) in
    sym (looked_up e.partitions row n names ∙ ap (λ (o : Option Partition). row_time_in o row) there)

-- ---- what is known of all

one_still : (shape : EvidenceParts) (before more : List Partition) (row : Row) (f : Option (Option ℤ)) → IsTimeIf shape before row f → IsTimeIf shape (before ++ more) row f
one_still shape before more row None so = tt
one_still shape before more row (Some time) so = still shape before more row time so

all_still : (shape : EvidenceParts) (before more : List Partition) (all : List Row) (found : List (Option (Option ℤ))) → AreTimesIf shape before all found → AreTimesIf shape (before ++ more) all found
all_still shape before more [] found so = tt
all_still shape before more (row ∷ others) [] so = tt
all_still shape before more (row ∷ others) (f ∷ fs) so = (one_still shape before more row f so.0, all_still shape before more others fs so.1)

put_by : (shape : EvidenceParts) (before : List Partition) (p : Partition) (row : Row) (was : Option (Option ℤ)) (o : Option PartitionName) (b : Bool) → timed_in row ≡ o → is_named_if o p ≡ b → IsTimeIf shape before row was
    → IsTimeIf shape (before ++ p ∷ []) row (if b then Some (row_time_in (Some p) row) else was)
put_by shape before p row was None true names is so = absurd cc
put_by shape before p row was (Some n) true names is so = by_read shape before p row n names is
put_by shape before p row was o false names is so = one_still shape before (p ∷ []) row was so

put_one : (shape : EvidenceParts) (before : List Partition) (p : Partition) (row : Row) (was : Option (Option ℤ)) → IsTimeIf shape before row was → IsTimeIf shape (before ++ p ∷ []) row (time_put p row was)
put_one shape before p row was so = put_by shape before p row was (timed_in row) (is_named_if (timed_in row) p) refl refl so

none_known : (shape : EvidenceParts) (also : List Partition) (all : List Row) → AreTimesIf shape also all []
none_known shape also [] = tt
none_known shape also (row ∷ others) = tt

put_all : (shape : EvidenceParts) (before : List Partition) (p : Partition) (all : List Row) (found : List (Option (Option ℤ))) → AreTimesIf shape before all found → AreTimesIf shape (before ++ p ∷ []) all (times_put p all found)
put_all shape before p [] found so = tt
put_all shape before p (row ∷ others) [] so = (put_one shape before p row None tt, put_all shape before p others [] (none_known shape before others))
put_all shape before p (row ∷ others) (f ∷ fs) so = (put_one shape before p row f so.0, put_all shape before p others fs so.1)

at_known : (shape : EvidenceParts) (also : List Partition) (all : List Row) (found : List (Option (Option ℤ))) (i : ℕ) (row : Row) (time : Option ℤ) → AreTimesIf shape also all found → slice_get all i ≡ Some row
    → first_known (drop i found) ≡ Some time → IsTimeBy shape also row time
at_known shape also [] found i row time so at is = absurd (some_none row (sym at))
at_known shape also (x ∷ xs) [] zero row time so at is = absurd (some_none time (sym is))
at_known shape also (x ∷ xs) [] (suc i) row time so at is = absurd (some_none time (sym is))
at_known shape also (x ∷ xs) (f ∷ fs) zero row time so at is =
    let same : x ≡ row = cc in
    subst (λ (r : Row). IsTimeBy shape also r time) same (subst (IsTimeIf shape also x) is so.0)
at_known shape also (x ∷ xs) (f ∷ fs) (suc i) row time so at is = at_known shape also xs fs i row time so.1 at is

-- ---- the list of what is known, made anew

one_less : (found : List (Option (Option ℤ))) (i : ℕ) → rest_known (drop i found) ≡ drop (suc i) found
one_less [] zero = refl
one_less [] (suc i) = refl
one_less (f ∷ fs) zero = refl
one_less (f ∷ fs) (suc i) = one_less fs i

rest_is : (found : List (Option (Option ℤ))) (i : ℕ) → rest_known (drop i found) ≡ drop (i + 1) found
rest_is found i =
    let next : suc i ≡ i + 1 = omega arith in
    one_less found i ∙ ap (λ (n : ℕ). drop n found) next

pub put_more : (p : Partition) (all : List Row) (was now grown whole : List (Option (Option ℤ))) (i : ℕ) (row : Row) (one : Option (Option ℤ)) → i < length all → row ≡ get_or all i row → one ≡ time_put p row (first_known (drop i was))
    → grown ≡ now ++ one ∷ [] → now ++ times_put p (drop i all) (drop i was) ≡ whole → grown ++ times_put p (drop (i + 1) all) (drop (i + 1) was) ≡ whole
put_more p all was now grown whole i row one lt is put more so =
    let next : drop i all ≡ row ∷ drop (i + 1) all = drop_more all i row lt ∙ ap (λ (r : Row). r ∷ drop (i + 1) all) (sym is) in
    let left = times_put p (drop (i + 1) all) (drop (i + 1) was) in
    let here : times_put p (drop i all) (drop i was) ≡ one ∷ left =
    ap (λ (rs : List Row). times_put p rs (drop i was)) next ∙ (λ k. sym put k ∷ times_put p (drop (i + 1) all) (rest_is was i k)) in
    ap (λ (l : List (Option (Option ℤ))). l ++ left) more ∙ (append_assoc now (one ∷ []) left ∙ (sym (ap (λ (l : List (Option (Option ℤ))). now ++ l) here) ∙ so))

pub put_done : (p : Partition) (all : List Row) (was now : List (Option (Option ℤ))) (i : ℕ) → length all ≤ i → now ++ times_put p (drop i all) (drop i was) ≡ times_put p all was → now ≡ times_put p all was
put_done p all was now i done so = sym (append-nil now) ∙ (sym (ap (λ (rs : List Row). now ++ times_put p rs (drop i was)) (drop_all i all done)) ∙ so)

-- ---- by the batches that stand there

-- a partition that was read by its name has the times of the rows that are in that of this name
own_by : (o : Option PartitionName) (p : Partition) → is_own o (name_of p) ≡ is_named_if o p
own_by None p = refl
own_by (Some own) p = refl

timed_by : (name : PartitionName) (p : Partition) (row : Row) → is_named name p ≡ true → is_timed_in name row ≡ is_named_if (timed_in row) p
timed_by name p row named = subst (λ (n : PartitionName). is_timed_in n row ≡ is_named_if (timed_in row) p) (sym (named_is name p named)) (own_by (timed_in row) p)

record_by : (p : Partition) (find : Find) (spot : Option Placed) → time_at (at_record find.item.offset spot) (batch_at p (place_if true (at_record find.item.offset spot))) ≡ record_time_in (Some p) find spot
record_by p find None = refl
record_by p find (Some q) = refl

first_by : (p : Partition) (placed : Option Placed) → time_at (at_first placed) (batch_at p (place_if true (at_first placed))) ≡ first_time_in (Some p) placed
first_by p None = refl
first_by p (Some q) = refl

time_is : (p : Partition) (row : Row) → time_by row (batch_at p (place_if true (spot_of row))) ≡ row_time_in (Some p) row
time_is p (rows.Record sought find spot) = record_by p find spot
time_is p (rows.NoRecord sought) = refl
time_is p (rows.MoreRecords shown all sought) = refl
time_is p (rows.Batch name wanted placed) = first_by p (Some placed)
time_is p (rows.First name wanted placed) = first_by p placed
time_is p (rows.MoreBatches name wanted shown all) = refl
time_is p (rows.MorePartitions shown all sought) = refl
time_is p (rows.Segment name base size) = refl
time_is p (rows.MoreSegments name shown all) = refl
time_is p (rows.End name end) = refl
time_is p (rows.Header place name values) = refl

pub put_there : (name : PartitionName) (p : Partition) (row : Row) (was : Option (Option ℤ)) (batch : Option Batch) → is_timed_in name row ≡ true → is_named name p ≡ true → batch ≡ batch_at p (spot_in name row) → Some (time_by row batch) ≡ time_put p row was
put_there name p row was batch own named is =
    let so : is_named_if (timed_in row) p ≡ true = sym (timed_by name p row named) ∙ own in
    let time : time_by row batch ≡ row_time_in (Some p) row = ap (time_by row) is ∙ (ap (λ (b : Bool). time_by row (batch_at p (place_if b (spot_of row)))) own ∙ time_is p row) in
    ap (λ (t : Option ℤ). Some t) time ∙ ap (λ (b : Bool). if b then Some (row_time_in (Some p) row) else was) (sym so)

pub put_elsewhere : (name : PartitionName) (p : Partition) (row : Row) (was : Option (Option ℤ)) → is_timed_in name row ≡ false → is_named name p ≡ true → was ≡ time_put p row was
put_elsewhere name p row was own named =
    let so : is_named_if (timed_in row) p ≡ false = sym (timed_by name p row named) ∙ own in
    ap (λ (b : Bool). if b then Some (row_time_in (Some p) row) else was) (sym so)

pub place_at : (name : PartitionName) (all : List Row) (i : ℕ) (row : Row) → i < length all → row ≡ get_or all i row → slice_get (map (spot_in name) all) i ≡ Some (spot_in name row)
place_at name all i row lt is = slice_get-map (spot_in name) all i ∙ ap (option_map (spot_in name)) (slice_get_read all (length all) i row refl lt is)

-- the time of a row in that partition is known then
pub known_put : (p : Partition) (all : List Row) (found : List (Option (Option ℤ))) (i : ℕ) (row : Row) → slice_get all i ≡ Some row → is_named_if (timed_in row) p ≡ true → first_known (drop i (times_put p all found)) ≡ Some (row_time_in (Some p) row)
known_put p [] found i row at named = absurd (some_none row (sym at))
known_put p (x ∷ xs) found zero row at named =
    let same : x ≡ row = cc in
    subst (λ (r : Row). time_put p r (first_known found) ≡ Some (row_time_in (Some p) row)) (sym same) (ap (λ (b : Bool). if b then Some (row_time_in (Some p) row) else first_known found) named)
known_put p (x ∷ xs) found (suc i) row at named = known_put p xs (rest_known found) i row at named

-- ---- which times are known

some_is : (time : Option ℤ) → IsKnown (Some time)
some_is time = (time, refl)

known_still : (p : Partition) (row : Row) (f : Option (Option ℤ)) → IsKnown f → IsKnown (time_put p row f)
known_still p row f is = by (is_named_if (timed_in row) p)
  where
    by : (b : Bool) → IsKnown (if b then Some (row_time_in (Some p) row) else f)
    by true = some_is (row_time_in (Some p) row)
    by false = is

-- those that were known stay so
known_in_still : (shapes : List Partition) (name : PartitionName) (p : Partition) (all : List Row) (found : List (Option (Option ℤ))) → AreKnownIn shapes name all found → AreKnownIn shapes name all (times_put p all found)
known_in_still shapes name p [] found are = tt
known_in_still shapes name p (row ∷ others) found are = (
  λ names. elim (are.0 names) [
    | inl none ↦ inl none
    | inr is ↦ inr (known_still p row (first_known found) is)
  ],
  known_in_still shapes name p others (rest_known found) are.1,
)

known_there : (p : Partition) (row : Row) (was : Option (Option ℤ)) → is_named_if (timed_in row) p ≡ true → IsKnown (time_put p row was)
known_there p row was is = (row_time_in (Some p) row, ap (λ (b : Bool). if b then Some (row_time_in (Some p) row) else was) is)

-- once the partition of this name was read
known_read : (shapes : List Partition) (name : PartitionName) (p : Partition) (all : List Row) (found : List (Option (Option ℤ))) → is_named name p ≡ true → AreKnownIn shapes name all (times_put p all found)
known_read shapes name p [] found named = tt
known_read shapes name p (row ∷ others) found named = (
  λ names. inr (known_there p row (first_known found) (ap (λ (o : Option PartitionName). is_named_if o p) names ∙ named)),
  known_read shapes name p others (rest_known found) named,
)

known_nowhere : (shapes : List Partition) (name : PartitionName) (all : List Row) (found : List (Option (Option ℤ))) → partition_named name shapes ≡ None → AreKnownIn shapes name all found
known_nowhere shapes name [] found none = tt
known_nowhere shapes name (row ∷ others) found none = (λ names. inl none, known_nowhere shapes name others (rest_known found) none)

-- ---- one partition more

module _ (known : ℕ → Known) (shape : EvidenceParts) (all : List Row) where
  pub known_none : AreTimesKnown known shape all [] []
  known_none = record { also = []; read = none_read known shape.partitions; so = none_known shape [] all; of = λ name has. absurd has }

  one_or : {X : Type 0} (xs : List X) (x y : X) (R : X → Type 0) → ((z : X) → Has xs z → R z) → R x → Has (xs ++ x ∷ []) y → R y
  one_or xs x y R before here has = elim (append_cases xs (x ∷ []) y has) [
    | inl h ↦ before y h
    | inr (inl same) ↦ subst R same here
    | inr (inr h) ↦ absurd h
  ]

  nowhere_more : (names : List PartitionName) (name : PartitionName) (old : List (Option (Option ℤ))) → partition_named name shape.partitions ≡ None → AreTimesKnown known shape all names old → AreTimesKnown known shape all (names ++ name ∷ []) old
  nowhere_more names name old none are = record {
    also = are.also;
    read = are.read;
    so = are.so;
    of = λ n has. one_or names name n (λ m. AreKnownIn shape.partitions m all old) are.of (known_nowhere shape.partitions name all old none) has;
  }

  read_more : (names : List PartitionName) (name : PartitionName) (p : Partition) (old : List (Option (Option ℤ))) → IsNamedAgain known 0 shape.partitions name (Some p) → AreTimesKnown known shape all names old
      → AreTimesKnown known shape all (names ++ name ∷ []) (times_put p all old)
  read_more names name p old again are = record {
    also = are.also ++ p ∷ [];
    read = both_read known shape.partitions are.also (p ∷ []) are.read (one_read known shape.partitions name p again);
    so = put_all shape are.also p all old are.so;
    of = λ n has. one_or names name n (λ m. AreKnownIn shape.partitions m all (times_put p all old)) (λ m h. known_in_still shape.partitions m p all old (are.of m h))
        (known_read shape.partitions name p all old (named_again known 0 shape.partitions name p again)) has;
  }

  pub more_unpicked : (names : List PartitionName) (name : PartitionName) (picked : Option Picked) (old : List (Option (Option ℤ))) → ArePickedNamed known shape.partitions name (map (spot_in name) all) picked → picked ≡ None
      → AreTimesKnown known shape all names old → AreTimesKnown known shape all (names ++ name ∷ []) old
  more_unpicked names name picked old of none are = by of.read of.again (subst (ArePickedOfRead of.read (map (spot_in name) all)) none of.are)
    where
      by : (read : Option Partition) → IsNamedAgain known 0 shape.partitions name read → ArePickedOfRead read (map (spot_in name) all) None → AreTimesKnown known shape all (names ++ name ∷ []) old
      by None again is = nowhere_more names name old (none_again known 0 shape.partitions name again) are
      by (Some p) again is = absurd is

  pub more_picked : (names : List PartitionName) (name : PartitionName) (all_picked : Option Picked) (picked : Picked) (old new : List (Option (Option ℤ))) → ArePickedNamed known shape.partitions name (map (spot_in name) all) all_picked → all_picked ≡ Some picked
      → ((p : Partition) → is_named name p ≡ true → ArePickedOf p (map (spot_in name) all) picked → new ≡ times_put p all old) → AreTimesKnown known shape all names old → AreTimesKnown known shape all (names ++ name ∷ []) new
  more_picked names name all_picked picked old new of some put are = by of.read of.again (subst (ArePickedOfRead of.read (map (spot_in name) all)) some of.are)
    where
      by : (read : Option Partition) → IsNamedAgain known 0 shape.partitions name read → ArePickedOfRead read (map (spot_in name) all) (Some picked) → AreTimesKnown known shape all (names ++ name ∷ []) new
      by None again is = absurd is
      by (Some p) again is =
          subst (AreTimesKnown known shape all (names ++ name ∷ [])) (sym (put p (named_again known 0 shape.partitions name p again) is)) (read_more names name p old again are)

  -- ---- those of further names

  pub names_none : (found : List (Option (Option ℤ))) → TimesMore known shape all [] found found
  names_none found = λ before are. subst (λ (ns : List PartitionName). AreTimesKnown known shape all ns found) (sym (append-nil before)) are

  pub names_more : (names : List PartitionName) (i : ℕ) (name : PartitionName) (first old new : List (Option (Option ℤ))) (picked : Option Picked) → take (i + 1) names ≡ take i names ++ name ∷ [] → TimesMore known shape all (take i names) first old
      → TimesPut name all picked old new → ArePickedNamed known shape.partitions name (map (spot_in name) all) picked → TimesMore known shape all (take (i + 1) names) first new
  names_more names i name first old new picked more are put of = λ before so.
      subst (λ (ns : List PartitionName). AreTimesKnown known shape all ns new) (append_assoc before (take i names) (name ∷ []) ∙ ap (λ (ns : List PartitionName). before ++ ns) (sym more)) (put known shape (before ++ take i names) of (are before so))

-- ---- the times of all

-- a row whose time isn't known has none
time_if : (shape e : EvidenceParts) (also : List Partition) (row : Row) (f : Option (Option ℤ)) (o : Option PartitionName) → timed_in row ≡ o → IsTimeIf shape also row f
    → ((name : PartitionName) → timed_in row ≡ Some name → (partition_named name shape.partitions ≡ None) ⊎ IsKnown f) → IsEvidence shape → IsEvidence e → e.spec ≡ shape.spec → HasThem e also → option_flatten f ≡ row_time e.partitions row
time_if shape e also row (Some time) o names so are is_shape is_e spec has = so e is_shape is_e spec has
time_if shape e also row None None names so are is_shape is_e spec has = sym (untimed e.partitions row names)
time_if shape e also row None (Some name) names so are is_shape is_e spec has = elim (are name names) [
  | inl none ↦ sym (looked_up e.partitions row name names ∙ (ap (λ (p : Option Partition). row_time_in p row) (none_there shape e name is_shape is_e spec none) ∙ nowhere row))
  | inr is ↦ absurd (some_none is.0 (sym is.1))
]

first_if : (shape : EvidenceParts) (also : List Partition) (row : Row) (others : List Row) (found : List (Option (Option ℤ))) → AreTimesIf shape also (row ∷ others) found → IsTimeIf shape also row (first_known found)
first_if shape also row others [] so = tt
first_if shape also row others (f ∷ fs) so = so.0

rest_if : (shape : EvidenceParts) (also : List Partition) (row : Row) (others : List Row) (found : List (Option (Option ℤ))) → AreTimesIf shape also (row ∷ others) found → AreTimesIf shape also others (rest_known found)
rest_if shape also row others [] so = none_known shape also others
rest_if shape also row others (f ∷ fs) so = so.1

all_times : (shape e : EvidenceParts) (also : List Partition) (rows : List Row) (found : List (Option (Option ℤ))) → AreTimesIf shape also rows found
    → ((row : Row) (name : PartitionName) → Has rows row → timed_in row ≡ Some name → AreKnownIn shape.partitions name rows found) → IsEvidence shape → IsEvidence e → e.spec ≡ shape.spec → HasThem e also
    → known_times rows found ≡ map (row_time e.partitions) rows
all_times shape e also [] found so are is_shape is_e spec has = refl
all_times shape e also (row ∷ others) found so are is_shape is_e spec has =
    let here : option_flatten (first_known found) ≡ row_time e.partitions row =
    time_if shape e also row (first_known found) (timed_in row) refl (first_if shape also row others found so) (λ name names. (are row name (inl refl) names).0 names) is_shape is_e spec has in
    let rest = all_times shape e also others (rest_known found) (rest_if shape also row others found so) (λ r name h names. (are r name (inr h) names).1) is_shape is_e spec has in
    λ k. here k ∷ rest k

-- the names of rows, none of which was read
named_one : (names : List PartitionName) (row : Row) (name : PartitionName) → IsNamedOrRead [] names (timed_in row) → timed_in row ≡ Some name → Has names name
named_one names row name is named = by (timed_in row) is named
  where
    by : (o : Option PartitionName) → IsNamedOrRead [] names o → o ≡ Some name → Has names name
    by None is e = absurd (some_none name (sym e))
    by (Some n) is e =
        let same : n ≡ name = cc in
        elim is [
          | inl was ↦ absurd (some_none (was.1 [] tt).partition (sym (was.1 [] tt).named))
          | inr has ↦ subst (Has names) same has
        ]

pub times_are : (known : ℕ → Known) (shape : EvidenceParts) (all : List Row) (names : List PartitionName) (found : List (Option (Option ℤ))) (times : List (Option ℤ)) → AreNamedOrRead [] names timed_in all → AreTimesKnown known shape all names found
    → times ≡ known_times all found → AreRowTimes known shape all times
times_are known shape all names found times named are is = record {
  also = are.also;
  read = are.read;
  are = λ e is_shape is_e spec has.
      is ∙ all_times shape e are.also all found are.so (λ row name h names_it. are.of name (named_one names row name (named row h) names_it)) is_shape is_e spec has;
}

-- the list of times, made one by one
pub times_more : (all : List Row) (found : List (Option (Option ℤ))) (now grown whole : List (Option ℤ)) (i : ℕ) (one : Option (Option ℤ)) → i < length all → one ≡ first_known (drop i found) → grown ≡ now ++ option_flatten one ∷ []
    → now ++ known_times (drop i all) (drop i found) ≡ whole → grown ++ known_times (drop (i + 1) all) (drop (i + 1) found) ≡ whole
times_more all found now grown whole i one lt is more so =
    let r = there all i lt in
    let left = known_times (drop (i + 1) all) (drop (i + 1) found) in
    let next : drop i all ≡ get_or all i r.0 ∷ drop (i + 1) all = drop_more all i r.0 lt in
    let here : known_times (drop i all) (drop i found) ≡ option_flatten one ∷ left =
    ap (λ (rs : List Row). known_times rs (drop i found)) next ∙ (λ k. option_flatten (sym is k) ∷ known_times (drop (i + 1) all) (rest_is found i k)) in
    ap (λ l. l ++ left) more ∙ (append_assoc now (option_flatten one ∷ []) left ∙ (sym (ap (λ l. now ++ l) here) ∙ so))

pub times_done : (all : List Row) (found : List (Option (Option ℤ))) (now whole : List (Option ℤ)) (i : ℕ) → length all ≤ i → now ++ known_times (drop i all) (drop i found) ≡ whole → now ≡ whole
times_done all found now whole i done so = sym (append-nil now) ∙ (sym (ap (λ (rs : List Row). now ++ known_times rs (drop i found)) (drop_all i all done)) ∙ so)
