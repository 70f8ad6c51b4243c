-- What is looked up of times that were read together.
use Rattle.std.proofs.Common.{◌≡◌, ◌<◌, ℕ, ℤ, ◌+◌, ◌==◌, List, [], ◌∷◌, ◌++◌, length, drop, get_or, Option, Some, option_map, Result, Ok, Err, IfOk, is_ok, Bool, true, false, nat_lt, cond, if◌then◌else◌, refl, sym, ap, subst, ◌∙◌, arith}
use Rattle.std.specs.BTreeMap.{BTreeMap, get}
use Rattle.std.specs.List.{All, Contains, HoldsAt}
use Rattle.std.specs.List.Sorted.{IsPermutation, IsSearchInRange}
use Rattle.std.specs.Ordering.{nat_cmp, int_cmp, is_eq, ordering_then}
use Rattle.std.specs.Cmp.Lexicographic.{slice_cmp}
use Rattle.std.specs.declared.cmp.Ordering.TheVariants.{Less, Equal, Greater}
use Rattle.std.proofs.lemmas.Bool.{ltb-true, eqb-true}
use Rattle.std.proofs.lemmas.List.{drop_more}
use Rattle.std.proofs.lemmas.List.Elements.{All-contains, All-push}
use Rattle.std.proofs.lemmas.List.Sorted.{Contains-permutation}
use Rattle.eos_base.proofs.Exact.{nat_exact}
use Rattle.eos_base.proofs.NamesInOrder.{name_exact}
use Rattle.eos_claims.specs.Plain.{plain_source}
use Rattle.eos_claims.specs.declared.place.SourceRef.{SourceRef}
use Rattle.eos_claims.specs.declared.place.Place.{Place}
use Rattle.eos_evidence.specs.declared.partition.Partition.{Partition}
use Rattle.eos_base.specs.declared.partition_name.PartitionName.{PartitionName}
use Rattle.eos_source.specs.Said.{Known}
use Rattle.eos_source_check.specs.Times.{AreTimesNamed, AreTimesEach, first_at}
use Rattle.eos_checking.specs.Dates.{time_at, IsTimeOf}
use Rattle.eos_checking.specs.declared.tables.Moment.{Moment}
use Rattle.eos_checking.specs.declared.tables.Table.{Table}
use Rattle.eos_checking.specs.steps.Tables.{IsIndex, IsTable}

-- ---- the times by their offsets

same_test : (a b : ℕ) → is_eq (nat_cmp a b) ≡ (a == b)
same_test a b = go (nat_lt a b) (a == b) refl refl
  where
    go : (less same : Bool) → nat_lt a b ≡ less → (a == b) ≡ same → is_eq (cond less Less (cond same Equal Greater)) ≡ same
    go true true p q = absurd (omega (arith, ltb-true a b p, eqb-true a b q))
    go true false p q = refl
    go false true p q = refl
    go false false p q = refl

chosen : (b : Bool) (m : Moment) (w : Option Moment) (r : Option ℤ) → option_map (λ (x : Moment). x.time) w ≡ r → option_map (λ (x : Moment). x.time) (cond b (Some m) w) ≡ (if b then Some m.time else r)
chosen true m w r is = refl
chosen false m w r is = is

pub put_more : (old new : BTreeMap ℕ Moment) (behind : List (ℕ × ℤ)) (t : ℕ × ℤ) (m : Moment) → IsIndex old behind → m.time ≡ t.1 → ((o : ℕ) → get nat_cmp new o ≡ cond (is_eq (nat_cmp t.0 o)) (Some m) (get nat_cmp old o))
    → IsIndex new (t ∷ behind)
put_more old new behind t m is same put = λ o.
    ap (option_map (λ (x : Moment). x.time)) (put o)
    ∙ (chosen (is_eq (nat_cmp t.0 o)) m (get nat_cmp old o) (time_at o behind) (is o)
    ∙ (ap (λ (b : Bool). if b then Some m.time else time_at o behind) (same_test t.0 o) ∙ ap (λ (z : ℤ). if t.0 == o then Some z else time_at o behind) same))

-- one time further, from the last to the first
pub one_back : (old new : BTreeMap ℕ Moment) (times : List (ℕ × ℤ)) (i j : ℕ) (d : ℕ × ℤ) → j + 1 ≡ i → j < length times → ((behind : List (ℕ × ℤ)) → IsIndex old behind → IsIndex new (get_or times j d ∷ behind)) → IsIndex old (drop i times)
    → IsIndex new (drop j times)
one_back old new times i j d next lt put before =
    let left : drop j times ≡ get_or times j d ∷ drop i times = drop_more times j d lt ∙ ap (λ (n : ℕ). get_or times j d ∷ drop n times) next in
    subst (IsIndex new) (sym left) (put (drop i times) before)

-- ---- the time of a place

pub among : (offsets : List ℕ) (offset i : ℕ) → i < length offsets → HoldsAt (λ y. nat_cmp y offset ≡ Equal) offsets i → Contains offsets offset
among offsets offset i lt at = (i, lt, nat_exact (get_or offsets i offset) offset (at offset))

-- two words for the first time at an offset
same_first : (offset : ℕ) (times : List (ℕ × ℤ)) → first_at offset times ≡ time_at offset times
same_first offset [] = refl
same_first offset (t ∷ ts) = ap (λ (w : Option ℤ). if t.0 == offset then Some t.1 else w) (same_first offset ts)

pub found : (offsets : List ℕ) (offset : ℕ) (r : Result ℕ ℕ) → IsSearchInRange r (length offsets) → IfOk r (HoldsAt (λ y. nat_cmp y offset ≡ Equal) offsets) → is_ok r ≡ true → Contains offsets offset
found offsets offset (Ok i) bound at so = among offsets offset i bound at
found offsets offset (Err i) bound at so = absurd cc

pub same_name : (name : PartitionName) (place : SourceRef) → ordering_then (slice_cmp nat_cmp name.topic place.topic.now) (int_cmp name.partition place.partition) ≡ Equal → name ≡ (plain_source place).partition
same_name name place e = name_exact name (plain_source place).partition e

pub alone : (offset : ℕ) (none made offsets : List ℕ) → none ≡ [] → made ≡ none ++ offset ∷ [] → IsPermutation made offsets → Contains offsets offset
alone offset none made offsets empty pushed moved =
    Contains-permutation made offsets offset moved (subst (λ (os : List ℕ). Contains os offset) (sym (pushed ∙ ap (λ (os : List ℕ). os ++ offset ∷ []) empty)) (0, omega arith, refl))

pub time_is : (known : ℕ → Known) (partitions : List Partition) (place : Place) (name : PartitionName) (offsets : List ℕ) (times : List (ℕ × ℤ)) (time : Option ℤ) → name ≡ place.partition → Contains offsets place.offset
    → AreTimesEach known partitions name offsets times → time ≡ time_at place.offset times → IsTimeOf known partitions place time
time_is known partitions place name offsets times time named among are is =
    let o = are.each place.offset among in
    record {
      offsets = place.offset ∷ [];
      among = (0, omega arith, refl);
      times = o.alone;
      are = subst (λ (n : PartitionName). AreTimesNamed known 0 partitions n (place.offset ∷ []) o.alone) named o.are;
      is = is ∙ (sym (same_first place.offset times) ∙ (o.same ∙ same_first place.offset o.alone));
    }

pub told : (known : ℕ → Known) (partitions : List Partition) (tables : List Table) (table : Table) (place : Place) (time : Option ℤ) → All (IsTable known partitions) tables → Contains tables table
    → table.name ≡ place.partition → Contains table.offsets place.offset → time ≡ option_map (λ (x : Moment). x.time) (get nat_cmp table.times place.offset) → IsTimeOf known partitions place time
told known partitions tables table place time all here named among is =
    let t = All-contains (IsTable known partitions) tables table all here in
    time_is known partitions place table.name table.offsets t.times time named among t.are (is ∙ t.index place.offset)

-- ---- partition by partition

pub tables_more : (known : ℕ → Known) (partitions : List Partition) (before after : List Table) (table : Table) → All (IsTable known partitions) before → IsTable known partitions table → after ≡ before ++ table ∷ []
    → All (IsTable known partitions) after
tables_more known partitions before after table all one pushed =
    subst (λ (ts : List Table). All (IsTable known partitions) ts) (sym pushed) (All-push (IsTable known partitions) before table all one)
