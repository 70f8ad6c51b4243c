-- What the look-ups in the tables of an application say.
use Rattle.std.proofs.Common.{◌≡◌, ℕ, ℤ, pos, negsuc, zero, suc, List, [], ◌∷◌, ◌++◌, map, Option, Some, None, option_map, refl, sym, ap, ◌∙◌, inl, inr, true, false, Bool, ◌&&◌, ◌||◌, not, arith, if◌then◌else◌, IsPermutation, IsSorted}
use Rattle.std.specs.Prelude.{slice_get, int_lt, nat_lt, unsigned_abs, ◌-◌}
use Rattle.std.specs.List.{flat_map, list_any}
use Rattle.std.specs.Ordering.{nat_cmp, int_cmp, is_eq, ordering_then}
use Rattle.std.specs.Cmp.Lexicographic.{slice_cmp}
use Rattle.std.specs.Option.{option_to_list}
use Rattle.std.specs.declared.cmp.Ordering.{Ordering}
use Rattle.std.specs.declared.cmp.Ordering.TheVariants.{Less, Equal, Greater}
use Rattle.std.proofs.lemmas.Bool.{cases_lt, lt-ltb, le-ltb}
use Rattle.std.proofs.lemmas.List.Sorted.{list_any-IsPermutation}
use Rattle.eos_base.specs.declared.partition_name.PartitionName.{PartitionName}
use Rattle.eos_base.specs.Members.{Has, is_found}
use Rattle.eos_base.specs.PartitionNames.{name_cmp}
use Rattle.eos_base.proofs.Membership.{found_by}
use Rattle.eos_claims.specs.declared.place.Place.{Place}
use Rattle.eos_claims.specs.declared.alone.SourceTests.{SourceTests}
use Rattle.eos_claims.specs.Outputs.{Writer, Commit, Application, committed_offset}
use Rattle.eos_claims.specs.Faults.{place_cmp}
use Rattle.eos_claims.specs.Candidates.{is_input, is_by, passes}
use Rattle.eos_claims.specs.Plain.{plain_place}
use Rattle.eos_claims.proofs.ClaimTests.{input_is}
use Rattle.eos_commits.specs.declared.name.IndexedName.{IndexedName}
use Rattle.eos_lineage.specs.declared.tables.Tables.{Tables}
use Rattle.eos_lineage.specs.declared.tables.Known.{Known}
use Rattle.eos_lineage.specs.steps.Tables.{Passed, key_of, pass_with, passes_of, reaches, is_reached}
use Rattle.eos_lineage.specs.steps.Walks.{AreTables, KnowsPlace, AreTests, by_place, is_below_in, flags_of}

get_mapped : {X Y : Type 0} (f : X → Y) (xs : List X) (k : ℕ) → slice_get (map f xs) k ≡ option_map f (slice_get xs k)
get_mapped f [] k = refl
get_mapped f (x ∷ xs) zero = refl
get_mapped f (x ∷ xs) (suc k) = get_mapped f xs k

pub knows : (a : Application) (t : Tables) → AreTables a t → (i : Place) (p : IndexedName) (k : Known)
    → slice_get t.names.now p.place ≡ Some p.name.now → slice_get t.names.now p.place ≡ Some i.partition
    → plain_place k.place ≡ record { partition = p.name.now; offset = i.offset }
    → (IsSorted by_place t.inputs.now → k.is_input ≡ is_found by_place t.inputs.now k.place)
    → k.is_committed ≡ is_below_in (slice_get t.offsets.now p.place) i.offset → KnowsPlace a i (Some k)
knows a t are i p k found named place input committed =
    let name : p.name.now ≡ i.partition = inside (sym found ∙ named) in
    let here : plain_place k.place ≡ i = place ∙ ap (λ (n : PartitionName). at n) name in
    let looked = input are.in_order ∙ (found_by plain_place place_cmp by_place (λ x y. refl) t.inputs.now k.place ∙ (λ j. is_found place_cmp (are.inputs j) (here j))) in
    let offset : slice_get t.offsets.now p.place ≡ Some (committed_offset a.commits i.partition)
    = ap (λ os. slice_get os p.place) are.offsets ∙ (get_mapped (committed_offset a.commits) t.names.now p.place ∙ ap (option_map (committed_offset a.commits)) named) in
    (here, looked, committed ∙ ap (λ o. is_below_in o i.offset) offset)
  where
    at : PartitionName → Place
    at n = record { partition = n; offset = i.offset }

    inside : Some p.name.now ≡ Some i.partition → p.name.now ≡ i.partition
    inside e = cc

pub knows_none : (a : Application) (t : Tables) → AreTables a t → (i : Place) → (Has t.names.now i.partition → ⊥) → is_input a i ≡ false
knows_none a t are i absent = go (is_input a i) refl
  where
    go : (b : Bool) → is_input a i ≡ b → b ≡ false
    go false e = refl
    go true e = absurd (absent (are.named i (input_is a i e)))

-- ---- commits past a record

any_append : {X : Type 0} (p : X → Bool) (xs ys : List X) → list_any p (xs ++ ys) ≡ (list_any p xs || list_any p ys)
any_append p [] ys = refl
any_append p (x ∷ xs) ys = either (p x) (any_append p xs ys)
  where
    either : (b : Bool) → list_any p (xs ++ ys) ≡ (list_any p xs || list_any p ys) → (b || list_any p (xs ++ ys)) ≡ ((b || list_any p xs) || list_any p ys)
    either true e = refl
    either false e = e

any_none : {X : Type 0} (xs : List X) → false ≡ list_any (λ x. false) xs
any_none [] = refl
any_none (x ∷ xs) = any_none xs

both_tied : (a b : Ordering) → is_eq (ordering_then a b) ≡ (is_eq a && is_eq b)
both_tied Less b = refl
both_tied Equal b = refl
both_tied Greater b = refl

and_false : (b : Bool) → false ≡ (b && false)
and_false true = refl
and_false false = refl

regroup : (a b c d : Bool) → (((a && (b && c)) && d) || false) ≡ ((a && b) && (c && d))
regroup true true true true = refl
regroup true true true false = refl
regroup true true false d = refl
regroup true false c d = refl
regroup false b c d = refl

-- a commit above a record passes it
past : (z : ℤ) (o : ℕ) → int_lt (pos 0) z ≡ true → not (nat_lt (unsigned_abs z - 1) o) ≡ int_lt (pos o) z
past (pos zero) o e = absurd cc
past (negsuc n) o e = absurd cc
past (pos (suc n)) o e = elim (cases_lt n o) [
  | inl l ↦
      let u : nat_lt (suc n - 1) o ≡ true = lt-ltb (suc n - 1) o (omega (arith, l)) in
      let v : int_lt (pos o) (pos (suc n)) ≡ false = le-ltb o (suc n) (omega (arith, l)) in
      ap not u ∙ sym v
  | inr g ↦
      let u : nat_lt (suc n - 1) o ≡ false = le-ltb (suc n - 1) o (omega (arith, g)) in
      let v : int_lt (pos o) (pos (suc n)) ≡ true = lt-ltb o (suc n) (omega (arith, g)) in
      ap not u ∙ sym v
]

not_past : (z : ℤ) (o : ℕ) → int_lt (pos 0) z ≡ false → false ≡ int_lt (pos o) z
not_past (pos zero) o e = sym (le-ltb o 0 (omega arith))
not_past (negsuc n) o e = refl
not_past (pos (suc n)) o e =
    let t : nat_lt 0 (suc n) ≡ true = lt-ltb 0 (suc n) (omega arith) in
    let q : false ≡ true = sym e ∙ t in
    absurd cc

abbrev wanted : Writer → Place → Passed
wanted w i = record { key = key_of w i.partition; last = i.offset }

one_commit : (w : Writer) (i : Place) (m : Commit) → list_any (reaches (wanted w i)) (passes_of m) ≡ passes (Some w) i m
one_commit w i m = by_writer m.writer refl
  where
    with_offset : (v : Writer) (b : Bool) → int_lt (pos 0) m.offset ≡ b
        → list_any (reaches (wanted w i)) (option_to_list (pass_with v m.partition (if b then Some (unsigned_abs m.offset - 1) else None)))
        ≡ (is_by (Some v) w && (is_eq (name_cmp m.partition i.partition) && int_lt (pos i.offset) m.offset))
    with_offset v true e =
        let p = past m.offset i.offset e in
        let q = both_tied (int_cmp v.1 w.1) (name_cmp m.partition i.partition) in
        let k = both_tied (int_cmp v.0 w.0) (ordering_then (int_cmp v.1 w.1) (name_cmp m.partition i.partition)) in
        rw (k, q, p) (regroup (is_eq (int_cmp v.0 w.0)) (is_eq (int_cmp v.1 w.1)) (is_eq (name_cmp m.partition i.partition)) (int_lt (pos i.offset) m.offset))
    with_offset v false e = rw (← not_past m.offset i.offset e) (and_false (is_by (Some v) w) ∙ ap (λ b. is_by (Some v) w && b) (and_false (is_eq (name_cmp m.partition i.partition))))

    by_writer : (v : Option Writer) → m.writer ≡ v → list_any (reaches (wanted w i)) (passes_of m) ≡ passes (Some w) i m
    by_writer None e = rw e refl
    by_writer (Some v) e = rw e (with_offset v (int_lt (pos 0) m.offset) refl)

all_commits : (w : Writer) (i : Place) (cs : List Commit) → list_any (reaches (wanted w i)) (flat_map passes_of cs) ≡ list_any (passes (Some w) i) cs
all_commits w i [] = refl
all_commits w i (m ∷ cs) =
    let here = one_commit w i m in
    let rest = all_commits w i cs in
    any_append (reaches (wanted w i)) (passes_of m) (flat_map passes_of cs) ∙ (λ j. here j || rest j)

pub reached : (w : Option Writer) (i : Place) (cs : List Commit) (ps : List Passed) → IsPermutation (flat_map passes_of cs) ps → is_reached ps w i ≡ list_any (passes w i) cs
reached None i cs ps perm = any_none cs
reached (Some w) i cs ps perm = sym (list_any-IsPermutation (reaches (wanted w i)) (flat_map passes_of cs) ps perm) ∙ all_commits w i cs

-- ---- the tests of a claim

pub tests : (a : Application) (t : Tables) → AreTables a t → (i : Place) (w : Option Writer) (known : Option Known) (r : SourceTests) → KnowsPlace a i known
    → r.is_source ≡ is_found (slice_cmp nat_cmp) t.sources.now i.partition.topic → r.is_passed ≡ is_reached t.passes.now w i
    → (r.is_input, r.is_committed) ≡ flags_of known → AreTests a i w r
tests a t are i w (Some k) r known source passed flags = record {
  source = source ∙ sym (list_any-IsPermutation (λ y. is_eq (slice_cmp nat_cmp y i.partition.topic)) a.sources t.sources.now are.sources);
  input = ap (λ (f : Bool × Bool). f.0) flags ∙ known.1;
  committed = λ e. ap (λ (f : Bool × Bool). f.1) flags ∙ known.2;
  passed = passed ∙ reached w i a.commits t.passes.now are.passes;
}
tests a t are i w None r unknown source passed flags = record {
  source = source ∙ sym (list_any-IsPermutation (λ y. is_eq (slice_cmp nat_cmp y i.partition.topic)) a.sources t.sources.now are.sources);
  input = ap (λ (f : Bool × Bool). f.0) flags ∙ sym unknown;
  committed = λ e. let q : false ≡ true = sym (ap (λ (f : Bool × Bool). f.0) flags) ∙ e in absurd cc;
  passed = passed ∙ reached w i a.commits t.passes.now are.passes;
}
