-- Ends that are written one after the other, in order, into an object that keeps its members by name.
use Rattle.std.proofs.Common.{◌≡◌, ℕ, zero, suc, ◌+◌, ◌<◌, ℤ, List, [], ◌∷◌, ◌++◌, Option, None, Some, option_map, option_and_then, length, get_or, take, IsPermutation, refl, sym, ap, ◌∙◌, subst, arith, String, Global, string_bytes, string_cmp}
use Rattle.std.proofs.lemmas.Cmp.{tied_itself}
use Rattle.std.proofs.lemmas.List.Elements.{All-from_recursion, recursion_from_All}
use Rattle.std.proofs.lemmas.List.Sorted.{IsPermutation-refl, IsPermutation-append_left, IsPermutation-to_front, IsPermutation-middle, IsPermutation-sym, IsPermutation-trans, All-permutation}
use Rattle.std.proofs.lemmas.List.{take_more}
use Rattle.std.proofs.lemmas.Map.Text.{is_eq-slice_cmp}
use Rattle.std.proofs.lemmas.Slice.Eq.{bytes_eq-Decides}
use Rattle.std.specs.Cmp.Lexicographic.{slice_cmp}
use Rattle.std.specs.List.{AllByRecursion}
use Rattle.std.specs.List.Sorted.{IsStrictlySortedBy}
use Rattle.std.specs.Ordering.{nat_cmp, int_cmp, is_eq, match_ordering, ordering_then}
use Rattle.std.specs.declared.cmp.Ordering.{Ordering}
use Rattle.std.specs.declared.cmp.Ordering.TheVariants.{Less, Equal, Greater}
use Rattle.std.specs.BTreeMap.{insert_entry}
use Rattle.serde_json.proofs.Views.{Entry, members_view-insert_entry}
use Rattle.serde_json.specs.View.{view, members_view}
use Rattle.serde_json.specs.declared.value.Value.{Value}
use Rattle.serde_json.specs.Find.{as_number, as_i64}
use Rattle.serde_json.specs.Data.{Data, Members, no_members, member, put, depth, members_depth}
use Rattle.eos_evidence.specs.declared.ends.End.{End}
use Rattle.eos_evidence.specs.Ends.{end_cmp}
use Rattle.eos_evidence.specs.Manifest.{end_of, ends_of}
use Rattle.eos_evidence.specs.PartitionNames.{partition_of}
use Rattle.eos_evidence.specs.steps.WrittenEnds.{HoldsEnds}
use Rattle.eos_evidence.proofs.EndsInOrder.{end_total}

abbrev pub AllBelow : End → List End → Type 0
AllBelow e = AllByRecursion (λ x. end_cmp x e ≡ Less)

-- ---- the members with one more

pub record Placed (ms : Members) (given : List End) (e : End) : Type 0 where
  pub front : List End
  pub back : List End
  pub parts : given ≡ front ++ back
  pub reads : ends_of ms ≡ Some (front ++ e ∷ back)

-- what stood before: an end, and those of the other members
pub record Parted (name : List ℕ) (f : Data) (ms : Members) (given : List End) : Type 0 where
  pub first : End
  pub others : List End
  pub first_is : end_of name f ≡ Some first
  pub others_are : ends_of ms ≡ Some others
  pub whole : given ≡ first ∷ others

parted : (name : List ℕ) (f : Data) (ms : Members) (given : List End) → ends_of (member name f ms) ≡ Some given → Parted name f ms given
parted name f ms given is = by (end_of name f) (ends_of ms) refl refl is
  where
    by : (o : Option End) (r : Option (List End)) → end_of name f ≡ o → ends_of ms ≡ r → option_and_then (λ e. option_map (λ es. e ∷ es) r) o ≡ Some given → Parted name f ms given
    by None r a b h = absurd (cc h)
    by (Some x) None a b h = absurd (cc h)
    by (Some x) (Some xs) a b h = record { first = x; others = xs; first_is = a; others_are = b; whole = cc h }

named_by : (name : List ℕ) (d : Data) (e : End) → end_of name d ≡ Some e → partition_of name ≡ Some (e.topic, e.partition)
named_by name d e is = by (partition_of name) (option_and_then as_i64 (as_number d)) refl is
  where
    by : (p : Option (List ℕ × ℤ)) (z : Option ℤ) → partition_of name ≡ p
        → option_and_then (λ q. option_map (λ x. record { topic = q.0; partition = q.1; end = x }) z) p ≡ Some e → partition_of name ≡ Some (e.topic, e.partition)
    by None z a h = absurd (cc h)
    by (Some p) None a h = absurd (cc h)
    by (Some p) (Some z) a h =
        let made : End = record { topic = p.0; partition = p.1; end = z } in
        let same : made ≡ e = cc h in
        a ∙ ap (λ (x : End). Some (x.topic, x.partition)) same

same_name : (name : List ℕ) (d f : Data) (e g : End) → end_of name d ≡ Some e → end_of name f ≡ Some g → end_cmp g e ≡ Equal
same_name name d f e g a b =
    let both : Some (g.topic, g.partition) ≡ Some (e.topic, e.partition) = sym (named_by name f g b) ∙ named_by name d e a in
    let same : (g.topic, g.partition) ≡ (e.topic, e.partition) = cc both in
    ap (λ (p : List ℕ × ℤ). ordering_then (slice_cmp nat_cmp p.0 e.topic) (int_cmp p.1 e.partition)) same ∙ tied_itself end_total e

placed : (name : List ℕ) (d : Data) (e : End) (ms : Members) (given : List End) → end_of name d ≡ Some e → ends_of ms ≡ Some given → AllBelow e given → Placed (put name d ms) given e
placed name d e no_members given is reads below =
    let none : [] ≡ given = cc reads in
    record { front = []; back = given; parts = refl; reads = rw is (ap (λ l. Some (e ∷ l)) none) }
placed name d e (member l f ms) given is reads below =
    let p = parted l f ms given reads in
    let all = subst (AllBelow e) p.whole below in
    by p all (slice_cmp nat_cmp name l) refl (placed name d e ms p.others is p.others_are all.1)
  where
    by : (p : Parted l f ms given) → AllBelow e (p.first ∷ p.others) → (o : Ordering) → slice_cmp nat_cmp name l ≡ o → Placed (put name d ms) p.others e
        → Placed (match_ordering o (member name d (member l f ms)) (member l d ms) (member l f (put name d ms))) given e
    by p all Less cmp later = record { front = []; back = given; parts = refl; reads = λ i. option_and_then (λ x. option_map (λ xs. x ∷ xs) (reads i)) (is i) }
    by p all Equal cmp later =
        let same : name ≡ l = (bytes_eq-Decides name l).0 (sym (is_eq-slice_cmp name l) ∙ ap is_eq cmp) in
        let tied : end_cmp p.first e ≡ Equal = same_name name d f e p.first is (subst (λ n. end_of n f ≡ Some p.first) (sym same) p.first_is) in
        absurd (cc (tied, all.0))
    by p all Greater cmp later = record {
      front = p.first ∷ later.front;
      back = later.back;
      parts = p.whole ∙ ap (λ l. p.first ∷ l) later.parts;
      reads = λ i. option_and_then (λ x. option_map (λ xs. x ∷ xs) (later.reads i)) (p.first_is i);
    }

flat_put : (name : List ℕ) (d : Data) (ms : Members) → depth d ≡ 0 → members_depth ms ≡ 0 → members_depth (put name d ms) ≡ 0
flat_put name d no_members flat flats = omega (arith, flat)
flat_put name d (member l f ms) flat flats = by (slice_cmp nat_cmp name l) (flat_put name d ms flat (omega arith))
  where
    by : (o : Ordering) → members_depth (put name d ms) ≡ 0 → members_depth (match_ordering o (member name d (member l f ms)) (member l d ms) (member l f (put name d ms))) ≡ 0
    by Less later = omega (arith, flat, flats)
    by Equal later = omega (arith, flat, flats)
    by Greater later = omega (arith, later, flats)

-- one end more is written
pub written_on : (ms : Members) (passed : List End) (e : End) (name : List ℕ) (d : Data) → HoldsEnds ms passed → end_of name d ≡ Some e → AllBelow e passed → depth d ≡ 0
    → HoldsEnds (put name d ms) (passed ++ e ∷ [])
written_on ms passed e name d holds is below flat =
    let given_below : AllBelow e holds.given = recursion_from_All (λ x. end_cmp x e ≡ Less) holds.given
    (All-permutation (λ x. end_cmp x e ≡ Less) passed holds.given holds.shuffled (All-from_recursion (λ x. end_cmp x e ≡ Less) passed below)) in
    let p = placed name d e ms holds.given is holds.given_is given_below in
    let shuffled : IsPermutation passed (p.front ++ p.back) = subst (IsPermutation passed) p.parts holds.shuffled in
    record {
      given = p.front ++ e ∷ p.back;
      given_is = p.reads;
      shuffled = IsPermutation-trans _ _ _ (IsPermutation-append_left (e ∷ []) passed (p.front ++ p.back) shuffled)
          (IsPermutation-trans _ _ _ (IsPermutation-to_front (p.front ++ p.back) e) (IsPermutation-sym _ _ (IsPermutation-middle p.front e p.back)));
      flat = flat_put name d ms flat holds.flat;
    }

less_at : (e : End) (es : List End) (k : ℕ) (d : End) → k < length es → AllByRecursion (λ y. end_cmp e y ≡ Less) es → end_cmp e (get_or es k d) ≡ Less
less_at e [] k d lt all = absurd (omega (arith, lt))
less_at e (x ∷ xs) zero d lt all = all.0
less_at e (x ∷ xs) (suc k) d lt all = less_at e xs k d (omega arith) all.1

-- an end is above those before it
pub below_next : (es : List End) (k : ℕ) (d : End) → k < length es → IsStrictlySortedBy end_cmp es → AllBelow (get_or es k d) (take k es)
unfolding IsStrictlySortedBy
below_next [] k d lt up = absurd (omega (arith, lt))
below_next (e ∷ es) zero d lt up = tt
below_next (e ∷ es) (suc k) d lt up = (less_at e es k d (omega arith) up.0, below_next es k d (omega arith) up.1)

pub none_written : (es : List Entry) (ends : List End) → es ≡ [] → HoldsEnds (members_view es) (take 0 ends)
none_written es ends empty = subst (λ l. HoldsEnds (members_view l) []) (sym empty) (record { given = []; given_is = refl; shuffled = IsPermutation-refl []; flat = refl })

pub one_inserted : (es after : List Entry) (k : String Global) (v : Value) (ends : List End) (i : ℕ) (e : End) → HoldsEnds (members_view es) (take i ends) → after ≡ insert_entry string_cmp es k v
    → i < length ends → e ≡ get_or ends i e → IsStrictlySortedBy end_cmp ends → end_of (string_bytes k) (view v) ≡ Some e → depth (view v) ≡ 0 → HoldsEnds (members_view after) (take (i + 1) ends)
one_inserted es after k v ends i e holds after_is lt is up reads flat =
    let below : AllBelow e (take i ends) = subst (λ x. AllBelow x (take i ends)) (sym is) (below_next ends i e lt up) in
    let more : take (i + 1) ends ≡ take i ends ++ e ∷ [] = take_more ends i e lt ∙ ap (λ x. take i ends ++ x ∷ []) (sym is) in
    let members : members_view after ≡ put (string_bytes k) (view v) (members_view es) = ap members_view after_is ∙ members_view-insert_entry es k v in
    subst (HoldsEnds (members_view after)) (sym more) (subst (λ ms. HoldsEnds ms (take i ends ++ e ∷ [])) (sym members) (written_on (members_view es) (take i ends) e (string_bytes k) (view v) holds reads below flat))
