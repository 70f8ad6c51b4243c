-- Where transactions stand in a partition, one further.
use Rattle.std.proofs.Common.{◌≡◌, ◌≢◌, ◌<◌, ◌≤◌, ◌⊎◌, ◌+◌, ◌-◌, ◌&&◌, length, zero, suc, arith, refl, ℕ, ℤ, Bool, true, false, List, [], ◌∷◌, ◌++◌, drop, get_or, map, take, Option, Some, None, Result, Ok, Err, inl, inr, sym, ap, subst, ◌∙◌, append_assoc}
use Rattle.std.specs.List.{slice_get, range_with_len, flat_map, Contains}
use Rattle.std.specs.Option.{option_or}
use Rattle.std.specs.Prelude.{IfOk}
use Rattle.std.specs.Ordering.{nat_cmp, int_eq, int_cmp, ordering_reverse, is_eq}
use Rattle.std.specs.Cmp.{IsTotalOrder}
use Rattle.std.specs.Cmp.Lexicographic.{slice_cmp}
use Rattle.std.specs.declared.cmp.Ordering.{Ordering}
use Rattle.std.specs.declared.cmp.Ordering.TheVariants.{Less, Equal, Greater}
use Rattle.std.proofs.Math.Seq.{drop-cons}
use Rattle.std.proofs.lemmas.Option.{slice_get-get_or, slice_get_past, slice_get_within, get_or_from_slice_get}
use Rattle.std.proofs.lemmas.Cmp.{int_cmp_total, nat_list_cmp_total}
use Rattle.std.proofs.lemmas.List.{append-nil, drop_more, drop_all, take_more}
use Rattle.std.proofs.lemmas.List.Sorted.{Contains-permutation}
use Rattle.eos_base.proofs.Exact.{bytes_exact, int_exact, is_tied}
use Rattle.eos_base.specs.declared.partition_name.PartitionName.{PartitionName}
use Rattle.eos_base.specs.Members.{Has}
use Rattle.eos_fold.specs.Parts.{PartLog, part_name}
use Rattle.eos_fold.specs.declared.item.Item.{Item}
use Rattle.eos_picture.specs.declared.mark.Column.{Column}
use Rattle.eos_picture.specs.Order.{is_writer, offset_if, last_of, stands_at, standing, standings, IsOrderOf, is_of_name, nearness, near_to}
use Rattle.eos_picture.specs.Window.{IsAtPlace, around_in, AreAround, listed, at_place}
use Rattle.eos_picture.specs.steps.Standing.{IsNear, AreNoNearer}
use Rattle.eos_picture.proofs.WholeRows.{drop_has}

-- ---- the last data record

or_assoc : {X : Type 0} (a b c : Option X) → option_or (option_or a b) c ≡ option_or a (option_or b c)
or_assoc None b c = refl
or_assoc (Some x) b c = refl

-- what is left, one data record further
pub last_next : (left rest : List Item) (x : Item) (w : ℤ × ℤ) (last now all : Option ℕ) → left ≡ x ∷ rest → now ≡ option_or (offset_if (is_writer x.writer w) x.offset) last
    → option_or (last_of left w) last ≡ all → option_or (last_of rest w) now ≡ all
last_next left rest x w last now all e is before =
    ap (λ z. option_or (last_of rest w) z) is ∙ (sym (or_assoc (last_of rest w) (offset_if (is_writer x.writer w) x.offset) last) ∙ (ap (λ (z : List Item). option_or (last_of z w) last) (sym e) ∙ before))

pub last_end : (left : List Item) (w : ℤ × ℤ) (last all : Option ℕ) → left ≡ [] → option_or (last_of left w) last ≡ all → last ≡ all
last_end left w last all e h = ap (λ (z : List Item). option_or (last_of z w) last) (sym e) ∙ h

-- ---- where one stands in the order

at_standing : (p : PartLog) (n : ℕ) (columns : List Column) (i : ℕ) (c : Column) (offset : ℕ) → slice_get columns i ≡ Some c → stands_at p c ≡ Some offset
    → (k : ℕ) × (slice_get (standings p n columns) k ≡ Some (offset, n + i))
at_standing p n [] i c offset e stands = absurd cc
at_standing p n (x ∷ xs) zero c offset e stands =
    let same : x ≡ c = cc in
    let here : stands_at p x ≡ Some offset = ap (stands_at p) same ∙ stands in
    let sum : n ≡ n + 0 = omega arith in
    (0, ap (λ (z : Option ℕ). slice_get (standing z n ++ standings p (n + 1) xs) 0) here ∙ ap (λ (z : ℕ). Some (offset, z)) sum)
at_standing p n (x ∷ xs) (suc i) c offset e stands =
    let r = at_standing p (n + 1) xs i c offset e stands in
    let sum : (n + 1) + i ≡ n + suc i = omega arith in
    behind (stands_at p x) (standings p (n + 1) xs) r.0 (r.1 ∙ ap (λ (z : ℕ). Some (offset, z)) sum)
  where
    behind : (o : Option ℕ) (rest : List (ℕ × ℕ)) (k : ℕ) → slice_get rest k ≡ Some (offset, n + suc i) → (j : ℕ) × (slice_get (standing o n ++ rest) j ≡ Some (offset, n + suc i))
    behind None rest k h = (k, h)
    behind (Some z) rest k h = (suc k, h)

contained : {X : Type 0} (xs : List X) (k : ℕ) (x : X) → slice_get xs k ≡ Some x → Contains xs x
contained xs k x e = (k, slice_get_within xs k x e, get_or_from_slice_get xs k x x e)

got : {X : Type 0} (xs : List X) (x : X) → Contains xs x → (k : ℕ) × (slice_get xs k ≡ Some x)
got xs x (k, lt, e) = (k, slice_get-get_or xs k x lt ∙ ap (λ z. Some z) e)

-- a transaction that stands in a partition is in its order
pub at_order : (p : PartLog) (columns : List Column) (order : List (ℕ × ℕ)) (i : ℕ) (c : Column) (offset : ℕ) → IsOrderOf p columns order → slice_get columns i ≡ Some c → stands_at p c ≡ Some offset
    → (k : ℕ) × IsAtPlace order k i
at_order p columns order i c offset of at stands =
    let r = at_standing p 0 columns i c offset at stands in
    let sum : 0 + i ≡ i = omega arith in
    let there : slice_get (standings p 0 columns) r.0 ≡ Some (offset, i) = r.1 ∙ ap (λ (z : ℕ). Some (offset, z)) sum in
    let f = got order (offset, i) (Contains-permutation (standings p 0 columns) order (offset, i) of.same (contained (standings p 0 columns) r.0 (offset, i) there)) in
    (f.0, (offset, f.1))

-- ---- the nearest partition

stands_near : (own log : Bool) (o : Option ℕ) → 1 ≤ nearness own log o → (offset : ℕ) × (o ≡ Some offset)
stands_near own log None some = absurd (omega (arith, some))
stands_near own log (Some offset) some = (offset, refl)

pub near_stands : (name : Option PartitionName) (c : Column) (p : PartLog) (most : ℕ) → most ≡ near_to name c p → 1 ≤ most → (offset : ℕ) × (stands_at p c ≡ Some offset)
near_stands name c p most e some = stands_near _ _ (stands_at p c) (subst (λ z. 1 ≤ z) e some)

-- none of those that were looked at is nearer
abbrev pub AreSeen : List PartLog → Option PartitionName → Column → ℕ → ℕ → Type 0
AreSeen logs name c i most = (q : PartLog) → Has logs q → Has (drop i logs) q ⊎ (near_to name c q ≤ most)

pub seen_next : (logs : List PartLog) (name : Option PartitionName) (c : Column) (i : ℕ) (d : PartLog) (most now : ℕ) → i < length logs → most ≤ now → near_to name c (get_or logs i d) ≤ now
    → AreSeen logs name c i most → AreSeen logs name c (i + 1) now
seen_next logs name c i d most now lt more here before q has = elim (before q has) [
  | inl left ↦ elim (drop_has logs i d q lt left) [
    | inl same ↦ inr (subst (λ z. near_to name c z ≤ now) same here)
    | inr rest ↦ inl rest
  ]
  | inr done ↦ inr (omega (arith, done, more))
]

-- ---- one after the other

self_tied : {X : Type 0} (cmp : X → X → Ordering) → IsTotalOrder cmp → (x : X) → is_eq (cmp x x) ≡ true
self_tied cmp total x = go (cmp x x) (total.antisymm x x)
  where
    go : (a : Ordering) → a ≡ ordering_reverse a → is_eq a ≡ true
    go Less e = absurd cc
    go Equal e = refl
    go Greater e = absurd cc

both : (a b : Bool) → a ≡ true → b ≡ true → (a && b) ≡ true
both a b e f = ap (λ z. z && b) e ∙ f

both_from : (a b : Bool) → (a && b) ≡ true → (a ≡ true) × (b ≡ true)
both_from true b e = (refl, e)
both_from false b e = absurd cc

is_own : (p : PartLog) (name : PartitionName) → part_name p ≡ name → is_of_name (Some name) p ≡ true
is_own p name e =
    subst (λ (z : PartitionName). is_of_name (Some z) p ≡ true) e (both _ _ (self_tied (slice_cmp nat_cmp) nat_list_cmp_total p.topic) (self_tied int_cmp int_cmp_total p.number))

by_name : (p : PartLog) (name : PartitionName) → is_of_name (Some name) p ≡ true → part_name p ≡ name
by_name p name e =
    let r = both_from (is_eq (slice_cmp nat_cmp p.topic name.topic)) (int_eq p.number name.partition) e in
    let topic : p.topic ≡ name.topic = bytes_exact p.topic name.topic (is_tied (slice_cmp nat_cmp p.topic name.topic) r.0) in
    let number : p.number ≡ name.partition = int_exact p.number name.partition (is_tied (int_cmp p.number name.partition) r.1) in
    λ i. record { topic = topic i; partition = number i }

never : false ≡ true → ⊥
never e = absurd cc

-- a partition has this name, or not, by the answer of a test
pub same_name : (r : Bool) (p : PartLog) (name : PartitionName) → r ≡ is_of_name (Some name) p → r ≡ true → part_name p ≡ name
same_name r p name is e = by_name p name (sym is ∙ e)

pub other_name : (r : Bool) (p : PartLog) (name : PartitionName) → r ≡ is_of_name (Some name) p → r ≡ false → part_name p ≢ name
other_name r p name is e = λ same. never (sym e ∙ (is ∙ is_own p name same))

pub flat_next : {X Y : Type 0} (f : X → List Y) (xs : List X) (i : ℕ) (d : X) (old now all : List Y) → i < length xs → now ≡ old ++ f (get_or xs i d) → old ++ flat_map f (drop i xs) ≡ all
    → now ++ flat_map f (drop (i + 1) xs) ≡ all
flat_next f xs i d old now all lt is before =
    let one : suc i ≡ i + 1 = omega arith in
    let rest = flat_map f (drop (i + 1) xs) in
    let split : flat_map f (drop i xs) ≡ f (get_or xs i d) ++ rest = ap (flat_map f) (drop-cons xs i d lt) ∙ ap (λ n. f (get_or xs i d) ++ flat_map f (drop n xs)) one in
    ap (λ z. z ++ rest) is ∙ (append_assoc old (f (get_or xs i d)) rest ∙ (ap (λ z. old ++ z) (sym split) ∙ before))

pub flat_end : {X Y : Type 0} (f : X → List Y) (xs : List X) (i : ℕ) (found all : List Y) → length xs ≤ i → found ++ flat_map f (drop i xs) ≡ all → found ≡ all
flat_end f xs i found all le h = sym (append-nil found) ∙ (ap (λ z. found ++ flat_map f z) (sym (drop_all i xs le)) ∙ h)

map_last : {X Y : Type 0} (f : X → Y) (xs : List X) (x : X) → map f (xs ++ x ∷ []) ≡ map f xs ++ f x ∷ []
map_last f [] x = refl
map_last f (y ∷ ys) x = ap (λ z. f y ∷ z) (map_last f ys x)

-- what is made of the first ones, and of the next
pub map_next : {X Y : Type 0} (f : X → Y) (xs : List X) (i : ℕ) (d : X) → i < length xs → map f (take (i + 1) xs) ≡ map f (take i xs) ++ f (get_or xs i d) ∷ []
map_next f xs i d lt = ap (map f) (take_more xs i d lt) ∙ map_last f (take i xs) (get_or xs i d)

pub range_next : (i n : ℕ) (old now all : List ℕ) → i < n → now ≡ old ++ i ∷ [] → old ++ range_with_len i (n - i) ≡ all → now ++ range_with_len (i + 1) (n - (i + 1)) ≡ all
range_next i n old now all lt is before =
    let left : n - i ≡ suc (n - (i + 1)) = omega (arith, lt) in
    let rest = range_with_len (i + 1) (n - (i + 1)) in
    let split : range_with_len i (n - i) ≡ i ∷ rest = ap (range_with_len i) left in
    ap (λ z. z ++ rest) is ∙ (append_assoc old (i ∷ []) rest ∙ (ap (λ z. old ++ z) (sym split) ∙ before))

pub range_end : (i n : ℕ) (found all : List ℕ) → n ≤ i → found ++ range_with_len i (n - i) ≡ all → found ≡ all
range_end i n found all le h =
    let none : n - i ≡ 0 = omega (arith, le) in
    sym (append-nil found) ∙ (ap (λ z. found ++ range_with_len i z) (sym none) ∙ h)

-- ---- one of a list

pub at_outside : (shown every : List Column) (i : ℕ) → length every ≤ i → shown ≡ shown ++ at_place every i
at_outside shown every i le = sym (append-nil shown) ∙ ap (λ z. shown ++ listed z) (sym (slice_get_past every i le))

pub at_inside : (old now every : List Column) (i : ℕ) (d x copy : Column) → i < length every → x ≡ get_or every i d → copy ≡ x → now ≡ old ++ copy ∷ [] → now ≡ old ++ at_place every i
at_inside old now every i d x copy lt is same more =
    more ∙ (ap (λ z. old ++ z ∷ []) (same ∙ is) ∙ ap (λ z. old ++ listed z) (sym (slice_get-get_or every i d lt)))

pub there : {X : Type 0} (xs : List X) (i : ℕ) (d x : X) → i < length xs → x ≡ get_or xs i d → slice_get xs i ≡ Some x
there xs i d x lt is = slice_get-get_or xs i d lt ∙ ap (λ z. Some z) (sym is)

pub then_ok : {A E : Type 0} (r : Result A E) (P Q : A → Type 0) → ((x : A) → P x → Q x) → IfOk r P → IfOk r Q
then_ok (Ok x) P Q f h = f x h
then_ok (Err e) P Q f h = h

-- ---- a partition that is nearer than those before

pub near_here : (logs : List PartLog) (name : Option PartitionName) (c : Column) (i : ℕ) (d p : PartLog) (near most : ℕ) → i < length logs → p ≡ get_or logs i d → near ≡ near_to name c p → most < near
    → IsNear logs name c i near
near_here logs name c i d p near most lt is e more = record { part = p; at = there logs i d p lt is; inside = lt; near = e; some = omega (arith, more) }

pub seen_here : (logs : List PartLog) (name : Option PartitionName) (c : Column) (i : ℕ) (d p : PartLog) (near most now : ℕ) → i < length logs → p ≡ get_or logs i d → near ≡ near_to name c p
    → most ≤ now → near ≤ now → AreSeen logs name c i most → AreSeen logs name c (i + 1) now
seen_here logs name c i d p near most now lt is e more most_near before =
    seen_next logs name c i d most now lt more (subst (λ z. z ≤ now) (e ∙ ap (near_to name c) is) most_near) before

-- ---- the place in an order

pub not_at : (order : List (ℕ × ℕ)) (i place : ℕ) (d : ℕ × ℕ) → ((get_or order i d).1 ≡ place → ⊥) → IsAtPlace order i place → ⊥
not_at order i place d apart at = apart (ap (λ (s : ℕ × ℕ). s.1) (get_or_from_slice_get order i (at.0, place) d at.1))

pub is_at : (order : List (ℕ × ℕ)) (i place : ℕ) (d : ℕ × ℕ) → i < length order → (get_or order i d).1 ≡ place → IsAtPlace order i place
is_at order i place d lt e = ((get_or order i d).0, slice_get-get_or order i d lt ∙ ap (λ (z : ℕ). Some ((get_or order i d).0, z)) e)

-- ---- where each stands

-- what is left, one transaction further, and none
pub standings_next : (p : PartLog) (columns : List Column) (i : ℕ) (d c : Column) (found : Option ℕ) (old now all : List (ℕ × ℕ)) → i < length columns → c ≡ get_or columns i d → found ≡ stands_at p c
    → now ≡ old ++ standing found i → old ++ standings p i (drop i columns) ≡ all → now ++ standings p (i + 1) (drop (i + 1) columns) ≡ all
standings_next p columns i d c found old now all lt is stands more before =
    let rest = standings p (i + 1) (drop (i + 1) columns) in
    let here : stands_at p (get_or columns i d) ≡ found = ap (stands_at p) (sym is) ∙ sym stands in
    let split : standings p i (drop i columns) ≡ standing found i ++ rest = ap (standings p i) (drop_more columns i d lt) ∙ ap (λ (z : Option ℕ). standing z i ++ rest) here in
    ap (λ z. z ++ rest) more ∙ (append_assoc old (standing found i) rest ∙ (ap (λ z. old ++ z) (sym split) ∙ before))

pub standings_end : (p : PartLog) (columns : List Column) (i : ℕ) (found all : List (ℕ × ℕ)) → length columns ≤ i → found ++ standings p i (drop i columns) ≡ all → found ≡ all
standings_end p columns i found all le h = sym (append-nil found) ∙ (ap (λ z. found ++ standings p i z) (sym (drop_all i columns le)) ∙ h)

-- ---- those around one

got_has : {X : Type 0} (xs : List X) (i : ℕ) (x : X) → slice_get xs i ≡ Some x → Has xs x
got_has [] i x e = absurd cc
got_has (y ∷ ys) zero x e = inl cc
got_has (y ∷ ys) (suc i) x e = inr (got_has ys i x e)

pub around_beside : (logs : List PartLog) (every : List Column) (name : Option PartitionName) (m : ℕ) (c : Column) (around : ℕ) (places : List ℕ) (most i k : ℕ) (p : PartLog) (order : List (ℕ × ℕ))
    → slice_get every m ≡ Some c → IsNear logs name c i most → AreNoNearer logs name c most → (d : PartLog) → p ≡ get_or logs i d → IsOrderOf p every order → IsAtPlace order k m
    → places ≡ map (λ (s : ℕ × ℕ). s.1) (around_in around k order) → AreAround logs every name m (slice_get every m) around places
around_beside logs every name m c around places most i k p order at near others d is of stands are =
    let same : p ≡ near.part = is ∙ get_or_from_slice_get logs i near.part d near.at in
    subst (λ o. AreAround logs every name m o around places) (sym at) (inl (record {
      shared = near.part;
      has = got_has logs i near.part near.at;
      nearest = λ q has. subst (λ z. near_to name c q ≤ z) near.near (others q has);
      order = order;
      of = subst (λ (z : PartLog). IsOrderOf z every order) same of;
      k = k;
      at = stands;
      are = are;
    }))

-- it stands in the nearest one
pub never_absent : (logs : List PartLog) (every : List Column) (name : Option PartitionName) (m : ℕ) (c : Column) (most i : ℕ) (p : PartLog) (order : List (ℕ × ℕ)) → slice_get every m ≡ Some c
    → IsNear logs name c i most → (d : PartLog) → p ≡ get_or logs i d → IsOrderOf p every order → ((k : ℕ) → IsAtPlace order k m → ⊥) → ⊥
never_absent logs every name m c most i p order at near d is of none =
    let same : p ≡ near.part = is ∙ get_or_from_slice_get logs i near.part d near.at in
    let stands = near_stands name c near.part most near.near near.some in
    let r = at_order near.part every order m c stands.0 (subst (λ (z : PartLog). IsOrderOf z every order) same of) at stands.1 in
    none r.0 r.1
