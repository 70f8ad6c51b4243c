-- Sets of names, as they are looked up: in each topic, in order, and both ways.
use Rattle.std.proofs.Common.{◌≡◌, ℕ, Bool, true, false, List, [], ◌∷◌, refl, sym, ap, ◌∙◌, subst, ℤ, inl, inr}
use Rattle.std.specs.Prelude.{◌↔◌, ◌&&◌, ◌||◌, map, IsPermutation}
use Rattle.std.specs.List.{list_any}
use Rattle.std.specs.Ordering.{is_eq, int_eq, int_cmp, nat_cmp, ordering_then}
use Rattle.std.specs.Str.{bytes_eq}
use Rattle.std.specs.Cmp.Lexicographic.{slice_cmp}
use Rattle.std.specs.declared.cmp.Ordering.{Ordering}
use Rattle.std.specs.declared.cmp.Ordering.TheVariants.{Less, Equal, Greater}
use Rattle.std.proofs.lemmas.List.Folds.{list_any-append}
use Rattle.std.proofs.lemmas.List.Sorted.{list_any-IsPermutation}
use Rattle.std.proofs.lemmas.Map.Text.{is_eq-slice_cmp}
use Rattle.eos_base.specs.Members.{Has, is_found}
use Rattle.eos_base.specs.PartitionNames.{name_cmp}
use Rattle.eos_base.specs.declared.partition_name.PartitionName.{PartitionName}
use Rattle.eos_base.proofs.Membership.{found_has, has_found}
use Rattle.eos_base.proofs.NamesInOrder.{name_total, name_exact}
use Rattle.eos_txnlog.specs.declared.partitions.TopicPartitions.{TopicPartitions}
use Rattle.eos_txnlog.specs.PartitionSets.{name_of, names_in_topic, names_of, Lists, IsSameSet, lists, are_within, is_same_set}

-- ---- topic by topic

pub found_in_some : (partitions : List TopicPartitions) (name : PartitionName) → is_found name_cmp (names_of partitions) name ≡ list_any (λ t. is_found name_cmp (names_in_topic t) name) partitions
found_in_some [] name = refl
found_in_some (t ∷ ts) name =
    list_any-append (λ y. is_eq (name_cmp y name)) (names_in_topic t) (names_of ts) ∙ ap (λ (b : Bool). is_found name_cmp (names_in_topic t) name || b) (found_in_some ts name)

then_eq : (p q : Ordering) → is_eq (ordering_then p q) ≡ (is_eq p && is_eq q)
then_eq Less q = refl
then_eq Equal q = refl
then_eq Greater q = refl

and_or : (a p q : Bool) → ((a && p) || (a && q)) ≡ (a && (p || q))
and_or true p q = refl
and_or false p q = refl

and_false : (a : Bool) → false ≡ (a && false)
and_false true = refl
and_false false = refl

is_name : (t : List ℕ) (n : ℤ) (topic : List ℕ) (number : ℤ) → is_eq (name_cmp (name_of t n) (name_of topic number)) ≡ (bytes_eq t topic && int_eq n number)
is_name t n topic number = then_eq (slice_cmp nat_cmp t topic) (int_cmp n number) ∙ ap (λ (b : Bool). b && is_eq (int_cmp n number)) (is_eq-slice_cmp t topic)

pub found_in_topic : (t : List ℕ) (numbers : List ℤ) (topic : List ℕ) (number : ℤ)
    → is_found name_cmp (map (name_of t) numbers) (name_of topic number) ≡ (bytes_eq t topic && list_any (λ n. int_eq n number) numbers)
found_in_topic t [] topic number = and_false (bytes_eq t topic)
found_in_topic t (n ∷ ns) topic number = rw (is_name t n topic number, found_in_topic t ns topic number) (and_or (bytes_eq t topic) (int_eq n number) (list_any (λ m. int_eq m number) ns))

-- ---- what the tests say

pub lists_means : (partitions : List TopicPartitions) (topic : List ℕ) (number : ℤ) → (lists partitions topic number ≡ true) ↔ Lists partitions topic number
lists_means partitions topic number =
    (found_has name_cmp name_exact (names_of partitions) (name_of topic number), has_found name_cmp name_total (names_of partitions) (name_of topic number))

both : (a b : Bool) → (a && b) ≡ true → (a ≡ true) × (b ≡ true)
both true b e = (refl, e)
both false b e = absurd cc

within_has : (few many : List PartitionName) → are_within few many ≡ true → (x : PartitionName) → Has few x → Has many x
within_has [] many e x h = absurd h
within_has (y ∷ ys) many e x (inl p) = subst (Has many) p (found_has name_cmp name_exact many y (both (is_found name_cmp many y) (are_within ys many) e).0)
within_has (y ∷ ys) many e x (inr h) = within_has ys many (both (is_found name_cmp many y) (are_within ys many) e).1 x h

has_within : (few many : List PartitionName) → ((x : PartitionName) → Has few x → Has many x) → are_within few many ≡ true
has_within [] many k = refl
has_within (y ∷ ys) many k = rw (has_found name_cmp name_total many y (k y (inl refl)), has_within ys many (λ x h. k x (inr h))) refl

pub same_means : (xs ys : List TopicPartitions) → (is_same_set xs ys ≡ true) ↔ IsSameSet xs ys
same_means xs ys = (
  λ e. let b = both (are_within (names_of xs) (names_of ys)) (are_within (names_of ys) (names_of xs)) e in
      λ topic number. (within_has (names_of xs) (names_of ys) b.0 (name_of topic number), within_has (names_of ys) (names_of xs) b.1 (name_of topic number)),
  λ same. rw (
    has_within (names_of xs) (names_of ys) (λ x h. (same x.topic x.partition).0 h),
    has_within (names_of ys) (names_of xs) (λ x h. (same x.topic x.partition).1 h),
  )
      refl,
)

-- ---- in whatever order

has_both : (xs ys : List PartitionName) → IsPermutation xs ys → (x : PartitionName) → Has xs x ↔ Has ys x
has_both xs ys p x =
    let same : is_found name_cmp xs x ≡ is_found name_cmp ys x = list_any-IsPermutation (λ z. is_eq (name_cmp z x)) xs ys p in (
      λ h. found_has name_cmp name_exact ys x (sym same ∙ has_found name_cmp name_total xs x h),
      λ h. found_has name_cmp name_exact xs x (same ∙ has_found name_cmp name_total ys x h),
    )

alike : (a b : Bool) → (a ≡ true → b ≡ true) → (b ≡ true → a ≡ true) → a ≡ b
alike true b f g = sym (f refl)
alike false true f g = let e : false ≡ true = g refl in absurd cc
alike false false f g = refl

within_alike : (xs xs' ys ys' : List PartitionName) → IsPermutation xs xs' → IsPermutation ys ys' → are_within xs ys ≡ are_within xs' ys'
within_alike xs xs' ys ys' p q =
    alike (are_within xs ys) (are_within xs' ys')
    (λ e. has_within xs' ys' (λ x h. (has_both ys ys' q x).0 (within_has xs ys e x ((has_both xs xs' p x).1 h))))
    (λ e. has_within xs ys (λ x h. (has_both ys ys' q x).1 (within_has xs' ys' e x ((has_both xs xs' p x).0 h))))

pub same_in_order : (xs ys : List TopicPartitions) (xs' ys' : List PartitionName) → IsPermutation (names_of xs) xs' → IsPermutation (names_of ys) ys' → (are_within xs' ys' && are_within ys' xs') ≡ is_same_set xs ys
same_in_order xs ys xs' ys' p q = rw (within_alike (names_of xs) xs' (names_of ys) ys' p q, within_alike (names_of ys) ys' (names_of xs) xs' q p) refl
