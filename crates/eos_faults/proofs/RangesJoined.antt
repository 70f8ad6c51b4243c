-- The lists of ranges that follow one another, joined, are the list of all their sources.
use Rattle.std.proofs.Common.{◌≡◌, ◌≢◌, ◌++◌, ◌≤◌, ◌<◌, ◌+◌, ℕ, zero, suc, arith, Bool, true, false, not, ◌&&◌, List, [], ◌∷◌, length, Option, Some, None, refl, sym, ap, subst, append_assoc, IsSorted, ◌∙◌, inl, inr, ◌⊎◌}
use Rattle.std.specs.Prelude.{⊤, slice_get}
use Rattle.std.specs.List.Sorted.{IsStrictlySortedBy}
use Rattle.std.specs.Ordering.{is_lt}
use Rattle.std.specs.declared.cmp.Ordering.{Ordering}
use Rattle.std.specs.declared.cmp.Ordering.TheVariants.{Less, Equal, Greater}
use Rattle.std.proofs.lemmas.Cmp.{tied_itself}
use Rattle.std.proofs.lemmas.Option.{slice_get_past}
use Rattle.eos_base.specs.Members.{Has}
use Rattle.eos_base.proofs.Membership.{append_cases, append_left, append_right}
use Rattle.eos_claims.specs.declared.place.Place.{Place}
use Rattle.eos_claims.specs.declared.fault.OutputFault.{OutputFault}
use Rattle.eos_claims.specs.Outputs.{Application}
use Rattle.eos_claims.specs.Faults.{place_cmp, fault_cmp}
use Rattle.eos_claims.proofs.FaultOrder.{place_total}
use Rattle.eos_commits.proofs.SpotFaults.{rises_append}
use Rattle.eos_faults.specs.declared.lent.LentPlace.{LentPlace}
use Rattle.eos_faults.specs.steps.BySource.{by_lent, itself}
use Rattle.eos_faults.specs.steps.OutputFaultsGathered.{AreOutputFaults, HasEarlier}
use Rattle.eos_faults.specs.steps.Plain.{place_at}
use Rattle.eos_faults.specs.steps.Ranges.{bound_before, is_below, is_done, is_before_end, is_up_to, is_within, range_at, AreFaultsWithin}
use Rattle.eos_faults.specs.steps.Shares.{LeadOn}
use Rattle.eos_faults.proofs.BySource.{by_source_less}
use Rattle.eos_faults.proofs.SourceEnds.{Rises, behind, inputs_rise}

-- ---- two lists

more_left : (xs ys : List OutputFault) (f : OutputFault) → Has xs f ⊎ HasEarlier xs f → Has (xs ++ ys) f ⊎ HasEarlier (xs ++ ys) f
more_left xs ys f (inl h) = inl (append_left xs ys f h)
more_left xs ys f (inr e) = inr (e.0, append_left xs ys e.0 e.1, e.2, e.3)

more_right : (xs ys : List OutputFault) (f : OutputFault) → Has ys f ⊎ HasEarlier ys f → Has (xs ++ ys) f ⊎ HasEarlier (xs ++ ys) f
more_right xs ys f (inl h) = inl (append_right xs ys f h)
more_right xs ys f (inr e) = inr (e.0, append_right xs ys e.0 e.1, e.2, e.3)

-- two parts of the sources, one in front of the other
record AreParts (P Q R : Place → Bool) : Type 0 where
  apart : (p q : Place) → P p ≡ true → Q q ≡ true → place_cmp p q ≡ Less
  first : (p : Place) → P p ≡ true → R p ≡ true
  second : (p : Place) → Q p ≡ true → R p ≡ true
  cover : (p : Place) → R p ≡ true → (P p ≡ true) ⊎ (Q p ≡ true)

no_less : (p q : Place) → place_cmp p q ≡ Less → p ≡ q → ⊥
no_less p q l e = let t = tied_itself place_total p in let s : place_cmp p p ≡ Less = subst (λ z. place_cmp p z ≡ Less) (sym e) l in let w : Less ≡ Equal = sym s ∙ t in cc

joined : (P Q R : Place → Bool) → AreParts P Q R → (a : Application) (xs ys : List OutputFault) → AreFaultsWithin P a xs → AreFaultsWithin Q a ys → AreFaultsWithin R a (xs ++ ys)
joined P Q R parts a xs ys before more = record {
  rises = rises_append fault_cmp xs ys before.rises more.rises (λ f g h k. by_source_less f g (less f g h k));
  each = λ f h. elim (append_cases xs ys f h) [
    | inl x ↦ let r = before.each f x in (r.0, parts.first f.source r.1)
    | inr y ↦ let r = more.each f y in (r.0, parts.second f.source r.1)
  ];
  all = λ f st w. elim (parts.cover f.source w) [
    | inl p ↦ more_left xs ys f (before.all f st p)
    | inr q ↦ more_right xs ys f (more.all f st q)
  ];
  one_missing = λ f g h k of. elim (append_cases xs ys f h) [
    | inl x ↦ elim (append_cases xs ys g k) [
      | inl y ↦ before.one_missing f g x y of
      | inr y ↦ absurd (no_less f.source g.source (less f g x y) of.source)
    ]
    | inr x ↦ elim (append_cases xs ys g k) [
      | inl y ↦ absurd (no_less g.source f.source (less g f y x) (sym of.source))
      | inr y ↦ more.one_missing f g x y of
    ]
  ];
}
  where
    less : (f g : OutputFault) → Has xs f → Has ys g → place_cmp f.source g.source ≡ Less
    less f g h k = parts.apart f.source g.source (before.each f h).1 (more.each g k).1

-- ---- a range further

-- these places aren't before the one up to which sources are done
abbrev pub IsUpTo : Option LentPlace → LentPlace → Type 0
IsUpTo None b = ⊤
IsUpTo (Some from) b = is_lt (place_cmp (place_at b) (place_at from)) ≡ false

is_less : (o : Ordering) → is_lt o ≡ true → o ≡ Less
is_less Less e = refl
is_less Equal e = absurd cc
is_less Greater e = absurd cc

less_is : (o : Ordering) → o ≡ Less → is_lt o ≡ true
less_is o e = rw e refl

both : (b c : Bool) → (not b && c) ≡ true → (b ≡ false) × (c ≡ true)
both true c e = absurd cc
both false c e = (refl, e)

from_both : (b c : Bool) → b ≡ false → c ≡ true → (not b && c) ≡ true
from_both b c e f = rw (e, f) refl

-- what is done stands before a range that begins there
apart_from : (from : Option LentPlace) (p q : Place) → is_done from p ≡ true → is_done from q ≡ false → place_cmp p q ≡ Less
apart_from None p q e f = absurd cc
apart_from (Some b) p q e f = behind p (place_at b) q (is_less (place_cmp p (place_at b)) e) f

done_further : (from : Option LentPlace) (b : LentPlace) → IsUpTo from b → (p : Place) → is_done from p ≡ true → is_below b p ≡ true
done_further None b up p e = absurd cc
done_further (Some from) b up p e = less_is (place_cmp p (place_at b)) (behind p (place_at from) (place_at b) (is_less (place_cmp p (place_at from)) e) up)

split : (from : Option LentPlace) (end : Option LentPlace) (p : Place) → is_before_end end p ≡ true → (is_done from p ≡ true) ⊎ (is_within (record { from = from; below = end }) p ≡ true)
split from end p e = go (is_done from p) refl
  where
    go : (b : Bool) → is_done from p ≡ b → (is_done from p ≡ true) ⊎ (is_within (record { from = from; below = end }) p ≡ true)
    go true d = inl d
    go false d = inr (from_both (is_done from p) (is_before_end end p) d e)

-- where a range ends behind what is done
abbrev pub IsUpToEnd : Option LentPlace → Option LentPlace → Type 0
IsUpToEnd from None = ⊤
IsUpToEnd from (Some b) = IsUpTo from b

end_further : (from end : Option LentPlace) → IsUpToEnd from end → (p : Place) → is_done from p ≡ true → is_before_end end p ≡ true
end_further from None up p e = refl
end_further from (Some b) up p e = done_further from b up p e

range_more : (a : Application) (from end : Option LentPlace) → IsUpToEnd from end → (xs ys : List OutputFault) → AreFaultsWithin (is_done from) a xs
    → AreFaultsWithin (is_within (record { from = from; below = end })) a ys → AreFaultsWithin (is_before_end end) a (xs ++ ys)
range_more a from end up = joined (is_done from) (is_within (record { from = from; below = end })) (is_before_end end) (record {
  apart = λ p q d w. apart_from from p q d (both (is_done from q) (is_before_end end q) w).0;
  first = end_further from end up;
  second = λ p w. (both (is_done from p) (is_before_end end p) w).1;
  cover = λ p w. split from end p w;
}) a

-- ---- between bounds that rise

same_within : (P Q : Place → Bool) → ((p : Place) → P p ≡ Q p) → (a : Application) (list : List OutputFault) → AreFaultsWithin P a list → AreFaultsWithin Q a list
same_within P Q same a list are = record {
  rises = are.rises;
  each = λ f h. let r = are.each f h in (r.0, sym (same f.source) ∙ r.1);
  all = λ f st w. are.all f st (same f.source ∙ w);
  one_missing = are.one_missing;
}

-- a range begins behind the one before it
ups : (bounds : List LentPlace) → Rises itself bounds → (n : ℕ) → IsUpToEnd (bound_before bounds n) (slice_get bounds n)
ups bounds rise zero = go (slice_get bounds zero)
  where
    go : (end : Option LentPlace) → IsUpToEnd None end
    go None = tt
    go (Some b) = tt
ups bounds rise (suc m) = go (slice_get bounds m) (slice_get bounds (suc m)) refl refl
  where
    go : (from end : Option LentPlace) → slice_get bounds m ≡ from → slice_get bounds (suc m) ≡ end → IsUpToEnd from end
    go None None e f = tt
    go (Some x) None e f = tt
    go None (Some b) e f = tt
    go (Some x) (Some b) e f = rise m (suc m) x b (omega arith) e f

up_to_is : (bounds : List LentPlace) (n : ℕ) → n ≤ length bounds → (p : Place) → is_up_to bounds n p ≡ is_done (bound_before bounds n) p
up_to_is bounds zero le p = refl
up_to_is bounds (suc m) le p = go (slice_get bounds m) (there bounds m (omega (arith, le)))
  where
    there : (xs : List LentPlace) (k : ℕ) → k < length xs → slice_get xs k ≢ None
    there [] k lt = absurd (omega (arith, lt))
    there (x ∷ xs) zero lt = λ e. cc
    there (x ∷ xs) (suc k) lt = there xs k (omega (arith, lt))

    go : (o : Option LentPlace) → o ≢ None → is_before_end o p ≡ is_done o p
    go None e = absurd (e refl)
    go (Some b) e = refl

after_is : (bounds : List LentPlace) (n : ℕ) (p : Place) → is_before_end (slice_get bounds n) p ≡ is_up_to bounds (n + 1) p
after_is bounds n p = let next : suc n ≡ n + 1 = omega arith in subst (λ k. is_before_end (slice_get bounds n) p ≡ is_up_to bounds k p) next refl

-- the faults of one range, behind those of the ranges before it
pub range_next : (a : Application) (bounds : List LentPlace) → IsSorted by_lent bounds → (n : ℕ) → n ≤ length bounds → (list : List OutputFault) → AreFaultsWithin (is_within (range_at bounds n)) a list → LeadOn a bounds n (n + 1) list
range_next a bounds sorted n le list here before done =
    same_within (is_before_end (slice_get bounds n)) (is_up_to bounds (n + 1)) (after_is bounds n) a (before ++ list)
    (range_more a (bound_before bounds n) (slice_get bounds n) (ups bounds (inputs_rise bounds sorted) n) before list (same_within (is_up_to bounds n) (is_done (bound_before bounds n)) (up_to_is bounds n le) a before done) here)

pub next_joined : (a : Application) (bounds : List LentPlace) (i j k : ℕ) (xs ys : List OutputFault) → LeadOn a bounds i j xs → LeadOn a bounds j k ys → LeadOn a bounds i k (xs ++ ys)
next_joined a bounds i j k xs ys first second before done =
    subst (AreFaultsWithin (is_up_to bounds k) a) (append_assoc before xs ys) (second (before ++ xs) (first before done))

none_done : (a : Application) → AreFaultsWithin (λ p. false) a []
unfolding IsStrictlySortedBy
none_done a = record {
  rises = tt;
  each = λ f h. absurd h;
  all = λ f st w. absurd cc;
  one_missing = λ f g h. absurd h;
}

-- those of all ranges
pub all_ranges : (a : Application) (bounds : List LentPlace) (n : ℕ) → n ≡ length bounds + 1 → (list : List OutputFault) → LeadOn a bounds 0 n list → AreOutputFaults a list
all_ranges a bounds n is list leads = record { rises = all.rises; each = λ f h. (all.each f h).0; all = λ f st. all.all f st refl; one_missing = all.one_missing }
  where
    ended : (p : Place) → is_up_to bounds (length bounds + 1) p ≡ true
    ended p = sym (after_is bounds (length bounds) p) ∙ ap (λ o. is_before_end o p) (slice_get_past bounds (length bounds) (omega arith))

    all : AreFaultsWithin (λ p. true) a list
    all = same_within (is_up_to bounds (length bounds + 1)) (λ p. true) ended a list (subst (λ k. AreFaultsWithin (is_up_to bounds k) a list) is (leads [] (none_done a)))
