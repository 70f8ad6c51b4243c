-- What the tests of a spec give, one step after the other.
use Rattle.std.proofs.Common.{◌≡◌, ◌<◌, ◌≤◌, List, [], ◌∷◌, true, false, nat_le, Ok, Err, length, refl, ap, sym, arith, IsPermutation}
use Rattle.std.proofs.Math.Bool.{and-false}
use Rattle.std.proofs.lemmas.Bool.Decides.{nat_tests}
use Rattle.std.proofs.lemmas.List.Elements.{All-from_recursion, recursion_from_All}
use Rattle.std.proofs.lemmas.List.Sorted.{All-permutation, IsPermutation-refl}
use Rattle.std.specs.Cmp.{first_so, second_so}
use Rattle.std.specs.List.{list_all, AllByRecursion}
use Rattle.eos_evidence.specs.declared.ends.End.{End}
use Rattle.eos_evidence.specs.declared.fault.SpecFault.TheVariants as faults
use Rattle.eos_evidence.specs.Ends.{is_legal_end, are_apart}
use Rattle.eos_evidence.specs.SpecFields.{SpecFields, are_legal_apps, accepted, IsAccepted}
use Rattle.eos_evidence.specs.steps.OrderedEnds.{IsInOrder}
use Rattle.eos_evidence.proofs.EndsInOrder.{in_order_is}

pub refused_apps : (given : SpecFields) → are_legal_apps given.apps ≡ false → accepted given ≡ Err faults.Field
unfolding accepted
refused_apps given apps = rw apps refl

pub refused_ends : (given : SpecFields) → are_legal_apps given.apps ≡ true → list_all is_legal_end given.ends ≡ false → accepted given ≡ Err faults.Field
unfolding accepted
refused_ends given apps ends = rw (apps, ends) refl

pub refused_twice : (given : SpecFields) → are_legal_apps given.apps ≡ true → list_all is_legal_end given.ends ≡ true → are_apart given.ends ≡ false → accepted given ≡ Err faults.Field
unfolding accepted
refused_twice given apps ends twice = rw (apps, ends, twice) refl

-- what passed before the limits are looked at
pub record Passed (given : SpecFields) (list : List End) : Type 0 where
  pub apps : are_legal_apps given.apps ≡ true
  pub ends : list_all is_legal_end given.ends ≡ true
  pub in_order : IsInOrder given.ends list

pub too_many_apps : (given : SpecFields) (list : List End) → Passed given list → 256 < length given.apps → accepted given ≡ Err faults.Limit
unfolding accepted
too_many_apps given list passed more =
    let many : nat_le (length given.apps) 256 ≡ false = grind (arith, nat_tests, more) in
    rw (passed.apps, passed.ends, passed.in_order.apart, many) refl

pub too_many_ends : (given : SpecFields) (list : List End) → Passed given list → 4096 < length list → accepted given ≡ Err faults.Limit
unfolding accepted
too_many_ends given list passed more =
    let many : nat_le (length given.ends) 4096 ≡ false = grind (arith, nat_tests, passed.in_order.as_many, more) in
    rw (passed.apps, passed.ends, passed.in_order.apart, many, and-false (nat_le (length given.apps) 256)) refl

pub gives_parts : (given : SpecFields) (list : List End) → Passed given list → length given.apps ≤ 256 → length list ≤ 4096 → accepted given ≡ Ok (record given { ends = list })
unfolding accepted
gives_parts given list passed few_apps few =
    let apps : nat_le (length given.apps) 256 ≡ true = grind (arith, nat_tests, few_apps) in
    let ends : nat_le (length given.ends) 4096 ≡ true = grind (arith, nat_tests, passed.in_order.as_many, few) in
    rw (passed.apps, passed.ends, passed.in_order.apart, apps, ends) (ap (λ l. Ok (record given { ends = l })) (sym passed.in_order.list_is))

each_legal : (es : List End) → list_all is_legal_end es ≡ true → AllByRecursion (λ e. is_legal_end e ≡ true) es
each_legal [] h = tt
each_legal (e ∷ es) h = (first_so (is_legal_end e) (list_all is_legal_end es) h, each_legal es (second_so (is_legal_end e) (list_all is_legal_end es) h))

all_legal : (es : List End) → AllByRecursion (λ e. is_legal_end e ≡ true) es → list_all is_legal_end es ≡ true
all_legal [] h = refl
all_legal (e ∷ es) h = rw (h.0, all_legal es h.1) refl

-- the same ends in another order are legal too
pub legal_too : (es fs : List End) → IsPermutation es fs → list_all is_legal_end es ≡ true → list_all is_legal_end fs ≡ true
legal_too es fs same legal = all_legal fs (recursion_from_All (λ e. is_legal_end e ≡ true) fs
    (All-permutation (λ e. is_legal_end e ≡ true) es fs same (All-from_recursion (λ e. is_legal_end e ≡ true) es (each_legal es legal))))

-- the tests accept again what they gave
pub is_accepted : (given : SpecFields) (list : List End) → Passed given list → length given.apps ≤ 256 → length list ≤ 4096 → IsAccepted (record given { ends = list })
is_accepted given list passed few_apps few =
    let again : Passed (record given { ends = list }) list = record {
      apps = passed.apps;
      ends = legal_too given.ends list passed.in_order.shuffled passed.ends;
      in_order = in_order_is list list (IsPermutation-refl list) passed.in_order.ascending;
    } in
    record { as_it_is = gives_parts _ list again few_apps few; ascending = passed.in_order.ascending }
