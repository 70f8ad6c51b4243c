-- Orders whose ties are equal values.
use Rattle.std.proofs.Common.{◌≡◌, [], ◌∷◌, Some, None, refl, sym, ap, true}
use Rattle.std.specs.Option.{option_cmp}
use Rattle.std.specs.Ordering.{nat_cmp, int_cmp, is_eq, ordering_then}
use Rattle.std.specs.Cmp.Lexicographic.{slice_cmp}
use Rattle.std.specs.declared.cmp.Ordering.{Ordering}
use Rattle.std.specs.declared.cmp.Ordering.TheVariants.{Less, Equal, Greater}
use Rattle.std.proofs.lemmas.Cmp.{ranked, int_ranked}
use Rattle.eos_base.specs.steps.Least.{IsExact}

-- tied at the front, and then behind
pub then_parts : (a b : Ordering) → ordering_then a b ≡ Equal → (a ≡ Equal) × (b ≡ Equal)
then_parts Less b e = absurd cc
then_parts Equal b e = (refl, e)
then_parts Greater b e = absurd cc

pub nat_exact : IsExact nat_cmp
nat_exact x y e = let r = ranked x y Equal (sym e) in r

pub int_exact : IsExact int_cmp
int_exact x y e = let r = int_ranked x y Equal (sym e) in r

pub bytes_exact : IsExact (slice_cmp nat_cmp)
bytes_exact [] [] e = refl
bytes_exact [] (y ∷ ys) e = absurd cc
bytes_exact (x ∷ xs) [] e = absurd cc
bytes_exact (x ∷ xs) (y ∷ ys) e =
    let r = then_parts (nat_cmp x y) (slice_cmp nat_cmp xs ys) e in
    let p = nat_exact x y r.0 in
    let q = bytes_exact xs ys r.1 in
    cc

pub option_exact : {X : Type 0} (cmp : X → X → Ordering) → IsExact cmp → IsExact (option_cmp cmp)
option_exact cmp h None None e = refl
option_exact cmp h None (Some y) e = absurd cc
option_exact cmp h (Some x) None e = absurd cc
option_exact cmp h (Some x) (Some y) e = ap Some (h x y e)

-- a tie as a test
pub is_tied : (o : Ordering) → is_eq o ≡ true → o ≡ Equal
is_tied Equal e = refl
is_tied Less e = absurd cc
is_tied Greater e = absurd cc
