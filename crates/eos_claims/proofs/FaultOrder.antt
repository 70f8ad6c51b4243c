-- The orders of places, claims and faults are total, and tied places and faults are equal.
use Rattle.std.proofs.Common.{false, ◌≡◌, refl}
use Rattle.std.specs.Option.{option_cmp}
use Rattle.std.specs.Ordering.{nat_cmp, is_gt, ordering_reverse}
use Rattle.std.specs.declared.cmp.Ordering.{Ordering}
use Rattle.std.specs.declared.cmp.Ordering.TheVariants.{Less, Equal, Greater}
use Rattle.std.specs.Cmp.{IsTotalOrder}
use Rattle.std.proofs.lemmas.Cmp.{nat_cmp_total, on_total, then_total}
use Rattle.eos_base.specs.PartitionNames.{name_cmp}
use Rattle.eos_base.specs.Least.{IsLeast, UpTo}
use Rattle.eos_base.specs.steps.Least.{IsExact}
use Rattle.eos_base.proofs.Exact.{then_parts, nat_exact, option_exact}
use Rattle.eos_base.proofs.LeastOf.{one_least}
use Rattle.eos_base.proofs.NamesInOrder.{name_exact}
use Rattle.eos_claims.specs.declared.place.Place.{Place}
use Rattle.eos_claims.specs.declared.fault.OutputFault.{OutputFault}
use Rattle.eos_claims.specs.declared.fault.OutputKind.{OutputKind}
use Rattle.eos_claims.specs.declared.fault.OutputKind.TheVariants.{ForeignSource, NoSuchInput, Early, CountDisagrees, NumberRange, Repeated, Missing, OtherTransaction}
use Rattle.eos_claims.specs.Outputs.{Application}
use Rattle.eos_claims.specs.Candidates.{Counted, claim_cmp}
use Rattle.eos_claims.specs.contracts.fault.OutputKindOrd.TheImpl.{ghosts as kind_ghosts}
use Rattle.eos_claims.specs.contracts.fault.OutputKindOrd.TheImpl.Laws.{total-law as kind-total}
use Rattle.eos_claims.specs.contracts.fault.OutputFaultOrd.TheImpl.Laws.{total-law as fault-total}
use Rattle.eos_claims.specs.contracts.place.PlaceOrd.TheImpl.Laws.{total-law as place-total}
use Rattle.eos_claims.specs.Faults.{place_cmp, number_cmp, fault_cmp, Stands}

pub place_is : (a b : Place) → a.partition ≡ b.partition → a.offset ≡ b.offset → a ≡ b
place_is a b partition offset = λ i. record { partition = partition i; offset = offset i }

pub place_exact : IsExact place_cmp
place_exact a b e =
    let r = then_parts (name_cmp a.partition b.partition) (nat_cmp a.offset b.offset) e in
    place_is a b (name_exact a.partition b.partition r.0) (nat_exact a.offset b.offset r.1)

pub place_total : IsTotalOrder place_cmp
place_total = place-total

pub number_total : IsTotalOrder number_cmp
number_total = then_total (on_total (λ c. c.output) nat_cmp_total) (on_total (λ c. c.at) place_total)

-- neither is greater, so they are tied
neither_greater : {X : Type 0} {cmp : X → X → Ordering} → IsTotalOrder cmp → (x y : X) → UpTo cmp x y → UpTo cmp y x → cmp x y ≡ Equal
neither_greater {X} {cmp} o x y p q = go (cmp x y) (cmp y x) (o.antisymm x y) p q
  where
    go : (r s : Ordering) → r ≡ ordering_reverse s → is_gt r ≡ false → is_gt s ≡ false → r ≡ Equal
    go Equal s e p q = refl
    go Greater s e p q = absurd cc
    go Less Less e p q = absurd cc
    go Less Equal e p q = absurd cc
    go Less Greater e p q = absurd cc

pub claim_total : IsTotalOrder claim_cmp
claim_total = then_total (on_total (λ c. c.source) place_total) (then_total (on_total (λ c. c.output) nat_cmp_total) (on_total (λ c. c.at) place_total))

-- by source, number and place, so two claims that are tied differ at most in their counts
pub claim_tied : (c d : Counted) → UpTo claim_cmp c d → UpTo claim_cmp d c → c.at ≡ d.at
claim_tied c d p q = place_exact c.at d.at (then_parts (nat_cmp c.output d.output) (place_cmp c.at d.at) (then_parts (place_cmp c.source d.source) _ (neither_greater claim_total c d p q)).1).1

abbrev pub kind_cmp : OutputKind → OutputKind → Ordering
kind_cmp = kind_ghosts.cmp

pub kind_total : IsTotalOrder kind_cmp
kind_total = kind-total

pub kind_exact : IsExact kind_cmp
kind_exact ForeignSource ForeignSource e = refl
kind_exact NoSuchInput NoSuchInput e = refl
kind_exact Early Early e = refl
kind_exact CountDisagrees CountDisagrees e = refl
kind_exact NumberRange NumberRange e = refl
kind_exact Repeated Repeated e = refl
kind_exact Missing Missing e = refl
kind_exact OtherTransaction OtherTransaction e = refl
kind_exact k l e = absurd cc

pub fault_exact : IsExact fault_cmp
fault_exact f g e =
    let r = then_parts (place_cmp f.source g.source) _ e in
    let s = then_parts (nat_cmp f.output g.output) _ r.1 in
    let t = then_parts (kind_cmp f.kind g.kind) (option_cmp place_cmp f.at g.at) s.1 in
    let source = place_exact f.source g.source r.0 in
    let output = nat_exact f.output g.output s.0 in
    let kind = kind_exact f.kind g.kind t.0 in
    let at = option_exact place_cmp place_exact f.at g.at t.1 in
    λ i. record { source = source i; output = output i; kind = kind i; at = at i }

pub fault_total : IsTotalOrder fault_cmp
fault_total = fault-total

pub unique : (a : Application) (f g : OutputFault) → IsLeast fault_cmp (Stands a) f → IsLeast fault_cmp (Stands a) g → f ≡ g
unique a f g l m = one_least fault_total fault_exact (Stands a) f g l m
