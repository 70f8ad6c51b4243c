-- What is found with lent names is ordered as the fault that it stands for.
use Rattle.std.proofs.Common.{◌≡◌, Option, Some, None, option_map, refl}
use Rattle.std.specs.Option.{option_cmp}
use Rattle.std.specs.Ordering.{nat_cmp, int_cmp, ordering_then}
use Rattle.std.specs.Cmp.Lexicographic.{slice_cmp}
use Rattle.std.specs.declared.cmp.Ordering.{Ordering}
use Rattle.std.specs.declared.cmp.Ordering.TheVariants.{Less, Equal, Greater}
use Rattle.eos_base.specs.Least.{lesser_of}
use Rattle.eos_base.proofs.LeastOf.{lesser_viewed}
use Rattle.eos_claims.specs.declared.found.Found.{Found}
use Rattle.eos_claims.specs.declared.place.PlaceRef.{PlaceRef}
use Rattle.eos_claims.specs.declared.place.SourceRef.{SourceRef}
use Rattle.eos_claims.specs.contracts.found.FoundOrd.TheImpl.{ghosts as found_ghosts}
use Rattle.eos_claims.specs.contracts.place.PlaceRefOrd.TheImpl.{ghosts as ref_ghosts}
use Rattle.eos_claims.specs.contracts.place.SourceRefOrd.TheImpl.{ghosts as source_ghosts}
use Rattle.eos_claims.specs.Faults.{place_cmp, fault_cmp}
use Rattle.eos_claims.specs.Plain.{plain_place, plain_source, plain_fault}
use Rattle.eos_claims.proofs.FaultOrder.{kind_cmp}

in_turn : (a b c : Ordering) → ordering_then a (ordering_then b c) ≡ ordering_then (ordering_then a b) c
in_turn Less b c = refl
in_turn Equal b c = refl
in_turn Greater b c = refl

source_alike : (i j : SourceRef) → source_ghosts.cmp i j ≡ place_cmp (plain_source i) (plain_source j)
source_alike i j = in_turn (slice_cmp nat_cmp i.topic.now j.topic.now) (int_cmp i.partition j.partition) (nat_cmp i.offset j.offset)

at_alike : (i j : Option PlaceRef) → option_cmp ref_ghosts.cmp i j ≡ option_cmp place_cmp (option_map plain_place i) (option_map plain_place j)
at_alike None None = refl
at_alike None (Some j) = refl
at_alike (Some i) None = refl
at_alike (Some i) (Some j) = refl

found_alike : (f g : Found) → found_ghosts.cmp f g ≡ fault_cmp (plain_fault f) (plain_fault g)
found_alike f g =
    let source = source_alike f.source g.source in
    let at = at_alike f.at g.at in
    λ i. ordering_then (source i) (ordering_then (nat_cmp f.output g.output) (ordering_then (kind_cmp f.kind g.kind) (at i)))

-- the lesser of what is found is the lesser fault
pub found_least : (best : Option Found) (next : Found) → option_map plain_fault (lesser_of found_ghosts.cmp best next) ≡ lesser_of fault_cmp (option_map plain_fault best) (plain_fault next)
found_least = lesser_viewed plain_fault found_ghosts.cmp fault_cmp found_alike
