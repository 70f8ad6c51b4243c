-- What `==` of claims and of events says.
use Rattle.std.proofs.Common.{◌≡◌, ap, rules}
use Rattle.std.specs.Bool.{Decides}
use Rattle.std.proofs.lemmas.Slice.Eq.{bytes_eq-Decides}
use Rattle.std.proofs.lemmas.Bool.Decides.{Decides-and, Decides-int_eq}
use Rattle.eos_machine.specs.declared.item.Claim.{Claim}
use Rattle.eos_machine.specs.declared.event.Event.{Event}
use Rattle.eos_machine.specs.declared.event.Event.TheVariants.{Feed, Start, Produce, Commit, End, Resume, Fetch, Members, BrokerRestart, CoordinatorRestart, Deliver, TimeOut, AddPartition, WriteMarker, Complete, Elect}
use Rattle.eos_machine.specs.contracts.item.ClaimPartialEq.TheImpl.{ghosts as claim_test}
use Rattle.eos_machine.specs.contracts.event.EventPartialEq.TheImpl.{ghosts as event_test}

same_claim : (a b : Claim) → a.topic ≡ b.topic → a.partition ≡ b.partition → a.offset ≡ b.offset → a.output ≡ b.output → a.of ≡ b.of → a ≡ b
same_claim a b p q r s t = λ i. record { topic = p i; partition = q i; offset = r i; output = s i; of = t i }

pub claims_decide : (a b : Claim) → Decides (claim_test.eq a b) (a ≡ b)
claims_decide a b =
    let parts = Decides-and _ _ (bytes_eq-Decides a.topic b.topic)
    (Decides-and _ _ (Decides-int_eq a.partition b.partition) (Decides-and _ _ (Decides-int_eq a.offset b.offset) (Decides-and _ _ (Decides-int_eq a.output b.output) (Decides-int_eq a.of b.of)))) in (
      (λ t. let p = parts.0 t in same_claim a b p.0 p.1.0 p.1.1.0 p.1.1.1.0 p.1.1.1.1),
      (λ e. parts.1 (ap (λ (s : Claim). s.topic) e, (ap (λ (s : Claim). s.partition) e, (ap (λ (s : Claim). s.offset) e, (ap (λ (s : Claim). s.output) e, ap (λ (s : Claim). s.of) e))))),
    )

pub events_decide : (a b : Event) → Decides (event_test.eq a b) (a ≡ b)
events_decide (Feed p) b = search rules
events_decide (Start p) b = search rules
events_decide (Produce n p x) b = search (rules, claims_decide)
events_decide (Commit n p x) b = search rules
events_decide (End n k) b = search rules
events_decide (Resume n) b = search rules
events_decide (Fetch n p) b = search rules
events_decide (Members g) b = search rules
events_decide (BrokerRestart t p) b = search rules
events_decide CoordinatorRestart b = search rules
events_decide (Deliver m) b = search rules
events_decide (TimeOut p) b = search rules
events_decide (AddPartition n p) b = search rules
events_decide (WriteMarker m) b = search rules
events_decide (Complete p) b = search rules
events_decide (Elect t p k) b = search rules
