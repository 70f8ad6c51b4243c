-- In a partition that holds none of those that are sought none is found.
use Rattle.std.proofs.Common.{◌≡◌, List, [], ◌∷◌, ◌++◌, true, false, Bool, refl, sym, ap, subst}
use Rattle.std.specs.Prelude.{◌&&◌, ◌==◌, not, nat_lt}
use Rattle.std.proofs.lemmas.List.{append-nil}
use Rattle.eos_fold.specs.Parts.{PartLog}
use Rattle.eos_fold.specs.declared.item.Item.{Item}
use Rattle.eos_sought.specs.declared.finding.Find.{Find}
use Rattle.eos_sought.specs.declared.finding.Finds.{Finds}
use Rattle.eos_sought.specs.declared.sought.Sought.{Sought}
use Rattle.eos_sought.specs.declared.sought.Sought.TheVariants.{At, Claiming, Hidden, Alike, OfId, Before, OfProducer, Within, Deciding, OfGroup, Passing, UpTo, Passed}
use Rattle.eos_sought.specs.Finds.{among, all_in, AreFirst}
use Rattle.eos_sought.specs.Passing.{is_key_of, is_key_past, goes_past, is_passed}
use Rattle.eos_sought.specs.Sought.{is_state, is_id, is_by, is_within, decides, meets}
use Rattle.eos_sought.specs.States.{id_in, state_in}
use Rattle.eos_sought.specs.steps.Holding.{may_hold}

apart : true ≡ false → ⊥
apart e = cc

none_met : (sought : Sought) (p : PartLog) (x : Item) → may_hold sought p ≡ false → meets sought p x ≡ false
none_met (At place) p x h = ap (λ (b : Bool). b && x.offset == place.offset) h
none_met (Claiming place) p x h = absurd (apart h)
none_met (Hidden place) p x h = absurd (apart h)
none_met (Alike place output) p x h = absurd (apart h)
none_met (OfId id) p x h = ap (λ (b : Bool). b && is_id id (id_in x.key)) h
none_met (Before id place) p x h = ap (λ (b : Bool). (b && nat_lt x.offset place.offset) && (is_state p && is_id id (id_in x.key))) h
none_met (OfProducer producer) p x h = ap (λ (b : Bool). b && is_by producer (state_in x.value)) h
none_met (Within epochs) p x h = ap (λ (b : Bool). b && is_within epochs (state_in x.value)) h
none_met (Deciding producer epoch) p x h = ap (λ (b : Bool). b && decides producer epoch (state_in x.value)) h
none_met (OfGroup group) p x h = ap (λ (b : Bool). b && is_key_of group x.key) h
none_met (Passing group place) p x h = ap (λ (b : Bool). (b && is_key_of group x.key) && is_passed place p x) h
none_met (UpTo group place) p x h = ap (λ (b : Bool). (b && is_key_of group x.key) && is_key_past place x.key && not (goes_past place x.value)) h
none_met (Passed place) p x h = ap (λ (b : Bool). b && is_key_past place x.key && goes_past place x.value) h

none_among : (sought : Sought) (p : PartLog) (xs : List Item) → may_hold sought p ≡ false → among sought p xs ≡ []
none_among sought p [] h = refl
none_among sought p (x ∷ xs) h = rw (none_met sought p x h) (none_among sought p xs h)

pub none_taken : (sought : Sought) (p : PartLog) (finds : Finds) (xs : List Find) → may_hold sought p ≡ false → AreFirst xs finds → AreFirst (xs ++ all_in sought p) finds
none_taken sought p finds xs h are =
    subst (λ (more : List Find). AreFirst (xs ++ more) finds) (sym (none_among sought p p.items h)) (subst (λ (ys : List Find). AreFirst ys finds) (sym (append-nil xs)) are)
