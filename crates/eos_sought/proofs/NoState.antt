-- Where there is no state, none is such.
use Rattle.std.proofs.Common.{◌≡◌, Option, None, Bool, true, false, ◌&&◌, refl, sym, ap, ◌∙◌}
use Rattle.eos_txnlog.specs.declared.value.TxnValue.{TxnValue}
use Rattle.eos_sought.specs.declared.sought.Sought.{Sought}
use Rattle.eos_sought.specs.declared.sought.Sought.TheVariants.{At, Claiming, Hidden, Alike, OfId, Before, OfProducer, Within, Deciding, OfGroup, Passing, UpTo, Passed}
use Rattle.eos_sought.specs.steps.Such.{is_such}

none_such : (sought : Sought) → is_such sought None ≡ false
none_such (At place) = refl
none_such (Claiming place) = refl
none_such (Hidden place) = refl
none_such (Alike place output) = refl
none_such (OfId id) = refl
none_such (Before id place) = refl
none_such (OfProducer producer) = refl
none_such (Within epochs) = refl
none_such (Deciding producer epoch) = refl
none_such (OfGroup group) = refl
none_such (Passing group place) = refl
none_such (UpTo group place) = refl
none_such (Passed place) = refl

and_false : (b : Bool) → (b && false) ≡ false
and_false true = refl
and_false false = refl

pub none_of : (b : Bool) (sought : Sought) (state : Option TxnValue) → state ≡ None → false ≡ (b && is_such sought state)
none_of b sought state none = sym (ap (λ s. b && is_such sought s) none ∙ (ap (λ c. b && c) (none_such sought) ∙ and_false b))
