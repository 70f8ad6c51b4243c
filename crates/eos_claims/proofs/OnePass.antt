-- One pass with five slots reads the claim.
use Rattle.std.proofs.Common.{◌≡◌, ℕ, List, [], ◌∷◌, Option, Some, None, fold, refl, ap, ◌∙◌, true, false, Bool}
use Rattle.std.specs.Bool.{nat_eq}
use Rattle.std.specs.Prelude.{codes}
use Rattle.std.specs.Cmp.Lexicographic.{pointwise}
use Rattle.eos_batch.specs.declared.record.Header.{Header}
use Rattle.eos_claims.specs.Headers.{values_of, once, the_value, claim_of}
use Rattle.eos_claims.specs.steps.Slots.{Slot, kept, the, Kept, keep, blank, claim_in}

-- one slot, over all headers
abbrev slot_of : List ℕ → Slot → List Header → Slot
slot_of name slot headers = fold (λ s (h : Header). kept name h.key h.value s) slot headers

spoiled : (name : List ℕ) (hs : List Header) → the (slot_of name (Some None) hs) ≡ None
spoiled name [] = refl
spoiled name (h ∷ hs) = go (pointwise nat_eq h.key name) refl (spoiled name hs)
  where
    go : (b : Bool) → pointwise nat_eq h.key name ≡ b → the (slot_of name (Some None) hs) ≡ None → the (slot_of name (Some None) (h ∷ hs)) ≡ None
    go true e r = rw (e) r
    go false e r = rw (e) r

after_one : (name : List ℕ) (v : Option (List ℕ)) (hs : List Header) → the (slot_of name (Some v) hs) ≡ once (v ∷ values_of name hs)
after_one name v [] = refl
after_one name v (h ∷ hs) = go (pointwise nat_eq h.key name) refl (spoiled name hs) (after_one name v hs)
  where
    go : (b : Bool) → pointwise nat_eq h.key name ≡ b → the (slot_of name (Some None) hs) ≡ None → the (slot_of name (Some v) hs) ≡ once (v ∷ values_of name hs)
        → the (slot_of name (Some v) (h ∷ hs)) ≡ once (v ∷ values_of name (h ∷ hs))
    go true e s r = rw (e) s
    go false e s r = rw (e) r

from_none : (name : List ℕ) (hs : List Header) → the (slot_of name None hs) ≡ the_value name hs
from_none name [] = refl
from_none name (h ∷ hs) = go (pointwise nat_eq h.key name) refl (after_one name h.value hs) (from_none name hs)
  where
    go : (b : Bool) → pointwise nat_eq h.key name ≡ b → the (slot_of name (Some h.value) hs) ≡ once (h.value ∷ values_of name hs) → the (slot_of name None hs) ≡ the_value name hs
        → the (slot_of name None (h ∷ hs)) ≡ the_value name (h ∷ hs)
    go true e o r = rw (e) o
    go false e o r = rw (e) r

-- the five slots go their own ways
record Apart (s : Kept) (hs : List Header) : Type 0 where
  topic : (fold keep s hs).topic ≡ slot_of (codes "eo.topic") s.topic hs
  partition : (fold keep s hs).partition ≡ slot_of (codes "eo.partition") s.partition hs
  offset : (fold keep s hs).offset ≡ slot_of (codes "eo.offset") s.offset hs
  output : (fold keep s hs).output ≡ slot_of (codes "eo.output") s.output hs
  of : (fold keep s hs).of ≡ slot_of (codes "eo.of") s.of hs

apart : (s : Kept) (hs : List Header) → Apart s hs
apart s [] = record { topic = refl; partition = refl; offset = refl; output = refl; of = refl }
apart s (h ∷ hs) = let r = apart (keep s h) hs in record { topic = r.topic; partition = r.partition; offset = r.offset; output = r.output; of = r.of }

-- each slot has what the headers have
record Reads (s : Kept) (hs : List Header) : Type 0 where
  topic : the s.topic ≡ the_value (codes "eo.topic") hs
  partition : the s.partition ≡ the_value (codes "eo.partition") hs
  offset : the s.offset ≡ the_value (codes "eo.offset") hs
  output : the s.output ≡ the_value (codes "eo.output") hs
  of : the s.of ≡ the_value (codes "eo.of") hs

same_claim : (s : Kept) (hs : List Header) → Reads s hs → claim_in s ≡ claim_of hs
unfolding claim_in claim_of
same_claim s hs r = rw (r.topic, r.partition, r.offset, r.output, r.of) refl

pub one_pass : (hs : List Header) → claim_in (fold keep blank hs) ≡ claim_of hs
one_pass hs = let a = apart blank hs in same_claim (fold keep blank hs) hs (record {
  topic = ap the a.topic ∙ from_none (codes "eo.topic") hs;
  partition = ap the a.partition ∙ from_none (codes "eo.partition") hs;
  offset = ap the a.offset ∙ from_none (codes "eo.offset") hs;
  output = ap the a.output ∙ from_none (codes "eo.output") hs;
  of = ap the a.of ∙ from_none (codes "eo.of") hs;
})
