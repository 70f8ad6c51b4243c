-- What the tests of the table say.
use Rattle.std.proofs.Common.{◌≡◌, ◌≢◌, Bool, true, false, not, ◌&&◌, Option, Some, Ok, refl, arith, ℤ, ◌≤ℤ◌, ◌<ℤ◌}
use Rattle.std.specs.Prelude.{int_lt}
use Rattle.std.specs.Ordering.{int_eq}
use Rattle.std.proofs.lemmas.Int.{ints}
use Rattle.std.proofs.lemmas.Bool.{false_from_ne_true}
use Rattle.std.proofs.lemmas.Bool.Decides.{Decides-int_eq, not_from_Decides}
use Rattle.eos_batch.specs.declared.marker.Kind.{Kind}
use Rattle.eos_batch.specs.declared.marker.Kind.TheVariants.{Commit, Abort}
use Rattle.eos_touch.specs.declared.touch.Touch.{Touch}
use Rattle.eos_touch.specs.declared.touch.Touch.TheVariants.{Data, End}
use Rattle.eos_touch.specs.declared.pair.PairFault.{PairFault}
use Rattle.eos_touch.specs.declared.pair.PairFault.TheVariants.{FirstSequence, Sequence, ZombieEpoch, EpochWhileOpen, NoBump, MixedProducer, MarkerKind}
use Rattle.eos_touch.specs.Pair.{is_plain, same_kind, same_bool, PairResult, row, pair_verdict, first_sequence, sequence, zombie_epoch, epoch_while_open, no_bump, mixed_producer, marker_kind}
use Rattle.eos_touch.specs.Rules.{IsInOrder, HasOneKind, IsAlike}
use Rattle.eos_touch.specs.Neighbours.{Accepts, KeepsOrder}

row_ok : (b : Bool) (f : PairFault) (r : PairResult) → row b f r ≡ Ok tt → (b ≡ false) × (r ≡ Ok tt)
row_ok true f r e = absurd cc
row_ok false f r e = (refl, e)

then_if : (a b : Bool) → (a ≡ true → b ≡ false) → (a && b) ≡ false
then_if true b h = h refl
then_if false b h = refl

-- no row stands
pub record IsClean (sequenced : Bool) (prev : Option Touch) (next : Touch) : Type 0 where
  pub order : KeepsOrder sequenced prev next
  pub never_open : epoch_while_open prev next ≡ false
  pub mixed : mixed_producer prev next ≡ false
  pub kind : marker_kind prev next ≡ false

pub is_clean : (s : Bool) (p : Option Touch) (n : Touch) → Accepts s p n → IsClean s p n
unfolding pair_verdict
is_clean s p n e =
    let a = row_ok (s && first_sequence p n) FirstSequence _ e in
    let b = row_ok (s && sequence p n) Sequence _ a.1 in
    let c = row_ok (zombie_epoch p n) ZombieEpoch _ b.1 in
    let d = row_ok (epoch_while_open p n) EpochWhileOpen _ c.1 in
    let f = row_ok (no_bump p n) NoBump _ d.1 in
    let g = row_ok (mixed_producer p n) MixedProducer _ f.1 in
    let h = row_ok (marker_kind p n) MarkerKind _ g.1 in
    record { order = record { first = a.0; next_one = b.0; zombie = c.0; bump = f.0 }; never_open = d.0; mixed = g.0; kind = h.0 }

pub is_accepted : (s : Bool) (p : Option Touch) (n : Touch) → IsClean s p n → Accepts s p n
unfolding pair_verdict
is_accepted s p n h =
    rw (h.order.first, h.order.next_one, h.order.zombie, h.never_open, h.order.bump, h.mixed, h.kind) refl

-- ---- tests on numbers

pub not_below : (a b : ℤ) → int_lt a b ≡ false → b ≤ℤ a
not_below a b h = grind (arith, ints)

pub is_not_below : (a b : ℤ) → b ≤ℤ a → int_lt a b ≡ false
is_not_below a b h = grind (arith, ints)

pub not_equal : (a b : ℤ) → int_eq a b ≡ false → a ≢ b
not_equal a b h = not_from_Decides _ (Decides-int_eq a b) h

pub is_not_equal : (a b : ℤ) → a ≢ b → int_eq a b ≡ false
is_not_equal a b h = false_from_ne_true _ (λ t. h ((Decides-int_eq a b).0 t))

pub below_from : (a b : ℤ) → a ≤ℤ b → a ≢ b → a <ℤ b
below_from a b h n = omega (arith, ints)

-- ---- two neighbours

pub in_order : (t u : Touch) → zombie_epoch (Some t) u ≡ false → no_bump (Some t) u ≡ false → IsInOrder t u
in_order (Data e t s c) (Data f u r d) z b = not_below f e z
in_order (Data e t s c) (End f k) z b = below_from e f (not_below f e z) (not_equal e f b)
in_order (End e k) (Data f u r d) z b = not_below f e z
in_order (End e k) (End f l) z b = not_below f e z

pub order_is_kept : (t u : Touch) → IsInOrder t u → (zombie_epoch (Some t) u ≡ false) × (no_bump (Some t) u ≡ false)
order_is_kept (Data e t s c) (Data f u r d) h = (is_not_below f e h, refl)
order_is_kept (Data e t s c) (End f k) h = (is_not_below f e (omega (arith, ints)), is_not_equal e f (λ q. omega (arith, ints)))
order_is_kept (End e k) (Data f u r d) h = (is_not_below f e h, refl)
order_is_kept (End e k) (End f l) h = (is_not_below f e h, refl)

same : (a b : Bool) → not (same_bool a b) ≡ false → a ≡ b
same true true h = refl
same true false h = absurd cc
same false true h = absurd cc
same false false h = refl

same_again : (a b : Bool) → a ≡ b → not (same_bool a b) ≡ false
same_again true true h = refl
same_again true false h = absurd cc
same_again false true h = absurd cc
same_again false false h = refl

pub is_alike : (t u : Touch) → mixed_producer (Some t) u ≡ false → IsAlike t u
is_alike t u h = same (is_plain t) (is_plain u) h

pub not_mixed : (t u : Touch) → IsAlike t u → mixed_producer (Some t) u ≡ false
not_mixed t u h = same_again (is_plain t) (is_plain u) h

pub kinds : (e f : ℤ) (k l : Kind) → (int_eq e f && not (same_kind k l)) ≡ false → e ≡ f → k ≡ l
kinds e f Commit Commit h q = refl
kinds e f Abort Abort h q = refl
kinds e f Commit Abort h q = let t : int_eq e f ≡ true = (Decides-int_eq e f).1 q in let x : true ≡ false = rw t at h in absurd cc
kinds e f Abort Commit h q = let t : int_eq e f ≡ true = (Decides-int_eq e f).1 q in let x : true ≡ false = rw t at h in absurd cc

not_kind : (k l : Kind) → k ≡ l → not (same_kind k l) ≡ false
not_kind Commit Commit q = refl
not_kind Abort Abort q = refl
not_kind Commit Abort q = absurd cc
not_kind Abort Commit q = absurd cc

pub one_kind : (t u : Touch) → marker_kind (Some t) u ≡ false → HasOneKind t u
one_kind (End e k) (End f l) h = kinds e f k l h
one_kind (End e k) (Data f u r d) h = tt
one_kind (Data e t s c) next h = tt

pub kind_is_kept : (t u : Touch) → HasOneKind t u → marker_kind (Some t) u ≡ false
kind_is_kept (End e k) (End f l) h = then_if (int_eq e f) (not (same_kind k l)) (λ q. not_kind k l (h ((Decides-int_eq e f).0 q)))
kind_is_kept (End e k) (Data f u r d) h = refl
kind_is_kept (Data e t s c) (End f l) h = refl
kind_is_kept (Data e t s c) (Data f u r d) h = refl
