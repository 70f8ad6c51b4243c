-- A partition's rule for one producer id: what its tests say of all marks before, and that neighbours stay in order.
use Rattle.std.proofs.Common.{◌≡◌, ℕ, ◌+◌, ◌<◌, ◌≤◌, ◌==◌, max, Bool, true, false, List, [], ◌∷◌, ◌++◌, length, Option, Some, None, refl, sym, subst, arith, ◌∙◌, if◌then◌else◌, length-append}
use Rattle.std.specs.Prelude.{nat_lt, nat_le, ⊤}
use Rattle.std.specs.List.{All, AllPairs}
use Rattle.std.proofs.lemmas.List.Elements.{All-nil, All-weaker, All-push}
use Rattle.std.proofs.lemmas.List.Quantifiers.{all_pairs_push}
use Rattle.std.proofs.lemmas.Bool.{eqb-true, eq-eqb, false_from_ne_true}
use Rattle.eos_batch.specs.declared.marker.Kind.{Kind}
use Rattle.eos_machine.specs.World.{Producer}
use Rattle.eos_machine.specs.Application.{Mark, Batch, End, epoch_of, IsInOrder}
use Rattle.eos_machine.specs.Logs.{unseen, is_epoch, after_mark, producer_from, next_sequence, not_above}
use Rattle.eos_machine.proofs.AppSteps.{IsUnder}

-- ---- what holds of the marks of a producer id in a partition, and of the broker's state

-- a sequence is this one, where sequences are checked
abbrev pub IsNumbered : Bool → Option ℕ → ℕ → Type 0
IsNumbered b None n = b ≡ false
IsNumbered b (Some r) n = r ≡ n

-- it is the one after
abbrev pub Follows : Bool → Option ℕ → Option ℕ → Type 0
Follows b None q = b ≡ false
Follows b (Some r) q = IsNumbered b q (r + 1)

abbrev pub IsNext : Bool → Option Mark → Mark → Type 0
IsNext b None (Batch e q) = IsNumbered b q 0
IsNext b None (End e k) = ⊤
IsNext b (Some (Batch f r)) (Batch e q) = (f ≤ e) × (f ≡ e → Follows b r q) × (f < e → IsNumbered b q 0)
IsNext b (Some (Batch f r)) (End e k) = f < e
IsNext b (Some (End f k)) (Batch e q) = (f ≤ e) × IsNumbered b q 0
IsNext b (Some (End f k)) (End e l) = f ≤ e

abbrev pub EachNext : Bool → Option Mark → List Mark → Type 0
EachNext b prev [] = ⊤
EachNext b prev (t ∷ ts) = IsNext b prev t × EachNext b (Some t) ts

abbrev pub last_from : Option Mark → List Mark → Option Mark
last_from prev [] = prev
last_from prev (t ∷ ts) = last_from (Some t) ts

-- data isn't above the last data
abbrev pub IsUpTo : Option ℕ → Mark → Type 0
IsUpTo None (Batch e q) = ⊥
IsUpTo (Some f) (Batch e q) = e ≤ f
IsUpTo last (End e k) = ⊤

abbrev pub IsBelow : Option ℕ → ℕ → Type 0
IsBelow None e = ⊤
IsBelow (Some f) e = f < e

-- the state is that of the last mark
abbrev pub Fits : Bool → Option Mark → Producer → Type 0
Fits b None s = (s.high ≡ 0) × (s.last ≡ None)
Fits b (Some (Batch e q)) s = (s.high ≡ e) × (s.last ≡ Some e) × Follows b q (Some s.count)
Fits b (Some (End e k)) s = (s.high ≡ e) × IsBelow s.last e

-- a sequence is below this
abbrev pub IsSmall : ℕ → Mark → Type 0
IsSmall n (Batch e None) = ⊤
IsSmall n (Batch e (Some q)) = q < n
IsSmall n (End e k) = ⊤

pub record Broker (b : Bool) (ts : List Mark) (s : Producer) : Type 0 where
  pub order : AllPairs IsInOrder ts
  pub high : All (λ u. epoch_of u ≤ s.high) ts
  pub last : All (IsUpTo s.last) ts
  pub fits : Fits b (last_from None ts) s
  pub next : EachNext b None ts
  pub small : All (IsSmall (length ts)) ts
  pub count : s.count ≤ length ts

-- ---- tests

pub not_lt : (a b : ℕ) → nat_lt a b ≡ false → b ≤ a
not_lt a b h = grind arith

pub is_lt : (a b : ℕ) → nat_lt a b ≡ true → a < b
is_lt a b h = grind arith

not_le : (a b : ℕ) → nat_le a b ≡ false → b < a
not_le a b h = grind arith

not_same_epoch : (a b : ℕ) → (a ≡ b → ⊥) → (a == b) ≡ false
not_same_epoch a b n = false_from_ne_true _ (λ t. n (eqb-true a b t))

not_epoch : (last : Option ℕ) (f e : ℕ) → IsBelow last f → f ≤ e → is_epoch last e ≡ false
not_epoch None f e b l = refl
not_epoch (Some g) f e b l = not_same_epoch g e (λ q. omega (arith, q))

pub above : (last : Option ℕ) (m : ℕ) → not_above m last ≡ false → IsBelow last m
above None m h = tt
above (Some f) m h = not_le m f h

-- ---- lists with one mark more

last_push : (prev : Option Mark) (ts : List Mark) (t : Mark) → last_from prev (ts ++ t ∷ []) ≡ Some t
last_push prev [] t = refl
last_push prev (u ∷ ts) t = last_push (Some u) ts t

next_push : (b : Bool) (prev : Option Mark) (ts : List Mark) (t : Mark) → EachNext b prev ts → IsNext b (last_from prev ts) t → EachNext b prev (ts ++ t ∷ [])
next_push b prev [] t h n = (n, tt)
next_push b prev (u ∷ ts) t h n = (h.0, next_push b (Some u) ts t h.1 n)

pub producer_push : (s : Producer) (ts : List Mark) (t : Mark) → producer_from s (ts ++ t ∷ []) ≡ after_mark (producer_from s ts) t
producer_push s [] t = refl
producer_push s (u ∷ ts) t = producer_push (after_mark s u) ts t

small_more : (n : ℕ) (u : Mark) → IsSmall n u → IsSmall (n + 1) u
small_more n (Batch e None) h = tt
small_more n (Batch e (Some q)) h = omega (arith, h)
small_more n (End e k) h = tt

length_push : (ts : List Mark) (t : Mark) → length (ts ++ t ∷ []) ≡ length ts + 1
length_push ts t = length-append ts (t ∷ [])

small_push : (ts : List Mark) (t : Mark) → All (IsSmall (length ts)) ts → IsSmall (length ts + 1) t → All (IsSmall (length (ts ++ t ∷ []))) (ts ++ t ∷ [])
small_push ts t h w = subst (λ (n : ℕ). All (IsSmall n) (ts ++ t ∷ [])) (sym (length_push ts t)) (All-push (IsSmall (length ts + 1)) ts t (All-weaker (IsSmall (length ts)) (IsSmall (length ts + 1)) (small_more (length ts)) ts h) w)

-- ---- data

batch_order : (u : Mark) (n e : ℕ) (q : Option ℕ) → epoch_of u ≤ n → n ≤ e → IsInOrder u (Batch e q)
batch_order (Batch f r) n e q h l = omega (arith, h, l)
batch_order (End f k) n e q h l = omega (arith, h, l)

pub order_batch : (b : Bool) (ts : List Mark) (s : Producer) (e : ℕ) (q : Option ℕ) → Broker b ts s → s.high ≤ e → All (λ u. IsInOrder u (Batch e q)) ts
order_batch b ts s e q h l = All-weaker (λ u. epoch_of u ≤ s.high) (λ u. IsInOrder u (Batch e q)) (λ u d. batch_order u s.high e q d l) ts h.high

up_to : (last : Option ℕ) (n e : ℕ) (u : Mark) → n ≤ e → epoch_of u ≤ n → IsUpTo (Some e) u
up_to last n e (Batch f r) l h = omega (arith, h, l)
up_to last n e (End f k) l h = tt

-- data of an epoch that isn't the last one
begins : (b : Bool) (last : Option ℕ) (count e : ℕ) (q : Option ℕ) → is_epoch last e ≡ false → IsNumbered b q (if is_epoch last e then count else 0)
    → IsNumbered b q 0 × Follows b q (Some (if is_epoch last e then count + 1 else 1))
begins b last count e None n is = (is, is)
begins b last count e (Some r) n is =
    let z : r ≡ 0 = rw n at is in
    (z, rw n (omega (arith, z)))

goes_on : (b : Bool) (last : Option ℕ) (count e : ℕ) (q : Option ℕ) → is_epoch last e ≡ true → IsNumbered b q (if is_epoch last e then count else 0)
    → IsNumbered b q count × Follows b q (Some (if is_epoch last e then count + 1 else 1))
goes_on b last count e None n is = (is, is)
goes_on b last count e (Some r) n is =
    let z : r ≡ count = rw n at is in
    (z, rw n (omega (arith, z)))

follows : (b : Bool) (r q : Option ℕ) (count : ℕ) → Follows b r (Some count) → IsNumbered b q count → Follows b r q
follows b None q count f n = f
follows b (Some r) None count f n = n
follows b (Some r) (Some q) count f n = n ∙ f

batch_fits : (b : Bool) (prev : Option Mark) (s : Producer) (e : ℕ) (q : Option ℕ) → Fits b prev s → s.high ≤ e → IsNumbered b q (next_sequence s e)
    → IsNext b prev (Batch e q) × Fits b (Some (Batch e q)) (after_mark s (Batch e q))
batch_fits b None s e q f l is =
    let w = begins b s.last s.count e q (rw f.1 refl) is in
    (w.0, (omega (arith, l), refl, w.1))
batch_fits b (Some (End g k)) s e q f l is =
    let le : g ≤ e = omega (arith, f.0, l) in
    let w = begins b s.last s.count e q (not_epoch s.last g e f.1 le) is in
    ((le, w.0), (omega (arith, l), refl, w.1))
batch_fits b (Some (Batch g r)) s e q f l is =
    let le : g ≤ e = omega (arith, f.0, l) in
    elim (g == e) as (λ t. (g == e) ≡ t → IsNext b (Some (Batch g r)) (Batch e q) × Fits b (Some (Batch e q)) (after_mark s (Batch e q))) [
      | true ↦ λ t.
          let w = goes_on b s.last s.count e q (rw f.1 t) is in
          ((le, (λ x. follows b r q s.count f.2 w.0), (λ x. absurd (let y : g ≡ e = eqb-true g e t in omega (arith, x, y)))), (omega (arith, l), refl, w.1))
      | false ↦ λ t.
          let w = begins b s.last s.count e q (rw f.1 t) is in
          ((le, (λ x. absurd (let z : true ≡ false = sym (eq-eqb g e x) ∙ t in cc)), (λ x. w.0)), (omega (arith, l), refl, w.1))
    ] refl

small_next : (b : Bool) (last : Option ℕ) (count n e : ℕ) (q : Option ℕ) → count ≤ n → IsNumbered b q (if is_epoch last e then count else 0) → IsSmall (n + 1) (Batch e q)
small_next b last count n e None c is = tt
small_next b last count n e (Some r) c is =
    elim (is_epoch last e) as (λ t. r ≡ (if t then count else 0) → r < n + 1) [ true ↦ λ i. omega (arith, i, c) | false ↦ λ i. omega (arith, i) ] is

count_next : (t : Bool) (count n : ℕ) → count ≤ n → (if t then count + 1 else 1) ≤ n + 1
count_next true count n h = omega (arith, h)
count_next false count n h = omega arith

pub broker_batch : (b : Bool) (ts : List Mark) (s : Producer) (e : ℕ) (q : Option ℕ) → Broker b ts s → s.high ≤ e → IsNumbered b q (next_sequence s e) → Broker b (ts ++ Batch e q ∷ []) (after_mark s (Batch e q))
broker_batch b ts s e q h l is =
    let o = order_batch b ts s e q h l in
    let w = batch_fits b (last_from None ts) s e q h.fits l is in
    record {
      order = all_pairs_push IsInOrder ts (Batch e q) h.order (λ k d lt. o k d lt);
      high = All-push (λ u. epoch_of u ≤ max s.high e) ts (Batch e q) (All-weaker (λ u. epoch_of u ≤ s.high) (λ u. epoch_of u ≤ max s.high e) (λ u d. omega (arith, d)) ts h.high) (omega arith);
      last = All-push (IsUpTo (Some e)) ts (Batch e q) (All-weaker (λ u. epoch_of u ≤ s.high) (IsUpTo (Some e)) (λ u d. up_to s.last s.high e u l d) ts h.high) (omega arith);
      fits = subst (λ (m : Option Mark). Fits b m (after_mark s (Batch e q))) (sym (last_push None ts (Batch e q))) w.1;
      next = next_push b None ts (Batch e q) h.next w.0;
      small = small_push ts (Batch e q) h.small (small_next b s.last s.count (length ts) e q h.count is);
      count = subst (λ (n : ℕ). (if is_epoch s.last e then s.count + 1 else 1) ≤ n) (sym (length_push ts (Batch e q))) (count_next (is_epoch s.last e) s.count (length ts) h.count);
    }

-- ---- end markers

is_under : (last : Option ℕ) (n m : ℕ) (u : Mark) → IsBelow last m → n ≤ m → epoch_of u ≤ n → IsUpTo last u → IsUnder m u
is_under None n m (Batch e q) b l h w = absurd w
is_under (Some f) n m (Batch e q) b l h w = omega (arith, b, w)
is_under last n m (End e k) b l h w = omega (arith, h, l)

-- an end marker is above all data
pub under : (b : Bool) (ts : List Mark) (s : Producer) (m : ℕ) → Broker b ts s → s.high ≤ m → IsBelow s.last m → All (IsUnder m) ts
under b ts s m h l w = λ i d len. is_under s.last s.high m _ w l (h.high i d len) (h.last i d len)

marker_order : (u : Mark) (m : ℕ) (k : Kind) → IsUnder m u → IsInOrder u (End m k)
marker_order (Batch e q) m k h = h
marker_order (End e l) m k h = h

end_fits : (b : Bool) (prev : Option Mark) (s : Producer) (e : ℕ) (k : Kind) → Fits b prev s → s.high ≤ e → IsBelow s.last e → IsNext b prev (End e k) × Fits b (Some (End e k)) (after_mark s (End e k))
end_fits b None s e k f l w = (tt, (omega (arith, l), w))
end_fits b (Some (End g j)) s e k f l w = (omega (arith, f.0, l), (omega (arith, l), w))
end_fits b (Some (Batch g r)) s e k f l w = (subst (λ (o : Option ℕ). IsBelow o e) f.1 w, (omega (arith, l), w))

pub broker_end : (b : Bool) (ts : List Mark) (s : Producer) (m : ℕ) (k : Kind) → Broker b ts s → s.high ≤ m → IsBelow s.last m → Broker b (ts ++ End m k ∷ []) (after_mark s (End m k))
broker_end b ts s m k h l w =
    let u = under b ts s m h l w in
    let f = end_fits b (last_from None ts) s m k h.fits l w in
    record {
      order = all_pairs_push IsInOrder ts (End m k) h.order (λ i d lt. marker_order _ m k (u i d lt));
      high = All-push (λ x. epoch_of x ≤ max s.high m) ts (End m k) (All-weaker (λ x. epoch_of x ≤ s.high) (λ x. epoch_of x ≤ max s.high m) (λ x d. omega (arith, d)) ts h.high) (omega arith);
      last = All-push (IsUpTo s.last) ts (End m k) h.last tt;
      fits = subst (λ (x : Option Mark). Fits b x (after_mark s (End m k))) (sym (last_push None ts (End m k))) f.1;
      next = next_push b None ts (End m k) h.next f.0;
      small = small_push ts (End m k) h.small tt;
      count = subst (λ (n : ℕ). s.count ≤ n) (sym (length_push ts (End m k))) (omega (arith, h.count));
    }

pub broker_none : (b : Bool) → Broker b [] unseen
broker_none b = record {
  order = λ i j d l k. absurd (omega arith);
  high = All-nil (λ u. epoch_of u ≤ 0);
  last = All-nil (IsUpTo None);
  fits = (refl, refl);
  next = tt;
  small = All-nil (IsSmall 0);
  count = omega arith;
}
