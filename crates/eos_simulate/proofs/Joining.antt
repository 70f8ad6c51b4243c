-- What a batch of two and more says: what its first record says as a batch of its own, and then the others as one.
use Rattle.std.proofs.Common.{◌≡◌, ℕ, suc, ◌+◌, ℤ, pos, negsuc, ◌+ℤ◌, ◌^◌, Bool, true, false, not, ◌&&◌, List, [], ◌∷◌, length, Option, Some, None, refl, sym, ap, subst, ◌∙◌, arith, inl, inr, ◌⊎◌}
use Rattle.std.specs.Prelude.{int_lt, if◌then◌else◌}
use Rattle.std.specs.Int.{int_rem_euclid}
use Rattle.std.specs.Ordering.{int_eq}
use Rattle.std.proofs.lemmas.Int.{ints}
use Rattle.std.proofs.lemmas.Bool.{and_parts, eqb-true}
use Rattle.std.proofs.lemmas.Bool.Decides.{Decides-int_eq}
use Rattle.eos_batch.specs.Attributes.{is_transactional, is_control}
use Rattle.eos_touch.specs.declared.touch.Touch.{Touch}
use Rattle.eos_touch.specs.declared.touch.Touch.TheVariants.{Data, End}
use Rattle.eos_touch.specs.Pair.{sequence_at}
use Rattle.eos_touch.specs.Neighbours.{EachAfter, Accepts}
use Rattle.eos_touch.specs.Touches.{touch_of}
use Rattle.eos_touch.proofs.TableRows.{is_clean, is_accepted}
use Rattle.eos_machine.specs.declared.config.Config.{Config}
use Rattle.eos_machine.specs.declared.item.Item.{Item}
use Rattle.eos_machine.specs.declared.item.Item.TheVariants.{Fed, State, Output, Offset, Marker}
use Rattle.eos_machine.specs.declared.writer.Writer.{Writer}
use Rattle.eos_machine.specs.Grouping.{goes_on}
use Rattle.eos_machine.specs.Batches.{transactional, item_writer, batch_of}

-- ---- two items of one batch

-- the sequence after this one, or none after none
abbrev pub IsNext : ℤ → ℤ → Type 0
IsNext r s = ((n : ℕ) × (r ≡ pos n) × (s ≡ pos (n + 1))) ⊎ ((r ≡ negsuc 0) × (s ≡ negsuc 0))

-- data of one producer id and one epoch, and the sequences go on
pub record WritesOn (v w : Writer) : Type 0 where
  pub attributes : w.attributes ≡ v.attributes
  pub producer : w.producer ≡ v.producer
  pub epoch : w.epoch ≡ v.epoch
  pub data_is : is_control v.attributes ≡ false
  pub sequence : IsNext v.sequence w.sequence

output_on : (a e s b f t : ℕ) → b ≡ a → f ≡ e → t ≡ s + 1 → WritesOn (transactional a e (pos s)) (transactional b f (pos t))
output_on a e s b f t h i j = record {
  attributes = refl;
  producer = ap (λ (n : ℕ). (transactional n f (pos t)).producer) h;
  epoch = ap pos i;
  data_is = refl;
  sequence = inl (s, refl, ap pos j);
}

offset_on : (a e b f : ℕ) → b ≡ a → f ≡ e → WritesOn (transactional a e (negsuc 0)) (transactional b f (negsuc 0))
offset_on a e b f h i = record {
  attributes = refl;
  producer = ap (λ (n : ℕ). (transactional n f (negsuc 0)).producer) h;
  epoch = ap pos i;
  data_is = refl;
  sequence = inr (refl, refl);
}

pub writes_on : (x y : Item) → goes_on x y ≡ true → WritesOn (item_writer x) (item_writer y)
writes_on (Fed n) (Fed m) h = record { attributes = refl; producer = refl; epoch = refl; data_is = refl; sequence = inr (refl, refl) }
writes_on (Fed n) (State b y m) h = absurd cc
writes_on (Fed n) (Output b f t y v m) h = absurd cc
writes_on (Fed n) (Offset b f q v m) h = absurd cc
writes_on (Fed n) (Marker b f k m) h = absurd cc
writes_on (State a x n) y h = absurd cc
writes_on (Marker a e k n) y h = absurd cc
writes_on (Output a e s x v n) (Fed m) h = absurd cc
writes_on (Output a e s x v n) (State b y m) h = absurd cc
writes_on (Output a e s x v n) (Output b f t y u m) h =
    let p = and_parts _ _ h in let r = and_parts _ _ p.1 in output_on a e s b f t (eqb-true b a p.0) (eqb-true f e r.0) (eqb-true t (s + 1) r.1)
writes_on (Output a e s x v n) (Offset b f q u m) h = absurd cc
writes_on (Output a e s x v n) (Marker b f k m) h = absurd cc
writes_on (Offset a e q v n) (Fed m) h = absurd cc
writes_on (Offset a e q v n) (State b y m) h = absurd cc
writes_on (Offset a e q v n) (Output b f t y u m) h = absurd cc
writes_on (Offset a e q v n) (Offset b f r u m) h = let p = and_parts _ _ h in offset_on a e b f (eqb-true b a p.0) (eqb-true f e p.1)
writes_on (Offset a e q v n) (Marker b f k m) h = absurd cc

-- ---- their touches

-- what a batch of data says
abbrev pub said : Writer → ℤ → ℕ → Option (ℤ × Touch)
said w s n = if int_lt w.producer (pos 0) then None else Some (w.producer, Data w.epoch (is_transactional w.attributes) s n)

pub first_says : (c : Config) (o : ℕ) (x : Item) (ys : List Item) → is_control (item_writer x).attributes ≡ false → touch_of (batch_of c o x ys) ≡ said (item_writer x) (item_writer x).sequence (length (batch_of c o x ys).records)
first_says c o x ys h = rw h refl

pub others_say : (c : Config) (o : ℕ) (x y : Item) (ys : List Item) → WritesOn (item_writer x) (item_writer y) → touch_of (batch_of c o y ys) ≡ said (item_writer x) (item_writer y).sequence (length (batch_of c o y ys).records)
others_say c o x y ys h =
    first_says c o y ys (ap is_control h.attributes ∙ h.data_is)
    ∙ (λ i. said (record { attributes = h.attributes i; producer = h.producer i; epoch = h.epoch i; sequence = pos 0 }) (item_writer y).sequence (length (batch_of c o y ys).records))

-- ---- one touch for two

sequences_on : (r s : ℤ) (m : ℕ) → (n : ℕ) × (r ≡ pos n) × (s ≡ pos (n + 1)) → sequence_at s m ≡ sequence_at r (suc m)
sequences_on r s m h =
    ap (λ z. sequence_at z m) h.2 ∙ (ap (λ z. int_rem_euclid z (pos (2 ^ 31))) (plus h.0 m) ∙ ap (λ z. sequence_at z (suc m)) (sym h.1))
  where
    plus : (n m : ℕ) → pos (n + 1) +ℤ pos m ≡ pos n +ℤ pos (suc m)
    plus n m = grind (arith, ints)

-- after none comes 0
no_sequence : (q : Bool) (e : ℤ) (u : Bool) (m : ℕ) → Accepts q (Some (Data e u (negsuc 0) 1)) (Data e u (negsuc 0) m) → q ≡ false
no_sequence q e u m h = at q (int_eq e e) ((Decides-int_eq e e).1 refl) (is_clean q (Some (Data e u (negsuc 0) 1)) (Data e u (negsuc 0) m) h).order.next_one
  where
    at : (q b : Bool) → b ≡ true → (q && (b && not (int_eq (negsuc 0) (sequence_at (negsuc 0) 1)))) ≡ false → q ≡ false
    at false b e k = refl
    at true true e k = absurd cc
    at true false e k = absurd cc

next_right : (q : Bool) (e : ℤ) (u : Bool) (r s : ℤ) (m : ℕ) (f v : ℤ) → IsNext r s → Accepts q (Some (Data e u r 1)) (Data e u s m)
    → (q && (int_eq e f && not (int_eq v (sequence_at s m)))) ≡ false → (q && (int_eq e f && not (int_eq v (sequence_at r (suc m))))) ≡ false
next_right q e u r s m f v (inl n) g h = subst (λ z. (q && (int_eq e f && not (int_eq v z))) ≡ false) (sequences_on r s m n) h
next_right q e u r s m f v (inr n) g h =
    let k : Accepts q (Some (Data e u (negsuc 0) 1)) (Data e u (negsuc 0) m) = subst (λ z. Accepts q (Some (Data e u (negsuc 0) 1)) (Data e u z m)) n.1 (subst (λ z. Accepts q (Some (Data e u z 1)) (Data e u s m)) n.0 g) in
    ap (λ b. b && (int_eq e f && not (int_eq v (sequence_at r (suc m))))) (no_sequence q e u m k)

-- what may come before the first may come before both, and what may come after the others may come after both
first_accepted : (q : Bool) (before : Option Touch) (e : ℤ) (u : Bool) (r : ℤ) (m n : ℕ) → Accepts q before (Data e u r m) → Accepts q before (Data e u r n)
first_accepted q None e u r m n h =
    let k = is_clean q None (Data e u r m) h in
    is_accepted q None (Data e u r n) (record { order = record { first = k.order.first; next_one = k.order.next_one; zombie = k.order.zombie; bump = k.order.bump }; never_open = k.never_open; mixed = k.mixed; kind = k.kind })
first_accepted q (Some (Data f v t l)) e u r m n h =
    let k = is_clean q (Some (Data f v t l)) (Data e u r m) h in
    is_accepted q (Some (Data f v t l)) (Data e u r n) (record { order = record { first = k.order.first; next_one = k.order.next_one; zombie = k.order.zombie; bump = k.order.bump }; never_open = k.never_open; mixed = k.mixed; kind = k.kind })
first_accepted q (Some (End f l)) e u r m n h =
    let k = is_clean q (Some (End f l)) (Data e u r m) h in
    is_accepted q (Some (End f l)) (Data e u r n) (record { order = record { first = k.order.first; next_one = k.order.next_one; zombie = k.order.zombie; bump = k.order.bump }; never_open = k.never_open; mixed = k.mixed; kind = k.kind })

last_accepted : (q : Bool) (e : ℤ) (u : Bool) (r s : ℤ) (m : ℕ) (next : Touch) → IsNext r s → Accepts q (Some (Data e u r 1)) (Data e u s m) → Accepts q (Some (Data e u s m)) next → Accepts q (Some (Data e u r (suc m))) next
last_accepted q e u r s m (End f l) i g h =
    let k = is_clean q (Some (Data e u s m)) (End f l) h in
    is_accepted q (Some (Data e u r (suc m))) (End f l) (record { order = record { first = k.order.first; next_one = k.order.next_one; zombie = k.order.zombie; bump = k.order.bump }; never_open = k.never_open; mixed = k.mixed; kind = k.kind })
last_accepted q e u r s m (Data f w v l) i g h =
    let k = is_clean q (Some (Data e u s m)) (Data f w v l) h in
    is_accepted q (Some (Data e u r (suc m))) (Data f w v l) (record { order = record { first = k.order.first; next_one = next_right q e u r s m f v i g k.order.next_one; zombie = k.order.zombie; bump = k.order.bump }; never_open = k.never_open; mixed = k.mixed; kind = k.kind })

pub one_for_two : (q : Bool) (before : Option Touch) (e : ℤ) (u : Bool) (r s : ℤ) (m : ℕ) (ts : List Touch) → IsNext r s → EachAfter (Accepts q) before (Data e u r 1 ∷ Data e u s m ∷ ts) → EachAfter (Accepts q) before (Data e u r (suc m) ∷ ts)
one_for_two q before e u r s m [] i h = (first_accepted q before e u r 1 (suc m) h.0, tt)
one_for_two q before e u r s m (t ∷ ts) i h = (first_accepted q before e u r 1 (suc m) h.0, (last_accepted q e u r s m t i h.1.0 h.1.1.0, h.1.1.1))
