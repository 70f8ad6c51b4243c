-- The least fault of a whole log: at a touch, or else where the front ends.
use Rattle.std.proofs.Common.{◌≡◌, ℕ, ◌<◌, ◌≤◌, ◌⊎◌, inl, inr, Bool, true, false, not, List, Option, Some, None, refl, sym, ap, subst, ◌∙◌, arith, ℤ, pos, ◌≤ℤ◌}
use Rattle.std.specs.Prelude.{unsigned_abs, if◌then◌else◌}
use Rattle.std.specs.Option.{option_map}
use Rattle.std.specs.Ordering.{nat_cmp, int_cmp, int_eq, is_gt, ordering_then}
use Rattle.std.specs.Cmp.{nat_cmp_is}
use Rattle.std.specs.declared.cmp.Ordering.{Ordering}
use Rattle.std.specs.declared.cmp.Ordering.TheVariants.{Less, Equal, Greater}
use Rattle.std.proofs.lemmas.Cmp.{int_ranked}
use Rattle.std.proofs.lemmas.Int.{ints}
use Rattle.std.proofs.lemmas.Bool.Decides.{Decides-int_eq}
use Rattle.eos_base.specs.Least.{UpTo}
use Rattle.eos_batch.specs.declared.batch.Batch.{Batch}
use Rattle.eos_batch.specs.declared.fault.BatchFault.{BatchFault}
use Rattle.eos_evidence.specs.Topics.{is_internal}
use Rattle.eos_touch.specs.declared.pair.PairFault.{PairFault}
use Rattle.eos_touch.specs.Pair as pair
use Rattle.eos_fold.specs.declared.fault.Fault.{Fault}
use Rattle.eos_fold.specs.Faults.{IsLeastOf}
use Rattle.eos_fold.specs.BatchesWhole.{StandsInWhole, IsLeastOpen}
use Rattle.eos_fold.specs.declared.stop.Stop.{Stop}
use Rattle.eos_fold.specs.declared.stop.Stop.TheVariants.{AtEnd, NoBatch, Elsewhere}
use Rattle.eos_touch.specs.declared.fault.PartitionFault.{PartitionFault}
use Rattle.eos_touch.specs.declared.fault.PartitionFaultKind.{PartitionFaultKind}
use Rattle.eos_touch.specs.declared.fault.PartitionFaultKind.TheVariants.{BadBatch, Gap, Pair, End, OpenAtEnd}
use Rattle.eos_touch.specs.FaultNames.{number_of}
use Rattle.eos_touch.specs.Touches.{last_touch}
use Rattle.eos_touch.specs.Front.{records_in}
use Rattle.eos_fold.specs.Standing.{StandsAtTouch, IsOpen, StandsIn, producer_of, fault_cmp, IsPartitionFault}
use Rattle.eos_fold.specs.Stops.{kind_at_stop}
use Rattle.eos_fold.proofs.TouchesInWhole.{pairs_to, pairs_from, open_to, open_from}
use Rattle.eos_fold.proofs.SteadyFronts.{IsSteady, touch_inside, one_id}

-- ---- the order

then_less : (a b : Ordering) → Less ≡ a → is_gt (ordering_then a b) ≡ false
then_less Less b e = refl
then_less Equal b e = absurd cc
then_less Greater b e = absurd cc

then_equal : (a b : Ordering) → Equal ≡ a → is_gt b ≡ false → is_gt (ordering_then a b) ≡ false
then_equal Less b e h = absurd cc
then_equal Equal b e h = h
then_equal Greater b e h = absurd cc

abbrev behind : PartitionFault → PartitionFault → Ordering
behind f g = ordering_then (nat_cmp (number_of f.kind) (number_of g.kind)) (int_cmp (producer_of f.kind) (producer_of g.kind))

by_offset : (f g : PartitionFault) → f.offset < g.offset → UpTo fault_cmp f g
by_offset f g l = then_less (nat_cmp f.offset g.offset) (behind f g) (nat_cmp_is f.offset g.offset Less l)

by_number : (f g : PartitionFault) → f.offset ≡ g.offset → number_of f.kind < number_of g.kind → UpTo fault_cmp f g
by_number f g e l = then_equal (nat_cmp f.offset g.offset) (behind f g) (nat_cmp_is f.offset g.offset Equal e) (then_less (nat_cmp (number_of f.kind) (number_of g.kind)) _ (nat_cmp_is (number_of f.kind) (number_of g.kind) Less l))

up_to : (x y : ℤ) → x ≤ℤ y → is_gt (int_cmp x y) ≡ false
up_to x y l = go (int_cmp x y) refl
  where
    go : (r : Ordering) → r ≡ int_cmp x y → is_gt r ≡ false
    go Less e = refl
    go Equal e = refl
    go Greater e = let g = int_ranked x y Greater e in absurd (omega (arith, ints, g))

by_id : (f g : PartitionFault) → f.offset ≡ g.offset → number_of f.kind ≡ number_of g.kind → producer_of f.kind ≤ℤ producer_of g.kind → UpTo fault_cmp f g
by_id f g e n l = then_equal (nat_cmp f.offset g.offset) (behind f g) (nat_cmp_is f.offset g.offset Equal e) (then_equal (nat_cmp (number_of f.kind) (number_of g.kind)) _ (nat_cmp_is (number_of f.kind) (number_of g.kind) Equal n) (up_to (producer_of f.kind) (producer_of g.kind) l))

module _ (topic : List ℕ) (number end : ℤ) (bs : List Batch) (stop : Stop) (steady : IsSteady 0 bs) where
  abbrev checked : Bool
  checked = not (is_internal topic)

  abbrev fault_of : ℕ → PartitionFaultKind → PartitionFault
  fault_of o k = record { topic = topic; partition = number; offset = o; kind = k }

  -- ---- at a touch

  abbrev this : Fault → PartitionFault
  this f = fault_of f.offset (Pair f.kind f.producer)

  pub at_touch : (f : Fault) → IsLeastOf (StandsInWhole checked bs) (Some f) → IsPartitionFault topic number end bs stop (Some (fault_of f.offset (Pair f.kind f.producer)))
  at_touch f h = record { stands = record { of_topic = refl; of_number = refl; stands = here }; least = λ g s. below g g.kind refl s.stands }
    where
      here : StandsAtTouch checked bs f.offset f.kind f.producer
      here = pairs_to checked f.producer f.offset f.kind bs h.0

      inside : f.offset < records_in bs
      inside = touch_inside checked bs f.offset f.kind f.producer steady here

      before_end : (g : PartitionFault) → g.offset ≡ records_in bs → UpTo fault_cmp (this f) g
      before_end g e = by_offset (this f) g (omega (arith, inside, e))

      pair_below : (g : PartitionFault) (k : PairFault) (p : ℤ) → g.kind ≡ Pair k p → StandsAtTouch checked bs g.offset k p → UpTo fault_cmp (this f) g
      pair_below g k p e t = elim (h.1 g.offset p k (pairs_from checked p g.offset k bs t)) [
        | inl l ↦ by_offset (this f) g l
        | inr r ↦ same_offset r.0 r.1
      ]
        where
          number_is : number_of g.kind ≡ pair.number_of k
          number_is = ap number_of e

          id_is : producer_of g.kind ≡ p
          id_is = ap producer_of e

          same_offset : f.offset ≡ g.offset → pair.number_of f.kind ≤ pair.number_of k → UpTo fault_cmp (this f) g
          same_offset q l = elim (le_cases (pair.number_of f.kind) (pair.number_of k) l) [
            | inl x ↦ by_number (this f) g q (omega (arith, x, number_is))
            | inr x ↦ by_id (this f) g q (x ∙ sym number_is) (
                let one = one_id checked bs f.offset f.kind k f.producer p steady here (subst (λ (o : ℕ). StandsAtTouch checked bs o k p) (sym q) t) in
                omega (arith, ints, one, id_is)
                )
          ]
            where
              le_cases : (m n : ℕ) → m ≤ n → (m < n) ⊎ (m ≡ n)
              le_cases m n l = grind arith

      below : (g : PartitionFault) (k : PartitionFaultKind) → g.kind ≡ k → StandsIn checked end bs stop g.offset k → UpTo fault_cmp (this f) g
      below g (BadBatch s b x) e st = before_end g st.1
      below g (Gap n) e st = before_end g st.1
      below g (Pair k p) e st = pair_below g k p e st
      below g (End n) e st = before_end g st.3
      below g (OpenAtEnd p) e st = before_end g st.2

  -- ---- where the front ends

  abbrev NoPair : Type 0
  NoPair = (o : ℕ) (k : PairFault) (p : ℤ) → StandsAtTouch checked bs o k p → ⊥

  pub no_pair : IsLeastOf (StandsInWhole checked bs) None → NoPair
  no_pair h o k p t = h o p k (pairs_from checked p o k bs t)

  abbrev Only : PartitionFaultKind → Type 0
  Only kind = (o : ℕ) (k : PartitionFaultKind) → StandsIn checked end bs stop o k → (o ≡ records_in bs) × ((number_of kind < number_of k) ⊎ ((number_of kind ≡ number_of k) × (producer_of kind ≤ℤ producer_of k)))

  pub one_kind : (kind : PartitionFaultKind) → StandsIn checked end bs stop (records_in bs) kind → Only kind → IsPartitionFault topic number end bs stop (Some (fault_of (records_in bs) kind))
  one_kind kind st only = record { stands = record { of_topic = refl; of_number = refl; stands = st }; least = λ g s. below g (only g.offset g.kind s.stands) }
    where
      below : (g : PartitionFault) → (g.offset ≡ records_in bs) × ((number_of kind < number_of g.kind) ⊎ ((number_of kind ≡ number_of g.kind) × (producer_of kind ≤ℤ producer_of g.kind))) → UpTo fault_cmp (fault_of (records_in bs) kind) g
      below g h = elim h.1 [ inl l ↦ by_number (fault_of (records_in bs) kind) g (sym h.0) l | inr r ↦ by_id (fault_of (records_in bs) kind) g (sym h.0) r.0 r.1 ]

  not_end-bytes : (s b : ℕ) (x : BatchFault) → AtEnd ≡ NoBatch s b x → ⊥
  not_end-bytes s b x e = cc

  not_end-other : (n : ℕ) → AtEnd ≡ Elsewhere n → ⊥
  not_end-other n e = cc

  not_bytes-other : (s b : ℕ) (x : BatchFault) (n : ℕ) → NoBatch s b x ≡ Elsewhere n → ⊥
  not_bytes-other s b x n e = cc

  at_bytes : NoPair → (s b : ℕ) (x : BatchFault) → stop ≡ NoBatch s b x → Only (BadBatch s b x)
  at_bytes none s b x e o (BadBatch t c y) st = (st.1, inr (refl, omega (arith, ints)))
  at_bytes none s b x e o (Gap n) st = absurd (not_bytes-other s b x n (sym e ∙ st.0))
  at_bytes none s b x e o (Pair k p) st = absurd (none o k p st)
  at_bytes none s b x e o (End n) st = absurd (not_end-bytes s b x (sym st.0 ∙ e))
  at_bytes none s b x e o (OpenAtEnd p) st = absurd (not_end-bytes s b x (sym st.0 ∙ e))

  at_other : NoPair → (n : ℕ) → stop ≡ Elsewhere n → Only (Gap n)
  at_other none n e o (BadBatch t c y) st = absurd (not_bytes-other t c y n (sym st.0 ∙ e))
  at_other none n e o (Gap m) st = (st.1, inr (refl, omega (arith, ints)))
  at_other none n e o (Pair k p) st = absurd (none o k p st)
  at_other none n e o (End m) st = absurd (not_end-other n (sym st.0 ∙ e))
  at_other none n e o (OpenAtEnd p) st = absurd (not_end-other n (sym st.0 ∙ e))

  at_end : NoPair → (n : ℕ) → stop ≡ AtEnd → Only (End n)
  at_end none n e o (BadBatch t c y) st = absurd (not_end-bytes t c y (sym e ∙ st.0))
  at_end none n e o (Gap m) st = absurd (not_end-other m (sym e ∙ st.0))
  at_end none n e o (Pair k p) st = absurd (none o k p st)
  at_end none n e o (End m) st = (st.3, inr (refl, omega (arith, ints)))
  at_end none n e o (OpenAtEnd p) st = (st.2, inl (omega arith))

  at_open : NoPair → (q : ℤ) → stop ≡ AtEnd → pos (records_in bs) ≡ end → ((id : ℤ) → IsOpen (last_touch id bs) → q ≤ℤ id) → Only (OpenAtEnd q)
  at_open none q e is least o (BadBatch t c y) st = absurd (not_end-bytes t c y (sym e ∙ st.0))
  at_open none q e is least o (Gap m) st = absurd (not_end-other m (sym e ∙ st.0))
  at_open none q e is least o (Pair k p) st = absurd (none o k p st)
  at_open none q e is least o (End m) st = absurd (st.1 is)
  at_open none q e is least o (OpenAtEnd p) st = (st.2, inr (refl, least p st.1))

  none_at_end : NoPair → stop ≡ AtEnd → pos (records_in bs) ≡ end → ((id : ℤ) → IsOpen (last_touch id bs) → ⊥) → (o : ℕ) (k : PartitionFaultKind) → StandsIn checked end bs stop o k → ⊥
  none_at_end none e is closed o (BadBatch t c y) st = not_end-bytes t c y (sym e ∙ st.0)
  none_at_end none e is closed o (Gap m) st = not_end-other m (sym e ∙ st.0)
  none_at_end none e is closed o (Pair k p) st = none o k p st
  none_at_end none e is closed o (End m) st = st.1 is
  none_at_end none e is closed o (OpenAtEnd p) st = closed p st.1

  -- the answer, where no pair of touches is at fault
  abbrev placed : Option PartitionFaultKind → Option PartitionFault
  placed None = None
  placed (Some kind) = Some (fault_of (records_in bs) kind)

  pub at_stop : IsLeastOf (StandsInWhole checked bs) None → (left : Option ℤ) → IsLeastOpen bs left → (st : Stop) → stop ≡ st → IsPartitionFault topic number end bs stop (placed (kind_at_stop st (records_in bs) end left))
  at_stop h left o (NoBatch s b x) e = one_kind (BadBatch s b x) (e, refl) (at_bytes (no_pair h) s b x e)
  at_stop h left o (Elsewhere n) e = one_kind (Gap n) (e, refl) (at_other (no_pair h) n e)
  at_stop h left o AtEnd e = by_end (int_eq (pos (records_in bs)) end) refl
    where
      by_open : (left : Option ℤ) → IsLeastOpen bs left → pos (records_in bs) ≡ end → IsPartitionFault topic number end bs stop (placed (option_map OpenAtEnd left))
      by_open None o is = λ g s. none_at_end (no_pair h) e is (λ id t. o id (open_from id bs t)) g.offset g.kind s.stands
      by_open (Some q) o is = one_kind (OpenAtEnd q) (e, open_to q bs o.0, refl) (at_open (no_pair h) q e is (λ id t. o.1 id (open_from id bs t)))

      by_end : (b : Bool) → int_eq (pos (records_in bs)) end ≡ b → IsPartitionFault topic number end bs stop (placed (if b then option_map OpenAtEnd left else Some (End (unsigned_abs end))))
      by_end true q = by_open left o ((Decides-int_eq (pos (records_in bs)) end).0 q)
      by_end false q = one_kind (End (unsigned_abs end)) (e, λ is. differ (sym ((Decides-int_eq (pos (records_in bs)) end).1 is) ∙ q), refl, refl) (at_end (no_pair h) (unsigned_abs end) e)
        where
          differ : true ≡ false → ⊥
          differ z = cc

-- ---- what is answered

same_fault : (r : PartitionFault) (topic : List ℕ) (number : ℤ) (offset : ℕ) (kind : PartitionFaultKind) → r.topic ≡ topic → r.partition ≡ number → r.offset ≡ offset → r.kind ≡ kind → record { topic = topic; partition = number; offset = offset; kind = kind } ≡ r
same_fault r topic number offset kind a b c d =
    ap (λ (x : List ℕ). made x number offset kind) (sym a) ∙ (ap (λ (x : ℤ). made r.topic x offset kind) (sym b) ∙ (ap (λ (x : ℕ). made r.topic r.partition x kind) (sym c) ∙ ap (made r.topic r.partition r.offset) (sym d)))
  where
    made : List ℕ → ℤ → ℕ → PartitionFaultKind → PartitionFault
    made t n o k = record { topic = t; partition = n; offset = o; kind = k }

checks : (topic : List ℕ) (hs : List Batch) (b : Bool) (f : Option Fault) → b ≡ not (is_internal topic) → IsLeastOf (StandsInWhole b hs) f → IsLeastOf (StandsInWhole (not (is_internal topic)) hs) f
checks topic hs b f e h = subst (λ (c : Bool). IsLeastOf (StandsInWhole c hs) f) e h

module _ (topic : List ℕ) (number end : ℤ) (bs : List Batch) (stop : Stop) (sequenced : Bool) (front : IsSteady 0 bs) (checked : sequenced ≡ not (is_internal topic)) where
  pub touch_answer : (f : Fault) (r : PartitionFault) → IsLeastOf (StandsInWhole sequenced bs) (Some f)
      → r.topic ≡ topic → r.partition ≡ number → r.offset ≡ f.offset → r.kind ≡ Pair f.kind f.producer → IsPartitionFault topic number end bs stop (Some r)
  touch_answer f r h a b c d =
      subst (λ (x : PartitionFault). IsPartitionFault topic number end bs stop (Some x)) (same_fault r topic number f.offset (Pair f.kind f.producer) a b c d)
      (at_touch topic number end bs stop front f (checks topic bs sequenced (Some f) checked h))

  stop_answer : (next : ℕ) (left : Option ℤ) (kind : Option PartitionFaultKind) → IsLeastOf (StandsInWhole sequenced bs) None → IsLeastOpen bs left → next ≡ records_in bs
      → kind ≡ kind_at_stop stop next end left → IsPartitionFault topic number end bs stop (placed topic number end bs stop front kind)
  stop_answer next left kind h o n e =
      let same : kind_at_stop stop (records_in bs) end left ≡ kind = ap (λ (m : ℕ). kind_at_stop stop m end left) (sym n) ∙ sym e in
      subst (λ (k : Option PartitionFaultKind). IsPartitionFault topic number end bs stop (placed topic number end bs stop front k)) same
      (at_stop topic number end bs stop front (checks topic bs sequenced None checked h) left o stop refl)

  pub kind_answer : (next : ℕ) (left : Option ℤ) (kind : PartitionFaultKind) (r : PartitionFault) → IsLeastOf (StandsInWhole sequenced bs) None → IsLeastOpen bs left → next ≡ records_in bs
      → Some kind ≡ kind_at_stop stop next end left → r.topic ≡ topic → r.partition ≡ number → r.offset ≡ next → r.kind ≡ kind → IsPartitionFault topic number end bs stop (Some r)
  kind_answer next left kind r h o n e a b c d =
      subst (λ (x : PartitionFault). IsPartitionFault topic number end bs stop (Some x)) (same_fault r topic number (records_in bs) kind a b (c ∙ n) d)
      (stop_answer next left (Some kind) h o n e)

  pub none_answer : (next : ℕ) (left : Option ℤ) → IsLeastOf (StandsInWhole sequenced bs) None → IsLeastOpen bs left → next ≡ records_in bs
      → None ≡ kind_at_stop stop next end left → IsPartitionFault topic number end bs stop None
  none_answer next left h o n e = stop_answer next left None h o n e
