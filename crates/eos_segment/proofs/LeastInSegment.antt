-- A fault at the end of what was passed is the least of the segment.
use Rattle.std.proofs.Common.{◌≡◌, ◌≢◌, ℕ, ◌+◌, ◌<◌, ◌≤◌, ◌⊎◌, inl, inr, true, false, List, [], ◌∷◌, ◌++◌, length, Err, refl, sym, ap, subst, ◌∙◌, arith, append_assoc, pos}
use Rattle.eos_batch.specs.declared.batch.Batch.{Batch}
use Rattle.eos_batch.specs.declared.fault.BatchFault.{BatchFault}
use Rattle.eos_batch.specs.Reading.{batch_at}
use Rattle.eos_batch.specs.Segment.{Splits}
use Rattle.eos_touch.specs.declared.fault.PartitionFault.{PartitionFault}
use Rattle.eos_touch.specs.declared.fault.PartitionFaultKind.{PartitionFaultKind}
use Rattle.eos_touch.specs.declared.fault.PartitionFaultKind.TheVariants.{BadBatch, Gap, Pair, End, OpenAtEnd}
use Rattle.eos_touch.specs.FaultNames.{number_of}
use Rattle.eos_batch.specs.Offsets.{offset_of}
use Rattle.eos_touch.specs.Front.{begin_of, next_offset, IsContinuous, IsNext}
use Rattle.eos_segment.specs.ChainFaults.{StandsAtBytes, StandsAtBatch, StandsAfter, Stands, IsLeastFault}
use Rattle.eos_segment.specs.steps.Walks.{MayFollow, EachMayFollow, IsLeastAtBatch}
use Rattle.eos_touch.proofs.BatchReading.{next_is, not_both, nothing_next}
use Rattle.eos_touch.proofs.Continuity.{expects, continuous-cut, records_in-append}
use Rattle.eos_touch.proofs.TouchLists.{append-nil}
use Rattle.eos_touch.proofs.Beginnings.{GoesOn, Compared, compared, splits-counted}

-- a batch that was read is there: no fault of the bytes stands
bytes_read : (bytes : List ℕ) (before : List Batch) (rest : List ℕ) (offset : ℕ) (kind : PartitionFaultKind) (x : Batch) → IsNext rest x → StandsAtBytes bytes before rest offset kind → ⊥
bytes_read bytes before rest offset (BadBatch s y f) x e h = not_both rest x f e h.1
bytes_read bytes before rest offset (Gap f) x e h = h
bytes_read bytes before rest offset (Pair f p) x e h = h
bytes_read bytes before rest offset (End f) x e h = h
bytes_read bytes before rest offset (OpenAtEnd p) x e h = h

-- ---- before the end of what was passed

each-at : (before xs : List Batch) (b : Batch) (ys : List Batch) → EachMayFollow before (xs ++ b ∷ ys) → MayFollow (before ++ xs) b
each-at before [] b ys h = subst (λ (zs : List Batch). MayFollow zs b) (sym (append-nil before)) h.0
each-at before (x ∷ xs) b ys h = subst (λ (zs : List Batch). MayFollow zs b) (simp append_assoc) (each-at (before ++ x ∷ []) xs b ys h.1)

passed_batch : (before : List Batch) (b : Batch) (offset : ℕ) (kind : PartitionFaultKind) → IsContinuous (before ++ b ∷ []) → MayFollow before b → StandsAtBatch before b offset kind → ⊥
passed_batch before b offset (BadBatch s y f) on m h = h
passed_batch before b offset (Gap f) on m h = h.0 on
passed_batch before b offset (Pair f p) on m h = let x : true ≡ false = sym h.4 ∙ m.none p h.2 h.3 f in cc
passed_batch before b offset (End f) on m h = h
passed_batch before b offset (OpenAtEnd p) on m h = h

earlier : (bytes : List ℕ) (front before : List Batch) (rest : List ℕ) (offset : ℕ) (kind : PartitionFaultKind) → IsContinuous front → EachMayFollow [] front → GoesOn before rest front → StandsAfter bytes before rest offset kind → ⊥
earlier bytes front before rest offset kind on each g (inl h) = bytes_read bytes before rest offset kind g.next g.there h
earlier bytes front before rest offset kind on each g (inr h) =
    let same = next_is rest h.0 g.next h.1 g.there in
    let here : StandsAtBatch before g.next offset kind = subst (λ (b : Batch). StandsAtBatch before b offset kind) same h.2 in
    let on2 : IsContinuous (before ++ g.next ∷ g.more) = subst IsContinuous g.parts on in
    let each2 : EachMayFollow [] (before ++ g.next ∷ g.more) = subst (EachMayFollow []) g.parts each in
    passed_batch before g.next offset kind (continuous-cut before g.next g.more on2) (each-at [] before g.next g.more each2) here

-- ---- past its end

-- where there is a batch before, each fault stands at the next offset
stands_next : (bytes : List ℕ) (x : Batch) (xs : List Batch) (rest : List ℕ) (offset : ℕ) (kind : PartitionFaultKind) → StandsAfter bytes (x ∷ xs) rest offset kind → offset ≡ next_offset (x ∷ xs)
stands_next bytes x xs rest offset (BadBatch s y f) (inl h) = h.4
stands_next bytes x xs rest offset (Gap f) (inl h) = absurd h
stands_next bytes x xs rest offset (Pair f p) (inl h) = absurd h
stands_next bytes x xs rest offset (End f) (inl h) = absurd h
stands_next bytes x xs rest offset (OpenAtEnd p) (inl h) = absurd h
stands_next bytes x xs rest offset (BadBatch s y f) (inr h) = absurd h.2
stands_next bytes x xs rest offset (Gap f) (inr h) = h.2.1
stands_next bytes x xs rest offset (Pair f p) (inr h) = h.2.1 ∙ expects (x ∷ xs) h.0 h.2.0
stands_next bytes x xs rest offset (End f) (inr h) = absurd h.2
stands_next bytes x xs rest offset (OpenAtEnd p) (inr h) = absurd h.2

passes : (front : List Batch) (b : Batch) (more : List Batch) → IsContinuous (front ++ b ∷ []) → 1 ≤ length b.records → offset_of b < next_offset (front ++ b ∷ more)
passes [] b more on some = omega arith
passes (x ∷ xs) b more on some = omega (arith, expects (x ∷ xs) b on, records_in-append (x ∷ xs) (b ∷ more))

not_empty : (before front : List Batch) (b : Batch) (more : List Batch) → before ≡ front ++ b ∷ more → (bytes rest : List ℕ) (offset : ℕ) (kind : PartitionFaultKind) → StandsAfter bytes before rest offset kind → offset ≡ next_offset before
not_empty [] [] b more e bytes rest offset kind h = absurd cc
not_empty [] (y ∷ ys) b more e bytes rest offset kind h = absurd cc
not_empty (x ∷ xs) front b more e bytes rest offset kind h = stands_next bytes x xs rest offset kind h

past : (bytes : List ℕ) (front : List Batch) (r : List ℕ) (offset : ℕ) (kind : PartitionFaultKind) (s : Stands bytes offset kind) (g : GoesOn front r s.before) → offset_of g.next < offset
past bytes front r offset kind s g =
    let at = not_empty s.before front g.next g.more g.parts bytes s.rest offset kind s.here in
    let on : IsContinuous (front ++ g.next ∷ g.more) = subst IsContinuous g.parts s.beginning.continuous in
    let counted = splits-counted bytes front g.next g.more s.rest (subst (λ (zs : List Batch). Splits bytes zs s.rest) g.parts s.beginning.texts) in
    let lt = passes front g.next g.more (continuous-cut front g.next g.more on) counted.some in
    let q : next_offset (front ++ g.next ∷ g.more) ≡ offset = ap next_offset (sym g.parts) ∙ sym at in
    omega (arith, lt, q)

-- ---- at the end of what was passed: bytes that are no batch

bad_here : (bytes : List ℕ) (front : List Batch) (r : List ℕ) (segment byte : ℕ) (fault : BatchFault) (offset : ℕ) (kind : PartitionFaultKind) → batch_at r ≡ Err fault → StandsAfter bytes front r offset kind
    → (next_offset front ≡ offset) × (1 ≤ number_of kind)
bad_here bytes front r segment byte fault offset (BadBatch s y f) e (inl h) = (sym h.4, omega arith)
bad_here bytes front r segment byte fault offset (Gap f) e (inl h) = absurd h
bad_here bytes front r segment byte fault offset (Pair f p) e (inl h) = absurd h
bad_here bytes front r segment byte fault offset (End f) e (inl h) = absurd h
bad_here bytes front r segment byte fault offset (OpenAtEnd p) e (inl h) = absurd h
bad_here bytes front r segment byte fault offset kind e (inr h) = absurd (not_both r h.0 fault h.1 e)

pub bad_least : (bytes : List ℕ) (front : List Batch) (r : List ℕ) (batch : BatchFault) (byte : ℕ) (fault : PartitionFault) → Splits bytes front r → IsContinuous front → EachMayFollow [] front
    → batch_at r ≡ Err batch → r ≢ [] → byte + length r ≡ length bytes
    → fault.topic ≡ [] → fault.partition ≡ pos 0 → fault.offset ≡ next_offset front → fault.kind ≡ BadBatch (begin_of front) byte batch → IsLeastFault bytes fault
bad_least bytes front r batch byte fault splits on each e ne place topic partition offset kind = record {
  topic = topic;
  partition = partition;
  stands = record {
    before = front;
    rest = r;
    beginning = record { texts = splits; continuous = on };
    here = inl (subst (StandsAtBytes bytes front r fault.offset) (sym kind) (ne, e, refl, place, offset));
  };
  least = λ o k s. cases o k s (compared bytes s.before s.rest front r s.beginning.texts splits);
}
  where
    cases : (o : ℕ) (k : PartitionFaultKind) (s : Stands bytes o k) → Compared s.before s.rest front r → (fault.offset < o) ⊎ ((fault.offset ≡ o) × (number_of fault.kind ≤ number_of k))
    cases o k s (inl g) = absurd (earlier bytes front s.before s.rest o k on each g s.here)
    cases o k s (inr (inl q)) =
        let h1 : StandsAfter bytes front s.rest o k = subst (λ (zs : List Batch). StandsAfter bytes zs s.rest o k) q.0 s.here in
        let h2 : StandsAfter bytes front r o k = subst (λ (zs : List ℕ). StandsAfter bytes front zs o k) q.1 h1 in
        let b = bad_here bytes front r (begin_of front) byte batch o k e h2 in
        inr (offset ∙ b.0, subst (λ (j : PartitionFaultKind). number_of j ≤ number_of k) (sym kind) b.1)
    cases o k s (inr (inr g)) = absurd (not_both r g.next batch g.there e)

-- ---- and a batch that doesn't go on

at_offset : (before : List Batch) (b : Batch) (offset : ℕ) (kind : PartitionFaultKind) → IsContinuous (before ++ b ∷ []) → StandsAtBatch before b offset kind → offset ≡ offset_of b
at_offset before b offset (BadBatch s y f) on h = absurd h
at_offset before b offset (Gap f) on h = absurd (h.0 on)
at_offset before b offset (Pair f p) on h = h.1
at_offset before b offset (End f) on h = absurd h
at_offset before b offset (OpenAtEnd p) on h = absurd h

same_offset : (before : List Batch) (b : Batch) (o q : ℕ) (j k : PartitionFaultKind) → StandsAtBatch before b o j → StandsAtBatch before b q k → o ≡ q
same_offset before b o q (BadBatch s y f) k h i = absurd h
same_offset before b o q (Gap f) (BadBatch s y g) h i = absurd i
same_offset before b o q (Gap f) (Gap g) h i = h.1 ∙ sym i.1
same_offset before b o q (Gap f) (Pair g p) h i = absurd (h.0 i.0)
same_offset before b o q (Gap f) (End g) h i = absurd i
same_offset before b o q (Gap f) (OpenAtEnd p) h i = absurd i
same_offset before b o q (Pair f p) k h i = h.1 ∙ sym (at_offset before b q k h.0 i)
same_offset before b o q (End f) k h i = absurd h
same_offset before b o q (OpenAtEnd p) k h i = absurd h

pub batch_least : (bytes : List ℕ) (front : List Batch) (r : List ℕ) (b : Batch) (fault : PartitionFault) → Splits bytes front r → IsContinuous front → EachMayFollow [] front
    → IsNext r b → IsLeastAtBatch front b fault → IsLeastFault bytes fault
batch_least bytes front r b fault splits on each e l = record {
  topic = l.topic;
  partition = l.partition;
  stands = record {
    before = front;
    rest = r;
    beginning = record { texts = splits; continuous = on };
    here = inr (b, e, l.stands);
  };
  least = λ o k s. cases o k s (compared bytes s.before s.rest front r s.beginning.texts splits);
}
  where
    here : (o : ℕ) (k : PartitionFaultKind) → StandsAfter bytes front r o k → (fault.offset ≡ o) × (number_of fault.kind ≤ number_of k)
    here o k (inl h) = absurd (bytes_read bytes front r o k b e h)
    here o k (inr h) =
        let same = next_is r h.0 b h.1 e in
        let at : StandsAtBatch front b o k = subst (λ (x : Batch). StandsAtBatch front x o k) same h.2 in
        (same_offset front b fault.offset o fault.kind k l.stands at, l.least o k at)

    cases : (o : ℕ) (k : PartitionFaultKind) (s : Stands bytes o k) → Compared s.before s.rest front r → (fault.offset < o) ⊎ ((fault.offset ≡ o) × (number_of fault.kind ≤ number_of k))
    cases o k s (inl g) = absurd (earlier bytes front s.before s.rest o k on each g s.here)
    cases o k s (inr (inl q)) =
        let h1 : StandsAfter bytes front s.rest o k = subst (λ (zs : List Batch). StandsAfter bytes zs s.rest o k) q.0 s.here in
        let h2 : StandsAfter bytes front r o k = subst (λ (zs : List ℕ). StandsAfter bytes front zs o k) q.1 h1 in
        inr (here o k h2)
    cases o k s (inr (inr g)) =
        let same = next_is r g.next b g.there e in
        let on2 : IsContinuous (front ++ g.next ∷ g.more) = subst IsContinuous g.parts s.beginning.continuous in
        let on3 : IsContinuous (front ++ b ∷ []) = subst (λ (x : Batch). IsContinuous (front ++ x ∷ [])) same (continuous-cut front g.next g.more on2) in
        let lt = past bytes front r o k s g in
        let p : fault.offset ≡ offset_of b = at_offset front b fault.offset fault.kind on3 l.stands in
        let n : offset_of g.next ≡ offset_of b = ap offset_of same in
        inl (omega (arith, lt, p, n))

-- ---- nothing is left

pub none_stands : (bytes : List ℕ) (front : List Batch) → Splits bytes front [] → IsContinuous front → EachMayFollow [] front → (offset : ℕ) (kind : PartitionFaultKind) → Stands bytes offset kind → ⊥
none_stands bytes front splits on each offset kind s = cases (compared bytes s.before s.rest front [] s.beginning.texts splits)
  where
    here : (k : PartitionFaultKind) → StandsAfter bytes front [] offset k → ⊥
    here (BadBatch g y f) (inl h) = h.0 refl
    here (Gap f) (inl h) = h
    here (Pair f p) (inl h) = h
    here (End f) (inl h) = h
    here (OpenAtEnd p) (inl h) = h
    here k (inr h) = nothing_next h.0 h.1

    cases : Compared s.before s.rest front [] → ⊥
    cases (inl g) = earlier bytes front s.before s.rest offset kind on each g s.here
    cases (inr (inl q)) =
        let h1 : StandsAfter bytes front s.rest offset kind = subst (λ (zs : List Batch). StandsAfter bytes zs s.rest offset kind) q.0 s.here in
        here kind (subst (λ (zs : List ℕ). StandsAfter bytes front zs offset kind) q.1 h1)
    cases (inr (inr g)) = nothing_next g.next g.there
