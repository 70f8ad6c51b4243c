-- Atomic exactly where no fault of the matching stands.
use Rattle.std.proofs.Common.{◌≡◌, ◌<◌, ◌≤◌, ℕ, zero, suc, ℤ, List, [], ◌∷◌, length, Some, None, refl, sym, subst, ◌∙◌, inl, inr, true, false, Bool, cond, arith}
use Rattle.std.specs.Prelude.{slice_get}
use Rattle.std.specs.List.{filter}
use Rattle.std.specs.Ordering.{int_eq}
use Rattle.std.proofs.lemmas.Bool.{and_parts}
use Rattle.std.proofs.lemmas.Bool.Decides.{Decides-int_eq}
use Rattle.eos_base.specs.declared.partition_name.PartitionName.{PartitionName}
use Rattle.eos_base.specs.Members.{Has}
use Rattle.eos_base.specs.steps.Decided.{Decided}
use Rattle.eos_base.specs.Least.{NoneStands}
use Rattle.eos_base.proofs.Decides.{both, find_or, has_decided}
use Rattle.eos_base.proofs.Membership.{has_filter, filter_has}
use Rattle.eos_batch.specs.declared.marker.Marker.{Marker}
use Rattle.eos_txnlog.specs.declared.decision.Decision.{Decision}
use Rattle.eos_fold.specs.declared.close.Close.{Close}
use Rattle.eos_fold.specs.Parts.{part_name, PartLog}
use Rattle.eos_verdict.specs.declared.match_fault.MatchFault.{MatchFault}
use Rattle.eos_verdict.specs.declared.match_fault.MatchFaultKind.{MatchFaultKind}
use Rattle.eos_verdict.specs.declared.match_fault.MatchFaultKind.TheVariants.{TwiceDecided, Undecided, WrongKind, NotListed, StrayMarker, AbsentPartition, MissingMarker}
use Rattle.eos_txnlog.specs.PartitionSets.{names_of}
use Rattle.eos_table.specs.Atomic.{IsOf, EndsAs, Ends, AreOfOne, NoTwo, Atomic}
use Rattle.eos_table.specs.MatchFaults.{is_of, deciders, AtData, AtListed, StandsAs, Stands}
use Rattle.eos_table.proofs.MatchDecides.{name_decided, ends_as_decided, ends_decided}

-- ---- two members that a test accepts

pub one_at : {X : Type 0} (p : X → Bool) (xs : List X) (j : ℕ) (e : X) → slice_get xs j ≡ Some e → p e ≡ true → 1 ≤ length (filter p xs)
one_at p [] j e g t = absurd cc
one_at {X} p (y ∷ ys) zero e g t = let q : p y ≡ true = first y e g t in rw q (omega arith)
  where
    first : (y e : X) → Some y ≡ Some e → p e ≡ true → p y ≡ true
    first y e g t = cc
one_at p (y ∷ ys) (suc j) e g t = elim (p y) as (λ b. 1 ≤ length (cond b (y ∷ filter p ys) (filter p ys))) [ true ↦ omega arith | false ↦ one_at p ys j e g t ]

pub two_at : {X : Type 0} (p : X → Bool) (xs : List X) (i j : ℕ) (d e : X) → i < j → slice_get xs i ≡ Some d → slice_get xs j ≡ Some e → p d ≡ true → p e ≡ true → 2 ≤ length (filter p xs)
two_at p [] i j d e lt g h s t = absurd cc
two_at p (y ∷ ys) i zero d e lt g h s t = absurd (omega arith)
two_at {X} p (y ∷ ys) zero (suc j) d e lt g h s t = let q : p y ≡ true = first y d g s in let one = one_at p ys j e h t in rw q (omega (arith, one))
  where
    first : (y e : X) → Some y ≡ Some e → p e ≡ true → p y ≡ true
    first y e g t = cc
two_at p (y ∷ ys) (suc i) (suc j) d e lt g h s t =
    let two = two_at p ys i j d e (omega arith) g h s t in
    elim (p y) as (λ b. 2 ≤ length (cond b (y ∷ filter p ys) (filter p ys))) [ true ↦ omega (arith, two) | false ↦ two ]

pub at_one : {X : Type 0} (p : X → Bool) (xs : List X) → 1 ≤ length (filter p xs) → (j : ℕ) × (e : X) × (slice_get xs j ≡ Some e) × (p e ≡ true)
at_one p [] h = absurd (omega arith)
at_one p (y ∷ ys) h = elim (p y) as (λ b. p y ≡ b → 1 ≤ length (cond b (y ∷ filter p ys) (filter p ys)) → (j : ℕ) × (e : _) × (slice_get (y ∷ ys) j ≡ Some e) × (p e ≡ true)) [
  | true ↦ λ q k. (0, y, refl, q)
  | false ↦ λ q k. let r = at_one p ys k in (suc r.0, r.1, r.2, r.3)
] refl h

pub at_two : {X : Type 0} (p : X → Bool) (xs : List X) → 2 ≤ length (filter p xs) → (i : ℕ) × (j : ℕ) × (d : X) × (e : X) × (i < j) × (slice_get xs i ≡ Some d) × (slice_get xs j ≡ Some e) × (p d ≡ true) × (p e ≡ true)
at_two p [] h = absurd (omega arith)
at_two {X} p (y ∷ ys) h = elim (p y) as (λ b. p y ≡ b → 2 ≤ length (cond b (y ∷ filter p ys) (filter p ys)) → (i : ℕ) × (j : ℕ) × (d : X) × (e : X) × (i < j) × (slice_get (y ∷ ys) i ≡ Some d) × (slice_get (y ∷ ys) j ≡ Some e) × (p d ≡ true) × (p e ≡ true)) [
  | true ↦ λ q k. let r = at_one p ys (omega arith) in (0, suc r.0, y, r.1, omega arith, refl, r.2, q, r.3)
  | false ↦ λ q k. let r = at_two p ys k in (suc r.0, suc r.1, r.2, r.3, omega (arith, r.4), r.5, r.6, r.7, r.8)
] refl h

-- ---- deciders

pub is_of_true : (d : Decision) (producer epoch : ℤ) → d.producer ≡ producer → d.epoch ≡ epoch → is_of producer epoch d ≡ true
is_of_true d producer epoch p e =
    let a : int_eq d.producer producer ≡ true = (Decides-int_eq d.producer producer).1 p in
    let b : int_eq d.epoch epoch ≡ true = (Decides-int_eq d.epoch epoch).1 e in
    rw (a, b) refl

pub true_is_of : (d : Decision) (producer epoch : ℤ) → is_of producer epoch d ≡ true → (d.producer ≡ producer) × (d.epoch ≡ epoch)
true_is_of d producer epoch t =
    let a = and_parts (int_eq d.producer producer) (int_eq d.epoch epoch) t in
    ((Decides-int_eq d.producer producer).0 a.0, (Decides-int_eq d.epoch epoch).0 a.1)

pub among : (ds : List Decision) (d : Decision) (producer epoch : ℤ) → Has ds d → d.producer ≡ producer → d.epoch ≡ epoch → Has (deciders ds producer epoch) d
among ds d producer epoch h p e = has_filter (is_of producer epoch) ds d h (is_of_true d producer epoch p e)

pub none_among : (ds : List Decision) (d : Decision) (producer epoch : ℤ) → deciders ds producer epoch ≡ [] → Has ds d → d.producer ≡ producer → d.epoch ≡ epoch → ⊥
none_among ds d producer epoch none h p e = subst (λ xs. Has xs d) none (among ds d producer epoch h p e)

pub one_among : (ds : List Decision) (d e : Decision) (producer epoch : ℤ) → deciders ds producer epoch ≡ d ∷ [] → Has ds e → e.producer ≡ producer → e.epoch ≡ epoch → d ≡ e
one_among ds d e producer epoch one h p q = only (subst (λ xs. Has xs e) one (among ds e producer epoch h p q))
  where
    only : Has (d ∷ []) e → d ≡ e
    only (inl r) = r
    only (inr r) = absurd r

-- one that a test accepts
some_has : {X : Type 0} (p : X → Bool) (xs : List X) → 1 ≤ length (filter p xs) → (x : X) × Has xs x × (p x ≡ true)
some_has p xs h = go (filter p xs) refl h
  where
    go : (ys : List _) → filter p xs ≡ ys → 1 ≤ length ys → (x : _) × Has xs x × (p x ≡ true)
    go [] e h = absurd (omega arith)
    go (y ∷ ys) e h = let r = filter_has p xs y (subst (λ zs. Has zs y) (sym e) (inl refl)) in (y, r.0, r.1)

-- no two of one producer id and data epoch
not_two : (producer epoch : ℤ) (ds : List Decision) → NoTwo AreOfOne ds → 2 ≤ length (deciders ds producer epoch) → ⊥
not_two producer epoch [] once two = absurd (omega arith)
not_two producer epoch (d ∷ ds) once two = go (not_two producer epoch ds once.1) (is_of producer epoch d) refl two
  where
    go : (2 ≤ length (deciders ds producer epoch) → ⊥) → (b : Bool) → is_of producer epoch d ≡ b → 2 ≤ length (cond b (d ∷ deciders ds producer epoch) (deciders ds producer epoch)) → ⊥
    go later true q two =
        let r = some_has (is_of producer epoch) ds (omega arith) in
        let a = true_is_of d producer epoch q in
        let b = true_is_of r.0 producer epoch r.2 in
        once.0 r.0 r.1 (record { producer = a.0 ∙ sym b.0; epoch = a.1 ∙ sym b.1 })
    go later false q two = later two

has_one : {X : Type 0} (xs : List X) (x : X) → Has xs x → 1 ≤ length xs
has_one [] x h = absurd h
has_one (y ∷ ys) x h = omega arith

pub once_from : (ds : List Decision) → ((producer epoch : ℤ) → 2 ≤ length (deciders ds producer epoch) → ⊥) → NoTwo AreOfOne ds
once_from [] none = tt
once_from (d ∷ ds) none = (first, once_from ds later)
  where
    first : (e : Decision) → Has ds e → AreOfOne d e → ⊥
    first e h same =
        let q : is_of d.producer d.epoch d ≡ true = is_of_true d d.producer d.epoch refl refl in
        let one = has_one (deciders ds d.producer d.epoch) e (has_filter (is_of d.producer d.epoch) ds e h (is_of_true e d.producer d.epoch (sym same.producer) (sym same.epoch))) in
        none d.producer d.epoch (rw q (omega (arith, one)))

    later : (producer epoch : ℤ) → 2 ≤ length (deciders ds producer epoch) → ⊥
    later producer epoch two = none producer epoch (more (is_of producer epoch d) two)
      where
        more : (b : Bool) → 2 ≤ length (deciders ds producer epoch) → 2 ≤ length (cond b (d ∷ deciders ds producer epoch) (deciders ds producer epoch))
        more true two = omega arith
        more false two = two

-- ---- where all is atomic no fault stands

refuted : (ds : List Decision) (ps : List PartLog) → Atomic ds ps → (f : MatchFault) (k : MatchFaultKind) → StandsAs ds ps f k → ⊥
refuted ds ps a f TwiceDecided s = not_two f.producer f.epoch ds a.once s.0
refuted ds ps a f Undecided s =
    let r = a.decided s.0.part s.0.close s.0.has_part s.0.has_close in
    none_among ds r.0 f.producer f.epoch s.1 r.1 (r.2.producer ∙ s.0.producer) (r.2.epoch ∙ s.0.epoch)
refuted ds ps a f WrongKind s =
    let r = a.decided s.0.part s.0.close s.0.has_part s.0.has_close in
    let same = one_among ds s.1 r.0 f.producer f.epoch s.2 r.1 (r.2.producer ∙ s.0.producer) (r.2.epoch ∙ s.0.epoch) in
    s.3 (subst (λ d. EndsAs d s.0.close) (sym same) r.3)
refuted ds ps a f NotListed s =
    let r = a.decided s.0.part s.0.close s.0.has_part s.0.has_close in
    let same = one_among ds s.1 r.0 f.producer f.epoch s.2 r.1 (r.2.producer ∙ s.0.producer) (r.2.epoch ∙ s.0.epoch) in
    s.3 (subst (λ (d : Decision). Has (names_of d.partitions) (part_name s.0.part)) (sym same) r.4)
refuted ds ps a f StrayMarker s =
    let r = a.no_stray s.0.part s.0.marker s.0.has_part s.0.has_marker in
    s.1 r.0 r.1 r.2 r.3
refuted ds ps a f AbsentPartition s =
    let r = a.marked s.0.decision s.0.name s.0.has_decision s.0.has_name in
    s.1 r.0 r.1 r.2
refuted ds ps a f MissingMarker s =
    let r = a.marked s.0.decision s.0.name s.0.has_decision s.0.has_name in
    s.4 r.0 r.3 r.1 r.2 r.4 r.5

-- ---- where no fault stands all is atomic

decided_from : (ds : List Decision) (ps : List PartLog) → NoneStands (Stands ds ps) → (p : PartLog) (c : Close) → Has ps p → Has p.closes c → (xs : List Decision) → deciders ds c.producer c.epoch ≡ xs
    → (d : Decision) × Has ds d × IsOf d c × EndsAs d c × Has (names_of d.partitions) (part_name p)
decided_from ds ps none p c hp hc [] e = absurd (none (record { producer = c.producer; epoch = c.epoch; kind = Undecided; partition = Some (part_name p) })
    (record { part = p; close = c; has_part = hp; has_close = hc; producer = refl; epoch = refl; partition = refl }, e))
decided_from ds ps none p c hp hc (d ∷ x ∷ xs) e =
    let two : 2 ≤ length (deciders ds c.producer c.epoch) = rw e (omega arith) in
    absurd (none (record { producer = c.producer; epoch = c.epoch; kind = TwiceDecided; partition = None }) (two, refl))
decided_from ds ps none p c hp hc (d ∷ []) e =
    let f = filter_has (is_of c.producer c.epoch) ds d (subst (λ xs. Has xs d) (sym e) (inl refl)) in
    let of = true_is_of d c.producer c.epoch f.1 in
    let at : (k : MatchFaultKind) → AtData ps (record { producer = c.producer; epoch = c.epoch; kind = k; partition = Some (part_name p) }) =
    λ k. record { part = p; close = c; has_part = hp; has_close = hc; producer = refl; epoch = refl; partition = refl } in (
      d,
      f.0,
      record { producer = of.0; epoch = of.1 },
      elim (ends_as_decided d c) [
        | inl y ↦ y
        | inr n ↦ absurd (none (record { producer = c.producer; epoch = c.epoch; kind = WrongKind; partition = Some (part_name p) }) (at WrongKind, d, e, n))
      ],
      elim (has_decided name_decided (names_of d.partitions) (part_name p)) [
        | inl y ↦ y
        | inr n ↦ absurd (none (record { producer = c.producer; epoch = c.epoch; kind = NotListed; partition = Some (part_name p) }) (at NotListed, d, e, n))
      ],
    )

marker_decided : (d : Decision) (ms : List Marker) → Decided ((m : Marker) × Has ms m × Ends d m)
marker_decided d ms = elim (find_or (Ends d) (ends_decided d) ms) [
  | inl r ↦ inl (r.0, r.1, r.2)
  | inr n ↦ inr (λ r. n r.0 r.1 r.2)
]

marked_from : (ds : List Decision) (ps : List PartLog) → NoneStands (Stands ds ps) → (d : Decision) (n : PartitionName) → Has ds d → Has (names_of d.partitions) n
    → (p : PartLog) × Has ps p × ((part_name p) ≡ n) × (m : Marker) × Has p.markers m × Ends d m
marked_from ds ps none d n hd hn =
    let at : (k : MatchFaultKind) → AtListed ds (record { producer = d.producer; epoch = d.epoch; kind = k; partition = Some n }) =
    λ k. record { decision = d; name = n; has_decision = hd; has_name = hn; producer = refl; epoch = refl; partition = refl } in
    elim (find_or (λ (p : PartLog). ((part_name p) ≡ n) × ((m : Marker) × Has p.markers m × Ends d m)) (λ p. both (name_decided (part_name p) n) (marker_decided d p.markers)) ps) [
      | inl r ↦ (r.0, r.1, r.2.0, r.2.1.0, r.2.1.1, r.2.1.2)
      | inr nope ↦ elim (find_or (λ (p : PartLog). (part_name p) ≡ n) (λ p. name_decided (part_name p) n) ps) [
        | inl q ↦ absurd (none (record { producer = d.producer; epoch = d.epoch; kind = MissingMarker; partition = Some n })
            (at MissingMarker, q.0, q.1, q.2, λ p m hp same hm ends. nope p hp (same, (m, hm, ends))))
        | inr absent ↦ absurd (none (record { producer = d.producer; epoch = d.epoch; kind = AbsentPartition; partition = Some n }) (at AbsentPartition, absent))
      ]
    ]

no_stray_from : (ds : List Decision) (ps : List PartLog) → NoneStands (Stands ds ps) → (p : PartLog) (m : Marker) → Has ps p → Has p.markers m
    → (d : Decision) × Has ds d × Ends d m × Has (names_of d.partitions) (part_name p)
no_stray_from ds ps none p m hp hm =
    elim (find_or (λ (d : Decision). Ends d m × Has (names_of d.partitions) (part_name p)) (λ d. both (ends_decided d m) (has_decided name_decided (names_of d.partitions) (part_name p))) ds) [
      | inl r ↦ (r.0, r.1, r.2.0, r.2.1)
      | inr nope ↦ absurd (none (record { producer = m.producer; epoch = m.epoch; kind = StrayMarker; partition = Some (part_name p) })
          (record { part = p; marker = m; has_part = hp; has_marker = hm; producer = refl; epoch = refl; partition = refl }, λ d hd e l. nope d hd (e, l)))
    ]

pub law : (ds : List Decision) (ps : List PartLog) → (Atomic ds ps → NoneStands (Stands ds ps)) × (NoneStands (Stands ds ps) → Atomic ds ps)
law ds ps = (
  λ a f s. refuted ds ps a f f.kind s,
  λ none. record {
    once = once_from ds (λ producer epoch two. none (record { producer = producer; epoch = epoch; kind = TwiceDecided; partition = None }) (two, refl));
    decided = λ p c hp hc. decided_from ds ps none p c hp hc (deciders ds c.producer c.epoch) refl;
    marked = marked_from ds ps none;
    no_stray = no_stray_from ds ps none;
  },
)
