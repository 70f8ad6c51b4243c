-- The outputs are exact where no fault of them stands.
use Rattle.std.proofs.Common.{◌≡◌, ◌≢◌, ℕ, zero, suc, ◌≤◌, ◌<◌, ℤ, pos, ◌≤ℤ◌, ◌<ℤ◌, List, [], ◌∷◌, Option, Some, None, refl, sym, subst, ap, ◌∙◌, inl, inr, ◌⊎◌, true, false, arith}
use Rattle.std.specs.Prelude.{int_lt}
use Rattle.std.specs.Ordering.{is_gt, ordering_reverse}
use Rattle.std.specs.declared.cmp.Ordering.{Ordering}
use Rattle.std.specs.declared.cmp.Ordering.TheVariants.{Less, Equal, Greater}
use Rattle.std.proofs.lemmas.Bool.{cases_lt}
use Rattle.std.proofs.lemmas.Int.{ints}
use Rattle.std.proofs.lemmas.Cmp.{upto, tied_itself}
use Rattle.eos_base.specs.declared.partition_name.PartitionName.{PartitionName}
use Rattle.eos_base.specs.Members.{Has}
use Rattle.eos_base.specs.steps.Decided.{Decided}
use Rattle.eos_base.specs.Least.{UpTo, NoneStands}
use Rattle.eos_base.proofs.Decides.{both, from_both, nat_decided, int_decided, bytes_decided, has_decided, find_or}
use Rattle.eos_base.proofs.LeastOf.{upto_itself, other_way}
use Rattle.eos_claims.specs.declared.place.Place.{Place}
use Rattle.eos_claims.specs.declared.fault.OutputFault.{OutputFault}
use Rattle.eos_claims.specs.declared.fault.OutputKind.{OutputKind}
use Rattle.eos_claims.specs.declared.fault.OutputKind.TheVariants.{ForeignSource, NoSuchInput, Early, CountDisagrees, NumberRange, Repeated, Missing, OtherTransaction}
use Rattle.eos_claims.specs.Outputs.{Writer, PlacedClaim, Commit, Application, ReadsSources, committed_offset, IsBelow, Names, Numbered, Noted, IsPassed, Exact}
use Rattle.eos_claims.specs.Faults.{place_cmp, number_cmp, IsLeastClaim, AtClaim, IsOutOfRange, StandsAs, Stands}
use Rattle.eos_claims.proofs.FaultOrder.{place_is, place_exact, place_total, number_total}

-- ---- decisions

abbrev name_from : List ℕ → ℤ → PartitionName
name_from t n = record { topic = t; partition = n }

name_decided : (a b : PartitionName) → Decided (a ≡ b)
name_decided a b = from_both (λ (h : (a.topic ≡ b.topic) × (a.partition ≡ b.partition)). ap (λ t. name_from t a.partition) h.0 ∙ ap (name_from b.topic) h.1)
    (λ (e : a ≡ b). (ap (λ n. n.topic) e, ap (λ n. n.partition) e))
    (both (bytes_decided a.topic b.topic) (int_decided a.partition b.partition))

pub place_decided : (a b : Place) → Decided (a ≡ b)
place_decided a b = from_both (λ (h : (a.partition ≡ b.partition) × (a.offset ≡ b.offset)). place_is a b h.0 h.1)
    (λ (e : a ≡ b). (ap (λ n. n.partition) e, ap (λ n. n.offset) e))
    (both (name_decided a.partition b.partition) (nat_decided a.offset b.offset))

pub int_less_or : (a b : ℤ) → (a <ℤ b) ⊎ (b ≤ℤ a)
int_less_or a b = elim (int_lt a b) as (λ t. int_lt a b ≡ t → (a <ℤ b) ⊎ (b ≤ℤ a)) [
  | true ↦ λ q. inl (grind (arith, ints))
  | false ↦ λ q. inr (grind (arith, ints))
] refl

pub nat_less_or : (a b : ℕ) → (a < b) ⊎ (b ≤ a)
nat_less_or a b = elim (cases_lt a b) [ inl l ↦ inl l | inr g ↦ inr (omega arith) ]

writer_decided : (a b : Option Writer) → Decided (a ≡ b)
writer_decided None None = inl refl
writer_decided None (Some b) = inr (λ e. cc)
writer_decided (Some a) None = inr (λ e. cc)
writer_decided (Some a) (Some b) = from_both (λ (h : (a.0 ≡ b.0) × (a.1 ≡ b.1)). joined a.0 a.1 b.0 b.1 h.0 h.1) (λ (e : Some a ≡ Some b). parts a b e)
    (both (int_decided a.0 b.0) (int_decided a.1 b.1))
  where
    pair : ℤ → ℤ → Option Writer
    pair p e = Some (p, e)

    joined : (a b c d : ℤ) → a ≡ c → b ≡ d → pair a b ≡ pair c d
    joined a b c d p q = ap (λ x. pair x b) p ∙ ap (pair c) q

    parts : (a b : Writer) → Some a ≡ Some b → (a.0 ≡ b.0) × (a.1 ≡ b.1)
    parts a b e = let q : a ≡ b = cc in (ap (λ w. w.0) q, ap (λ w. w.1) q)

-- a commit of this writer past the input
record Passes (c : PlacedClaim) (w : Writer) (m : Commit) : Type 0 where
  same : m.writer ≡ Some w
  partition : m.partition ≡ c.source.partition
  past : pos c.source.offset <ℤ m.offset

passed_decided : (a : Application) (c : PlacedClaim) → Decided (IsPassed a c)
passed_decided a c = go c.writer refl
  where
    inside : (v w : Writer) → Some v ≡ Some w → v ≡ w
    inside v w e = cc

    go : (o : Option Writer) → c.writer ≡ o → Decided (IsPassed a c)
    go None e = inr (λ h. let q = sym e ∙ h.transactional in absurd cc)
    go (Some w) e = elim (find_or (Passes c w) (λ m. passes m) a.commits) [
      | inl r ↦ inl (record { writer = w; transactional = e; commit = r.0; has = r.1; same = r.2.same; partition = r.2.partition; past = r.2.past })
      | inr n ↦ inr (λ h. n h.commit h.has (subst (λ v. Passes c v h.commit) (inside h.writer w (sym h.transactional ∙ e)) (record { same = h.same; partition = h.partition; past = h.past })))
    ]
      where
        past : (m : Commit) → Decided (pos c.source.offset <ℤ m.offset)
        past m = elim (int_less_or (pos c.source.offset) m.offset) [ inl l ↦ inl l | inr g ↦ inr (λ l. absurd (omega (arith, ints))) ]

        passes : (m : Commit) → Decided (Passes c w m)
        passes m = from_both (λ (h : (m.writer ≡ Some w) × ((m.partition ≡ c.source.partition) × (pos c.source.offset <ℤ m.offset))). record { same = h.0; partition = h.1.0; past = h.1.1 })
            (λ (h : Passes c w m). (h.same, (h.partition, h.past)))
            (both (writer_decided m.writer (Some w)) (both (name_decided m.partition c.source.partition) (past m)))

-- ---- the least claim of a source

abbrev LeastIn : List PlacedClaim → Place → PlacedClaim → Type 0
LeastIn cs i c = Has cs c × (c.source ≡ i) × ((d : PlacedClaim) → Has cs d → d.source ≡ i → UpTo number_cmp c d)

least_in : (cs : List PlacedClaim) (i : Place) → ((c : PlacedClaim) × LeastIn cs i c) ⊎ ((c : PlacedClaim) → Has cs c → c.source ≡ i → ⊥)
least_in [] i = inr (λ c h e. h)
least_in (y ∷ ys) i = elim (place_decided y.source i) [
  | inl here ↦ elim (least_in ys i) [
    | inl r ↦ elim (is_gt (number_cmp y r.0)) as (λ t. is_gt (number_cmp y r.0) ≡ t → ((c : PlacedClaim) × LeastIn (y ∷ ys) i c) ⊎ ((c : PlacedClaim) → Has (y ∷ ys) c → c.source ≡ i → ⊥)) [
      | true ↦ λ q. inl (r.0, (inr r.1.0, r.1.1, λ d h e. elim h [ inl s ↦ subst (λ z. UpTo number_cmp r.0 z) s (other_way number_total y r.0 q) | inr k ↦ r.1.2 d k e ]))
      | false ↦ λ q. inl (y, (inl refl, here, λ d h e. elim h [ inl s ↦ subst (λ z. UpTo number_cmp y z) s (upto_itself number_total y) | inr k ↦ upto number_total y r.0 d q (r.1.2 d k e) ]))
    ] refl
    | inr none ↦ inl (y, (inl refl, here, λ d h e. elim h [ inl s ↦ subst (λ z. UpTo number_cmp y z) s (upto_itself number_total y) | inr k ↦ absurd (none d k e) ]))
  ]
  | inr other ↦ elim (least_in ys i) [
    | inl r ↦ inl (r.0, (inr r.1.0, r.1.1, λ d h e. elim h [ inl s ↦ absurd (other (subst (λ (z : PlacedClaim). z.source ≡ i) (sym s) e)) | inr k ↦ r.1.2 d k e ]))
    | inr none ↦ inr (λ d h e. elim h [ inl s ↦ other (subst (λ (z : PlacedClaim). z.source ≡ i) (sym s) e) | inr k ↦ none d k e ])
  ]
]

pub least_claim : (a : Application) (i : Place) → ((c : PlacedClaim) × IsLeastClaim a i c) ⊎ ((c : PlacedClaim) → Names a i c → ⊥)
least_claim a i = elim (least_in a.claims i) [
  | inl r ↦ inl (r.0, record { names = record { has = r.1.0; source = r.1.1 }; least = λ d n. r.1.2 d n.has n.source })
  | inr none ↦ inr (λ c n. none c n.has n.source)
]

-- ---- where the outputs are exact no fault stands

names_at : (a : Application) (f : OutputFault) (at : AtClaim a f) → Names a f.source at.claim
names_at a f at = record { has = at.has; source = at.source }

below_at : (a : Application) → Exact a → (f : OutputFault) (at : AtClaim a f) → IsBelow a f.source
below_at a x f at = subst (IsBelow a) at.source (x.named at.claim at.has)

-- what the claims of an input that has them right have in common
record Agree (a : Application) (i : Place) : Type 0 where
  of : (c d : PlacedClaim) → Names a i c → Names a i d → c.of ≡ d.of
  range : (c : PlacedClaim) → Names a i c → IsOutOfRange c.of c.output → ⊥
  once : (c d : PlacedClaim) → Names a i c → Names a i d → c.output ≡ d.output → c.at ≡ d.at
  some : (c : PlacedClaim) × Names a i c
  each : (c : PlacedClaim) → Names a i c → (k : ℕ) → 1 ≤ k → k ≤ c.of → (d : PlacedClaim) × Names a i d × (d.output ≡ k)

agree : (a : Application) (i : Place) → ((n : ℕ) × Numbered a i n) ⊎ Noted a i → Agree a i
agree a i (inl (n, m)) = record {
  of = λ c d h k. (m.within c h).0 ∙ sym (m.within d k).0;
  range = λ c h out. let w = m.within c h in let one = m.some in inside c.of c.output n one w.0 w.1 w.2 out;
  once = m.once;
  some = let r = m.each 1 (omega arith) m.some in (r.0, r.1);
  each = λ c h k low high. m.each k low (subst (λ z. k ≤ z) (m.within c h).0 high);
}
  where
    inside : (of k n : ℕ) → 1 ≤ n → of ≡ n → 1 ≤ k → k ≤ n → IsOutOfRange of k → ⊥
    inside of k n one e low high (inl h) = let z = h.0 in omega (arith, z)
    inside of k n one e low high (inr (_, inl h)) = omega (arith, h)
    inside of k n one e low high (inr (_, inr h)) = omega (arith, h)
agree a i (inr m) = record {
  of = λ c d h k. (m.zero c h).1 ∙ sym (m.zero d k).1;
  range = λ c h out. let w = m.zero c h in note c.of c.output w.1 w.0 out;
  once = λ c d h k e. m.once c d h k;
  some = (m.note.0, m.note.1);
  each = λ c h k low high. let z = (m.zero c h).1 in absurd (omega (arith, z, low, high));
}
  where
    note : (of k : ℕ) → of ≡ 0 → k ≡ 0 → IsOutOfRange of k → ⊥
    note of k e z (inl h) = let o = h.1 in omega (arith, o)
    note of k e z (inr h) = let o = h.0 in omega (arith, o)

refuted : (a : Application) → ReadsSources a → Exact a → (f : OutputFault) (k : OutputKind) → StandsAs a f k → ⊥
refuted a reads x f ForeignSource s = s.1 (reads f.source (below_at a x f s.0).input)
refuted a reads x f NoSuchInput s = s.2 (below_at a x f s.0).input
refuted a reads x f Early s = let b = (below_at a x f s.0).below in let e = s.2 in absurd (omega (arith, ints, b, e))
refuted a reads x f CountDisagrees s =
    let g = agree a f.source (x.counted f.source (below_at a x f s.0)) in
    s.3 (g.of s.0.claim s.1 (names_at a f s.0) s.2.names)
refuted a reads x f NumberRange s =
    let g = agree a f.source (x.counted f.source (below_at a x f s.0)) in
    g.range s.0.claim (names_at a f s.0) (subst (IsOutOfRange s.0.claim.of) (sym s.0.output) s.1)
refuted a reads x f Repeated s =
    let g = agree a f.source (x.counted f.source (below_at a x f s.0)) in
    let same = g.once s.1 s.0.claim s.2 (names_at a f s.0) (s.3 ∙ sym s.0.output) in
    let tied : place_cmp s.1.at s.0.claim.at ≡ Equal = subst (λ z. place_cmp s.1.at z ≡ Equal) same (tied_itself place_total s.1.at) in
    let bad : Less ≡ Equal = sym s.4 ∙ tied in
    absurd cc
refuted a reads x f Missing s =
    let g = agree a f.source (x.counted f.source s.below) in
    elim s.is_top [
      | inl t ↦ let r = g.each t.0 t.1.names f.output s.first (subst (λ z. f.output ≤ z) (sym t.2) s.last) in s.absent r.0 r.1 r.2
      | inr t ↦ t.0 g.some.0 g.some.1
    ]
refuted a reads x f OtherTransaction s = s.2 (x.passed s.0.claim s.0.has)

-- ---- where no fault stands the outputs are exact

abbrev pub at_claim : (a : Application) (c : PlacedClaim) (k : OutputKind) → Has a.claims c → AtClaim a (record { source = c.source; output = c.output; kind = k; at = Some c.at })
at_claim a c k h = record { claim = c; has = h; source = refl; output = refl; at = refl }

named_from : (a : Application) → NoneStands (Stands a) → (c : PlacedClaim) → Has a.claims c → IsBelow a c.source
named_from a none c h =
    let input : Has a.inputs c.source = elim (has_decided place_decided a.inputs c.source) [
      | inl y ↦ y
      | inr n ↦ elim (has_decided bytes_decided a.sources c.source.partition.topic) [
        | inl y ↦ absurd (none (record { source = c.source; output = c.output; kind = NoSuchInput; at = Some c.at }) (at_claim a c NoSuchInput h, y, n))
        | inr m ↦ absurd (none (record { source = c.source; output = c.output; kind = ForeignSource; at = Some c.at }) (at_claim a c ForeignSource h, m))
      ]
    ] in
    record {
      input = input;
      below = elim (int_less_or (pos c.source.offset) (committed_offset a.commits c.source.partition)) [
        | inl y ↦ y
        | inr le ↦ absurd (none (record { source = c.source; output = c.output; kind = Early; at = Some c.at }) (at_claim a c Early h, input, le))
      ];
    }

passed_from : (a : Application) → NoneStands (Stands a) → (c : PlacedClaim) → Has a.claims c → IsPassed a c
passed_from a none c h = elim (passed_decided a c) [
  | inl y ↦ y
  | inr n ↦ absurd (none (record { source = c.source; output = c.output; kind = OtherTransaction; at = Some c.at }) (at_claim a c OtherTransaction h, named_from a none c h, n))
]

-- a note, or a number in range
in_range : (a : Application) → NoneStands (Stands a) → (c : PlacedClaim) → Has a.claims c → IsOutOfRange c.of c.output → ⊥
in_range a none c h w = none (record { source = c.source; output = c.output; kind = NumberRange; at = Some c.at }) (at_claim a c NumberRange h, w)

same_place : (a : Application) → NoneStands (Stands a) → (c d : PlacedClaim) → Has a.claims c → Has a.claims d → c.source ≡ d.source → c.output ≡ d.output → c.at ≡ d.at
same_place a none c d hc hd s o = by_order (place_cmp c.at d.at) (place_cmp d.at c.at) refl refl (place_total.antisymm c.at d.at)
  where
    by_order : (x y : Ordering) → place_cmp c.at d.at ≡ x → place_cmp d.at c.at ≡ y → place_cmp c.at d.at ≡ ordering_reverse (place_cmp d.at c.at) → c.at ≡ d.at
    by_order Equal y e f r = place_exact c.at d.at e
    by_order Less y e f r = absurd (none (record { source = d.source; output = d.output; kind = Repeated; at = Some d.at })
        (at_claim a d Repeated hd, c, record { has = hc; source = s }, o, e))
    by_order Greater Less e f r = absurd (none (record { source = c.source; output = c.output; kind = Repeated; at = Some c.at })
        (at_claim a c Repeated hc, d, record { has = hd; source = sym s }, sym o, f))
    by_order Greater Equal e f r = absurd cc
    by_order Greater Greater e f r = absurd cc

number_or : (a : Application) (i : Place) (k : ℕ) → ((c : PlacedClaim) × Names a i c × (c.output ≡ k)) ⊎ ((c : PlacedClaim) → Names a i c → c.output ≢ k)
number_or a i k = elim (find_or (λ (c : PlacedClaim). (c.source ≡ i) × (c.output ≡ k)) (λ c. both (place_decided c.source i) (nat_decided c.output k)) a.claims) [
  | inl r ↦ inl (r.0, record { has = r.1; source = r.2.0 }, r.2.1)
  | inr n ↦ inr (λ c m e. n c m.has (m.source, e))
]

-- the least claim of an input gives its number of outputs, or is its note
by_least : (a : Application) → NoneStands (Stands a) → (i : Place) → IsBelow a i → (r : PlacedClaim) → IsLeastClaim a i r → ((n : ℕ) × Numbered a i n) ⊎ Noted a i
by_least a none i below r least = go r.of refl
  where
    same_of : (c : PlacedClaim) → Names a i c → c.of ≡ r.of
    same_of c n = elim (nat_decided c.of r.of) [
      | inl y ↦ y
      | inr m ↦ absurd (none (record { source = c.source; output = c.output; kind = CountDisagrees; at = Some c.at })
          (at_claim a c CountDisagrees n.has, r, subst (λ z. IsLeastClaim a z r) (sym n.source) least, m))
    ]

    once : (c d : PlacedClaim) → Names a i c → Names a i d → c.output ≡ d.output → c.at ≡ d.at
    once c d nc nd e = same_place a none c d nc.has nd.has (nc.source ∙ sym nd.source) e

    number : (of k n : ℕ) → of ≡ suc n → (IsOutOfRange of k → ⊥) → (1 ≤ k) × (k ≤ suc n)
    number of k n e h = (
      elim (nat_less_or k 1) [ inl l ↦ absurd (h (inr (omega arith, inl l))) | inr g ↦ g ],
      elim (nat_less_or (suc n) k) [ inl l ↦ absurd (h (inr (omega arith, inr (omega arith)))) | inr g ↦ g ],
    )

    zero_number : (of k : ℕ) → of ≡ 0 → (IsOutOfRange of k → ⊥) → k ≡ 0
    zero_number of k e h = elim (nat_less_or k 1) [ inl l ↦ omega arith | inr g ↦ absurd (h (inl (e, g))) ]

    go : (n : ℕ) → r.of ≡ n → ((n : ℕ) × Numbered a i n) ⊎ Noted a i
    go zero e = inr (record {
      note = (r, least.names);
      zero = λ c n. (zero_number c.of c.output (same_of c n ∙ e) (in_range a none c n.has), same_of c n ∙ e);
      once = λ c d nc nd. once c d nc nd (zero_number c.of c.output (same_of c nc ∙ e) (in_range a none c nc.has) ∙ sym (zero_number d.of d.output (same_of d nd ∙ e) (in_range a none d nd.has)));
    })
    go (suc n) e = inl (
      suc n,
      record {
        some = omega arith;
        within = λ c h. let r = number c.of c.output n (same_of c h ∙ e) (in_range a none c h.has) in (same_of c h ∙ e, r.0, r.1);
        each = λ k low high. elim (number_or a i k) [
          | inl y ↦ y
          | inr absent ↦ absurd (none (record { source = i; output = k; kind = Missing; at = None })
              (record { below = below; top = r.of; is_top = inl (r, least, refl); first = low; last = subst (λ z. k ≤ z) (sym e) high; absent = absent; at = refl }))
        ];
        once = once;
      },
    )

counted_from : (a : Application) → NoneStands (Stands a) → (i : Place) → IsBelow a i → ((n : ℕ) × Numbered a i n) ⊎ Noted a i
counted_from a none i below = elim (least_claim a i) [
  | inr absent ↦ absurd (none (record { source = i; output = 1; kind = Missing; at = None })
      (record { below = below; top = 1; is_top = inr (absent, refl); first = omega arith; last = omega arith; absent = λ c n e. absent c n; at = refl }))
  | inl r ↦ by_least a none i below r.0 r.1
]

pub law : (a : Application) → ReadsSources a → (Exact a → NoneStands (Stands a)) × (NoneStands (Stands a) → Exact a)
law a reads = (
  λ x f s. refuted a reads x f f.kind s,
  λ none. record { counted = counted_from a none; passed = passed_from a none; named = named_from a none },
)
