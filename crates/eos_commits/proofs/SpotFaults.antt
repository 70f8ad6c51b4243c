-- The faults that are listed at a record: by their kinds, and in order.
use Rattle.std.proofs.Common.{◌≡◌, ◌++◌, List, [], ◌∷◌, Option, Some, None, Bool, true, false, refl, sym, subst, inl, inr}
use Rattle.std.specs.List.{AllByRecursion}
use Rattle.std.specs.List.Sorted.{IsStrictlySortedBy}
use Rattle.std.specs.declared.cmp.Ordering.{Ordering}
use Rattle.std.specs.declared.cmp.Ordering.TheVariants.{Less}
use Rattle.std.proofs.lemmas.Cmp.{nat_cmp_total, tied_itself}
use Rattle.eos_base.specs.declared.record_fault.RecordFault.{RecordFault}
use Rattle.eos_base.specs.Members.{Has}
use Rattle.eos_base.proofs.Membership.{append_cases, append_left, append_right, if_has, has_if, only}
use Rattle.eos_base.proofs.NamesInOrder.{name_total}
use Rattle.eos_fold.specs.Parts.{part_name}
use Rattle.eos_verdict.specs.declared.visible_fault.VisibleFault.{VisibleFault}
use Rattle.eos_verdict.specs.declared.visible_fault.VisibleFaultKind.{VisibleFaultKind}
use Rattle.eos_verdict.specs.declared.visible_fault.VisibleFaultKind.TheVariants.{BadLineage, BadOffset, SplitGroup, OffsetDeleted}
use Rattle.eos_commits.specs.Faults.{visible_cmp}
use Rattle.eos_commits.proofs.Spots.{Spot, fault_of}
use Rattle.eos_commits.proofs.VisibleOrder.{kind_cmp}
use Rattle.eos_base.proofs.WholeList.{first_less}
use Rattle.eos_commits.specs.declared.shown.Shown.{Shown}
use Rattle.eos_commits.specs.steps.Gathered.{tested, refusal_at, shown_at}
use Rattle.eos_commits.proofs.SpotFold.{listed}

-- ---- by their kinds

abbrev pub Tells : Bool → Shown → VisibleFaultKind → Type 0
Tells unclaimed shown BadLineage = unclaimed ≡ true
Tells unclaimed shown (BadOffset fault) = shown.refusal ≡ Some fault
Tells unclaimed shown SplitGroup = shown.is_split ≡ true
Tells unclaimed shown OffsetDeleted = shown.is_deleted ≡ true

pub record Listed (z : Spot) (unclaimed : Bool) (shown : Shown) (f : VisibleFault) : Type 0 where
  pub kind : VisibleFaultKind
  pub tells : Tells unclaimed shown kind
  pub is : fault_of z kind ≡ f

tested_has : (test : Bool) (g f : VisibleFault) → Has (tested test g) f → (test ≡ true) × (g ≡ f)
tested_has test g f h = let r = if_has test (g ∷ []) f h in (r.0, only g f r.1)

has_tested : (test : Bool) (g : VisibleFault) → test ≡ true → Has (tested test g) g
has_tested test g e = has_if test (g ∷ []) g e (inl refl)

refusal_has : (z : Spot) (refusal : Option RecordFault) (f : VisibleFault) → Has (refusal_at z.0 z.1.offset refusal) f → (e : RecordFault) × (refusal ≡ Some e) × (fault_of z (BadOffset e) ≡ f)
refusal_has z None f h = absurd h
refusal_has z (Some e) f h = (e, refl, only (fault_of z (BadOffset e)) f h)

has_refusal : (z : Spot) (refusal : Option RecordFault) (e : RecordFault) → refusal ≡ Some e → Has (refusal_at z.0 z.1.offset refusal) (fault_of z (BadOffset e))
has_refusal z refusal e q = subst (λ (w : Option RecordFault). Has (refusal_at z.0 z.1.offset w) (fault_of z (BadOffset e))) (sym q) (inl refl)

module _ (z : Spot) (b : Bool) (s : Shown) where
  abbrev lineage : List VisibleFault
  lineage = tested b (fault_of z BadLineage)

  abbrev refusals : List VisibleFault
  refusals = refusal_at z.0 z.1.offset s.refusal

  abbrev splits : List VisibleFault
  splits = tested s.is_split (fault_of z SplitGroup)

  abbrev deleted : List VisibleFault
  deleted = tested s.is_deleted (fault_of z OffsetDeleted)

  abbrev commit : List VisibleFault
  commit = refusals ++ (splits ++ deleted)

  later_has : (f : VisibleFault) → Has (splits ++ deleted) f → Listed z b s f
  later_has f h = elim (append_cases splits deleted f h) [
    | inl a ↦ let r = tested_has s.is_split (fault_of z SplitGroup) f a in record { kind = SplitGroup; tells = r.0; is = r.1 }
    | inr c ↦ let r = tested_has s.is_deleted (fault_of z OffsetDeleted) f c in record { kind = OffsetDeleted; tells = r.0; is = r.1 }
  ]

  commit_has : (f : VisibleFault) → Has commit f → Listed z b s f
  commit_has f h = elim (append_cases refusals (splits ++ deleted) f h) [
    | inl a ↦ let r = refusal_has z s.refusal f a in record { kind = BadOffset r.0; tells = r.1; is = r.2 }
    | inr c ↦ later_has f c
  ]

  pub listed_has : (f : VisibleFault) → Has (listed z b s) f → Listed z b s f
  listed_has f h = elim (append_cases lineage commit f h) [
    | inl a ↦ let r = tested_has b (fault_of z BadLineage) f a in record { kind = BadLineage; tells = r.0; is = r.1 }
    | inr c ↦ commit_has f c
  ]

  pub has_listed : (k : VisibleFaultKind) → Tells b s k → Has (listed z b s) (fault_of z k)
  has_listed BadLineage t = append_left lineage commit _ (has_tested b (fault_of z BadLineage) t)
  has_listed (BadOffset e) t = append_right lineage commit _ (append_left refusals (splits ++ deleted) _ (has_refusal z s.refusal e t))
  has_listed SplitGroup t = append_right lineage commit _ (append_right refusals (splits ++ deleted) _ (append_left splits deleted _ (has_tested s.is_split (fault_of z SplitGroup) t)))
  has_listed OffsetDeleted t = append_right lineage commit _ (append_right refusals (splits ++ deleted) _ (append_right splits deleted _ (has_tested s.is_deleted (fault_of z OffsetDeleted) t)))

-- ---- in order

every : {X : Type 0} (P : X → Type 0) (xs : List X) → ((x : X) → Has xs x → P x) → AllByRecursion P xs
every P [] h = tt
every P (x ∷ xs) h = (h x (inl refl), every P xs (λ y k. h y (inr k)))

pub rises_append : {X : Type 0} (cmp : X → X → Ordering) (xs ys : List X) → IsStrictlySortedBy cmp xs → IsStrictlySortedBy cmp ys → ((x y : X) → Has xs x → Has ys y → cmp x y ≡ Less) → IsStrictlySortedBy cmp (xs ++ ys)
unfolding IsStrictlySortedBy
rises_append cmp [] ys u v b = v
rises_append cmp (x ∷ xs) ys u v b = (
  every (λ y. cmp x y ≡ Less) (xs ++ ys) (λ y h. elim (append_cases xs ys y h) [ inl a ↦ first_less cmp x xs u y a | inr c ↦ b x y (inl refl) c ]),
  rises_append cmp xs ys u.1 v (λ y w h k. b y w (inr h) k),
)

one_rises : (test : Bool) (f : VisibleFault) → IsStrictlySortedBy visible_cmp (tested test f)
unfolding IsStrictlySortedBy
one_rises true f = (tt, tt)
one_rises false f = tt

refusal_rises : (z : Spot) (refusal : Option RecordFault) → IsStrictlySortedBy visible_cmp (refusal_at z.0 z.1.offset refusal)
unfolding IsStrictlySortedBy
refusal_rises z None = tt
refusal_rises z (Some e) = (tt, tt)

-- a lesser kind comes first
by_kind : (z : Spot) (k l : VisibleFaultKind) → kind_cmp k l ≡ Less → visible_cmp (fault_of z k) (fault_of z l) ≡ Less
by_kind z k l e =
    let n = tied_itself name_total (part_name z.0) in
    let o = tied_itself nat_cmp_total z.1.offset in
    rw (n, o, e) refl

abbrev Below : VisibleFault → VisibleFault → Type 0
Below f g = visible_cmp f g ≡ Less

placed : (z : Spot) (k l : VisibleFaultKind) (f g : VisibleFault) → fault_of z k ≡ f → fault_of z l ≡ g → kind_cmp k l ≡ Less → Below f g
placed z k l f g p q e = subst (λ (v : VisibleFault). Below v g) p (subst (λ (v : VisibleFault). Below (fault_of z k) v) q (by_kind z k l e))

module _ (z : Spot) (b : Bool) (s : Shown) where
  abbrev split_faults : List VisibleFault
  split_faults = tested s.is_split (fault_of z SplitGroup)

  abbrev deleted_faults : List VisibleFault
  deleted_faults = tested s.is_deleted (fault_of z OffsetDeleted)

  later_rises : IsStrictlySortedBy visible_cmp (split_faults ++ deleted_faults)
  later_rises = rises_append visible_cmp split_faults deleted_faults (one_rises s.is_split (fault_of z SplitGroup)) (one_rises s.is_deleted (fault_of z OffsetDeleted)) (λ f g h k.
      placed z SplitGroup OffsetDeleted f g (tested_has s.is_split (fault_of z SplitGroup) f h).1 (tested_has s.is_deleted (fault_of z OffsetDeleted) g k).1 refl)

  after_refusal : (e : RecordFault) (f g : VisibleFault) → fault_of z (BadOffset e) ≡ f → Has (split_faults ++ deleted_faults) g → Below f g
  after_refusal e f g q h = elim (append_cases split_faults deleted_faults g h) [
    | inl a ↦ placed z (BadOffset e) SplitGroup f g q (tested_has s.is_split (fault_of z SplitGroup) g a).1 refl
    | inr c ↦ placed z (BadOffset e) OffsetDeleted f g q (tested_has s.is_deleted (fault_of z OffsetDeleted) g c).1 refl
  ]

  commit_rises : IsStrictlySortedBy visible_cmp (shown_at z.0 z.1.offset s)
  commit_rises = rises_append visible_cmp (refusal_at z.0 z.1.offset s.refusal) (split_faults ++ deleted_faults) (refusal_rises z s.refusal) later_rises (λ f g h k.
      let r = refusal_has z s.refusal f h in after_refusal r.0 f g r.2 k)

  after_lineage : (f g : VisibleFault) → fault_of z BadLineage ≡ f → Has (shown_at z.0 z.1.offset s) g → Below f g
  after_lineage f g q h = elim (append_cases (refusal_at z.0 z.1.offset s.refusal) (split_faults ++ deleted_faults) g h) [
    | inl a ↦ let r = refusal_has z s.refusal g a in placed z BadLineage (BadOffset r.0) f g q r.2 refl
    | inr c ↦ elim (append_cases split_faults deleted_faults g c) [
      | inl a ↦ placed z BadLineage SplitGroup f g q (tested_has s.is_split (fault_of z SplitGroup) g a).1 refl
      | inr d ↦ placed z BadLineage OffsetDeleted f g q (tested_has s.is_deleted (fault_of z OffsetDeleted) g d).1 refl
    ]
  ]

  pub listed_rises : IsStrictlySortedBy visible_cmp (listed z b s)
  listed_rises = rises_append visible_cmp (tested b (fault_of z BadLineage)) (shown_at z.0 z.1.offset s) (one_rises b (fault_of z BadLineage)) commit_rises (λ f g h k.
      after_lineage f g (tested_has b (fault_of z BadLineage) f h).1 k)
