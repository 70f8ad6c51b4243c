-- Where the quick walk says yes, no fault stands.
use Rattle.std.proofs.Common.{◌≡◌, ◌<◌, ◌%◌, ℕ, zero, suc, ℤ, List, [], ◌∷◌, length, Some, Vec, Global, IsPermutation, IsSorted, refl, sym, subst, ap, ◌∙◌, inl, inr, arith}
use Rattle.std.specs.Prelude.{slice_get, slice_index_or}
use Rattle.std.proofs.Math.Nat.{mod-lt}
use Rattle.std.proofs.lemmas.Bool.{cases_lt}
use Rattle.std.proofs.lemmas.Option.{slice_get_within, get_or_from_slice_get}
use Rattle.eos_base.specs.declared.partition_name.PartitionName.{PartitionName}
use Rattle.eos_base.specs.Members.{Has}
use Rattle.eos_base.specs.Least.{NoneStands}
use Rattle.eos_base.proofs.Membership.{flat_has, has_flat, map_has, has_map}
use Rattle.eos_batch.specs.declared.marker.Marker.{Marker}
use Rattle.eos_txnlog.specs.declared.decision.Decision.{Decision}
use Rattle.eos_txnlog.specs.PartitionSets.{names_of}
use Rattle.eos_fold.specs.declared.close.Close.{Close}
use Rattle.eos_fold.specs.Parts.{part_name, PartLog}
use Rattle.eos_table.specs.Atomic.{IsOf, EndsAs, Ends, AreOfOne, NoTwo}
use Rattle.eos_table.specs.MatchFaults.{Stands}
use Rattle.eos_table.specs.steps.Keys.{decided, pair_cmp}
use Rattle.eos_table.specs.steps.Neighbours.{AreApart}
use Rattle.eos_table.specs.steps.Wanted.{Lists, wanted_close, wish, wishes_of, wishes, Have, marker_end, close_end, Agrees, AgreesAt, IsOnce, IsGood}
use Rattle.eos_table.proofs.AtomicLaw.{once_from, law}
use Rattle.eos_table.proofs.ShardLaw.{shard_of, is_mine}
use Rattle.eos_table.proofs.TwiceKeys.{never_twice}

-- ---- places

has_get : {X : Type 0} (xs : List X) (x : X) → Has xs x → (i : ℕ) × (slice_get xs i ≡ Some x)
has_get [] x h = absurd h
has_get (y ∷ xs) x (inl e) = (zero, ap Some e)
has_get (y ∷ xs) x (inr h) = let r = has_get xs x h in (suc r.0, r.1)

get_has : {X : Type 0} (xs : List X) (i : ℕ) (x : X) → slice_get xs i ≡ Some x → Has xs x
get_has [] i x e = absurd cc
get_has (y ∷ xs) zero x e = inl cc
get_has (y ∷ xs) (suc i) x e = inr (get_has xs i x e)

-- what stands there in a list of the same length
beside : {X Y : Type 0} (xs : List X) (ys : List Y) (i : ℕ) (x : X) → length ys ≡ length xs → slice_get xs i ≡ Some x → (y : Y) × (slice_get ys i ≡ Some y)
beside [] ys i x len e = absurd cc
beside (z ∷ xs) [] i x len e = absurd (omega (arith, len))
beside (z ∷ xs) (y ∷ ys) zero x len e = (y, refl)
beside (z ∷ xs) (y ∷ ys) (suc i) x len e = beside xs ys i x (omega (arith, len)) e

one_there : {X : Type 0} (xs : List X) (i : ℕ) (x y : X) → slice_get xs i ≡ Some x → slice_get xs i ≡ Some y → x ≡ y
one_there {X} xs i x y e f = inside x y (sym e ∙ f)
  where
    inside : (a b : X) → Some a ≡ Some b → a ≡ b
    inside a b e = cc

-- whatever stands for one that isn't there
one_within : (xs : List ℕ) (i d e : ℕ) → i < length xs → slice_index_or xs i d ≡ slice_index_or xs i e
one_within [] i d e lt = absurd (omega (arith, lt))
one_within (x ∷ xs) zero d e lt = refl
one_within (x ∷ xs) (suc i) d e lt = one_within xs i d e (omega (arith, lt))

-- ---- wishes

wished : (ds : List Decision) (c : Close) (name : PartitionName) → Has (wishes ds) (wish c name) → (d : Decision) × Has ds d × (wanted_close d ≡ c) × Has (names_of d.partitions) name
wished ds c name h =
    let r = flat_has wishes_of ds (wish c name) h in
    let m = map_has (wish (wanted_close r.0)) (names_of r.0.partitions) (wish c name) r.2 in
    (r.0, r.1, ap (λ z. z.0) m.2, subst (Has (names_of r.0.partitions)) (ap (λ z. z.1) m.2) m.1)

wishes_have : (ds : List Decision) (d : Decision) (name : PartitionName) → Has ds d → Has (names_of d.partitions) name → Has (wishes ds) (wish (wanted_close d) name)
wishes_have ds d name hd hn = has_flat wishes_of ds d (wish (wanted_close d) name) hd (has_map (wish (wanted_close d)) (names_of d.partitions) name hn)

-- ---- all that is wanted is there, and no more

module _ (ds : List Decision) (ps : List PartLog) (lists : Lists) (have : Have ps (wishes ds) lists) (owners : List ℕ) (threads : ℕ) (some : 0 < threads) (good : (rest : ℕ) → rest < threads → IsGood threads rest ds owners lists ps) where
  owned : (i : ℕ) → i < length ps → AgreesAt lists ps i
  owned i lt = elim (cases_lt i (length owners)) [
    | inl inside ↦
        let owner = slice_index_or owners i 0 in
        (good (owner % threads) (mod-lt owner some)).agree i lt (λ d l. ap (λ n. n % threads) (one_within owners i d 0 inside))
    | inr past ↦ (good 0 some).agree i lt (λ d l. absurd (omega (arith, l, past)))
  ]

  agree : (i : ℕ) (p : PartLog) (list : Vec Close Global) → slice_get ps i ≡ Some p → slice_get lists i ≡ Some list → Agrees list.items p
  agree i p list at is =
      let lt = slice_get_within ps i p at in
      let a : AgreesAt lists ps i = owned i lt in
      subst (λ (l : Vec Close Global). Agrees l.items p) (get_or_from_slice_get lists i list list is)
      (subst (Agrees (slice_index_or lists i list).items) (get_or_from_slice_get ps i p p at) (a list p (slice_get_within lists i list is)))

  once : NoTwo AreOfOne ds
  once = once_from ds (λ producer epoch two. let r = shard_of threads producer some in (good r.0 r.1).once producer epoch (is_mine threads r.0 producer r.2) two)

  -- the decision that wants this close in this part
  abbrev Wanting : PartLog → Close → Type 0
  Wanting p c = (d : Decision) × Has ds d × (wanted_close d ≡ c) × Has (names_of d.partitions) (part_name p)

  wanting : (p : PartLog) (i : ℕ) → slice_get ps i ≡ Some p → (list : Vec Close Global) → slice_get lists i ≡ Some list → (c : Close) → Has list.items c → Wanting p c
  wanting p i at list is c h =
      let r = have.sound i c (list, is, h) in
      let w = wished ds c r.0 r.2 in
      let name : part_name p ≡ r.0 = ap part_name (one_there ps i p r.1.0 at r.1.1) ∙ r.1.2 in
      (w.0, w.1, w.2, subst (Has (names_of w.0.partitions)) (sym name) w.3)

  data_decided : (p : PartLog) (c : Close) → Has ps p → Has p.closes c → (d : Decision) × Has ds d × IsOf d c × EndsAs d c × Has (names_of d.partitions) (part_name p)
  data_decided p c hp hc =
      let g = has_get ps p hp in
      let l = beside ps lists g.0 p have.len g.1 in
      let a = agree g.0 p l.0 g.1 l.1 in
      let w = wanting p g.0 g.1 l.0 l.1 c (a.closes c hc) in (
        w.0,
        w.1,
        record { producer = ap (λ z. z.producer) w.2; epoch = ap (λ z. z.epoch) w.2 },
        record { epoch = ap (λ z. z.marker_epoch) w.2; kind = ap (λ z. z.kind) w.2 },
        w.3,
      )

  ends_by : (d : Decision) (m : Marker) → close_end (wanted_close d) ≡ marker_end m → Ends d m
  ends_by d m e = record { producer = ap (λ z. z.producer) e; epoch = ap (λ z. z.epoch) e; kind = ap (λ z. z.kind) e }

  marked : (d : Decision) (name : PartitionName) → Has ds d → Has (names_of d.partitions) name → (p : PartLog) × Has ps p × (part_name p ≡ name) × (m : Marker) × Has p.markers m × Ends d m
  marked d name hd hn =
      let r = have.whole (wanted_close d) name (wishes_have ds d name hd hn) in
      let p = r.1.0 in
      let s = r.2 in
      let a = agree r.0 p s.0 r.1.1 s.1 in
      let m = map_has marker_end p.markers (close_end (wanted_close d)) (a.markers.back (close_end (wanted_close d)) (has_map close_end s.0.items (wanted_close d) s.2)) in
      (p, get_has ps r.0 p r.1.1, r.1.2, m.0, m.1, ends_by d m.0 (sym m.2))

  no_stray : (p : PartLog) (m : Marker) → Has ps p → Has p.markers m → (d : Decision) × Has ds d × Ends d m × Has (names_of d.partitions) (part_name p)
  no_stray p m hp hm =
      let g = has_get ps p hp in
      let l = beside ps lists g.0 p have.len g.1 in
      let a = agree g.0 p l.0 g.1 l.1 in
      let c = map_has close_end l.0.items (marker_end m) (a.markers.there (marker_end m) (has_map marker_end p.markers m hm)) in
      let w = wanting p g.0 g.1 l.0 l.1 c.0 c.1 in
      (w.0, w.1, ends_by w.0 m (ap close_end w.2 ∙ c.2), w.3)

  pub none_stands : NoneStands (Stands ds ps)
  none_stands = (law ds ps).0 (record { once = once; decided = data_decided; marked = marked; no_stray = no_stray })

-- ---- no two of one producer id and epoch

pub once_in : (n s : ℕ) (ds : List Decision) (D : List (ℤ × ℤ)) → IsPermutation (decided n s ds) D → IsSorted pair_cmp D → AreApart D → IsOnce n s ds
once_in n s ds D same up apart = λ producer epoch m two. never_twice n s ds D same up apart producer epoch m two
