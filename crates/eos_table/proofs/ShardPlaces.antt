-- What is gathered of a shard is what stands in it; so the least of it is the shard's answer.
use Rattle.std.proofs.Common.{◌≡◌, ℕ, ℤ, pos, List, [], ◌∷◌, ◌++◌, Option, Some, None, fold, sym, ap, ◌∙◌, inl, inr, true, false, Bool, ◌&&◌, if◌then◌else◌, arith, map}
use Rattle.std.specs.Prelude.{nat_lt, length}
use Rattle.std.specs.Int.{int_rem_euclid}
use Rattle.std.specs.List.{flat_map, list_any}
use Rattle.eos_base.specs.declared.partition_name.PartitionName.{PartitionName}
use Rattle.eos_base.specs.Least.{lesser_of}
use Rattle.eos_base.specs.Members.{Has, is_found}
use Rattle.eos_base.specs.PartitionNames.{name_cmp}
use Rattle.eos_base.proofs.LeastOf.{upto_itself, least_by_candidates}
use Rattle.eos_base.proofs.Membership.{append_cases, append_left, append_right, flat_has, has_flat, if_has, has_if, only}
use Rattle.eos_batch.specs.declared.marker.Marker.{Marker}
use Rattle.eos_txnlog.specs.declared.decision.Decision.{Decision}
use Rattle.eos_txnlog.specs.PartitionSets.{names_of}
use Rattle.eos_fold.specs.declared.close.Close.{Close}
use Rattle.eos_fold.specs.Parts.{part_name, PartLog}
use Rattle.eos_verdict.specs.declared.match_fault.MatchFault.{MatchFault}
use Rattle.eos_verdict.specs.declared.match_fault.MatchFaultKind.TheVariants.{TwiceDecided, Undecided, WrongKind, NotListed, StrayMarker, AbsentPartition, MissingMarker}
use Rattle.eos_table.specs.MatchFaults.{deciders, Stands, fault_cmp}
use Rattle.eos_table.specs.MatchPlaces.{fault_of, unless, lists_name, ends_as, ends, at_decision, of_deciders, at_close, at_marker, has_marker, at_listed, at_closes, at_markers, at_names, gathered}
use Rattle.eos_table.specs.Shards.{InShard, StandsIn, IsAnswer}
use Rattle.eos_table.specs.steps.Keys.{mine}
use Rattle.eos_table.specs.steps.Shown.{in_shard, decisions_at, closes_at, markers_at, names_at, gathered_in}
use Rattle.eos_table.proofs.MatchOrder.{fault_total, fault_exact}
use Rattle.eos_table.proofs.PlaceTests.{unless_has}
use Rattle.eos_table.proofs.PlacesSound.{sound}
use Rattle.eos_table.proofs.PlacesWhole.{all_whole}
use Rattle.eos_table.proofs.ShardLaw.{shard_of, mine_is, is_mine}

-- ---- a place's faults are of its producer id

abbrev AreOf : ℤ → List MatchFault → Type 0
AreOf p fs = (f : MatchFault) → Has fs f → f.producer ≡ p

unless_of : (b : Bool) (g : MatchFault) → AreOf g.producer (unless b g)
unless_of b g = λ f h. ap (λ (x : MatchFault). x.producer) (sym (unless_has b g f h).1)

one_of : (g : MatchFault) → AreOf g.producer (g ∷ [])
one_of g = λ f h. ap (λ (x : MatchFault). x.producer) (sym (only g f h))

both_of : (p : ℤ) (xs ys : List MatchFault) → AreOf p xs → AreOf p ys → AreOf p (xs ++ ys)
both_of p xs ys a b = λ f h. elim (append_cases xs ys f h) [ inl x ↦ a f x | inr y ↦ b f y ]

decision_of : (ds : List Decision) (d : Decision) → AreOf d.producer (at_decision ds d)
decision_of ds d = λ f h. let r = if_has (nat_lt 1 (length (deciders ds d.producer d.epoch))) (fault_of d.producer d.epoch None TwiceDecided ∷ []) f h in
    one_of (fault_of d.producer d.epoch None TwiceDecided) f r.1

deciders_of : (xs : List Decision) (name : PartitionName) (c : Close) → AreOf c.producer (of_deciders xs name c)
deciders_of [] name c = one_of (fault_of c.producer c.epoch (Some name) Undecided)
deciders_of (d ∷ []) name c =
    both_of c.producer (unless (ends_as d c) (fault_of c.producer c.epoch (Some name) WrongKind)) (unless (lists_name name d) (fault_of c.producer c.epoch (Some name) NotListed))
    (unless_of (ends_as d c) (fault_of c.producer c.epoch (Some name) WrongKind)) (unless_of (lists_name name d) (fault_of c.producer c.epoch (Some name) NotListed))
deciders_of (d ∷ x ∷ xs) name c = λ f h. absurd h

marker_of : (ds : List Decision) (name : PartitionName) (m : Marker) → AreOf m.producer (at_marker ds name m)
marker_of ds name m = unless_of (list_any (λ (d : Decision). ends d m && lists_name name d) ds) (fault_of m.producer m.epoch (Some name) StrayMarker)

listed_of : (ps : List PartLog) (d : Decision) (name : PartitionName) → AreOf d.producer (at_listed ps d name)
listed_of ps d name = go (is_found name_cmp (map part_name ps) name)
  where
    go : (b : Bool) → AreOf d.producer (if b then unless (list_any (has_marker d name) ps) (fault_of d.producer d.epoch (Some name) MissingMarker) else fault_of d.producer d.epoch (Some name) AbsentPartition ∷ [])
    go true = unless_of (list_any (has_marker d name) ps) (fault_of d.producer d.epoch (Some name) MissingMarker)
    go false = one_of (fault_of d.producer d.epoch (Some name) AbsentPartition)

names_are_of : (ps : List PartLog) (d : Decision) (xs : List PartitionName) → AreOf d.producer (flat_map (at_listed ps d) xs)
names_are_of ps d xs = λ f h. let r = flat_has (at_listed ps d) xs f h in listed_of ps d r.0 f r.2

-- ---- of all faults those of the shard

module _ (n s : ℕ) where
  record AreThose (mine all : List MatchFault) : Type 0 where
    there : (f : MatchFault) → Has mine f → Has all f × InShard n s f
    back : (f : MatchFault) → Has all f → InShard n s f → Has mine f

  those_of : (p : ℤ) (fs : List MatchFault) → AreOf p fs → AreThose (in_shard n s p fs) fs
  those_of p fs of = record {
    there = λ f h. let r = if_has (mine n s p) fs f h in (r.1, ap (λ z. int_rem_euclid z (pos n)) (of f r.1) ∙ mine_is n s p r.0);
    back = λ f h i. has_if (mine n s p) fs f (is_mine n s p (ap (λ z. int_rem_euclid z (pos n)) (sym (of f h)) ∙ i)) h;
  }

  those_flat : {X : Type 0} (g h : X → List MatchFault) → ((x : X) → AreThose (g x) (h x)) → (xs : List X) → AreThose (flat_map g xs) (flat_map h xs)
  those_flat g h those xs = record {
    there = λ f i. let r = flat_has g xs f i in let t = (those r.0).there f r.2 in (has_flat h xs r.0 f r.1 t.0, t.1);
    back = λ f i m. let r = flat_has h xs f i in has_flat g xs r.0 f r.1 ((those r.0).back f r.2 m);
  }

  those_both : (xs ys zs ws : List MatchFault) → AreThose xs zs → AreThose ys ws → AreThose (xs ++ ys) (zs ++ ws)
  those_both xs ys zs ws a b = record {
    there = λ f h. elim (append_cases xs ys f h) [
      | inl x ↦ let t = a.there f x in (append_left zs ws f t.0, t.1)
      | inr y ↦ let t = b.there f y in (append_right zs ws f t.0, t.1)
    ];
    back = λ f h i. elim (append_cases zs ws f h) [ inl x ↦ append_left xs ys f (a.back f x i) | inr y ↦ append_right xs ys f (b.back f y i) ];
  }

  those_gathered : (ds : List Decision) (ps : List PartLog) → AreThose (gathered_in n s ds ps) (gathered ds ps)
  those_gathered ds ps =
      those_both (decisions_at n s ds) (closes_at n s ds ps ++ (markers_at n s ds ps ++ names_at n s ds ps)) (flat_map (at_decision ds) ds) (at_closes ds ps ++ (at_markers ds ps ++ at_names ds ps))
      (those_flat (λ (d : Decision). in_shard n s d.producer (at_decision ds d)) (at_decision ds) (λ d. those_of d.producer (at_decision ds d) (decision_of ds d)) ds)
      (those_both (closes_at n s ds ps) (markers_at n s ds ps ++ names_at n s ds ps) (at_closes ds ps) (at_markers ds ps ++ at_names ds ps)
      (those_flat (λ (p : PartLog). flat_map (λ (c : Close). in_shard n s c.producer (at_close ds (part_name p) c)) p.closes) (λ (p : PartLog). flat_map (at_close ds (part_name p)) p.closes)
      (λ p. those_flat (λ (c : Close). in_shard n s c.producer (at_close ds (part_name p) c)) (at_close ds (part_name p))
      (λ c. those_of c.producer (at_close ds (part_name p) c) (deciders_of (deciders ds c.producer c.epoch) (part_name p) c)) p.closes) ps)
      (those_both (markers_at n s ds ps) (names_at n s ds ps) (at_markers ds ps) (at_names ds ps)
      (those_flat (λ (p : PartLog). flat_map (λ (m : Marker). in_shard n s m.producer (at_marker ds (part_name p) m)) p.markers) (λ (p : PartLog). flat_map (at_marker ds (part_name p)) p.markers)
      (λ p. those_flat (λ (m : Marker). in_shard n s m.producer (at_marker ds (part_name p) m)) (at_marker ds (part_name p))
      (λ m. those_of m.producer (at_marker ds (part_name p) m) (marker_of ds (part_name p) m)) p.markers) ps)
      (those_flat (λ (d : Decision). in_shard n s d.producer (flat_map (at_listed ps d) (names_of d.partitions))) (λ (d : Decision). flat_map (at_listed ps d) (names_of d.partitions))
      (λ d. those_of d.producer (flat_map (at_listed ps d) (names_of d.partitions)) (names_are_of ps d (names_of d.partitions))) ds)))

  pub sound_in : (ds : List Decision) (ps : List PartLog) (f : MatchFault) → Has (gathered_in n s ds ps) f → StandsIn ds ps n s f
  sound_in ds ps f h = let t = (those_gathered ds ps).there f h in (t.1, sound ds ps f t.0)

  pub whole_in : (ds : List Decision) (ps : List PartLog) (f : MatchFault) → StandsIn ds ps n s f → Has (gathered_in n s ds ps) f
  whole_in ds ps f st = (those_gathered ds ps).back f (all_whole ds ps f st.1) st.0

  -- the least of it
  pub answered : (ds : List Decision) (ps : List PartLog) (best : Option MatchFault) → best ≡ fold (lesser_of fault_cmp) None (gathered_in n s ds ps) → IsAnswer ds ps n s best
  answered ds ps best e = least_by_candidates fault_total fault_exact (StandsIn ds ps n s) (gathered_in n s ds ps)
      (λ f h. (f, sound_in ds ps f h, upto_itself fault_total f)) (λ g st. (g, whole_in ds ps g st, upto_itself fault_total g)) best e

-- ---- the only shard

-- it has each producer id
only_shard : (p : ℤ) → int_rem_euclid p (pos 1) ≡ pos 0
only_shard p =
    let r = shard_of 1 p (omega arith) in
    let below = r.1 in
    let first : r.0 ≡ 0 = omega (arith, below) in
    r.2 ∙ ap pos first

pub sound_only : (ds : List Decision) (ps : List PartLog) (f : MatchFault) → Has (gathered_in 1 0 ds ps) f → Stands ds ps f
sound_only ds ps f h = (sound_in 1 0 ds ps f h).1

pub whole_only : (ds : List Decision) (ps : List PartLog) (f : MatchFault) → Stands ds ps f → Has (gathered_in 1 0 ds ps) f
whole_only ds ps f st = whole_in 1 0 ds ps f (only_shard f.producer, st)
