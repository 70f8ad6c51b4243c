-- What the places show stands.
use Rattle.std.proofs.Common.{◌≡◌, ◌<◌, ℕ, List, [], ◌∷◌, ◌++◌, map, length, Some, None, refl, subst, inl, inr, true, false, Bool, ◌&&◌, arith, if◌then◌else◌}
use Rattle.std.specs.Prelude.{nat_lt}
use Rattle.std.specs.List.{flat_map, list_any}
use Rattle.eos_base.specs.declared.partition_name.PartitionName.{PartitionName}
use Rattle.eos_base.specs.Members.{Has, is_found}
use Rattle.eos_base.specs.PartitionNames.{name_cmp}
use Rattle.eos_base.proofs.Decides.{differs}
use Rattle.eos_base.proofs.Membership.{append_cases, flat_has, map_has, has_map, if_has, only, found_has, has_found}
use Rattle.eos_base.proofs.NamesInOrder.{name_exact, name_total}
use Rattle.eos_batch.specs.declared.marker.Marker.{Marker}
use Rattle.eos_txnlog.specs.declared.decision.Decision.{Decision}
use Rattle.eos_txnlog.specs.PartitionSets.{names_of}
use Rattle.eos_fold.specs.declared.close.Close.{Close}
use Rattle.eos_fold.specs.Parts.{part_name, PartLog}
use Rattle.eos_verdict.specs.declared.match_fault.MatchFault.{MatchFault}
use Rattle.eos_verdict.specs.declared.match_fault.MatchFaultKind.{MatchFaultKind}
use Rattle.eos_verdict.specs.declared.match_fault.MatchFaultKind.TheVariants.{TwiceDecided, Undecided, WrongKind, NotListed, StrayMarker, AbsentPartition, MissingMarker}
use Rattle.eos_table.specs.MatchFaults.{deciders, AtData, AtListed, Stands}
use Rattle.eos_table.specs.MatchPlaces.{fault_of, unless, lists_name, ends_as, ends, at_decision, of_deciders, at_close, at_marker, has_marker, at_listed, at_closes, at_markers, at_names, gathered}
use Rattle.eos_table.proofs.PlaceTests.{both_true, has_any, unless_has, is_ends_as, is_ends, is_lists, is_marker}

below : (m n : ℕ) → nat_lt m n ≡ true → m < n
below m n e = grind (arith)

module _ (ds : List Decision) (ps : List PartLog) where
  sound_twice : (d : Decision) (f : MatchFault) → Has (at_decision ds d) f → Stands ds ps f
  sound_twice d f h =
      let r = if_has (nat_lt 1 (length (deciders ds d.producer d.epoch))) (fault_of d.producer d.epoch None TwiceDecided ∷ []) f h in
      let two = below 1 (length (deciders ds d.producer d.epoch)) r.0 in
      subst (Stands ds ps) (only _ f r.1) (omega (arith, two), refl)

  sound_close : (p : PartLog) → Has ps p → (c : Close) → Has p.closes c → (f : MatchFault) (xs : List Decision) → deciders ds c.producer c.epoch ≡ xs → Has (of_deciders xs (part_name p) c) f → Stands ds ps f
  sound_close p hp c hc f [] q h = subst (Stands ds ps) (only _ f h) (at Undecided, q)
    where
      at : (k : MatchFaultKind) → AtData ps (fault_of c.producer c.epoch (Some (part_name p)) k)
      at k = record { part = p; close = c; has_part = hp; has_close = hc; producer = refl; epoch = refl; partition = refl }
  sound_close p hp c hc f (d ∷ []) q h =
      elim (append_cases (unless (ends_as d c) (fault_of c.producer c.epoch (Some (part_name p)) WrongKind)) (unless (lists_name (part_name p) d) (fault_of c.producer c.epoch (Some (part_name p)) NotListed)) f h) [
        | inl a ↦ let r = unless_has (ends_as d c) (fault_of c.producer c.epoch (Some (part_name p)) WrongKind) f a in
            subst (Stands ds ps) r.1 (at WrongKind, d, q, λ e. differs (ends_as d c) r.0 (is_ends_as d c e))
        | inr b ↦ let r = unless_has (lists_name (part_name p) d) (fault_of c.producer c.epoch (Some (part_name p)) NotListed) f b in
            subst (Stands ds ps) r.1 (at NotListed, d, q, λ k. differs (lists_name (part_name p) d) r.0 (is_lists d (part_name p) k))
      ]
    where
      at : (k : MatchFaultKind) → AtData ps (fault_of c.producer c.epoch (Some (part_name p)) k)
      at k = record { part = p; close = c; has_part = hp; has_close = hc; producer = refl; epoch = refl; partition = refl }
  sound_close p hp c hc f (d ∷ x ∷ xs) q h = absurd h

  sound_marker : (p : PartLog) → Has ps p → (m : Marker) → Has p.markers m → (f : MatchFault) → Has (at_marker ds (part_name p) m) f → Stands ds ps f
  sound_marker p hp m hm f h =
      let test : Decision → Bool = λ d. ends d m && lists_name (part_name p) d in
      let r = unless_has (list_any test ds) (fault_of m.producer m.epoch (Some (part_name p)) StrayMarker) f h in
      subst (Stands ds ps) r.1 (
        record { part = p; marker = m; has_part = hp; has_marker = hm; producer = refl; epoch = refl; partition = refl },
        λ d hd e k. differs (list_any test ds) r.0 (has_any test ds d hd (both_true (ends d m) (lists_name (part_name p) d) (is_ends d m e) (is_lists d (part_name p) k))),
      )

  sound_listed : (d : Decision) → Has ds d → (name : PartitionName) → Has (names_of d.partitions) name → (f : MatchFault) → Has (at_listed ps d name) f → Stands ds ps f
  sound_listed d hd name hn f h = go (is_found name_cmp (map part_name ps) name) refl h
    where
      at : (k : MatchFaultKind) → AtListed ds (fault_of d.producer d.epoch (Some name) k)
      at k = record { decision = d; name = name; has_decision = hd; has_name = hn; producer = refl; epoch = refl; partition = refl }

      go : (b : Bool) → is_found name_cmp (map part_name ps) name ≡ b
          → Has (if b then unless (list_any (has_marker d name) ps) (fault_of d.producer d.epoch (Some name) MissingMarker) else fault_of d.producer d.epoch (Some name) AbsentPartition ∷ []) f → Stands ds ps f
      go false q h = subst (Stands ds ps) (only _ f h)
          (at AbsentPartition, λ p hp e. differs (is_found name_cmp (map part_name ps) name) q (has_found name_cmp name_total (map part_name ps) name (subst (Has (map part_name ps)) e (has_map part_name ps p hp))))
      go true q h =
          let r = unless_has (list_any (has_marker d name) ps) (fault_of d.producer d.epoch (Some name) MissingMarker) f h in
          let p = map_has part_name ps name (found_has name_cmp name_exact (map part_name ps) name q) in
          subst (Stands ds ps) r.1 (
            at MissingMarker,
            p.0,
            p.1,
            p.2,
            λ o m ho e hm ended. differs (list_any (has_marker d name) ps) r.0 (has_any (has_marker d name) ps o ho (is_marker d name o m e hm ended)),
          )

  pub sound : (f : MatchFault) → Has (gathered ds ps) f → Stands ds ps f
  sound f h = elim (append_cases (flat_map (at_decision ds) ds) (at_closes ds ps ++ (at_markers ds ps ++ at_names ds ps)) f h) [
    | inl a ↦ let d = flat_has (at_decision ds) ds f a in sound_twice d.0 f d.2
    | inr b ↦ elim (append_cases (at_closes ds ps) (at_markers ds ps ++ at_names ds ps) f b) [
      | inl a ↦
          let p = flat_has (λ (p : PartLog). flat_map (at_close ds (part_name p)) p.closes) ps f a in
          let c = flat_has (at_close ds (part_name p.0)) p.0.closes f p.2 in
          sound_close p.0 p.1 c.0 c.1 f (deciders ds c.0.producer c.0.epoch) refl c.2
      | inr k ↦ elim (append_cases (at_markers ds ps) (at_names ds ps) f k) [
        | inl a ↦
            let p = flat_has (λ (p : PartLog). flat_map (at_marker ds (part_name p)) p.markers) ps f a in
            let m = flat_has (at_marker ds (part_name p.0)) p.0.markers f p.2 in
            sound_marker p.0 p.1 m.0 m.1 f m.2
        | inr a ↦
            let d = flat_has (λ (d : Decision). flat_map (at_listed ps d) (names_of d.partitions)) ds f a in
            let n = flat_has (at_listed ps d.0) (names_of d.0.partitions) f d.2 in
            sound_listed d.0 d.1 n.0 n.1 f n.2
      ]
    ]
  ]
