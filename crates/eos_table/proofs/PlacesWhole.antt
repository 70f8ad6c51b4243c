-- Each fault that stands between decisions and logs is shown at its place.
use Rattle.std.proofs.Common.{◌≡◌, ◌<◌, ◌≤◌, ℕ, ℤ, List, [], ◌∷◌, ◌++◌, map, length, Option, Some, None, refl, sym, subst, ap, ◌∙◌, inl, true, false, Bool, ◌&&◌, arith, if◌then◌else◌}
use Rattle.std.specs.Prelude.{nat_lt}
use Rattle.std.specs.List.{flat_map, list_any}
use Rattle.std.proofs.lemmas.Bool.{lt-ltb}
use Rattle.eos_base.specs.declared.partition_name.PartitionName.{PartitionName}
use Rattle.eos_base.specs.Members.{Has, is_found}
use Rattle.eos_base.specs.PartitionNames.{name_cmp}
use Rattle.eos_base.proofs.Membership.{append_left, append_right, has_flat, map_has, has_if, filter_has, found_has, has_found, has_map}
use Rattle.eos_base.proofs.NamesInOrder.{name_exact, name_total}
use Rattle.eos_batch.specs.declared.marker.Marker.{Marker}
use Rattle.eos_txnlog.specs.declared.decision.Decision.{Decision}
use Rattle.eos_txnlog.specs.PartitionSets.{names_of}
use Rattle.eos_fold.specs.declared.close.Close.{Close}
use Rattle.eos_fold.specs.Parts.{part_name, PartLog}
use Rattle.eos_verdict.specs.declared.match_fault.MatchFault.{MatchFault}
use Rattle.eos_verdict.specs.declared.match_fault.MatchFaultKind.{MatchFaultKind}
use Rattle.eos_verdict.specs.declared.match_fault.MatchFaultKind.TheVariants.{TwiceDecided, Undecided, WrongKind, NotListed, StrayMarker, AbsentPartition, MissingMarker}
use Rattle.eos_table.specs.MatchFaults.{deciders, is_of, AtData, Stands, StandsAs}
use Rattle.eos_table.proofs.AtomicLaw.{true_is_of}
use Rattle.eos_table.specs.MatchPlaces.{fault_of, unless, lists_name, ends_as, ends, at_decision, of_deciders, at_close, at_marker, has_marker, at_listed, at_closes, at_markers, at_names, gathered}
use Rattle.eos_table.proofs.PlaceTests.{and_parts, any_has, has_unless, not_true, ends_as_is, ends_is, lists_is, marker_is}

above : (m n : ℕ) → m < n → nat_lt m n ≡ true
above m n h = lt-ltb m n h

-- the fault of these parts
is_fault : (f : MatchFault) (p e : ℤ) (o : Option PartitionName) (k : MatchFaultKind) → p ≡ f.producer → e ≡ f.epoch → f.partition ≡ o → f.kind ≡ k → fault_of p e o k ≡ f
is_fault f p e o k a b c d = λ i. record { producer = a i; epoch = b i; kind = sym d i; partition = sym c i }

-- one of a list that isn't empty
some_of : {X : Type 0} (xs : List X) → 2 ≤ length xs → (x : X) × Has xs x
some_of [] h = absurd (omega (arith, h))
some_of (x ∷ xs) h = (x, inl refl)

module _ (ds : List Decision) (ps : List PartLog) where
  in_decisions : (f : MatchFault) (d : Decision) → Has ds d → Has (at_decision ds d) f → Has (gathered ds ps) f
  in_decisions f d h k = append_left (flat_map (at_decision ds) ds) (at_closes ds ps ++ (at_markers ds ps ++ at_names ds ps)) f (has_flat (at_decision ds) ds d f h k)

  in_closes : (f : MatchFault) (p : PartLog) → Has ps p → (c : Close) → Has p.closes c → Has (at_close ds (part_name p) c) f → Has (gathered ds ps) f
  in_closes f p hp c hc k =
      let here = has_flat (at_close ds (part_name p)) p.closes c f hc k in
      let all = has_flat (λ (p : PartLog). flat_map (at_close ds (part_name p)) p.closes) ps p f hp here in
      append_right (flat_map (at_decision ds) ds) (at_closes ds ps ++ (at_markers ds ps ++ at_names ds ps)) f (append_left (at_closes ds ps) (at_markers ds ps ++ at_names ds ps) f all)

  in_markers : (f : MatchFault) (p : PartLog) → Has ps p → (m : Marker) → Has p.markers m → Has (at_marker ds (part_name p) m) f → Has (gathered ds ps) f
  in_markers f p hp m hm k =
      let here = has_flat (at_marker ds (part_name p)) p.markers m f hm k in
      let all = has_flat (λ (p : PartLog). flat_map (at_marker ds (part_name p)) p.markers) ps p f hp here in
      append_right (flat_map (at_decision ds) ds) (at_closes ds ps ++ (at_markers ds ps ++ at_names ds ps)) f
      (append_right (at_closes ds ps) (at_markers ds ps ++ at_names ds ps) f (append_left (at_markers ds ps) (at_names ds ps) f all))

  in_names : (f : MatchFault) (d : Decision) → Has ds d → (n : PartitionName) → Has (names_of d.partitions) n → Has (at_listed ps d n) f → Has (gathered ds ps) f
  in_names f d hd n hn k =
      let here = has_flat (at_listed ps d) (names_of d.partitions) n f hn k in
      let all = has_flat (λ (d : Decision). flat_map (at_listed ps d) (names_of d.partitions)) ds d f hd here in
      append_right (flat_map (at_decision ds) ds) (at_closes ds ps ++ (at_markers ds ps ++ at_names ds ps)) f
      (append_right (at_closes ds ps) (at_markers ds ps ++ at_names ds ps) f (append_right (at_markers ds ps) (at_names ds ps) f all))

  -- what these deciders show of data, at the fault's place
  at_data : (f : MatchFault) (at : AtData ps f) (k : MatchFaultKind) (xs : List Decision) → f.kind ≡ k → deciders ds f.producer f.epoch ≡ xs
      → Has (of_deciders xs (part_name at.part) at.close) (fault_of at.close.producer at.close.epoch (Some (part_name at.part)) k) → Has (gathered ds ps) f
  at_data f at k xs e q h =
      let same : deciders ds at.close.producer at.close.epoch ≡ xs = ap (λ (z : ℤ). deciders ds z at.close.epoch) at.producer ∙ (ap (λ (z : ℤ). deciders ds f.producer z) at.epoch ∙ q) in
      let fault = fault_of at.close.producer at.close.epoch (Some (part_name at.part)) k in
      let there = subst (λ z. Has (of_deciders z (part_name at.part) at.close) fault) (sym same) h in
      subst (Has (gathered ds ps)) (is_fault f at.close.producer at.close.epoch (Some (part_name at.part)) k at.producer at.epoch at.partition e) (in_closes fault at.part at.has_part at.close at.has_close there)

  whole : (f : MatchFault) (k : MatchFaultKind) → f.kind ≡ k → StandsAs ds ps f k → Has (gathered ds ps) f
  whole f TwiceDecided e st =
      let r = some_of (deciders ds f.producer f.epoch) st.0 in
      let d = filter_has (is_of f.producer f.epoch) ds r.0 r.1 in
      let t = true_is_of r.0 f.producer f.epoch d.1 in
      let fault = fault_of r.0.producer r.0.epoch None TwiceDecided in
      let many : 2 ≤ length (deciders ds r.0.producer r.0.epoch) = subst (λ (z : ℤ). 2 ≤ length (deciders ds z r.0.epoch)) (sym t.0) (subst (λ (z : ℤ). 2 ≤ length (deciders ds f.producer z)) (sym t.1) st.0) in
      let more : 1 < length (deciders ds r.0.producer r.0.epoch) = omega (arith, many) in
      subst (Has (gathered ds ps)) (is_fault f r.0.producer r.0.epoch None TwiceDecided t.0 t.1 st.1 e)
      (in_decisions fault r.0 d.0 (has_if (nat_lt 1 (length (deciders ds r.0.producer r.0.epoch))) (fault ∷ []) fault (above 1 (length (deciders ds r.0.producer r.0.epoch)) more) (inl refl)))
  whole f Undecided e st = at_data f st.0 Undecided [] e st.1 (inl refl)
  whole f WrongKind e st =
      let at = st.0 in
      let d = st.1 in
      let fault = fault_of at.close.producer at.close.epoch (Some (part_name at.part)) WrongKind in
      let test : ends_as d at.close ≡ false = not_true (ends_as d at.close) (λ t. st.3 (ends_as_is d at.close t)) in
      at_data f at WrongKind (d ∷ []) e st.2 (append_left (unless (ends_as d at.close) fault) (unless (lists_name (part_name at.part) d) (fault_of at.close.producer at.close.epoch (Some (part_name at.part)) NotListed)) fault
      (has_unless (ends_as d at.close) fault test))
  whole f NotListed e st =
      let at = st.0 in
      let d = st.1 in
      let fault = fault_of at.close.producer at.close.epoch (Some (part_name at.part)) NotListed in
      let test : lists_name (part_name at.part) d ≡ false = not_true (lists_name (part_name at.part) d) (λ t. st.3 (lists_is d (part_name at.part) t)) in
      at_data f at NotListed (d ∷ []) e st.2 (append_right (unless (ends_as d at.close) (fault_of at.close.producer at.close.epoch (Some (part_name at.part)) WrongKind)) (unless (lists_name (part_name at.part) d) fault) fault
      (has_unless (lists_name (part_name at.part) d) fault test))
  whole f StrayMarker e st =
      let at = st.0 in
      let name = part_name at.part in
      let fault = fault_of at.marker.producer at.marker.epoch (Some name) StrayMarker in
      let accepts : Decision → Bool = λ d. ends d at.marker && lists_name name d in
      let test : list_any accepts ds ≡ false = not_true (list_any accepts ds) (λ t.
      let d = any_has accepts ds t in
      let both = and_parts (ends d.0 at.marker) (lists_name name d.0) d.2 in
      st.1 d.0 d.1 (ends_is d.0 at.marker both.0) (lists_is d.0 name both.1)) in
      subst (Has (gathered ds ps)) (is_fault f at.marker.producer at.marker.epoch (Some name) StrayMarker at.producer at.epoch at.partition e)
      (in_markers fault at.part at.has_part at.marker at.has_marker (has_unless (list_any accepts ds) fault test))
  whole f AbsentPartition e st =
      let at = st.0 in
      let d = at.decision in
      let fault = fault_of d.producer d.epoch (Some at.name) AbsentPartition in
      let test : is_found name_cmp (map part_name ps) at.name ≡ false = not_true (is_found name_cmp (map part_name ps) at.name) (λ t.
      let p = map_has part_name ps at.name (found_has name_cmp name_exact (map part_name ps) at.name t) in
      st.1 p.0 p.1 p.2) in
      let here = subst (λ (b : Bool). Has (if b then unless (list_any (has_marker d at.name) ps) (fault_of d.producer d.epoch (Some at.name) MissingMarker) else fault ∷ []) fault) (sym test) (inl refl) in
      subst (Has (gathered ds ps)) (is_fault f d.producer d.epoch (Some at.name) AbsentPartition at.producer at.epoch at.partition e) (in_names fault d at.has_decision at.name at.has_name here)
  whole f MissingMarker e st =
      let at = st.0 in
      let d = at.decision in
      let fault = fault_of d.producer d.epoch (Some at.name) MissingMarker in
      let found : is_found name_cmp (map part_name ps) at.name ≡ true = has_found name_cmp name_total (map part_name ps) at.name (subst (Has (map part_name ps)) st.3 (has_map part_name ps st.1 st.2)) in
      let test : list_any (has_marker d at.name) ps ≡ false = not_true (list_any (has_marker d at.name) ps) (λ t.
      let p = any_has (has_marker d at.name) ps t in
      let m = marker_is d at.name p.0 p.2 in
      st.4 p.0 m.1.0 p.1 m.0 m.1.1 m.1.2) in
      let here = subst (λ (b : Bool). Has (if b then unless (list_any (has_marker d at.name) ps) fault else fault_of d.producer d.epoch (Some at.name) AbsentPartition ∷ []) fault) (sym found) (has_unless (list_any (has_marker d at.name) ps) fault test) in
      subst (Has (gathered ds ps)) (is_fault f d.producer d.epoch (Some at.name) MissingMarker at.producer at.epoch at.partition e) (in_names fault d at.has_decision at.name at.has_name here)

  pub all_whole : (f : MatchFault) → Stands ds ps f → Has (gathered ds ps) f
  all_whole f st = whole f f.kind refl st
