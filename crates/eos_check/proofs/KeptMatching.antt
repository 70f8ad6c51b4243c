-- Decisions are matched with the logs by the closes and the markers of each partition.
use Rattle.std.proofs.Common.{◌≡◌, ◌↔◌, List, map, Some, refl, sym, ap, ◌∙◌, subst}
use Rattle.eos_base.specs.declared.partition_name.PartitionName.{PartitionName}
use Rattle.eos_base.specs.Members.{Has}
use Rattle.eos_batch.specs.declared.marker.Marker.{Marker}
use Rattle.eos_evidence.specs.declared.application.App.{App}
use Rattle.eos_txnlog.specs.declared.decision.Decision.{Decision}
use Rattle.eos_txnlog.specs.PartitionSets.{names_of}
use Rattle.eos_fold.specs.declared.close.Close.{Close}
use Rattle.eos_fold.specs.Parts.{part_name, PartLog}
use Rattle.eos_verdict.specs.declared.match_fault.MatchFault.{MatchFault}
use Rattle.eos_verdict.specs.declared.match_fault.MatchFaultKind.{MatchFaultKind}
use Rattle.eos_verdict.specs.declared.match_fault.MatchFaultKind.TheVariants.{TwiceDecided, Undecided, WrongKind, NotListed, StrayMarker, AbsentPartition, MissingMarker}
use Rattle.eos_table.specs.Atomic.{EndsAs, Ends, Atomic}
use Rattle.eos_table.specs.MatchFaults.{AtData, AtMarker, StandsAs, Stands}
use Rattle.eos_table.proofs.AtomicLaw.{law as atomic_law}
use Rattle.eos_reading.specs.Wanted.{kept_log, wanted_logs}
use Rattle.eos_reading.proofs.SameThrough.{has_same}
use Rattle.eos_check.specs.KeptVerdicts.{StandAlike}
use Rattle.eos_check.proofs.SeenSame.{map_seen}

abbrev Seen : Type 0
Seen = PartitionName × List Close × List Marker

abbrev seen : PartLog → Seen
seen p = (part_name p, p.closes, p.markers)

all_seen : (apps : List App) (ps : List PartLog) → map seen (wanted_logs apps ps) ≡ map seen ps
all_seen apps ps = map_seen (kept_log apps) seen (λ p. refl) ps

-- ---- the like of a partition

record Like (qs : List PartLog) (p : PartLog) : Type 0 where
  part : PartLog
  has : Has qs part
  name : part_name part ≡ part_name p
  closes : part.closes ≡ p.closes
  markers : part.markers ≡ p.markers

like : (ps qs : List PartLog) → map seen ps ≡ map seen qs → (p : PartLog) → Has ps p → Like qs p
like ps qs same p has =
    let l = has_same seen ps qs same p has in
    record { part = l.0; has = l.1; name = ap (λ (s : Seen). s.0) l.2; closes = ap (λ (s : Seen). s.1) l.2; markers = ap (λ (s : Seen). s.2) l.2 }

-- ---- faults

record DataLike (ps qs : List PartLog) (f : MatchFault) (at : AtData ps f) : Type 0 where
  there : AtData qs f
  close : there.close ≡ at.close
  name : part_name there.part ≡ part_name at.part

record MarkerLike (ps qs : List PartLog) (f : MatchFault) (at : AtMarker ps f) : Type 0 where
  there : AtMarker qs f
  marker : there.marker ≡ at.marker
  name : part_name there.part ≡ part_name at.part

module _ (ds : List Decision) (ps qs : List PartLog) (same : map seen ps ≡ map seen qs) where
  at_data : (f : MatchFault) (at : AtData ps f) → DataLike ps qs f at
  at_data f at =
      let l = like ps qs same at.part at.has_part in
      record {
        there = record {
          part = l.part;
          close = at.close;
          has_part = l.has;
          has_close = subst (λ (cs : List Close). Has cs at.close) (sym l.closes) at.has_close;
          producer = at.producer;
          epoch = at.epoch;
          partition = at.partition ∙ ap Some (sym l.name);
        };
        close = refl;
        name = l.name;
      }

  at_marker : (f : MatchFault) (at : AtMarker ps f) → MarkerLike ps qs f at
  at_marker f at =
      let l = like ps qs same at.part at.has_part in
      record {
        there = record {
          part = l.part;
          marker = at.marker;
          has_part = l.has;
          has_marker = subst (λ (ms : List Marker). Has ms at.marker) (sym l.markers) at.has_marker;
          producer = at.producer;
          epoch = at.epoch;
          partition = at.partition ∙ ap Some (sym l.name);
        };
        marker = refl;
        name = l.name;
      }

  stands_as : (f : MatchFault) (k : MatchFaultKind) → StandsAs ds ps f k → StandsAs ds qs f k
  stands_as f TwiceDecided s = s
  stands_as f Undecided s = ((at_data f s.0).there, s.1)
  stands_as f WrongKind s =
      let d = at_data f s.0 in
      (d.there, s.1, s.2, λ ends. s.3 (subst (EndsAs s.1) d.close ends))
  stands_as f NotListed s =
      let d = at_data f s.0 in
      (d.there, s.1, s.2, λ listed. s.3 (subst (Has (names_of s.1.partitions)) d.name listed))
  stands_as f StrayMarker s =
      let m = at_marker f s.0 in
      (m.there, λ decision has ends listed. s.1 decision has (subst (Ends decision) m.marker ends) (subst (Has (names_of decision.partitions)) m.name listed))
  stands_as f AbsentPartition s = (s.0, λ part has name. let l = like qs ps (sym same) part has in s.1 l.part l.has (l.name ∙ name))
  stands_as f MissingMarker s =
      let l = like ps qs same s.1 s.2 in (
        s.0,
        l.part,
        l.has,
        l.name ∙ s.3,
        λ part marker has name has_marker ends.
            let m = like qs ps (sym same) part has in
            s.4 m.part marker m.has (m.name ∙ name) (subst (λ (ms : List Marker). Has ms marker) (sym m.markers) has_marker) ends,
      )

pub faults_kept : (apps : List App) (ds : List Decision) (ps : List PartLog) → StandAlike (Stands ds (wanted_logs apps ps)) (Stands ds ps)
faults_kept apps ds ps f = (
  stands_as ds (wanted_logs apps ps) ps (all_seen apps ps) f f.kind,
  stands_as ds ps (wanted_logs apps ps) (sym (all_seen apps ps)) f f.kind,
)

pub rule_kept : (apps : List App) (ds : List Decision) (ps : List PartLog) → Atomic ds (wanted_logs apps ps) ↔ Atomic ds ps
rule_kept apps ds ps = (
  λ kept. (atomic_law ds ps).1 (λ f s. (atomic_law ds (wanted_logs apps ps)).0 kept f ((faults_kept apps ds ps f).1 s)),
  λ rule. (atomic_law ds (wanted_logs apps ps)).1 (λ f s. (atomic_law ds ps).0 rule f ((faults_kept apps ds ps f).0 s)),
)
