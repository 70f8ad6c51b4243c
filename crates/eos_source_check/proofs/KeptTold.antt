-- What is told of each partition, put together.
use Rattle.std.proofs.Common.{◌≡◌, List, [], ◌∷◌, map, refl, sym, ap, ◌∙◌}
use Rattle.eos_evidence.specs.declared.application.App.{App}
use Rattle.eos_evidence.specs.declared.partition.Partition.{Partition}
use Rattle.eos_check.specs.KeptLogs.{AreKeptOf}
use Rattle.eos_kept.specs.declared.part.Told.{Told}
use Rattle.eos_kept.specs.Parts.{HaveEpochs}
use Rattle.eos_notes.specs.Counts.{AreCounted}
use Rattle.eos_notes.specs.PartitionTallies.{HasBatches}
use Rattle.eos_reading.specs.Wanted.{wanted_log, wanted_of, kept_log}
use Rattle.eos_source.specs.Logs.{AreTold, tally_of}
use Rattle.eos_source_check.specs.steps.Apart.{counted_as}

pub record AreTogether (apps : List App) (ps : List Partition) (ts : List Told) : Type 0 where
  pub logs : AreKeptOf apps ps (map (λ t. t.part) ts) (map (λ t. t.fault) ts)
  pub counted : AreCounted ps (map counted_as (map tally_of ts))
  pub epochs : HaveEpochs ps (map (λ t. t.epochs) ts)

pub kept_told : (apps : List App) (ps : List Partition) (ts : List Told) → AreTold apps ps ts → AreTogether apps ps ts
kept_told apps [] [] h = record { logs = record { whole = []; of = tt; parts = refl; faults = tt }; counted = tt; epochs = tt }
kept_told apps [] (t ∷ ts) h = absurd h
kept_told apps (p ∷ ps) [] h = absurd h
kept_told apps (p ∷ ps) (t ∷ ts) h =
    let rest = kept_told apps ps ts h.1 in
    let one = h.0.part in
    let kept : t.part ≡ kept_log apps one.log = one.wanted ∙ ap (λ name. wanted_log (wanted_of apps name) one.log) (sym one.of.log.of_topic) in
    let of = h.0.batches in
    let batches : HasBatches p.segments t.batches = record { batches = of.batches; stop = of.stop; front = of.front; counted = of.counted } in
    record {
      logs = record {
        whole = one.log ∷ rest.logs.whole;
        of = (one.of, rest.logs.of);
        parts = λ i. kept i ∷ rest.logs.parts i;
        faults = (one.least, rest.logs.faults);
      };
      counted = (record { batches = batches; segments_are = h.0.sizes.counted; bytes_are = h.0.sizes.bytes_are }, rest.counted);
      epochs = (h.0.epochs, rest.epochs);
    }
