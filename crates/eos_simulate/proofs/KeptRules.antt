-- Each partition's log of a cluster at rest is whole, sequenced and fenced.
use Rattle.std.proofs.Common.{◌≡◌, ◌↔◌, ℕ, zero, suc, ◌+◌, ◌<◌, ◌≤◌, ℤ, pos, Bool, true, not, List, [], ◌∷◌, map, length, Option, Some, None, refl, sym, ap, subst, ◌∙◌, arith, inl, inr}
use Rattle.std.specs.Option.{option_map}
use Rattle.std.specs.List.{range_with_len}
use Rattle.eos_base.specs.Members.{Has}
use Rattle.eos_batch.specs.declared.batch.Batch.{Batch}
use Rattle.eos_evidence.specs.declared.partition.Partition.{Partition}
use Rattle.eos_evidence.specs.Topics.{is_internal}
use Rattle.eos_touch.specs.declared.touch.Touch.{Touch}
use Rattle.eos_touch.specs.Pair.{is_open}
use Rattle.eos_touch.specs.Rules.{Fenced}
use Rattle.eos_touch.specs.Neighbours.{EachAfter, Accepts, IsSequencedIf}
use Rattle.eos_touch.proofs.NeighboursLaw.{law as neighbours}
use Rattle.eos_fold.specs.declared.stop.Stop.{Stop}
use Rattle.eos_fold.specs.declared.stop.Stop.TheVariants.{AtEnd}
use Rattle.eos_touch.specs.declared.fault.PartitionFaultKind.{PartitionFaultKind}
use Rattle.eos_touch.specs.declared.fault.PartitionFaultKind.TheVariants.{BadBatch, Gap, Pair, End, OpenAtEnd}
use Rattle.eos_fold.specs.Items.{items_of}
use Rattle.eos_fold.specs.Fronts.{IsFront}
use Rattle.eos_batch.specs.Marker.{markers_of}
use Rattle.eos_touch.specs.Touches.{touches_of}
use Rattle.eos_fold.specs.Parts.{PartLog, AreCloses}
use Rattle.eos_fold.specs.declared.close.Close.{Close}
use Rattle.eos_fold.specs.Standing.{StandsIn, IsOpen}
use Rattle.eos_fold.specs.Closes.{closes_of}
use Rattle.eos_fold.specs.Settling.{data_in}
use Rattle.eos_machine.specs.declared.config.Config.{Config}
use Rattle.eos_machine.specs.LogIndexes.{log_count, topic_of, number_of, is_sequenced}
use Rattle.eos_machine.specs.World.{World, log_at}
use Rattle.eos_machine.specs.Rest.{decisions_of}
use Rattle.eos_check.specs.PartitionRules.{KeepsRules}
use Rattle.eos_commits.specs.EvidenceLogs.{IsLogOf, AreLogsOf}
use Rattle.eos_check.specs.Good.{IsKeptLog, AreKeptLogs}
use Rattle.eos_check.proofs.FrontsUnique.{one_front}
use Rattle.eos_check.proofs.PairFaults.{EachHasRecords, touches_have_records, no_pair}
use Rattle.eos_check.proofs.RulesLaw.{right_front, have_records, NoFault, law as rules_law}
use Rattle.eos_machine.specs.Evidences.{log_segments}
use Rattle.eos_machine.proofs.PlaceNames.{sequenced_is}
use Rattle.eos_simulate.proofs.Partitions.{partition_at}
use Rattle.eos_simulate.proofs.Settled.{IsSettled, IsLog, AreAt, log_batches}
use Rattle.eos_simulate.proofs.WholeFronts.{all_batches, records_are, whole_front, all_agree}
use Rattle.eos_simulate.proofs.Agreeing.{Agrees}
use Rattle.eos_simulate.proofs.LogTouches.{each_fits, none_open}

-- the batches of the log at a place, as they are written
abbrev written : Config → World → ℕ → List Batch
written c w p = all_batches c p w.elections (log_at w p)

front : (c : Config) (w : World) (p : ℕ) → IsSettled c w → p < log_count c → IsFront 0 (log_segments c p w.elections (log_at w p)) (written c w p) AtEnd
front c w p s l = whole_front c p w.elections (log_at w p) s.config (s.written p l)

-- whether the last touch is open is the same of a batch and of its records one by one
is_open_too : (o p : Option Touch) → option_map is_open o ≡ option_map is_open p → IsOpen o → IsOpen p
is_open_too None p e h = absurd h
is_open_too (Some x) None e h = absurd cc
is_open_too (Some x) (Some y) e h = some_is (is_open x) (is_open y) e h
  where
    some_is : (a b : Bool) → Some a ≡ Some b → a ≡ true → b ≡ true
    some_is a b e h = cc

same_closes : (bs cs closes : List Close) → ((x : Close) → Has bs x ↔ Has cs x) → AreCloses bs closes → AreCloses cs closes
same_closes bs cs closes h a = record { members = λ x. (λ k. (h x).0 ((a.members x).0 k), λ k. (a.members x).1 ((h x).1 k)); ascend = a.ascend }

no_fault : (c : Config) (w : World) (p : ℕ) → IsSettled c w → p < log_count c → NoFault (topic_of c p) (pos (number_of c p)) (pos (length (log_at w p))) (written c w p) AtEnd
no_fault c w p s l fault h = none_of fault.offset fault.kind h.stands
  where
    bs : List Batch
    bs = written c w p

    agrees : Agrees (written c w p) (log_batches c w p)
    agrees = all_agree c p w.elections (log_at w p) s.config

    checked : Bool
    checked = not (is_internal (topic_of c p))

    some : EachHasRecords bs
    some = have_records bs (right_front 0 (log_segments c p w.elections (log_at w p)) bs AtEnd (front c w p s l))

    rules : (id : ℤ) → IsSequencedIf checked (touches_of id bs) × Fenced (touches_of id bs)
    rules id = (neighbours checked (touches_of id bs) (touches_have_records id bs some)).0 (subst (λ b. EachAfter (Accepts b) None (touches_of id bs)) (sym (sequenced_is c p)) (agrees.follows (is_sequenced c p) id None (each_fits c w p id s.fit)))

    none_of : (offset : ℕ) (kind : PartitionFaultKind) → StandsIn checked (pos (length (log_at w p))) bs AtEnd offset kind → ⊥
    none_of offset (BadBatch segment byte f) k = absurd (let e = k.0 in cc)
    none_of offset (Gap found) k = absurd (let e = k.0 in cc)
    none_of offset (Pair f producer) k = no_pair checked bs some rules k.before k.here k.after producer k.next f k.parts k.touch k.wrong
    none_of offset (End declared) k = k.1 (ap pos (records_are c p w.elections (log_at w p) s.config))
    none_of offset (OpenAtEnd producer) k = none_open c (log_at w p) producer p (decisions_of c w) (λ a. (s.atomic a).matched p) (is_open_too _ _ (agrees.opens producer) k.1)

place_keeps : (c : Config) (w : World) (p : ℕ) → IsSettled c w → p < log_count c → KeepsRules (topic_of c p) (pos (length (log_at w p))) (log_segments c p w.elections (log_at w p)) (written c w p)
place_keeps c w p s l = (rules_law (topic_of c p) (pos (number_of c p)) (pos (length (log_at w p))) (log_segments c p w.elections (log_at w p)) (written c w p) AtEnd (front c w p s l)).0 (no_fault c w p s l)

-- ---- the logs of the evidence are these

abbrev Same : Config → World → ℕ → List Batch → Stop → Type 0
Same c w p bs stop = (bs ≡ written c w p) × (stop ≡ AtEnd)

same_front : (c : Config) (w : World) (p : ℕ) (bs : List Batch) (stop : Stop) → IsSettled c w → p < log_count c → IsFront 0 (log_segments c p w.elections (log_at w p)) bs stop → Same c w p bs stop
same_front c w p bs stop s l f = one_front 0 (log_segments c p w.elections (log_at w p)) bs (written c w p) stop AtEnd f (front c w p s l)

abbrev IsPlaceOf : Config → World → Partition → Type 0
IsPlaceOf c w p = (q : ℕ) × (q < log_count c) × (p ≡ partition_at c w q)

keeps : (c : Config) (w : World) (p : Partition) (l : PartLog) → IsLogOf p l → IsSettled c w → IsPlaceOf c w p → IsKeptLog p l
keeps c w p l of s q =
    let e : p ≡ partition_at c w q.0 = q.2 in
    let same = same_front c w q.0 of.batches of.stop s q.1 (subst (λ x. IsFront 0 x.segments of.batches of.stop) e of.front) in
    record {
      batches = of.batches;
      read = of.log;
      rules = subst (λ x. KeepsRules x.end.topic x.end.end x.segments of.batches) (sym e)
          (subst (KeepsRules (topic_of c q.0) (pos (length (log_at w q.0))) (log_segments c q.0 w.elections (log_at w q.0))) (sym same.0) (place_keeps c w q.0 s q.1));
    }

each_keeps : (c : Config) (w : World) (ps : List Partition) (ls : List PartLog) → AreLogsOf ps ls → IsSettled c w → ((p : Partition) → Has ps p → IsPlaceOf c w p) → AreKeptLogs ps ls
each_keeps c w [] [] of s h = tt
each_keeps c w [] (l ∷ ls) of s h = of
each_keeps c w (p ∷ ps) [] of s h = of
each_keeps c w (p ∷ ps) (l ∷ ls) of s h = (keeps c w p l of.0 s (h p (inl refl)), each_keeps c w ps ls of.1 s (λ r m. h r (inr m)))

each_is : (c : Config) (w : World) (a n : ℕ) → a + n ≤ log_count c → (p : Partition) → Has (map (partition_at c w) (range_with_len a n)) p → IsPlaceOf c w p
each_is c w a zero l p h = absurd h
each_is c w a (suc n) l p (inl e) = (a, omega (arith, l), sym e)
each_is c w a (suc n) l p (inr h) = each_is c w (a + 1) n (omega (arith, l)) p h

-- whole, sequenced and fenced
pub all_keep : (c : Config) (w : World) (ps : List Partition) (ls : List PartLog) → AreLogsOf ps ls → IsSettled c w → ps ≡ map (partition_at c w) (range_with_len 0 (log_count c)) → AreKeptLogs ps ls
all_keep c w ps ls of s e = each_keeps c w ps ls of s (λ p h. each_is c w 0 (log_count c) (omega arith) p (subst (λ qs. Has qs p) e h))

-- ---- what they hold

is_log : (c : Config) (w : World) (p : ℕ) (l : PartLog) → IsSettled c w → p < log_count c → IsLogOf (partition_at c w p) l → IsLog c w p l
is_log c w p l s m of =
    let same = same_front c w p of.batches of.stop s m of.front in
    let a = all_agree c p w.elections (log_at w p) s.config in
    record {
      topic = of.log.of_topic;
      number = of.log.of_number;
      items = of.log.items ∙ (ap (λ bs. items_of (data_in bs)) same.0 ∙ a.items);
      markers = of.log.markers ∙ (ap markers_of same.0 ∙ a.markers);
      closes = same_closes (closes_of (written c w p)) (closes_of (log_batches c w p)) l.closes a.closes (subst (λ bs. AreCloses (closes_of bs) l.closes) same.0 (record { members = of.log.closes; ascend = of.ascends }));
    }

are_at : (c : Config) (w : World) (a n : ℕ) (ls : List PartLog) → IsSettled c w → a + n ≤ log_count c → AreLogsOf (map (partition_at c w) (range_with_len a n)) ls → AreAt c w a n ls
are_at c w a zero [] s m of = tt
are_at c w a zero (l ∷ ls) s m of = of
are_at c w a (suc n) [] s m of = of
are_at c w a (suc n) (l ∷ ls) s m of = (is_log c w a l s (omega (arith, m)) of.0, are_at c w (a + 1) n ls s (omega (arith, m)) of.1)

pub logs_are : (c : Config) (w : World) (ps : List Partition) (ls : List PartLog) → AreLogsOf ps ls → IsSettled c w → ps ≡ map (partition_at c w) (range_with_len 0 (log_count c)) → AreAt c w 0 (log_count c) ls
logs_are c w ps ls of s e = are_at c w 0 (log_count c) ls s (omega arith) (subst (λ qs. AreLogsOf qs ls) e of)
