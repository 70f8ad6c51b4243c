use Rattle.std.proofs.Common.{◌≡◌, ◌≢◌, ◌+◌, ◌-◌, ◌++◌, List, length, take, drop, None, refl, sym, ap, subst, ◌∙◌, rules}
use Rattle.eos_batch.specs.declared.head.BatchHead.{BatchHead}
use Rattle.eos_fold.specs.declared.stop.Stop.TheVariants.{AtEnd}
use Rattle.eos_reading.specs.declared.seals.Seal.{Seal}
use Rattle.eos_reading.specs.Epochs.{epoch_behind}
use Rattle.eos_reading.specs.Heads.{HasHeads}
use Rattle.eos_reading.specs.Runs as read
use Rattle.eos_reading.specs.Seals.{AreSeals, entries_of}
use Rattle.eos_kept.specs.steps.Passing.{AreHeads}
use Rattle.eos_kept.specs.steps.Folding.{IsFolding}
use Rattle.eos_kept.proofs.PassedHeads.{are_heads}
use Rattle.eos_kept.proofs.ChunkSteps.{chunk, chunk_behind}
use Rattle.eos_kept.proofs.fold.SegmentFoldByteFold.take.Goals as goal

pub returns-then-not-is_at_end-clause-goes_on : goal.returns-then-not-is_at_end-clause-goes_on
returns-then-not-is_at_end-clause-goes_on g c = λ fed waiting more f is.
    let stopped : c.self.inside.front.stop ≢ AtEnd = search rules in
    let buffer = c.args.buffer.now in
    let v = c.self.inside in
    let all : c.len-size.result ≡ length buffer = search rules in
    let place : c.in-Some.place ≡ v.place + c.len-size.result = search rules in
    chunk_behind (g.K.Reading.kept c.args.told.now.reading) c.args.told.now.begin c.args.told.now.sequenced fed waiting more buffer _ _ c.len-size.result stopped is all refl refl refl place
    (subst (λ v. IsFolding (g.K.Reading.kept c.args.told.now.reading) c.args.told.now.begin c.args.told.now.sequenced fed waiting v) (sym c.self.view_is) f)

pub pass_all-requires-clause-heads : goal.pass_all-requires-clause-heads
pass_all-requires-clause-heads g c =
    let run = c.in_ok-taken.ensures in
    let same : c.keep_batches.new.heads.items ≡ run.more = run.heads_are ∙ ap (λ (hs : List BatchHead). hs ++ run.more) c.clear.ensures.items in
    (run.batches, subst (λ (hs : List BatchHead). AreHeads run.batches hs) (sym same) (are_heads c.args.buffer.now run.batches run.more _ run.reads))

pub read_seals-requires-clause-heads : goal.read_seals-requires-clause-heads
read_seals-requires-clause-heads g c =
    let run = c.in_ok-taken.ensures in
    let same : c.keep_batches.new.heads.items ≡ run.more = run.heads_are ∙ ap (λ (hs : List BatchHead). hs ++ run.more) c.clear.ensures.items in
    (run.batches, drop c.in_ok-taken.taken c.args.buffer.now, subst (λ (hs : List BatchHead). HasHeads c.args.buffer.now run.batches hs (drop c.in_ok-taken.taken c.args.buffer.now)) (sym (c.as_slice.ensures.value ∙ same)) run.reads)

pub returns-clause-goes_on : goal.returns-clause-goes_on
returns-clause-goes_on g c = λ fed waiting more f is.
    let keep = g.K.Reading.kept c.args.told.now.reading in
    let buffer = c.args.buffer.now in
    let v = c.self.inside in
    let first = c.in_ok-taken.ensures in
    let run = subst (λ (hs : List BatchHead). read.IsRun keep buffer hs c.keep_batches.new.heads.items (g.K.Kept.KeptList.list v.kept) (g.K.Kept.KeptList.list c.keep_batches.new.kept) c.in_ok-taken.taken c.in_ok-taken.fault) c.clear.ensures.items first in
    let same : c.keep_batches.new.heads.items ≡ run.more = run.heads_are in
    let heads = subst (λ (hs : List BatchHead). AreHeads run.batches hs) (sym same) (are_heads buffer run.batches run.more _ run.reads) in
    let end : v.front.stop ≡ AtEnd = search rules in
    let before : c.len-before.result ≡ length (g.K.Kept.KeptList.list v.kept) = search rules in
    let place : c.in-Some-checked_add.place ≡ v.place + c.in_ok-taken.taken = search rules in
    let kept = c.in_ok-keep_first.ensures ∙ ap (λ n. take (n + c.in_ok-count.count) (g.K.Kept.KeptList.list c.keep_batches.new.kept)) before in
    let all = c.in_ok-read_seals.ensures in
    let fresh : c.read_seals.new.seals.items ≡ all.0 = all.1 ∙ ap (λ (ss : List Seal). ss ++ all.0) c.clear-2.ensures.items in
    let sealed = subst (λ (hs : List BatchHead). AreSeals buffer hs c.read_seals.new.seals.items) (c.as_slice.ensures.value ∙ same) (subst (λ (ss : List Seal). AreSeals buffer c.as_slice.result.now ss) (sym fresh) all.2) in
    let few : c.truncate.new.self.items ≡ take (c.pass_all.new.front.batches - v.front.batches) c.read_seals.new.seals.items = c.truncate.ensures.items ∙ ap (λ n. take n c.read_seals.new.seals.items) c.passed_since.ensures in
    let epochs = c.in_ok-push_entries.ensures ∙ ap (λ (ss : List Seal). v.epochs.items ++ entries_of (epoch_behind None v.epochs.items) ss) (c.as_slice-2.ensures.value ∙ few) in
    chunk keep c.args.told.now.begin c.args.told.now.sequenced fed waiting more buffer _ _ c.pass_all.new.front _ _ _ c.in_ok-taken.taken c.in_ok-count.count c.in_ok-taken.fault is end run
    (c.in_ok-count.ensures.passed run.batches heads) c.pass_all.ensures.begin c.pass_all.ensures.sequenced kept place sealed epochs c.end_at.ensures
    (subst (λ v. IsFolding keep c.args.told.now.begin c.args.told.now.sequenced fed waiting v) (sym c.self.view_is) f)
