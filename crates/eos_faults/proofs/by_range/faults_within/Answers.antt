use Rattle.std.proofs.Common.{subst}
use Rattle.std.proofs.lemmas.Result.{on_ok_weaker}
use Rattle.eos_faults.specs.declared.tables.Books.{Books}
use Rattle.eos_faults.specs.steps.Ranges.{is_within, restricted}
use Rattle.eos_faults.specs.steps.Taken.{group_in, named_faults}
use Rattle.eos_faults.proofs.Restricted.{faults_within, reads_within}
use Rattle.eos_faults.proofs.by_range.faults_within.Goals as goal

pub returns : goal.returns
returns g c =
    let within = is_within c.args.range.now in
    on_ok_weaker c.faults_by_source.result (λ told. (
      told.0,
      subst (λ (b : Books). g.S.FaultSink.takes c.args.sink.now (named_faults (group_in b) told.0) c.faults_by_source.new.sink) c.in_ok-tables.ensures.books told.1,
      λ a reads are. faults_within within a told.0 (told.2 (restricted within a) (reads_within within a reads) (c.in_ok-tables.ensures.tables a are)),
    )) c.faults_by_source.ensures
