use Rattle.eos_source.specs.Said.{known_by}
use Rattle.eos_source_check.proofs.FoldsAgain.{fold_read}
use Rattle.eos_source_check.proofs.LogsAgain.{log_read}
use Rattle.eos_source_check.proofs.again.fold_of_log.Goals as goal

pub returns-in-Ok-clause-ok : goal.returns-in-Ok-clause-ok
returns-in-Ok-clause-ok g c =
    let known = known_by (g.S.Source.said c.args.source.now) (g.S.Source.is_log c.args.source.now) c.args.piece in
    let e = c.in-Ok.ensures.ok in
    fold_read known c.args.name.now c.in-Ok.fold e.0 (log_read g.S.Reader.Read.remaining known c.in_ok-reader.reader _ e.0 c.in_ok-reader.ensures.ok e.1 c.in-Ok.ensures.end e.2) e.3
