use Rattle.std.proofs.lemmas.Result.{IfOk-weaker}
use Rattle.eos_source.specs.Said.{known_by}
use Rattle.eos_explaining.proofs.SeenLogs.{seen_as_kept, seen_with_texts}
use Rattle.eos_explaining.proofs.seen.seen_logs.Goals as goal

pub returns-then-is_of_claims-clause-seen : goal.returns-then-is_of_claims-clause-seen
returns-then-is_of_claims-clause-seen g c =
    let source = c.args.pieces.now.source.now in
    IfOk-weaker c.all_seen.result _ _ (λ seen are. seen_with_texts (known_by (g.S.Source.said source) (g.S.Source.is_log source)) c.args.pieces.now.shape.now c.args.parts.items seen.items are) c.all_seen.ensures.seen

pub returns-clause-seen : goal.returns-clause-seen
returns-clause-seen g c =
    let source = c.args.pieces.now.source.now in
    seen_as_kept (known_by (g.S.Source.said source) (g.S.Source.is_log source)) c.args.pieces.now.shape.now c.args.parts.items
