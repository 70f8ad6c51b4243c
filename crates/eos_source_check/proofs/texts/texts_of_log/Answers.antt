use Rattle.std.proofs.Common.{◌∙◌, sym, w64, rules}
use Rattle.std.proofs.lemmas.Int.{to_z-of_z}
use mir.Val.{SFits}
use Rattle.eos_source.specs.Said.{known_by}
use Rattle.eos_source_check.proofs.LogsAgain.{log_read}
use Rattle.eos_source_check.proofs.TextsAgain.{text_read}
use Rattle.eos_source_check.proofs.texts.texts_of_log.Goals as goal

pub returns-in-Ok-clause-ok : goal.returns-in-Ok-clause-ok
returns-in-Ok-clause-ok g c =
    let known = known_by (g.S.Source.said c.args.source.now) (g.S.Source.is_log c.args.source.now) c.args.piece in
    let e = c.in-Ok.ensures.ok in
    let fits : SFits w64 c.args.name.now.base = search rules in
    let same = to_z-of_z w64 c.args.name.now.base fits in
    text_read known c.args.name.now c.in-Ok.run' e.0 (log_read g.S.Reader.Read.remaining known c.in_ok-reader.reader _ e.0 c.in_ok-reader.ensures.ok e.1 c.in-Ok.ensures.end e.2)
    (λ segment topic base bytes. e.3 segment (topic ∙ sym c.as_slice.ensures) (base ∙ sym same) bytes) c.in-Ok.ensures.wanted c.in-Ok.ensures.claims
