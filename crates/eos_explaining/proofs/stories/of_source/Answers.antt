use Rattle.std.proofs.Common.{inl, map, string_bytes}
use Rattle.std.proofs.lemmas.Result.{IfOk-weaker, IfErr-weaker}
use Rattle.eos_source.specs.Said.{known_by}
use Rattle.eos_explaining.specs.FirstStories.{AreFirstStories}
use Rattle.eos_explaining.proofs.Answered.{of_judged}
use Rattle.eos_explaining.proofs.Untold.{after}
use Rattle.eos_explaining.proofs.stories.of_source.Goals as goal

pub returns-in-Ok-clause-told : goal.returns-in-Ok-clause-told
returns-in-Ok-clause-told g c =
    let source = c.args.pieces.source.now in
    IfOk-weaker c.of_judged.result _ _ (λ texts told. of_judged (known_by (g.S.Source.said source) (g.S.Source.is_log source)) c.args.pieces.shape.now c.in-Ok.judged (λ e. AreFirstStories c.args.folder.now e c.args.first.now.most (map string_bytes texts.items))
    c.in-Ok.ensures.judged told) c.of_judged.ensures.told

pub returns-in-Ok-clause-opened : goal.returns-in-Ok-clause-opened
returns-in-Ok-clause-opened g c = IfOk-weaker c.of_judged.result _ _ (λ texts told. c.in-Ok.ensures.opened) c.of_judged.ensures.told

pub returns-in-Ok-clause-refused : goal.returns-in-Ok-clause-refused
returns-in-Ok-clause-refused g c =
    let source = c.args.pieces.source.now in
    IfErr-weaker c.of_judged.result _ _ (λ why refused. after (known_by (g.S.Source.said source) (g.S.Source.is_log source)) (g.S.Source.outcomes source) _ c.args.pieces.shape.now.partitions c.in-Ok.judged
    why c.in-Ok.ensures.opened refused) c.of_judged.ensures.refused

pub returns-in-Err-clause-refused : goal.returns-in-Err-clause-refused
returns-in-Err-clause-refused g c = inl c.in-Err.ensures.refused
