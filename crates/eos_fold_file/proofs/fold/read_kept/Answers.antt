use Rattle.std.proofs.Common.{◌∙◌, ap}
use Rattle.eos_fold_file.proofs.FrontSteps.{claims_front, texts_front}
use Rattle.eos_fold_file.proofs.KeptMapped.{all_bare}
use Rattle.eos_fold_file.proofs.fold.read_kept.Goals as goal

pub returns-in_ok-copies_of-in-Claims-clause-ok : goal.returns-in_ok-copies_of-in-Claims-clause-ok
returns-in_ok-copies_of-in-Claims-clause-ok g c =
    let e = c.in_ok-front-in-Claims.ensures.ok in
    let front = c.in_ok-front-in-Claims.front in
    let topics = c.new.ensures ∙ c.in_ok-copies_of-in-Claims.ensures in
    (e.0, e.1, e.2, claims_front c.args.topics.now c.new.result c.in_ok-front-in-Claims.outputs.items c.new-in-Claims.result c.args.begin e.0 front topics (c.new-in-Claims.ensures ∙ ap (λ outputs. outputs.items) c.into_vec.ensures) e.3)

pub of-requires : goal.of-requires
of-requires g c =
    let front = c.in_ok-front-in-Texts.ensures.ok.3 in
    all_bare front.batches c.in_ok-front-in-Texts.texts.list front.kept_is

pub returns-in_ok-front-in-Texts-clause-ok : goal.returns-in_ok-front-in-Texts-clause-ok
returns-in_ok-front-in-Texts-clause-ok g c =
    let e = c.in_ok-front-in-Texts.ensures.ok in
    (e.0, e.1, e.2, texts_front c.in_ok-front-in-Texts.texts.list c.of.result c.args.begin e.0 c.in_ok-front-in-Texts.front c.of.ensures e.3)
