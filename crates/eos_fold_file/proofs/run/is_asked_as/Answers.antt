use Rattle.std.proofs.Common.{◌≡◌, sym, ◌∙◌}
use Rattle.std.specs.Cmp.Lexicographic.{pointwise_decides, bytes_decides}
use Rattle.eos_fold_file.proofs.run.is_asked_as.Goals as goal

pub returns-in-Claims-Claims-clause-yes : goal.returns-in-Claims-Claims-clause-yes
returns-in-Claims-Claims-clause-yes c = λ t.
    let same = (pointwise_decides bytes_decides c.as_slice.result.now c.args.asked.topics.now).0 (sym c.eq.ensures ∙ t) in
    rw (c.in-Claims-Claims.is-0, c.in-Claims-Claims.is-1) (sym c.as_slice.ensures ∙ same)

pub returns-in-Claims-Claims-clause-no : goal.returns-in-Claims-Claims-clause-no
returns-in-Claims-Claims-clause-no c = λ asked.
    let same : c.in-Claims-Claims.topics ≡ c.args.asked.topics.now = rw (c.in-Claims-Claims.is-0, c.in-Claims-Claims.is-1) at asked in
    c.eq.ensures ∙ (pointwise_decides bytes_decides c.as_slice.result.now c.args.asked.topics.now).1 (c.as_slice.ensures ∙ same)
