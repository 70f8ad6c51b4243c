use Rattle.std.proofs.Common.{arith}
use Rattle.eos_fold_file.proofs.FrontSteps.{heads_fit}
use Rattle.eos_fold_file.proofs.front.read_front.Goals as goal

pub front_of-requires-clause-fit : goal.front_of-requires-clause-fit
front_of-requires-clause-fit g c =
    let e = c.in_ok-sealing.ensures.ok in
    let keep = g.K.Reading.kept c.args.reading.now in
    let h = e.3 (c.new-sealing.ensures keep) in
    let s = c.finish.ensures keep e.0 h.0 h.2 h.1 in
    heads_fit e.0 s.folds.batches _ s.folds.rest s.folds.heads_are

pub returns-clause-ok : goal.returns-clause-ok
returns-clause-ok g c =
    let e = c.in_ok-sealing.ensures.ok in
    let keep = g.K.Reading.kept c.args.reading.now in
    let h = e.3 (c.new-sealing.ensures keep) in
    let s = c.finish.ensures keep e.0 h.0 h.2 h.1 in
    (e.0, e.1, e.2, c.in_ok-both.ensures keep e.0 (omega (arith, e.2)) s)
