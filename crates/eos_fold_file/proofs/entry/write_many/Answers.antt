use Rattle.std.proofs.Common.{◌++◌, ap, ◌∙◌, subst, arith}
use Rattle.eos_fold_file.proofs.LegalFolds.{each_from_all}
use Rattle.eos_fold_file.proofs.Loop.{piece_more, each_more}
use Rattle.eos_fold_file.proofs.entry.write_many.Goals as goal

pub loop-entry-preserved : goal.loop-entry-preserved
loop-entry-preserved g c =
    let xs = c.args.entries.now in
    let i = c.loop-entry.entry-index in
    let x = c.entry-item.result in
    record {
      text = piece_more g.T.Entry.entry_text c.args.out.now.items c.loop-entry.out.items _ xs i x c.loop-entry-test.true c.loop-entry.invariant.text
          (c.in_ok-write.ensures.text ∙ ap (λ (t : g.row.T.Denot). c.loop-entry.out.items ++ g.T.Entry.entry_text t) c.entry-item.is);
      fit = each_more g.T.Entry.entry_fits xs i x c.loop-entry-test.true c.loop-entry.invariant.fit (subst g.T.Entry.entry_fits c.entry-item.is c.in_ok-write.ensures.fit);
    }

pub returns-clause-fit : goal.returns-clause-fit
returns-clause-fit g c = each_from_all g.T.Entry.entry_fits c.args.entries.now (λ k d lt. c.loop-entry.invariant.fit k d (omega (arith, c.loop-entry-test.false)))
