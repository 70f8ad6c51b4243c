use Rattle.eos_fold_file.proofs.FoldAnswers.{fold_written}
use Rattle.eos_fold_file.proofs.write.encode_fold.Goals as goal

pub returns-clause-reads_back : goal.returns-clause-reads_back
returns-clause-reads_back c = λ right. fold_written c.write_fold.result (λ v. v.items) c.args.fold.now c.write_fold.ensures.bytes c.write_fold.ensures.checksum c.write_fold.ensures.fit right
