use Rattle.std.proofs.Common.{List, ap, ◌∙◌}
use Rattle.eos_simulate.specs.declared.cleaning.Logged.{Logged}
use Rattle.eos_simulate.specs.Cleaning.{log_of, cleaned_file}
use Rattle.eos_simulate.proofs.Gathered.{one_more}
use Rattle.eos_simulate.proofs.cleaning.cleaned_files.Goals as goal

pub loop-file-preserved : goal.loop-file-preserved
loop-file-preserved c =
    one_more (cleaned_file c.args.mistake.now (log_of c.args.mistake.now c.args.files.now)) c.args.files.now c.loop-file.file-index c.file-item.result _ c.loop-file.cleaned c.push_cleaned.new.cleaned c.loop-file-test.true c.file-item.is
    c.in_ok-push_cleaned.ensures (ap (λ (log : List Logged). cleaned_file c.args.mistake.now log c.file-item.result) (c.as_slice.ensures.value ∙ c.in_ok-log.ensures)) c.loop-file.invariant
