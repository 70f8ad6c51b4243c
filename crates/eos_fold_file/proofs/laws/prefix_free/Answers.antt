use Rattle.std.proofs.Common.{[], ◌∙◌, sym}
use Rattle.std.proofs.lemmas.List.{append-nil}
use Rattle.eos_fold_file.specs.Files.{fold_text}
use Rattle.eos_fold_file.proofs.FileCodecs.{fold_prefix_free}
use Rattle.eos_fold_file.proofs.laws.prefix_free.Goals as goal

pub returns-clause-prefix : goal.returns-clause-prefix
returns-clause-prefix c = λ f g more hf hg e. (fold_prefix_free f g more hf hg e).1

pub returns-clause-one_fold : goal.returns-clause-one_fold
returns-clause-one_fold c = λ f g hf hg e. (fold_prefix_free f g [] hf hg (sym e ∙ sym (append-nil (fold_text f)))).0
