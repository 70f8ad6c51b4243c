use Rattle.std.proofs.Common.{ap}
use Rattle.eos_text.specs.Catalogue.{transaction_log_codes}
use Rattle.eos_text.specs.Kinds.{codes_of, have_briefs}
use Rattle.eos_text.proofs.phases.of_transaction_log.Goals as goal

pub returns : goal.returns
unfolding transaction_log_codes
returns c = record { named = ap codes_of c.as_slice.ensures; briefs = ap have_briefs c.as_slice.ensures }
