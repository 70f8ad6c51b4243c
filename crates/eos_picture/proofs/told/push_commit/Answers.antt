use Rattle.eos_text.proofs.Appended.{then}
use Rattle.eos_picture.specs.Titles.{commit_text}
use Rattle.eos_picture.proofs.LastTexts.{last}
use Rattle.eos_picture.proofs.told.push_commit.Goals as goal

pub returns : goal.returns
unfolding commit_text
returns c = last _ _ _ (then (rw c.as_slice.ensures at c.in_ok-push_escaped.ensures) (then c.in_ok-push_value.ensures (then c.in_ok-push_value-2.ensures c.in_ok-push_text.ensures))) c.push_text-2.ensures
