use Rattle.eos_explaining.specs.Sentences.{case_text}
use Rattle.eos_explaining.proofs.LastCalls.{last}
use Rattle.eos_explaining.proofs.sentences.push_case.Goals as goal

pub returns : goal.returns
unfolding case_text
returns c = last _ _ _ c.in_ok-push_text.ensures (last _ _ _ c.in_ok-push_text-2.ensures (last _ _ _ c.in_ok-push_text-3.ensures (last _ _ _ c.in_ok-push_row_place.ensures (last _ _ _ c.in_ok-push_text-4.ensures (last _ _ _ c.in_ok-push_text-5.ensures c.push_text-6.ensures)))))
