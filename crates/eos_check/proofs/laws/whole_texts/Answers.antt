use Rattle.eos_check.proofs.WholeTexts as texts
use Rattle.eos_check.proofs.laws.whole_texts.Goals as goal

pub returns-clause-fronts : goal.returns-clause-fronts
returns-clause-fronts c = texts.fronts

pub returns-clause-parts : goal.returns-clause-parts
returns-clause-parts c = texts.parts
