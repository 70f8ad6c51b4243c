use Rattle.std.proofs.Common.{Option, refl, subst}
use Rattle.eos_sought.specs.declared.folded.Folded.{Folded}
use Rattle.eos_source_check.specs.Again.{AreFoldsNamed}
use Rattle.eos_explaining.proofs.Covered.{none_come, folds_come, folds_none, is_none, is_read}
use Rattle.eos_explaining.proofs.again.push_folds.Goals as goal

pub returns-in-None-clause-more : goal.returns-in-None-clause-more
returns-in-None-clause-more c = λ known shapes name named. none_come known shapes c.args.read.now.items

pub returns-in-None-clause-absent : goal.returns-in-None-clause-absent
returns-in-None-clause-absent c = λ known shapes name named none. (refl, folds_none known shapes name c.args.folds named c.in-None.is)

pub returns-in_ok-push-in-Some-clause-more : goal.returns-in_ok-push-in-Some-clause-more
returns-in_ok-push-in-Some-clause-more c = λ known shapes name named.
    folds_come known shapes name c.args.read.now.items c.push.new.self.items c.args.folds c.in-Some.folded named c.in-Some.is c.in_ok-push-in-Some.ensures.items

pub returns-in-None-clause-covered : goal.returns-in-None-clause-covered
returns-in-None-clause-covered c = λ known shapes name named none.
    is_none known shapes c.args.read.now.items name (subst (λ (o : Option Folded). AreFoldsNamed known shapes name o) c.in-None.is named)

pub returns-in_ok-push-in-Some-clause-covered : goal.returns-in_ok-push-in-Some-clause-covered
returns-in_ok-push-in-Some-clause-covered c = λ known shapes name named none.
    is_read known shapes c.args.read.now.items c.push.new.self.items name c.in-Some.folded none (subst (λ (o : Option Folded). AreFoldsNamed known shapes name o) c.in-Some.is named) c.in_ok-push-in-Some.ensures.items
