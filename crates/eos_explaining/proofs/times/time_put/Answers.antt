use Rattle.std.proofs.Common.{◌∙◌, sym, ap, ℤ, Option, Some}
use Rattle.std.specs.Option.{option_copied}
use Rattle.eos_explaining.proofs.TimesFound.{put_there, put_elsewhere}
use Rattle.eos_explaining.proofs.times.time_put.Goals as goal

pub returns-then-is_in : goal.returns-then-is_in
returns-then-is_in c = λ p named is.
    ap (λ (t : Option ℤ). Some t) c.time_by.ensures ∙ put_there c.args.name.now p c.args.row.now c.args.was (option_copied c.args.batch) (sym c.is_in.ensures ∙ c.if-is_in.true) named is

pub returns-else-is_in : goal.returns-else-is_in
returns-else-is_in c = λ p named is. put_elsewhere c.args.name.now p c.args.row.now c.args.was (sym c.is_in.ensures ∙ c.if-is_in.false) named
