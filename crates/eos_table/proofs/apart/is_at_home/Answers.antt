use Rattle.std.proofs.Common.{◌≡◌, ◌∙◌, Some, cond, ap, sym, w32, rules}
use Rattle.std.proofs.lemmas.Int.{to_z-of_z}
use mir.Val.{SFits, to_z, of_z}
use Rattle.std.specs.Option.{option_copied}
use Rattle.eos_table.specs.TransactionLog.{same_id}
use Rattle.eos_table.specs.steps.Apart.{home_at}
use Rattle.eos_table.proofs.ApartSteps.{at_home, new_home}
use Rattle.eos_table.proofs.apart.is_at_home.Goals as goal

pub returns-in-Some : goal.returns-in-Some
returns-in-Some c = λ yes. at_home c.args.homes.now c.args.mark.now c.in-Some.home.now (sym c.get.ensures.value ∙ ap option_copied c.in-Some.is) (c.is_in.ensures yes)

pub returns-in_ok-insert-in-None : goal.returns-in_ok-insert-in-None
returns-in_ok-insert-in-None c = λ yes.
    let homes = c.args.homes.now in
    let fits : SFits w32 c.args.mark.now.partition = search rules in
    let number = to_z-of_z w32 c.args.mark.now.partition fits in
    let copied : c.in_ok-key-in-None.key ≡ c.args.mark.now.id = search rules in
    new_home homes c.insert.new.self c.args.mark.now (sym c.get.ensures.value ∙ ap option_copied c.in-None.is)
    (λ other. c.in_ok-insert-in-None.ensures.updates.0 other
    ∙ (ap (λ id. cond (same_id id other) (Some (to_z w32 (of_z w32 c.args.mark.now.partition))) (home_at homes other)) copied
    ∙ ap (λ n. cond (same_id c.args.mark.now.id other) (Some n) (home_at homes other)) number))
