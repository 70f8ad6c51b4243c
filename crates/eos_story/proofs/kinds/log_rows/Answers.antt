use Rattle.std.proofs.lemmas.Int.{to_z-of_z}
use Rattle.std.proofs.Common.{◌≡◌, List, ℕ, [], ◌∷◌, ap, ◌∙◌, codes, w32, FitsSigned, rules}
use Rattle.eos_claims.specs.declared.place.Place.{Place}
use Rattle.eos_sought.specs.declared.sought.Sought.TheVariants.{At}
use Rattle.eos_story.specs.Questions.{Records, in_log, states_of}
use Rattle.eos_story.proofs.RowsTold.{then, each_as}
use Rattle.eos_story.proofs.kinds.log_rows.Goals as goal

pub returns : goal.returns
returns c =
    let f : FitsSigned w32 c.args.fault.now.partition = search rules in
    let topic : c.in_ok-topic.topic ≡ codes "__transaction_state" = search rules in
    let fault = c.args.fault.now in
    let logs = c.args.scene.now.logs.now in
    let place : List ℕ → Place = λ t. record { partition = record { topic = t; partition = fault.partition }; offset = fault.offset } in
    let same = ap place topic in
    let copied = simp to_z-of_z at c.in_ok-at.ensures in
    let states = simp to_z-of_z at c.in_ok-push_states.ensures in
    then (each_as (Records (At (in_log fault)) 1 ∷ []) (ap (λ (p : Place). Records (At p) 1 ∷ []) (copied ∙ same)) c.in_ok-push_records.ensures)
    (each_as (states_of logs (in_log fault) fault.kind) (ap (λ (p : Place). states_of logs p fault.kind) same) states)
