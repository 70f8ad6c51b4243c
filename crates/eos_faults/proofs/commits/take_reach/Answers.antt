use Rattle.std.proofs.Common.{ap, sym, ◌∙◌}
use Rattle.std.specs.Prelude.{option_map}
use Rattle.eos_commits.specs.Plain.{plain_commit}
use Rattle.eos_faults.specs.steps.Tables.{further, pass_view, key_by}
use Rattle.eos_faults.proofs.TableSteps.{reach_past, reach_more}
use Rattle.eos_faults.proofs.commits.take_reach.Goals as goal

pub returns-in_default : goal.returns-in_default
returns-in_default c = λ before are.
    reach_past c.args.reached.now before (plain_commit c.args.commit.now) are
    (ap (key_by c.args.commit.now.writer) (sym c.name_of.ensures) ∙ (sym c.pass_key.ensures ∙ ap (option_map pass_view) c.in_default.is))

pub returns : goal.returns
returns c = λ before are.
    reach_more c.args.reached.now c.insert.new.self before (plain_commit c.args.commit.now) c.in-Some.key c.reach_in.result c.further-reach.result are
    (ap (option_map pass_view) (sym c.in-Some.is) ∙ (c.pass_key.ensures ∙ ap (key_by c.args.commit.now.writer) c.name_of.ensures))
    c.reach_in.ensures (c.further-reach.ensures ∙ ap (λ z. further (option_map (λ o. o.offset) c.reach_in.result) z) c.offset_of.ensures) c.in_ok-insert.ensures.updates.0
