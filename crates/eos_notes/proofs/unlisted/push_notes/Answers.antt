use Rattle.std.proofs.Common.{◌++◌, ◌∙◌, [], List, map, pos, ap, take_all}
use Rattle.eos_notes.specs.declared.unlisted.NameRef.{NameRef}
use Rattle.eos_notes.specs.CommitNotes.{unlisted_note}
use Rattle.eos_notes.specs.steps.Unlisted.{plain_name}
use Rattle.eos_notes.proofs.PushedMore.{named_more}
use Rattle.eos_notes.proofs.unlisted.push_notes.Goals as goal

pub loop-name-preserved : goal.loop-name-preserved
loop-name-preserved c =
    let blank : NameRef = record { topic = record { ref_ptr = (0, 0); now = [] }; partition = pos 0 } in
    named_more (unlisted_note c.args.group.now) plain_name c.args.all.now.items c.loop-name.all.items c.push_note.new.all.items c.args.names.now c.loop-name.name-index blank
    c.loop-name-test.true c.loop-name.invariant c.in_ok-push_note.ensures

pub returns : goal.returns
returns c =
    c.loop-name.invariant ∙ ap (λ (names : List NameRef). c.args.all.now.items ++ map (unlisted_note c.args.group.now) (map plain_name names)) (take_all c.loop-name.name-index c.args.names.now c.loop-name-test.false)
