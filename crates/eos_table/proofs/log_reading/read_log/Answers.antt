use Rattle.std.proofs.Common.{◌≡◌, [], refl, sym, subst, drop, ◌+◌, ◌∙◌, rules}
use Rattle.std.specs.List.{flat_map}
use Rattle.std.proofs.lemmas.List.{drop_all}
use Rattle.eos_table.specs.TransactionLog.{transaction_parts, all_steps, steps_of}
use Rattle.eos_table.specs.steps.LogCandidates.{after, unread, none_found, part_faults}
use Rattle.eos_table.specs.steps.Held.{readout, Takes}
use Rattle.eos_table.proofs.LogSteps.{Leaves, one_part_less, log_first, other_first, none_left, shows_unread}
use Rattle.eos_table.proofs.log_reading.read_log.Goals as goal
use Rattle.eos_table.proofs.log_reading.read_log.Goals.{then-is_of_transaction_log+in-Ok, else-is_of_transaction_log}

pub loop-part-init : goal.loop-part-init
loop-part-init c =
    let held = c.new-held.ensures in
    let nothing : c.new-decisions.result.items ≡ [] = search rules in (
      unread (none_found c.args.keeps_all),
      shows_unread c.args.holding _ (none_found c.args.keeps_all) held.holding held.marks held.tables nothing c.new-faults.ensures,
      refl,
    )

pub loop-part-preserved : goal.loop-part-preserved
loop-part-preserved c =
    let logs = c.args.parts.now in
    let i = c.loop-part.part-index in
    let part = c.part-item.result in
    let rest = transaction_parts (drop (i + 1) logs) in
    let asked = c.args.holding in
    let old = readout c.loop-part.reading in
    let all = after (unread (none_found c.args.keeps_all)) (all_steps (transaction_parts logs)) (flat_map part_faults (transaction_parts logs)) in
    elim c.if-is_of_transaction_log.branch [
      | then-is_of_transaction_log+in-Ok w ↦
          let taken = subst (λ z. Takes old (readout z) (steps_of part) (part_faults part)) (sym w.reading-is) w.in-Ok.ensures in
          let first = log_first logs i part c.loop-part-test.true c.part-item.is (sym c.is_of_transaction_log.ensures ∙ w.if-is_of_transaction_log.true) in
          one_part_less asked old (readout c.if-is_of_transaction_log.reading) part rest all taken (subst (λ z. Leaves asked old z all) first c.loop-part.invariant)
      | else-is_of_transaction_log w ↦
          let first = other_first logs i part c.loop-part-test.true c.part-item.is (sym c.is_of_transaction_log.ensures ∙ w.if-is_of_transaction_log.false) in
          subst (λ z. Leaves asked (readout z) rest all) (sym w.reading-is) (subst (λ z. Leaves asked old z all) first c.loop-part.invariant)
    ]

pub returns : goal.returns
returns c =
    let logs = c.args.parts.now in
    let all = after (unread (none_found c.args.keeps_all)) (all_steps (transaction_parts logs)) (flat_map part_faults (transaction_parts logs)) in
    none_left c.args.holding (readout c.loop-part.reading) all
    (subst (λ z. Leaves c.args.holding (readout c.loop-part.reading) (transaction_parts z) all) (drop_all c.loop-part.part-index logs c.loop-part-test.false) c.loop-part.invariant)
