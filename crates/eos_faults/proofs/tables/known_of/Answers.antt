use Rattle.std.proofs.Common.{ap, ◌∙◌}
use Rattle.std.specs.Prelude.{option_map}
use Rattle.std.specs.Ordering.{nat_cmp}
use Rattle.std.specs.Cmp.Lexicographic.{slice_cmp}
use Rattle.eos_faults.specs.declared.commits.Offset.{Offset}
use Rattle.eos_faults.specs.steps.Plain.{place_at}
use Rattle.eos_faults.specs.steps.Tables.{goes_past}
use Rattle.eos_faults.proofs.LookedUp.{committed_is, found_among}
use Rattle.eos_faults.proofs.tables.known_of.Goals as goal

pub returns : goal.returns
returns c = λ a are input.
    let source = c.args.source.now in
    record {
      source = c.has.ensures ∙ found_among (slice_cmp nat_cmp) a.sources c.args.tables.now.books.now.sources source.partition.topic.now are.sources;
      input = input;
      committed = c.goes_past.ensures ∙ (ap (goes_past source.offset) (ap (option_map (λ (o : Offset). o.offset)) c.offset_in-committed.ensures ∙ are.offsets source.partition) ∙ committed_is a.commits (place_at source));
    }
