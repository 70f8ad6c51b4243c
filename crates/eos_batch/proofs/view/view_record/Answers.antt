use Rattle.eos_batch.proofs.LentRecords.{found_text, text_found, text_stands}
use Rattle.eos_batch.proofs.view.view_record.Goals as goal

pub record_of-requires : goal.record_of-requires
record_of-requires c =
    let read = rw c.starting_at-rest.ensures at c.in-Ok.ensures.gives in
    (c.requires.found.0, found_text c.args.at c.args.bytes.now c.requires.found.0 c.in-Ok.text c.read_bytes.new.rest c.requires.found.1 read)

pub unreachable-requires : goal.unreachable-requires
unreachable-requires c =
    let fails = rw c.starting_at-rest.ensures at c.in-Err.ensures.gives in
    text_stands c.args.at c.args.bytes.now c.requires.found.0 c.in-Err.field-0 c.requires.found.1 c.in-Err.ensures.real fails

pub returns : goal.returns
returns c =
    let read = rw c.starting_at-rest.ensures at c.in-Ok.ensures.gives in
    text_found c.args.at c.args.bytes.now c.record_of.result c.in-Ok.text c.read_bytes.new.rest read c.record_of.ensures
