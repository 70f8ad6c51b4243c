use Rattle.std.proofs.Common.{◌≡◌, ◌<◌, ℕ, List, length, map, Some, None, sym, ap, ◌∙◌, arith}
use Rattle.std.specs.List.{slice_get}
use Rattle.eos_batch.specs.declared.record.Record.{Record}
use Rattle.eos_reading.specs.Outputs.{claim_kept}
use Rattle.eos_reading.specs.Records.{record_of}
use Rattle.eos_kept.specs.Records.{output_record, records_in}
use Rattle.eos_kept.proofs.RecordsLent.{each_same, lent_at}
use Rattle.eos_kept.proofs.records.Records.view.Goals as goal

pub returns-in-Presence : goal.returns-in-Presence
returns-in-Presence c =
    let i = c.args.i in
    let xs = c.in-Presence.field-0.items in
    let e : records_in c.args.self.now ≡ map (λ (one : Unit {0}). record_of None None None) xs = ap records_in c.in-Presence.is in
    let lt : i < length (map (λ (one : Unit {0}). record_of None None None) xs) = omega (arith, c.requires.inside, ap length e) in
    ap (λ (rs : List Record). slice_get rs i) e ∙ (each_same xs i (record_of None None None) lt ∙ ap Some (sym c.present.ensures))

pub returns-in-Claims : goal.returns-in-Claims
returns-in-Claims c =
    let i = c.args.i in
    let topics = c.in-Claims.topics.items in
    let xs = c.in-Claims.kept.items in
    let x = c.at.result.now in
    let e : records_in c.args.self.now ≡ map (output_record topics) xs = ap records_in c.in-Claims.is in
    let same = c.claim.ensures ∙ ap (λ (ts : List (List ℕ)). claim_kept ts x) c.as_slice.ensures.value in
    ap (λ (rs : List Record). slice_get rs i) e ∙ (lent_at (output_record topics) xs i x c.at.ensures ∙ ap Some (ap (record_of None None) (sym same) ∙ sym c.of_claim.ensures))

pub returns-in-Texts : goal.returns-in-Texts
returns-in-Texts c =
    let i = c.args.i in
    let e : records_in c.args.self.now ≡ c.in-Texts.kept.list = ap records_in c.in-Texts.is in
    ap (λ (rs : List Record). slice_get rs i) e ∙ c.view.ensures
