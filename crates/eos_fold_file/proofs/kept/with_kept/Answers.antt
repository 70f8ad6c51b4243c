use Rattle.std.proofs.Common.{◌≡◌, ℕ, length, sym, subst, ◌∙◌, rules}
use Rattle.std.specs.Prelude.{All}
use Rattle.eos_batch.specs.declared.record.Record.{Record}
use Rattle.eos_reading.specs.Kept.{kept_of}
use Rattle.eos_reading.specs.declared.wanted.Wanted.TheVariants as wants
use Rattle.eos_reading.specs.Records.{wanted_record, ReadsBack}
use Rattle.eos_fold_file.specs.Records.{FoldText}
use Rattle.eos_fold_file.specs.Folds.{fold_text_of, IsKeptOf}
use Rattle.eos_kept.specs.Records.{SaysClaim}
use Rattle.eos_fold_file.specs.steps.Kept.{AreReadBack}
use Rattle.eos_fold_file.proofs.RunsTaken.{kept_told, units_told, texts_told, texts_said}
use Rattle.eos_fold_file.proofs.kept.with_kept.Goals as goal

pub returns-in-Presence-clause-ok : goal.returns-in-Presence-clause-ok
returns-in-Presence-clause-ok c = λ segments batches front sized count kept.
    let units = c.in_ok-present-in-Presence.present.items in
    let len : length units ≡ c.args.count = search rules in
    let e = c.new.ensures in
    kept_told (λ (n : ℕ) (r : Record). tt) segments batches c.new.result c.args.front units c.args.sizes e.front e.kept e.sizes front sized (units_told batches units c.args.count len count)

pub returns-clause-ok : goal.returns-clause-ok
returns-clause-ok c = λ segments batches front sized count kept.
    let of : c.in-Texts.texts ≡ kept_of (λ (n : ℕ) (r : Record). fold_text_of r) batches = subst (IsKeptOf batches) c.in-Texts.is kept in
    let copies = c.into_texts.result.list in
    let e = c.new-in-Texts.ensures in
    kept_told (λ (n : ℕ) (r : Record). wanted_record wants.Texts r) segments batches c.new-in-Texts.result c.args.front copies c.args.sizes e.front e.kept e.sizes front sized
    (texts_told batches c.in-Texts.texts copies c.into_texts.ensures of)

pub returns-clause-claims : goal.returns-clause-claims
returns-clause-claims c =
    let back : All (λ (t : FoldText). ReadsBack t.claim) c.in-Texts.texts = subst AreReadBack c.in-Texts.is c.requires.claims in
    subst (All SaysClaim) (sym (c.new-in-Texts.ensures.kept ∙ c.into_texts.ensures)) (texts_said c.in-Texts.texts back)
