use Rattle.std.proofs.Common.{◌++◌, ◌∙◌, ap, List, append_assoc, Bool, subst, IsPermutation}
use Rattle.std.specs.Ordering.{nat_cmp}
use Rattle.std.specs.Cmp.Lexicographic.{slice_cmp}
use Rattle.eos_base.specs.Members.{is_found}
use Rattle.std.proofs.lemmas.Result.{IfOk-equal}
use Rattle.eos_commits.specs.Commits.{Topic}
use Rattle.eos_notes.specs.declared.note.Note.{Note}
use Rattle.eos_notes.specs.ManifestNotes.{absent_internal}
use Rattle.eos_notes.specs.declared.note.InternalTopic.TheVariants.{ConsumerOffsets, TransactionState}
use Rattle.eos_notes.proofs.TopicSets.{same_test}
use Rattle.eos_notes.proofs.manifest.push_internals.Goals as goal

pub returns : goal.returns
returns c =
    let set = c.in_ok-present.present in
    let of = subst (λ (topics : List Topic). IsPermutation topics set) (c.as_slice.ensures.value ∙ c.in_ok-topics.ensures) c.in_ok-present.ensures in
    let first = c.in_ok-push_internal.ensures in
    IfOk-equal c.push_internal-2.result _ _ _ c.push_internal-2.ensures
    (ap (λ (notes : List Note). notes ++ absent_internal (is_found (slice_cmp nat_cmp) set) TransactionState) first
    ∙ (append_assoc c.args.all.now.items (absent_internal (is_found (slice_cmp nat_cmp) set) ConsumerOffsets) (absent_internal (is_found (slice_cmp nat_cmp) set) TransactionState)
    ∙ ap (λ (has : Topic → Bool). c.args.all.now.items ++ (absent_internal has ConsumerOffsets ++ absent_internal has TransactionState)) (same_test _ set of)))
