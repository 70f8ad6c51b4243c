use Rattle.std.proofs.Common.{◌++◌, ◌∷◌, [], ◌∙◌, List, ap, sym, bytes_eq, take_all, ℤ, w32, rules}
use Rattle.std.proofs.lemmas.Int.{to_z-of_z}
use mir.Val.{SFits}
use Rattle.eos_evidence.specs.declared.ends.End.{End}
use Rattle.eos_notes.specs.ManifestNotes.{numbers_of}
use Rattle.eos_notes.proofs.PickedMore.{picked_in, picked_out}
use Rattle.eos_notes.proofs.manifest.numbers_in.Goals as goal
use Rattle.eos_notes.proofs.manifest.numbers_in.Goals.{then-eq+in_ok-push, else-eq}

pub loop-end-preserved : goal.loop-end-preserved
loop-end-preserved c =
    let ends = c.args.ends.now in
    let i = c.loop-end.end-index in
    let end : End = c.end-item.result in
    let now = c.loop-end.numbers.items in
    let of = λ (e : End). bytes_eq e.topic c.args.topic.now in
    let number = λ (e : End). e.partition in
    elim c.if-eq.branch [
      | then-eq+in_ok-push w ↦
          let fits : SFits w32 end.partition = search rules in
          let pushed = w.in_ok-push.ensures.items ∙ ap (λ (n : ℤ). now ++ n ∷ []) (to_z-of_z w32 end.partition fits) in
          picked_in of number now _ ends i end c.loop-end-test.true c.end-item.is (sym c.eq.ensures ∙ w.if-eq.true) c.loop-end.invariant ((λ j. (w.numbers-is j).items) ∙ pushed)
      | else-eq w ↦ picked_out of number now _ ends i end c.loop-end-test.true c.end-item.is (sym c.eq.ensures ∙ w.if-eq.false) c.loop-end.invariant (λ j. (w.numbers-is j).items)
    ]

pub returns : goal.returns
returns c = c.loop-end.invariant ∙ ap (λ (ends : List End). numbers_of ends c.args.topic.now) (take_all c.loop-end.end-index c.args.ends.now c.loop-end-test.false)
