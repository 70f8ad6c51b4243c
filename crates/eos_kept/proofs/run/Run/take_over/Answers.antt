use Rattle.std.proofs.Common.{rules, ◌≡◌, ◌<◌, ℕ, ℤ, map, Option, Some, sym, ap, subst, ◌∙◌, w64, length}
use Rattle.std.specs.List.{All}
use Rattle.std.specs.Ordering.{int_cmp}
use Rattle.std.specs.BTreeMap.{get}
use Rattle.std.proofs.lemmas.Int.{to_z-of_z}
use mir.Val.{SFits}
use Rattle.eos_fold.specs.declared.ends.Ends.{Ends}
use Rattle.eos_touch.specs.declared.touch.Touch.{Touch}
use Rattle.eos_fold.specs.declared.mark.EndMark.{EndMark}
use Rattle.eos_fold.specs.Indexes.{IndexesView}
use Rattle.eos_fold.specs.Tables.{ends_in}
use Rattle.eos_fold.specs.Taken.{HasRoom}
use Rattle.eos_kept.specs.Runs.{heads_of}
use Rattle.eos_fold.specs.Settling.{waiting_in, settled}
use Rattle.eos_fold.specs.Faults.{IsLeastOf, StandsAt}
use Rattle.eos_fold.specs.steps.Summaries.{TakesFault, only}
use Rattle.eos_fold.proofs.TableWrites.{no_entry}
use Rattle.eos_kept.proofs.run.Run.take_over.Goals as goal

pub unreachable-requires : goal.unreachable-requires
unreachable-requires c =
    let fits : SFits w64 c.args.producer = search rules in
    no_entry c.args.self.now.producers _ c.args.producer (to_z-of_z w64 c.args.producer fits) c.in_default.ensures.value c.requires.present

pub settle-requires : goal.settle-requires
settle-requires c =
    let fits : SFits w64 c.args.producer = search rules in
    let was : get int_cmp c.args.self.now.producers c.args.producer ≡ Some c.in-Some.ends.now = sym (c.in-Some.ensures.value ∙ ap (get int_cmp c.args.self.now.producers) (to_z-of_z w64 c.args.producer fits)) in
    let below = subst (λ (x : Ends). All (λ p. p < length c.args.self.now.heads.list) x.waiting.list) (ap ends_in was) c.requires.inside in
    subst (λ (x : IndexesView). All (λ p. p < length c.args.self.now.heads.list) x.list) (sym c.waiting.ensures) below

pub take_over-requires-clause-room : goal.take_over-requires-clause-room
take_over-requires-clause-room c =
    let fits : SFits w64 c.args.producer = search rules in
    let was : get int_cmp c.args.self.now.producers c.args.producer ≡ Some c.in-Some.ends.now = sym (c.in-Some.ensures.value ∙ ap (get int_cmp c.args.self.now.producers) (to_z-of_z w64 c.args.producer fits)) in
    subst (λ (x : Ends). HasRoom x c.args.after) (ap ends_in was) c.requires.room

pub returns-clause-heads : goal.returns-clause-heads
returns-clause-heads c = λ ds is places.
    let fits : SFits w64 c.args.producer = search rules in
    let was : get int_cmp c.args.self.now.producers c.args.producer ≡ Some c.in-Some.ends.now = sym (c.in-Some.ensures.value ∙ ap (get int_cmp c.args.self.now.producers) (to_z-of_z w64 c.args.producer fits)) in
    let e : c.in-Some.ends.now.waiting.list ≡ waiting_in c.args.producer ds = ap (λ (x : Ends). x.waiting.list) (sym (ap ends_in was)) ∙ places in
    c.settle.ensures.settled c.args.producer ds is (ap (λ (p : IndexesView). p.list) c.waiting.ensures ∙ e)
    ∙ ap (λ (o : Option EndMark). heads_of (map (settled (only c.args.producer o)) ds)) c.marker.ensures

pub returns-clause-fault : goal.returns-clause-fault
returns-clause-fault c =
    let fits : SFits w64 c.args.producer = search rules in
    let key = to_z-of_z w64 c.args.producer fits in
    let was : get int_cmp c.args.self.now.producers c.args.producer ≡ Some c.in-Some.ends.now = sym (c.in-Some.ensures.value ∙ ap (get int_cmp c.args.self.now.producers) key) in
    let least = subst (λ (k : ℤ). IsLeastOf (λ offset id kind. (id ≡ k) × StandsAt c.args.self.now.sequenced c.last.result c.first.result offset kind) c.at_seam-seam.result) key c.at_seam-seam.ensures in
    let there = subst (λ (x : Option (ℕ × Touch)). IsLeastOf (λ offset id kind. (id ≡ c.args.producer) × StandsAt c.args.self.now.sequenced x c.first.result offset kind) c.at_seam-seam.result) c.last.ensures least in
    let here = subst (λ (x : Option (ℕ × Touch)). IsLeastOf (λ offset id kind. (id ≡ c.args.producer) × StandsAt c.args.self.now.sequenced c.in-Some.ends.now.last x offset kind) c.at_seam-seam.result) c.first.ensures there in
    subst (λ (x : Ends). TakesFault c.args.self.now.sequenced c.args.producer x.last c.args.after.first c.args.self.now.fault c.earlier-self.result) (sym (ap ends_in was)) (c.at_seam-seam.result, c.earlier-self.ensures, here)
