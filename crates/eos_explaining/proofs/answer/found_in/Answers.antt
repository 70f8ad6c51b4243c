use Rattle.std.proofs.Common.{◌≡◌, ◌∙◌, [], map, take, drop, sym, subst}
use Rattle.std.proofs.lemmas.List.{length-map}
use Rattle.eos_verdict.specs.declared.verdict.Verdict.TheVariants.{No}
use Rattle.eos_explaining.specs.declared.kinds.Pick.{Pick}
use Rattle.eos_explaining.proofs.answer.found_in.Goals as goal

pub returns-clause-found : goal.returns-clause-found
returns-clause-found g c =
    let told = c.in_ok-all_faults.ensures.ok in
    let faults = told.list in
    let picked = c.all_faults.new.sink in
    let all = told.taken.picked [] c.new-picked.ensures.none in
    let pick = told.taken.pick ∙ c.new-picked.ensures.pick in
    record {
      faults = faults;
      all = all.counts.all ∙ length-map faults No;
      line = c.in_ok-line.ensures (map No faults) all.counts;
      held = subst (λ (p : Pick). picked.told.items ≡ take p.most (drop p.from (map No faults))) pick all.held;
      list = told.holds.0;
      notes = λ e spec j. c.in_ok-notes.ensures e (spec ∙ sym c.spec.ensures.value) j;
    }
