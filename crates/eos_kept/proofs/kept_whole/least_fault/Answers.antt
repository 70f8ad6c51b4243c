use Rattle.std.proofs.Common.{rules, sym, ap, ◌∙◌, ℤ, w32, w64}
use Rattle.std.proofs.lemmas.Int.{to_z-of_z}
use mir.Val.{SFits}
use Rattle.eos_fold.specs.Stops.{kind_at_stop}
use Rattle.eos_kept.proofs.PartsMade.{pair_told, kind_told, none_told}
use Rattle.eos_kept.proofs.kept_whole.least_fault.Goals as goal

pub returns-in-Some : goal.returns-in-Some
returns-in-Some c = λ segments batches whole checked.
    let end = c.args.end.now in
    let fits : SFits w32 end.partition = search rules in
    let number = c.fault_of.ensures.partition ∙ to_z-of_z w32 end.partition fits in
    pair_told c.args.topic end.partition end.end segments batches c.args.front.now whole checked c.in-Some.fault c.fault_of.result c.in-Some.ensures c.fault_of.ensures.topic number c.fault_of.ensures.offset (c.fault_of.ensures.kind ∙ c.pair_kind.ensures)

pub returns-in-None : goal.returns-in-None
returns-in-None c = λ segments batches whole checked.
    let end = c.args.end.now in
    let f = c.args.front.now in
    let fits : SFits w64 end.end = search rules in
    let kind = sym c.in-None.is ∙ (c.kind_at_stop.ensures ∙ ap (λ (e : ℤ). kind_at_stop f.stop f.next e c.least_open-left.result) (to_z-of_z w64 end.end fits)) in
    none_told c.args.topic end.partition end.end segments batches f whole checked c.least_open-left.result c.in_default.ensures c.least_open-left.ensures kind

pub returns-in-Some-kind_at_stop : goal.returns-in-Some-kind_at_stop
returns-in-Some-kind_at_stop c = λ segments batches whole checked.
    let end = c.args.end.now in
    let f = c.args.front.now in
    let end_fits : SFits w64 end.end = search rules in
    let number_fits : SFits w32 end.partition = search rules in
    let r = c.fault_of-in-Some-kind_at_stop in
    let number = r.ensures.partition ∙ to_z-of_z w32 end.partition number_fits in
    let kind = sym c.in-Some-kind_at_stop.is ∙ (c.kind_at_stop.ensures ∙ ap (λ (e : ℤ). kind_at_stop f.stop f.next e c.least_open-left.result) (to_z-of_z w64 end.end end_fits)) in
    kind_told c.args.topic end.partition end.end segments batches f whole checked c.least_open-left.result c.in-Some-kind_at_stop.kind r.result c.in_default.ensures c.least_open-left.ensures kind r.ensures.topic number r.ensures.offset r.ensures.kind
