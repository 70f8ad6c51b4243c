use Rattle.std.proofs.Common.{rules, ◌≡◌, ◌<◌, ℤ, Bool, List, [], length, refl, ap, sym, subst, ◌∙◌, w64}
use Rattle.std.specs.List.{All}
use Rattle.std.specs.Ordering.{int_cmp}
use Rattle.std.specs.Map.{lookup}
use Rattle.std.specs.BTreeMap.{get, is_at}
use Rattle.std.proofs.lemmas.Int.{to_z-of_z}
use mir.Val.{SFits, to_z, of_z}
use Rattle.eos_fold.specs.declared.ends.Ends.{Ends}
use Rattle.std.specs.Prelude.{IsSome}
use Rattle.eos_fold.specs.Tables.{ends_at}
use Rattle.eos_fold.specs.Taken.{HasRoom}
use Rattle.eos_fold.specs.steps.Summaries.{TakesFault}
use Rattle.eos_fold.specs.steps.Joins.{Rest, rest_of}
use Rattle.eos_fold.proofs.TakingOver.{nothing_left}
use Rattle.eos_kept.specs.steps.Taking.{HasTaken}
use Rattle.eos_kept.proofs.Takings.{begun, inside, can_next, taken_next}
use Rattle.eos_kept.proofs.run.Run.take_all.Goals as goal

pub loop-producer-init : goal.loop-producer-init
loop-producer-init c = record { all = refl; capacity = refl; sequenced = refl; taking = c.requires; taken = λ xs ys h. begun xs ys c.args.self.now.sequenced _ _ _ _ h }

pub loop-producer-preserved : goal.loop-producer-preserved
loop-producer-preserved c =
    let fits : SFits w64 c.in-Some.producer = search rules in
    let key = to_z-of_z w64 c.in-Some.producer fits in
    let o = c.take_over.ensures in
    let id : ℤ = to_z w64 (of_z w64 c.in-Some.producer) in
    let fault = subst (λ (s : Bool). TakesFault s id (ends_at c.loop-producer.self.producers id).last c.in-Some.ends.first c.loop-producer.self.fault c.take_over.new.self.fault) c.loop-producer.invariant.sequenced o.fault in
    record {
      all = o.all ∙ c.loop-producer.invariant.all;
      capacity = o.capacity ∙ c.loop-producer.invariant.capacity;
      sequenced = o.sequenced ∙ c.loop-producer.invariant.sequenced;
      taking = can_next c.args.by c.args.self.now.sequenced _ c.in-Some.producer c.in-Some.ends _ _ _ _ _ _ _ (rest_of c.pop_first.new.self) key c.in-Some.ensures.value c.in-Some.ensures.updates.0 o.joined o.others o.heads fault c.loop-producer.invariant.taking;
      taken = λ xs ys h. taken_next c.args.by c.args.self.now.sequenced _ c.in-Some.producer c.in-Some.ends _ _ _ _ _ _ _ (rest_of c.pop_first.new.self) key c.in-Some.ensures.value c.in-Some.ensures.updates.0 o.joined o.others o.heads fault xs ys
          c.loop-producer.invariant.taking (c.loop-producer.invariant.taken xs ys h);
    }

pub take_over-requires-clause-present : goal.take_over-requires-clause-present
take_over-requires-clause-present c =
    let fits : SFits w64 c.in-Some.producer = search rules in
    let r = c.loop-producer.invariant.taking.2.ready c.in-Some.producer c.in-Some.ends c.in-Some.ensures.value in
    subst (λ (k : ℤ). IsSome (get int_cmp c.loop-producer.self.producers k)) (sym (to_z-of_z w64 c.in-Some.producer fits)) r.present

pub take_over-requires-clause-room : goal.take_over-requires-clause-room
take_over-requires-clause-room c =
    let fits : SFits w64 c.in-Some.producer = search rules in
    let r = c.loop-producer.invariant.taking.2.ready c.in-Some.producer c.in-Some.ends c.in-Some.ensures.value in
    subst (λ (k : ℤ). HasRoom (ends_at c.loop-producer.self.producers k) c.in-Some.ends) (sym (to_z-of_z w64 c.in-Some.producer fits)) r.room

pub take_over-requires-clause-inside : goal.take_over-requires-clause-inside
take_over-requires-clause-inside c =
    let fits : SFits w64 c.in-Some.producer = search rules in
    let key = to_z-of_z w64 c.in-Some.producer fits in
    let here = inside c.args.by c.loop-producer.self.producers c.loop-producer.self.heads.list (rest_of c.loop-producer.after) c.in-Some.producer c.in-Some.ends c.loop-producer.invariant.taking c.in-Some.ensures.value in
    subst (λ (k : ℤ). All (λ p. p < length c.loop-producer.self.heads.list) (ends_at c.loop-producer.self.producers k).waiting.list) (sym key) here

pub take_over-requires-clause-fits : goal.take_over-requires-clause-fits
take_over-requires-clause-fits c = c.loop-producer.invariant.taking.2.fits c.in-Some.producer c.in-Some.ends c.in-Some.ensures.value

pub returns-clause-taken : goal.returns-clause-taken
returns-clause-taken c = λ xs ys h.
    let none : c.loop-producer.after.entries ≡ [] = nothing_left c.loop-producer.after.entries (λ lt. let f = c.in_default.ensures.variant.1 lt in cc) in
    subst (λ (r : Rest). HasTaken xs ys c.args.self.now.sequenced c.loop-producer.self.producers c.loop-producer.self.heads.list c.loop-producer.self.fault r) (let f : List (ℤ × Ends) → Rest = λ es id. lookup (is_at (int_cmp id)) es in ap f none) (c.loop-producer.invariant.taken xs ys h)
