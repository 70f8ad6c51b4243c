use Rattle.std.proofs.Common.{◌≡◌, ℕ, ◌<◌, ◌≤◌, ◌∷◌, ◌++◌, [], List, length, option_map, Bor, None, true, false, sym, ap, ◌∙◌, subst, arith, rules}
use Rattle.std.proofs.lemmas.List.{length-append}
use Rattle.eos_reading.specs.Records.{record_of, ReadsBack}
use Rattle.eos_fold_file.specs.steps.TextLists.{AreTexts}
use Rattle.eos_fold_file.proofs.ClaimLimits.{none_back}
use Rattle.eos_fold_file.proofs.TextsListed.{pad_kept, said_kept, unsaid_kept}
use Rattle.eos_fold_file.proofs.fold_texts.FoldTexts.push.Goals as goal

pub invariant_of-self-in_err-push-3 : goal.invariant_of-self-in_err-push-3
invariant_of-self-in_err-push-3 c =
    let key = option_map (λ (s : Bor (List ℕ)). s.now) c.args.key in
    let value = option_map (λ (s : Bor (List ℕ)). s.now) c.args.value in
    let rs = c.self.inside.texts.list in
    let padded = c.pad.new.claims.items in
    let len : c.len.result ≡ length rs = search rules in
    let few : length padded ≤ length rs = omega (arith, len, c.pad.ensures.few) in
    let e : c.push-2.new.self.list ≡ rs ++ record_of key value None ∷ [] = c.in_ok-push-2.ensures.ok in
    let same : c.push-3.new.self.items ≡ padded = search rules in
    let kept = said_kept rs c.push-2.new.self.list padded key value None (pad_kept rs c.self.inside.unsaid.items padded c.self.invariant few (c.pad.ensures.unsaid c.self.invariant.unsaid)) none_back e in
    subst (AreTexts c.push-2.new.self.list) (sym same) kept

pub invariant_of-self-2 : goal.invariant_of-self-2
invariant_of-self-2 c =
    let key = option_map (λ (s : Bor (List ℕ)). s.now) c.args.key in
    let value = option_map (λ (s : Bor (List ℕ)). s.now) c.args.value in
    let rs = c.self.inside.texts.list in
    let padded = c.pad.new.claims.items in
    let len : c.len.result ≡ length rs = search rules in
    let few : length padded ≤ length rs = omega (arith, len, c.pad.ensures.few) in
    let e : c.push-2.new.self.list ≡ rs ++ record_of key value None ∷ [] = c.in_ok-push-2.ensures.ok in
    let more : length padded < length c.push-2.new.self.list = omega (arith, few, ap length e, length-append rs (record_of key value None ∷ [])) in
    let f : c.push-3.new.self.items ≡ padded ++ c.args.claim ∷ [] = search rules in
    let other : c.is_said.result ≡ false = search rules in
    let unsaid : ReadsBack c.args.claim → ⊥ = λ back.
    let said : c.is_said.result ≡ true = c.is_said.ensures.no (subst ReadsBack (sym c.lent_claim-said.ensures) back) in
    let bad : true ≡ false = sym said ∙ other in
    absurd cc in
    let kept = said_kept rs c.push-2.new.self.list padded key value None (pad_kept rs c.self.inside.unsaid.items padded c.self.invariant few (c.pad.ensures.unsaid c.self.invariant.unsaid)) none_back e in
    unsaid_kept c.push-2.new.self.list padded c.push-3.new.self.items c.args.claim kept more unsaid f
