use Rattle.std.proofs.Common.{◌≡◌, ℕ, ◌∷◌, [], not, true, false, refl, sym, subst, ◌∙◌, rules}
use Rattle.std.specs.Prelude.{unsigned_abs}
use Rattle.eos_evidence.specs.Topics.{is_internal}
use Rattle.eos_fold_file.specs.Legal.{IsLegalKept}
use Rattle.eos_kept.proofs.JoinedKept.{same_along}
use Rattle.eos_fold_file.specs.steps.Kept.{topics_in}
use Rattle.eos_fold_file.proofs.HeadsPassed.{from_count}
use Rattle.eos_fold_file.proofs.FoldSaid.{segment_said}
use Rattle.eos_fold_file.proofs.RunsTaken.{any_from, segment_from, front_told, sizes_told, asked_wanted, same_topics, run_asked, claims_asked}
use Rattle.eos_fold_file.proofs.run.run_of.Goals as goal

pub returns-then-not-are_said-clause-record : goal.returns-then-not-are_said-clause-record
returns-then-not-are_said-clause-record c = λ answer segment is.
    let said : c.are_said.result ≡ true = c.are_said.ensures.no (segment_said segment c.args.fold is) in
    let unsaid : c.are_said.result ≡ false = search rules in
    absurd cc

pub front_of-requires-clause-batches : goal.front_of-requires-clause-batches
front_of-requires-clause-batches c =
    let fold = c.args.fold in
    let some = c.batches.ensures fold c.requires in
    let begin : c.unsigned_abs-begin.result ≡ unsigned_abs fold.base = search rules in
    let heads : c.as_slice-2.result.now ≡ fold.heads = search rules in
    (some.0, any_from fold c.unsigned_abs-begin.result c.as_slice-2.result.now some.0 begin heads some.1)

pub with_kept-requires-clause-front : goal.with_kept-requires-clause-front
with_kept-requires-clause-front c =
    let fold = c.args.fold in
    let some = c.batches.ensures fold c.requires in
    let begin : c.unsigned_abs-begin.result ≡ unsigned_abs fold.base = search rules in
    let heads : c.as_slice-2.result.now ≡ fold.heads = search rules in
    let from = any_from fold c.unsigned_abs-begin.result c.as_slice-2.result.now some.0 begin heads some.1 in
    let passed = c.in_ok-front.ensures in
    (some.0, same_along some.0 c.in_ok-front.front _ refl refl refl refl refl (passed.along some.0 from), passed.counted some.0 from)

pub with_kept-requires-clause-kept : goal.with_kept-requires-clause-kept
with_kept-requires-clause-kept c =
    let fold = c.args.fold in
    let some = c.batches.ensures fold c.requires in
    let begin : c.unsigned_abs-begin.result ≡ unsigned_abs fold.base = search rules in
    let heads : c.as_slice-2.result.now ≡ fold.heads = search rules in
    let from = any_from fold c.unsigned_abs-begin.result fold.heads some.0 begin refl some.1 in
    let here = any_from fold c.unsigned_abs-begin.result c.as_slice-2.result.now some.0 begin heads some.1 in
    let count = c.in_ok-front.ensures.counted some.0 here ∙ from_count c.unsigned_abs-begin.result fold.heads some.0 from in
    subst (λ (n : ℕ). IsLegalKept n fold.kept) (sym count) c.requires.kept

pub returns-clause-ok : goal.returns-clause-ok
returns-clause-ok c = λ segment is.
    let fold = c.args.fold in
    let topics = c.args.asked.topics.now in
    let begin : c.unsigned_abs-begin.result ≡ unsigned_abs fold.base = search rules in
    let heads : c.as_slice-2.result.now ≡ fold.heads = search rules in
    let checked : c.in_ok-front.front.run.sequenced ≡ not (is_internal fold.topic) = search rules in
    let asked = c.is_asked_as.ensures.yes (search rules) in
    let from = segment_from segment fold c.unsigned_abs-begin.result c.as_slice-2.result.now is begin heads in
    let passed = c.in_ok-front.ensures in
    let along = same_along is.batches c.in_ok-front.front _ refl refl refl refl refl (passed.along is.batches from) in
    let epochs = c.into_vec.ensures in
    let front = front_told segment fold _ is (passed.begin ∙ begin) checked refl epochs along in
    let taken = c.in_ok-run.ensures in
    run_asked topics (topics_in fold.kept) (segment ∷ []) c.in_ok-run.run' (λ claims. same_topics c.args.asked.wanted topics fold.kept asked (sym taken.wanted ∙ claims))
    (taken.ok (segment ∷ []) is.batches front (sizes_told segment fold _ is refl refl) (passed.counted is.batches from) is.kept)

pub returns-clause-wanted : goal.returns-clause-wanted
returns-clause-wanted c =
    let asked = c.is_asked_as.ensures.yes (search rules) in
    c.in_ok-run.ensures.wanted ∙ asked_wanted c.args.asked.wanted c.args.asked.topics.now c.args.fold.kept asked

pub returns-clause-claims : goal.returns-clause-claims
returns-clause-claims c =
    let fold = c.args.fold in
    let topics = c.args.asked.topics.now in
    let asked = c.is_asked_as.ensures.yes (search rules) in
    let taken = c.in_ok-run.ensures in
    claims_asked topics (topics_in fold.kept) c.in_ok-run.run' (λ claims. same_topics c.args.asked.wanted topics fold.kept asked (sym taken.wanted ∙ claims)) taken.claims
