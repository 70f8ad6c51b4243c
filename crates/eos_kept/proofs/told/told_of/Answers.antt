use Rattle.std.proofs.Common.{ℕ, List, sym, subst}
use Rattle.eos_batch.specs.declared.record.Record.{Record}
use Rattle.eos_claims.specs.Headers.{claim_of}
use Rattle.eos_reading.specs.Outputs.{kept_output}
use Rattle.eos_reading.specs.Records.{wanted_record}
use Rattle.eos_kept.specs.KeptRuns.{AreKeptRun, HaveClaims}
use Rattle.eos_reading.specs.declared.wanted.Wanted.TheVariants as wants
use Rattle.eos_kept.proofs.PartsHeld.{made_told}
use Rattle.eos_kept.proofs.told.told_of.Goals as goal

pub of_outputs-requires : goal.of_outputs-requires
of_outputs-requires c =
    c.claims_in-kept.ensures.claims c.in_ok-topics-in-Claims.topics.items (subst (λ (topics : List (List ℕ)). HaveClaims topics c.args.run) (sym c.in_ok-topics-in-Claims.ensures) c.requires.claims)

pub of_texts-requires : goal.of_texts-requires
of_texts-requires c = c.texts_in.ensures.claims c.args.asked.topics.now c.requires.claims

pub returns-in-Presence : goal.returns-in-Presence
returns-in-Presence c =
    made_told wants.Presence c.args.asked.wanted (λ (n : ℕ) (r : Record). tt) c.args.end c.args.asked.topics.now c.args.run c.presence_in.result c.of_presence.result c.in-Presence.is
    (λ segments kept. c.presence_in.ensures c.args.asked.topics.now segments kept) c.of_presence.ensures

pub returns-in_ok-topics-in-Claims : goal.returns-in_ok-topics-in-Claims
returns-in_ok-topics-in-Claims c =
    let topics = c.in_ok-topics-in-Claims.topics.items in
    made_told wants.Claims c.args.asked.wanted (λ (n : ℕ) (r : Record). kept_output topics (claim_of r.headers)) c.args.end c.args.asked.topics.now c.args.run c.claims_in-kept.result c.of_outputs.result c.in-Claims.is
    (λ segments kept. c.claims_in-kept.ensures.kept topics segments (subst (λ (names : List (List ℕ)). AreKeptRun names segments c.args.run) (sym c.in_ok-topics-in-Claims.ensures) kept)) c.of_outputs.ensures

pub returns-in-Texts : goal.returns-in-Texts
returns-in-Texts c =
    made_told wants.Texts c.args.asked.wanted (λ (n : ℕ) (r : Record). wanted_record wants.Texts r) c.args.end c.args.asked.topics.now c.args.run c.texts_in.result c.of_texts.result c.in-Texts.is
    (λ segments kept. c.texts_in.ensures.kept c.args.asked.topics.now segments kept) c.of_texts.ensures
