use Rattle.std.proofs.Common.{◌≡◌, ◌<◌, ◌∙◌, ℕ, List, ◌∷◌, [], ◌++◌, true, false, Option, Bor, option_map, sym, ap, subst, append_assoc}
use Rattle.eos_evidence.specs.Topics.{is_topic}
use Rattle.eos_manifest.proofs.TextPieces.{item_and_rest, less_left, items_left, left}
use Rattle.eos_manifest.proofs.ItemsOfWords.{topics_no, topics_are, all_more}
use Rattle.eos_manifest.proofs.app_word.read_topics.Goals as goal

pub returns-then-not-is_topic_name : goal.returns-then-not-is_topic_name
returns-then-not-is_topic_name c =
    let items = c.loop-rest.invariant.items
    ∙ ap (λ (r : Option (Bor (List ℕ))). c.loop-rest.topics.items ++ items_left (option_map (λ s. s.now) r)) c.in-Some.is
    ∙ ap (λ xs. c.loop-rest.topics.items ++ xs) (item_and_rest c.in-Some.text.now c.first_piece.result.0.now _ c.first_piece.ensures) in
    let bad : is_topic c.first_piece.result.0.now ≡ false = sym c.is_topic_name.ensures ∙ c.if-not-is_topic_name.true in
    sym (topics_no c.args.text.now c.loop-rest.topics.items c.first_piece.result.0.now _ items bad)

pub loop-rest-preserved : goal.loop-rest-preserved
loop-rest-preserved c =
    let piece = c.first_piece.result.0.now in
    let items = c.loop-rest.invariant.items
    ∙ ap (λ (r : Option (Bor (List ℕ))). c.loop-rest.topics.items ++ items_left (option_map (λ s. s.now) r)) c.in-Some.is
    ∙ ap (λ xs. c.loop-rest.topics.items ++ xs) (item_and_rest c.in-Some.text.now piece _ c.first_piece.ensures) in
    let good : is_topic piece ≡ true = sym c.is_topic_name.ensures ∙ c.if-not-is_topic_name.false in
    record {
      items = rw (c.in_ok-push.ensures.items, c.in_ok-copy_from_slice.ensures) (items ∙ sym (append_assoc c.loop-rest.topics.items (piece ∷ []) _));
      topics = rw (c.in_ok-push.ensures.items, c.in_ok-copy_from_slice.ensures) (all_more c.loop-rest.topics.items piece c.loop-rest.invariant.topics good);
    }

pub loop-rest-smaller : goal.loop-rest-smaller
loop-rest-smaller c =
    subst (λ (r : Option (Bor (List ℕ))). left (option_map (λ s. s.now) c.first_piece.result.1) < left (option_map (λ s. s.now) r)) (sym c.in-Some.is)
    (less_left c.in-Some.text.now c.first_piece.result.0.now _ c.first_piece.ensures)

pub returns : goal.returns
returns c =
    sym (topics_are c.args.text.now c.loop-rest.topics.items
    (c.loop-rest.invariant.items ∙ ap (λ (r : Option (Bor (List ℕ))). c.loop-rest.topics.items ++ items_left (option_map (λ s. s.now) r)) c.in_default.is)
    c.loop-rest.invariant.topics)
