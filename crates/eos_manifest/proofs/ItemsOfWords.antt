-- The group and the topics of a word.
use Rattle.std.proofs.Common.{◌≡◌, ℕ, List, [], ◌∷◌, ◌++◌, Bool, true, false, ◌&&◌, None, Some, refl, ap, ◌∙◌, append-nil, arith}
use Rattle.std.specs.List.{list_all}
use Rattle.std.specs.Str.{IsUtf8, is_utf8}
use Rattle.std.proofs.lemmas.Str.{is_utf8-from_IsUtf8, IsUtf8-from_is_utf8}
use Rattle.eos_evidence.specs.Topics.{is_topic}
use Rattle.eos_manifest.specs.Divided.{items_of}
use Rattle.eos_manifest.specs.AppWords.{group_in, topics_in}

pub group_is : (text : List ℕ) → IsUtf8 text → group_in text ≡ Some text
group_is text h = rw (is_utf8-from_IsUtf8 text h) refl

pub group_no : (text : List ℕ) → (IsUtf8 text → ⊥) → group_in text ≡ None
group_no text h = elim (is_utf8 text) as (λ (t : Bool). is_utf8 text ≡ t → group_in text ≡ None) [
  | true ↦ λ e. absurd (h (IsUtf8-from_is_utf8 text e))
  | false ↦ λ e. rw e refl
] refl

and_false : (a : Bool) → (a && false) ≡ false
and_false true = refl
and_false false = refl

one_is_none : (before : List (List ℕ)) (topic : List ℕ) (after : List (List ℕ)) → is_topic topic ≡ false → list_all is_topic (before ++ topic ∷ after) ≡ false
one_is_none [] topic after h = rw h refl
one_is_none (b ∷ bs) topic after h = rw (one_is_none bs topic after h) (and_false (is_topic b))

pub all_more : (before : List (List ℕ)) (topic : List ℕ) → list_all is_topic before ≡ true → is_topic topic ≡ true → list_all is_topic (before ++ topic ∷ []) ≡ true
all_more [] topic all h = rw h refl
all_more (b ∷ bs) topic all h = grind (arith, all, h, all_more bs topic)

pub topics_no : (text : List ℕ) (before : List (List ℕ)) (topic : List ℕ) (after : List (List ℕ)) → items_of text ≡ before ++ topic ∷ after → is_topic topic ≡ false → topics_in text ≡ None
topics_no text before topic after items h =
    let none : list_all is_topic (items_of text) ≡ false = ap (list_all is_topic) items ∙ one_is_none before topic after h in
    rw none refl

pub topics_are : (text : List ℕ) (before : List (List ℕ)) → items_of text ≡ before ++ [] → list_all is_topic before ≡ true → topics_in text ≡ Some before
topics_are text before items all =
    let same : items_of text ≡ before = items ∙ append-nil before in
    rw (same, all) refl
