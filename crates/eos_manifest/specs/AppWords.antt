-- How an application is given in a word: GROUP:SOURCE,..:OUTPUT,... A group is any text, so the last two colons divide; no
-- topic has a colon or a comma.
use Rattle.std.specs.Prelude.{ℕ, List, Option, None, Some, option_map, option_and_then, if◌then◌else◌}
use Rattle.std.specs.List.{list_all}
use Rattle.std.specs.Str.{is_utf8}
use Rattle.eos_evidence.specs.declared.application.App.{App}
use Rattle.eos_evidence.specs.Topics.{is_topic}
use Rattle.eos_manifest.specs.Divided.{last_split, items_of}

-- topics between commas
abbrev pub topics_in : List ℕ → Option (List (List ℕ))
topics_in text = if list_all is_topic (items_of text) then Some (items_of text) else None

-- a group's id
abbrev pub group_in : List ℕ → Option (List ℕ)
group_in text = if is_utf8 text then Some text else None

abbrev pub app_with : List ℕ → List ℕ → List ℕ → Option App
app_with group sources outputs =
    option_and_then (λ g. option_and_then (λ ss. option_map (λ os. record { group = g; sources = ss; outputs = os })
    (topics_in outputs)) (topics_in sources)) (group_in group)

abbrev pub app_in_word : List ℕ → Option App
app_in_word word =
    option_and_then (λ outer. option_and_then (λ inner. app_with inner.0 inner.1 outer.1) (last_split 58 outer.0)) (last_split 58 word)
