-- What a written manifest holds of the applications.
use Rattle.std.specs.Prelude.{ℕ, List, ◌&&◌, Bool, codes, map}
use Rattle.std.specs.List.{list_all}
use Rattle.serde_json.specs.Data.{Data, Items, Members, no_members, member, object, array, string, number, unsigned, put}
use Rattle.serde_json.specs.View.{items_of}
use Rattle.eos_evidence.specs.declared.application.App.{App}
use Rattle.eos_evidence.specs.Topics.{is_topic}

-- all names are topics'
abbrev pub are_topics : App → Bool
are_topics app = list_all is_topic app.sources && list_all is_topic app.outputs

abbrev pub items_of_texts : List (List ℕ) → Items
items_of_texts texts = items_of (map string texts)

-- these members, and an application's own
abbrev pub with_app : App → Members → Members
with_app app ms = put (codes "outputs") (array (items_of_texts app.outputs)) (put (codes "sources") (array (items_of_texts app.sources)) (put (codes "group") (string app.group) ms))

abbrev pub written_app : App → Data
written_app app =
    object (member (codes "group") (string app.group) (member (codes "outputs") (array (items_of_texts app.outputs))
    (member (codes "sources") (array (items_of_texts app.sources)) no_members)))

abbrev pub written_apps : List App → Items
written_apps apps = items_of (map written_app apps)

-- a manifest of version 1, and one of version 2
abbrev pub written_one : App → Members → Data
written_one app ends =
    object (member (codes "ends") (object ends) (member (codes "group") (string app.group) (member (codes "outputs") (array (items_of_texts app.outputs))
    (member (codes "sources") (array (items_of_texts app.sources)) (member (codes "version") (number (unsigned 1)) no_members)))))

abbrev pub written_two : List App → Members → Data
written_two apps ends =
    object (member (codes "apps") (array (written_apps apps)) (member (codes "ends") (object ends) (member (codes "version") (number (unsigned 2)) no_members)))
