-- How a page ends: what is told of some of its faults, each with its number in the list of all, its story and its picture. A story is a
-- text, and a picture an SVG document (HTML, section 4.8.16: such an element may stand in a page as it is); where there is none, it is
-- said why.
use Rattle.std.specs.Prelude.{ℕ, List, [], ◌++◌, length, Bool, ◌==◌, if◌then◌else◌, codes, string_bytes}
use Rattle.std.specs.List.{flat_map}
use Rattle.std.specs.Fmt.{decimal}
use Rattle.eos_report.specs.declared.tellings.Told.{Told}
use Rattle.eos_report.specs.declared.tellings.Told.TheVariants.{Text, Lacking}
use Rattle.eos_report.specs.declared.tellings.Telling.{Telling}
use Rattle.eos_report.specs.Html.{html}

-- why there is none
unfoldable pub lack_text : List ℕ → List ℕ → List ℕ
lack_text what why = codes "<p>" ++ (what ++ (codes ": " ++ (html why ++ codes "</p>\n")))

unfoldable pub shown_story : List ℕ → List ℕ
shown_story text = codes "<pre>" ++ (html text ++ codes "</pre>\n")

abbrev pub story_text : Told → List ℕ
story_text (Text text) = shown_story (string_bytes text)
story_text (Lacking why) = lack_text (codes "No story") (string_bytes why)

unfoldable pub shown_picture : List ℕ → List ℕ
shown_picture text = codes "<div>\n" ++ (text ++ codes "</div>\n")

abbrev pub picture_text : Told → List ℕ
picture_text (Text text) = shown_picture (string_bytes text)
picture_text (Lacking why) = lack_text (codes "No picture") (string_bytes why)

unfoldable pub telling_text : Telling → List ℕ
telling_text t = (codes "<h3>Fault " ++ decimal t.number) ++ (codes "</h3>\n" ++ (story_text t.story ++ picture_text t.picture))

-- nothing, where none is told
abbrev pub heading_text : Bool → List ℕ
heading_text none = if none then [] else codes "<h2>Where the faults come from</h2>\n"

unfoldable pub tellings_text : List Telling → List ℕ
tellings_text ts = heading_text (length ts == 0) ++ flat_map telling_text ts

unfoldable pub end_text : List Telling → List ℕ
end_text tellings = tellings_text tellings ++ codes "</body>\n</html>\n"
