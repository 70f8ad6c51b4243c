-- The topics that applications read.
use Rattle.std.specs.Prelude.{ℕ, List}
use Rattle.std.specs.List.{flat_map}
use Rattle.std.specs.Ordering.{nat_cmp}
use Rattle.std.specs.Cmp.Lexicographic.{slice_cmp}
use Rattle.eos_base.specs.Members.{Has}
use Rattle.eos_evidence.specs.declared.application.App.{App}
use Rattle.eos_base.specs.AllOf.{IsAllOf}

-- what each of them reads, one after the other
abbrev pub sources_of : List App → List (List ℕ)
sources_of apps = flat_map (λ app. app.sources) apps

-- each of these once, in the order of their bytes
abbrev pub AreSourceTopics : List App → List (List ℕ) → Type 0
AreSourceTopics apps topics = IsAllOf (slice_cmp nat_cmp) (Has (sources_of apps)) topics
