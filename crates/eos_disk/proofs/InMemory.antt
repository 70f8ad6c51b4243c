-- The names in a folder of a disk in memory are those under which something stands right in it.
use Rattle.std.proofs.Common.{◌≡◌, ◌⊎◌, ℕ, List, [], ◌∷◌, ◌++◌, length, take, drop, Bool, true, false, not, ◌&&◌, ◌||◌, ◌==◌, if◌then◌else◌, Option, None, Some, bytes_eq, string_bytes, refl, sym, ap, ◌∙◌, subst, inl, inr, arith}
use Rattle.std.specs.List.{list_any}
use Rattle.std.proofs.lemmas.Bool.{false≢true}
use Rattle.std.proofs.lemmas.Bool.Decides.{nat_tests}
use Rattle.std.proofs.lemmas.Slice.Eq.{bytes_eq-Decides}
use Rattle.std.proofs.lemmas.List.{take-append-drop}
use Rattle.std.proofs.Math.Seq.{take-append_seam, drop-append_seam}
use Rattle.eos_base.specs.Members.{Has}
use Rattle.eos_base.proofs.Membership.{append_cases, append_left, append_right, only}
use Rattle.eos_disk.specs.Entries.{Entry, Unknown, Absent, File, Folder}
use Rattle.eos_disk.specs.declared.memory.Change.{Change}
use Rattle.eos_disk.specs.declared.memory.Standing.{Standing}
use Rattle.eos_disk.specs.declared.memory.Standing.TheVariants as standing
use Rattle.eos_disk.specs.Memory.{standing_after, standing_in, is_there, after_slash, name_below, with_name, names_after, names_in, entry_of, held_in}
use Rattle.eos_disk.specs.Written.{below, IsThere, has_slash, HasListings}

-- ---- texts

both : (a b : Bool) → (a && b) ≡ true → (a ≡ true) × (b ≡ true)
both true true h = (refl, refl)
both true false h = absurd (false≢true h)
both false b h = absurd (false≢true h)

not_true : (b : Bool) → not b ≡ true → b ≡ false
not_true true h = absurd (false≢true h)
not_true false h = refl

not_false : (b : Bool) → b ≡ false → not b ≡ true
not_false b e = ap not e

equal_bytes : (a b : ℕ) → (a == b) ≡ true → a ≡ b
equal_bytes a b h = grind (arith, nat_tests, h)

some_is : {X : Type 0} (x y : X) → (let o : Option X = Some x in o ≡ Some y) → x ≡ y
some_is x y e = cc

none_some : {X : Type 0} (y : X) → (let o : Option X = None in o ≡ Some y) → ⊥
none_some y e = cc

-- what stands after a slash is a name without one
after_is : (rest name : List ℕ) → after_slash rest ≡ Some name → (rest ≡ 47 ∷ name) × (has_slash name ≡ false)
after_is [] name e = absurd (none_some name e)
after_is (b ∷ own) name e = on (b == 47 && not (has_slash own)) refl
  where
    on : (t : Bool) → (b == 47 && not (has_slash own)) ≡ t → (b ∷ own ≡ 47 ∷ name) × (has_slash name ≡ false)
    on true h =
        let same : own ≡ name = some_is own name (sym (ap (λ (t : Bool). if t then Some own else None) h) ∙ e) in
        let parts = both (b == 47) (not (has_slash own)) h in
        (subst (λ (n : List ℕ). b ∷ own ≡ 47 ∷ n) same (ap (λ (c : ℕ). c ∷ own) (equal_bytes b 47 parts.0)), subst (λ (n : List ℕ). has_slash n ≡ false) same (not_true (has_slash own) parts.1))
    on false h = absurd (none_some name (sym (ap (λ (t : Bool). if t then Some own else None) h) ∙ e))

-- and the other way
below_is : (folder path name : List ℕ) → name_below folder path ≡ Some name → (path ≡ below folder name) × (has_slash name ≡ false)
below_is folder path name e = on (bytes_eq (take (length folder) path) folder) refl
  where
    on : (t : Bool) → bytes_eq (take (length folder) path) folder ≡ t → (path ≡ below folder name) × (has_slash name ≡ false)
    on true h =
        let front : take (length folder) path ≡ folder = (bytes_eq-Decides (take (length folder) path) folder).0 h in
        let rest = after_is (drop (length folder) path) name (sym (ap (λ (t : Bool). if t then after_slash (drop (length folder) path) else None) h) ∙ e) in (
          sym (take-append-drop (length folder) path) ∙ (ap (λ (x : List ℕ). x ++ drop (length folder) path) front ∙ ap (λ (x : List ℕ). folder ++ x) rest.0),
          rest.1,
        )
    on false h = absurd (none_some name (sym (ap (λ (t : Bool). if t then after_slash (drop (length folder) path) else None) h) ∙ e))

is_below : (folder name : List ℕ) → has_slash name ≡ false → name_below folder (below folder name) ≡ Some name
is_below folder name plain =
    let front : bytes_eq (take (length folder) (below folder name)) folder ≡ true = (bytes_eq-Decides (take (length folder) (below folder name)) folder).1 (take-append_seam folder (47 ∷ name)) in
    ap (λ (t : Bool). if t then after_slash (drop (length folder) (below folder name)) else None) front
    ∙ (ap after_slash (drop-append_seam folder (47 ∷ name)) ∙ ap (λ (t : Bool). if t then Some name else None) (not_false (has_slash name) plain))

-- ---- the names of a folder

-- one of these changes is of what is called so in the folder, and something stands there
record IsNamed (all cs : List Change) (folder name : List ℕ) : Type 0 where
  change : Change
  among : Has cs change
  called : name_below folder (string_bytes change.path) ≡ Some name
  there : is_there (standing_in all (string_bytes change.path)) ≡ true

among_is : (names : List (List ℕ)) (name : List ℕ) → list_any (λ n. bytes_eq n name) names ≡ true → Has names name
among_is [] name h = absurd (false≢true h)
among_is (n ∷ names) name h = on (bytes_eq n name) refl (among_is names name)
  where
    on : (t : Bool) → bytes_eq n name ≡ t → (list_any (λ m. bytes_eq m name) names ≡ true → Has names name) → (n ≡ name) ⊎ Has names name
    on true e later = inl ((bytes_eq-Decides n name).0 e)
    on false e later = inr (later (sym (ap (λ (t : Bool). t || list_any (λ m. bytes_eq m name) names) e) ∙ h))

kept_name : (stands : Bool) (names : List (List ℕ)) (o : Option (List ℕ)) (name : List ℕ) → Has names name → Has (with_name stands names o) name
kept_name stands names None name h = h
kept_name stands names (Some other) name h = on (stands && not (list_any (λ n. bytes_eq n other) names))
  where
    on : (t : Bool) → Has (if t then names ++ other ∷ [] else names) name
    on true = append_left names (other ∷ []) name h
    on false = h

new_name : (stands : Bool) (names : List (List ℕ)) (o : Option (List ℕ)) (name : List ℕ) → o ≡ Some name → stands ≡ true → Has (with_name stands names o) name
new_name stands names None name e s = absurd (none_some name e)
new_name stands names (Some other) name e s =
    subst (λ (x : List ℕ). Has (with_name stands names (Some other)) x) (some_is other name e) (on (list_any (λ n. bytes_eq n other) names) refl)
  where
    on : (t : Bool) → list_any (λ n. bytes_eq n other) names ≡ t → Has (with_name stands names (Some other)) other
    on true h = kept_name stands names (Some other) other (among_is names other h)
    on false h =
        let added : (stands && not (list_any (λ n. bytes_eq n other) names)) ≡ true = ap (λ (b : Bool). b && not (list_any (λ n. bytes_eq n other) names)) s ∙ ap not h in
        subst (λ (b : Bool). Has (if b then names ++ other ∷ [] else names) other) (sym added) (append_right names (other ∷ []) other (inl refl))

from_name : (stands : Bool) (names : List (List ℕ)) (o : Option (List ℕ)) (name : List ℕ) → Has (with_name stands names o) name → Has names name ⊎ ((o ≡ Some name) × (stands ≡ true))
from_name stands names None name h = inl h
from_name stands names (Some other) name h = on (stands && not (list_any (λ n. bytes_eq n other) names)) refl
  where
    on : (t : Bool) → (stands && not (list_any (λ n. bytes_eq n other) names)) ≡ t → Has names name ⊎ ((Some other ≡ Some name) × (stands ≡ true))
    on true e = elim (append_cases names (other ∷ []) name (subst (λ (b : Bool). Has (if b then names ++ other ∷ [] else names) name) e h)) [
      | inl k ↦ inl k
      | inr k ↦ inr (ap Some (only other name k), (both stands (not (list_any (λ n. bytes_eq n other) names)) e).0)
    ]
    on false e = inl (subst (λ (b : Bool). Has (if b then names ++ other ∷ [] else names) name) e h)

named_from : (all : List Change) (names : List (List ℕ)) (cs : List Change) (folder name : List ℕ) → Has (names_after all names cs folder) name → Has names name ⊎ IsNamed all cs folder name
named_from all names [] folder name h = inl h
named_from all names (c ∷ cs) folder name h =
    let stands = is_there (standing_in all (string_bytes c.path)) in
    let here = name_below folder (string_bytes c.path) in
    elim (named_from all (with_name stands names here) cs folder name h) [
      | inl k ↦ elim (from_name stands names here name k) [
        | inl old ↦ inl old
        | inr new ↦ inr (record { change = c; among = inl refl; called = new.0; there = new.1 })
      ]
      | inr later ↦ inr (record { change = later.change; among = inr later.among; called = later.called; there = later.there })
    ]

still_named : (all : List Change) (names : List (List ℕ)) (cs : List Change) (folder name : List ℕ) → Has names name → Has (names_after all names cs folder) name
still_named all names [] folder name h = h
still_named all names (c ∷ cs) folder name h =
    still_named all (with_name (is_there (standing_in all (string_bytes c.path))) names (name_below folder (string_bytes c.path))) cs folder name
    (kept_name (is_there (standing_in all (string_bytes c.path))) names (name_below folder (string_bytes c.path)) name h)

named_to : (all : List Change) (names : List (List ℕ)) (cs : List Change) (folder name : List ℕ) (c : Change) → Has cs c → name_below folder (string_bytes c.path) ≡ Some name
    → is_there (standing_in all (string_bytes c.path)) ≡ true → Has (names_after all names cs folder) name
named_to all names [] folder name c h e s = absurd h
named_to all names (d ∷ cs) folder name c (inl same) e s =
    let stands = is_there (standing_in all (string_bytes d.path)) in
    let here = name_below folder (string_bytes d.path) in
    still_named all (with_name stands names here) cs folder name
    (new_name stands names here name (ap (λ (x : Change). name_below folder (string_bytes x.path)) same ∙ e) (ap (λ (x : Change). is_there (standing_in all (string_bytes x.path))) same ∙ s))
named_to all names (d ∷ cs) folder name c (inr h) e s =
    named_to all (with_name (is_there (standing_in all (string_bytes d.path))) names (name_below folder (string_bytes d.path))) cs folder name c h e s

-- where something stands, a change put it
put_by : (s : Standing) (cs : List Change) (path : List ℕ) → (standing_after s cs path ≡ s) ⊎ ((c : Change) × Has cs c × (string_bytes c.path ≡ path))
put_by s [] path = inl refl
put_by s (c ∷ cs) path = on (bytes_eq (string_bytes c.path) path) refl (put_by s cs path)
  where
    on : (t : Bool) → bytes_eq (string_bytes c.path) path ≡ t → (standing_after s cs path ≡ s) ⊎ ((d : Change) × Has cs d × (string_bytes d.path ≡ path))
        → (standing_after s (c ∷ cs) path ≡ s) ⊎ ((d : Change) × Has (c ∷ cs) d × (string_bytes d.path ≡ path))
    on true e rest = inr (c, inl refl, (bytes_eq-Decides (string_bytes c.path) path).0 e)
    on false e rest = elim rest [
      | inl same ↦ inl (ap (λ (t : Bool). standing_after (if t then c.what else s) cs path) e ∙ same)
      | inr later ↦ inr (later.0, inr later.1, later.2)
    ]

-- ---- what stands

there_of : (s : Standing) (names : List (List ℕ)) → is_there s ≡ true → IsThere (entry_of s names)
there_of standing.Nothing names h = absurd (false≢true h)
there_of (standing.Bytes bytes) names h = tt
there_of standing.Folder names h = tt

of_there : (s : Standing) (names : List (List ℕ)) → IsThere (entry_of s names) → is_there s ≡ true
of_there standing.Nothing names h = absurd h
of_there (standing.Bytes bytes) names h = refl
of_there standing.Folder names h = refl

abbrev NamesOf : Entry → List (List ℕ) → Type 0
NamesOf Unknown names = ⊥
NamesOf Absent names = ⊥
NamesOf (File bytes) names = ⊥
NamesOf (Folder known) names = known ≡ names

names_of : (s : Standing) (known names : List (List ℕ)) → entry_of s known ≡ Folder names → known ≡ names
names_of standing.Nothing known names e = absurd (subst (λ (x : Entry). NamesOf x names) (sym e) refl)
names_of (standing.Bytes bytes) known names e = absurd (subst (λ (x : Entry). NamesOf x names) (sym e) refl)
names_of standing.Folder known names e = subst (λ (x : Entry). NamesOf x names) (sym e) refl

stands_below : (cs : List Change) (folder name : List ℕ) → has_slash name ≡ false → IsThere (held_in cs (below folder name)) → Has (names_in cs folder) name
stands_below cs folder name plain h =
    let path = below folder name in
    let there : is_there (standing_in cs path) ≡ true = of_there (standing_in cs path) (names_in cs path) h in
    elim (put_by standing.Nothing cs path) [
      | inl none ↦ absurd (false≢true (sym (ap is_there none) ∙ there))
      | inr (c, among, same) ↦ named_to cs [] cs folder name c among (ap (name_below folder) same ∙ is_below folder name plain) (ap (λ (p : List ℕ). is_there (standing_in cs p)) same ∙ there)
    ]

below_stands : (cs : List Change) (folder name : List ℕ) → Has (names_in cs folder) name → (has_slash name ≡ false) × IsThere (held_in cs (below folder name))
below_stands cs folder name h = elim (named_from cs [] cs folder name h) [
  | inl none ↦ absurd none
  | inr named ↦ (
      let is = below_is folder (string_bytes named.change.path) name named.called in
      (is.1, subst (λ (p : List ℕ). IsThere (held_in cs p)) is.0 (there_of (standing_in cs (string_bytes named.change.path)) (names_in cs (string_bytes named.change.path)) named.there))
      )
]

pub memory_lists : (cs : List Change) → HasListings (held_in cs)
memory_lists cs folder names e name =
    let are : names_in cs folder ≡ names = names_of (standing_in cs folder) (names_in cs folder) names e in (
      λ h. below_stands cs folder name (subst (λ (x : List (List ℕ)). Has x name) (sym are) h),
      λ h. subst (λ (x : List (List ℕ)). Has x name) are (stands_below cs folder name h.0 h.1),
    )
