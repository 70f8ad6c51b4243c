-- What a fold leaves that isn't put: nothing, or its folder.
use Rattle.std.proofs.Common.{◌≡◌, ℕ, List, refl, subst, inl}
use Rattle.eos_disk.specs.Entries.{Entry}
use Rattle.eos_disk.specs.Changes.{AreMade, AreMadeTo}
use Rattle.eos_disk.specs.Putting.{IsPlaced, IsLeft}
use Rattle.eos_disk.proofs.Kept.{known_same}

pub none_made : (old : List ℕ → Entry) (path : List ℕ) → AreMadeTo old path old
none_made old path = record { fronts = λ q front. inl refl; known = λ q. known_same (old q) (old q) refl; others = λ q apart. refl }

pub none_left : (old : List ℕ → Entry) (path bytes : List ℕ) → IsLeft old path bytes old
none_left old path bytes = (record { known = λ q. known_same (old q) (old q) refl; others = λ q n. refl }, inl refl)

pub not_made : (old new : List ℕ → Entry) (folder path place bytes : List ℕ) → folder ≡ path → AreMadeTo old folder new
    → (mid : List ℕ → Entry) × AreMadeTo old path mid × IsLeft mid place bytes new
not_made old new folder path place bytes is made = (new, subst (λ (p : List ℕ). AreMadeTo old p new) is made, none_left new place bytes)

pub not_begun : (old : List ℕ → Entry) (path place bytes : List ℕ) → (mid : List ℕ → Entry) × AreMadeTo old path mid × IsLeft mid place bytes old
not_begun old path place bytes = (old, none_made old path, none_left old place bytes)

pub not_left : (old mid new : List ℕ → Entry) (folder path place at bytes : List ℕ) → folder ≡ path → place ≡ at → AreMade old folder mid → IsLeft mid place bytes new
    → (some : List ℕ → Entry) × AreMadeTo old path some × IsLeft some at bytes new
not_left old mid new folder path place at bytes is there made left =
    (mid, subst (λ (p : List ℕ). AreMadeTo old p mid) is made.1, subst (λ (p : List ℕ). IsLeft mid p bytes new) there left)

pub is_put : (old mid new : List ℕ → Entry) (folder path place at bytes : List ℕ) → folder ≡ path → place ≡ at → AreMade old folder mid → IsPlaced mid place bytes new
    → (some : List ℕ → Entry) × AreMade old path some × IsPlaced some at bytes new
is_put old mid new folder path place at bytes is there made placed =
    (mid, subst (λ (p : List ℕ). AreMade old p mid) is made, subst (λ (p : List ℕ). IsPlaced mid p bytes new) there placed)
