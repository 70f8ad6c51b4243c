-- A file that was begun, and what became of it.
use Rattle.std.proofs.Common.{◌≡◌, ◌∙◌, ℕ, List, [], refl, subst}
use Rattle.eos_disk.specs.Entries.{Entry}
use Rattle.eos_disk.specs.Changes.{SameKnown}
use Rattle.eos_disk.specs.Putting.{ChangesOnly, IsBegun, IsPlaced, IsLeft, IsTaken, beside}
use Rattle.eos_drawing.specs.Folders.{IsUntouched}

known_trans : (a b c : Entry) → SameKnown a b → SameKnown b c → SameKnown a c
known_trans a b c h k = (λ x. k.0 (h.0 x), λ x. h.1 (k.1 x))

changes_trans : (path : List ℕ) (old mid new : List ℕ → Entry) → ChangesOnly path old mid → ChangesOnly path mid new → ChangesOnly path old new
changes_trans path old mid new h k = record {
  known = λ q. known_trans (old q) (mid q) (new q) (h.known q) (k.known q);
  others = λ q other. k.others q other ∙ h.others q other;
}

pub untouched : (path : List ℕ) (old : List ℕ → Entry) → IsUntouched path old old
untouched path old = record { known = λ q. (λ x. x, λ x. x); others = λ q other. refl }

pub nothing_left : (path : List ℕ) (old new : List ℕ → Entry) → IsLeft old path [] new → IsUntouched path old new
nothing_left path old new left = left.0

untouched_after : (path file : List ℕ) (old mid new : List ℕ → Entry) → file ≡ path → IsBegun old path mid → IsUntouched file mid new → IsUntouched path old new
untouched_after path file old mid new same begun gone = changes_trans (beside path) old mid new begun.1.0 (subst (λ (p : List ℕ). IsUntouched p mid new) same gone)

pub dropped_after : (path file : List ℕ) (old mid new : List ℕ → Entry) → file ≡ path → IsBegun old path mid → IsTaken mid file new → IsUntouched path old new
dropped_after path file old mid new same begun gone = untouched_after path file old mid new same begun gone.0

pub left_after : (path file bytes : List ℕ) (old mid new : List ℕ → Entry) → file ≡ path → IsBegun old path mid → IsLeft mid file bytes new → IsUntouched path old new
left_after path file bytes old mid new same begun left = untouched_after path file old mid new same begun left.0

placed_by : (path bytes : List ℕ) (old mid new : List ℕ → Entry) → IsBegun old path mid → IsPlaced mid path bytes new → IsPlaced old path bytes new
placed_by path bytes old mid new begun placed = record {
  fresh = begun.0;
  at = placed.at;
  known = λ q. known_trans (old q) (mid q) (new q) (begun.1.0.known q) (placed.known q);
  aside = placed.aside;
  others = λ q other aside. placed.others q other aside ∙ begun.1.0.others q aside;
}

pub placed_after : (path file bytes : List ℕ) (old mid new : List ℕ → Entry) → file ≡ path → IsBegun old path mid → IsPlaced mid file bytes new → IsPlaced old path bytes new
placed_after path file bytes old mid new same begun placed = placed_by path bytes old mid new begun (subst (λ (p : List ℕ). IsPlaced mid p bytes new) same placed)
