-- One item further back in the log of the offsets.
use Rattle.std.proofs.Common.{◌≡◌, ℕ, ◌+◌, ◌<◌, List, ◌∷◌, length, drop, slice_index_or, Option, sym, subst, ap, ◌∙◌}
use Rattle.std.specs.List.{All}
use Rattle.std.proofs.lemmas.List.{drop_more}
use Rattle.eos_batch.specs.declared.marker.Kind.{Kind}
use Rattle.eos_machine.specs.declared.item.Item.{Item}
use Rattle.eos_cluster.specs.declared.fetches.Fetched.{Fetched}
use Rattle.eos_cluster.specs.steps.Fetching.{AreEnds, IsFetched}
use Rattle.eos_broker.specs.Named.{IsFrom}

pub back_one : (q n : ℕ) (f g : Fetched) (es ss fs : List (Option Kind)) (log : List Item) (j i : ℕ) (x : Item) → i < length log → x ≡ slice_index_or log i x → j ≡ i + 1 → ss ≡ es → length es ≡ n
    → ((xs : List Item) → IsFrom (length ss) x → AreEnds ss xs → IsFetched q f xs → IsFetched q g (x ∷ xs)) → ((xs : List Item) → AreEnds es xs → AreEnds fs (x ∷ xs))
    → All (IsFrom n) log → IsFetched q f (drop j log) → AreEnds es (drop j log) → IsFetched q g (drop i log) × AreEnds fs (drop i log)
back_one q n f g es ss fs log j i x l is e s m commit marker from h k =
    let r : drop i log ≡ x ∷ drop j log = subst (λ z. drop i log ≡ z ∷ drop j log) (sym is) (subst (λ z. drop i log ≡ slice_index_or log i x ∷ drop z log) (sym e) (drop_more log i x l)) in
    let y : IsFrom n x = subst (IsFrom n) (sym is) (from i x l) in
    let y2 : IsFrom (length ss) x = subst (λ z. IsFrom z x) (sym (ap length s ∙ m)) y in
    subst (λ zs. IsFetched q g zs × AreEnds fs zs) (sym r) (commit (drop j log) y2 (subst (λ zs. AreEnds zs (drop j log)) (sym s) k) h, marker (drop j log) k)
