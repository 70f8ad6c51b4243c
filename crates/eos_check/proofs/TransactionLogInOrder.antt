-- So do the parts of the transaction log, by their numbers.
use Rattle.std.proofs.Common.{◌≡◌, true, List, sym, ap, ◌∙◌, ℤ, ◌<ℤ◌, arith}
use Rattle.std.specs.Prelude.{codes}
use Rattle.std.specs.List.{All, AllPairs}
use Rattle.std.specs.Ordering.{nat_cmp, int_cmp, ordering_then}
use Rattle.std.specs.Cmp.Lexicographic.{slice_cmp}
use Rattle.std.specs.declared.cmp.Ordering.{Ordering}
use Rattle.std.specs.declared.cmp.Ordering.TheVariants.{Less, Equal}
use Rattle.std.proofs.lemmas.Cmp.{nat_list_cmp_total, tied_itself}
use Rattle.std.proofs.lemmas.Int.{ints}
use Rattle.std.proofs.lemmas.List.Elements.{filter_passes}
use Rattle.std.proofs.lemmas.List.Kept.{AllPairs-filter}
use Rattle.eos_base.proofs.Exact.{bytes_exact, is_tied}
use Rattle.eos_base.proofs.Membership.{filter_has}
use Rattle.eos_fold.specs.Parts.{PartLog}
use Rattle.eos_table.specs.TransactionLog.{is_transaction_part, transaction_parts}
use Rattle.eos_table.specs.TransactionLog as table
use Rattle.eos_commits.specs.Faults as commits
use Rattle.eos_commits.proofs.LogsInOrder.{Below}

less_is : (x y : ℤ) → int_cmp x y ≡ Less → x <ℤ y
less_is x y e = grind (arith, ints)

second : (a b : Ordering) → a ≡ Equal → ordering_then a b ≡ Less → b ≡ Less
second a b e h = sym (ap (λ (o : Ordering). ordering_then o b) e) ∙ h

number_below : (l m : PartLog) → Below l m → is_transaction_part l ≡ true → is_transaction_part m ≡ true → l.number <ℤ m.number
number_below l m h p q =
    let t : l.topic ≡ codes "__transaction_state" = bytes_exact l.topic (codes "__transaction_state") (is_tied (slice_cmp nat_cmp l.topic (codes "__transaction_state")) p) in
    let u : m.topic ≡ codes "__transaction_state" = bytes_exact m.topic (codes "__transaction_state") (is_tied (slice_cmp nat_cmp m.topic (codes "__transaction_state")) q) in
    let same : slice_cmp nat_cmp l.topic m.topic ≡ Equal = ap (λ x. slice_cmp nat_cmp x m.topic) (t ∙ sym u) ∙ tied_itself nat_list_cmp_total m.topic in
    less_is l.number m.number (second (slice_cmp nat_cmp l.topic m.topic) (int_cmp l.number m.number) same h)

pairs_with : {X : Type 0} (R S : X → X → Type 0) (P : X → Type 0) → ((x y : X) → R x y → P x → P y → S x y) → (xs : List X) → AllPairs R xs → All P xs → AllPairs S xs
pairs_with R S P f xs h k i j d lt len = f _ _ (h i j d lt len) (k i d (omega (arith, lt, len))) (k j d len)

pub log_in_order : (ls : List PartLog) → commits.AreInOrder ls → table.AreInOrder (transaction_parts ls)
log_in_order ls h = record {
  numbers = pairs_with Below (λ l m. l.number <ℤ m.number) (λ l. is_transaction_part l ≡ true) number_below (transaction_parts ls)
      (AllPairs-filter Below is_transaction_part ls h.names) (filter_passes is_transaction_part ls);
  offsets = λ l has. h.offsets l (filter_has is_transaction_part ls l has).0;
}
