use Rattle.std.proofs.Common.{rules, ◌≡◌, ◌∙◌, ◌<◌, ℕ, List, Option, Some, length, map, get_or, ap, sym}
use Rattle.std.specs.Prelude.{IfSome}
use Rattle.std.specs.List.{sum}
use Rattle.std.proofs.lemmas.List.{length-map}
use Rattle.eos_claims.specs.Outputs.{Application}
use Rattle.eos_lineage.specs.declared.shares.Share.{Share}
use Rattle.eos_lineage.specs.steps.Keys.{AreBooks}
use Rattle.eos_lineage.specs.steps.Shares.{IsCounted, AddUp}
use Rattle.eos_lineage.proofs.SharesTaken.{each_counted}
use Rattle.eos_lineage.proofs.ToldKeys.{on_some}
use Rattle.eos_lineage.proofs.exact.count_shares.Given.{Over}
use Rattle.eos_lineage.proofs.exact.count_shares.Goals as goal

-- each thread counted its share
counted : (g : Over) (c : goal.After-drop-counts g) (a : Application) → AreBooks a c.args.books.now → (i : ℕ) (o : Option ℕ) (s : Share) → i < length c.args.shares.now
    → IfSome (get_or c.in-Ok.counts.items i o) (IsCounted a c.args.books.now (get_or c.args.shares.now i s))
counted g c a are i o s lt =
    let met = (c.in-Ok.ensures.each i o lt).1.met in
    search rules

count : (g : Over) (c : goal.After-drop-counts g) → length c.in-Ok.counts.items ≡ length c.args.shares.now
count g c = search rules

pub returns-in-Ok : goal.returns-in-Ok
returns-in-Ok g c = λ a are.
    let b = c.args.books.now in
    let ss = c.args.shares.now in
    on_some c.sum_of.result (λ n. (ns : List ℕ) × (c.as_slice.result.now ≡ map Some ns) × (n ≡ sum ns)) (AddUp a b ss)
    (λ n told.
    let is = sym c.as_slice.ensures.value ∙ told.1 in
    (told.0, sym (length-map told.0 Some) ∙ (ap length (sym is) ∙ count g c), each_counted a b ss c.in-Ok.counts.items told.0 is (count g c) (counted g c a are), told.2))
    c.sum_of.ensures
