use Rattle.std.proofs.Common.{◌≡◌, ◌<◌, ◌+◌, ◌*◌, ◌/◌, ℕ, List, length, get_or, take, drop, subst, ap, ◌∙◌, arith, rules}
use Rattle.std.specs.Prelude.{IfSome}
use Rattle.std.specs.List.{flat_map}
use Rattle.std.proofs.Math.Nat.{lt-div-mul-add}
use Rattle.eos_claims.specs.Outputs.{Application, PlacedClaim}
use Rattle.eos_lineage.specs.declared.claims.Output.{Output}
use Rattle.eos_lineage.specs.steps.Keys.{AreBooks, HasKeyed, plain_keys, no_keys, in_turn}
use Rattle.eos_lineage.specs.steps.Walks.{output_claims}
use Rattle.eos_lineage.proofs.KeysJoined.{Read, chunks_whole, enough}
use Rattle.eos_lineage.proofs.keys.keys_of.Given.{Over}
use Rattle.eos_lineage.proofs.keys.keys_of.Goals as goal

-- by the place of the last partition and the number of threads
abbrev size_of : ℕ → ℕ → ℕ
size_of last threads = last / threads + 1

abbrev chunks_of : ℕ → ℕ → ℕ
chunks_of last threads = last / size_of last threads + 1

abbrev chunk_claims : List Output → ℕ → ℕ → List PlacedClaim
chunk_claims os size i = flat_map output_claims (take size (drop (i * size) os))

count : (g : Over) (c : goal.After-join_keys g) → length c.in-Ok.chunks.items ≡ chunks_of c.saturating_sub-last.result c.get-threads.result
count g c = search rules

-- each thread walked over its chunk
walked : (g : Over) (c : goal.After-join_keys g) (a : Application) → AreBooks a c.args.books.now → (i : ℕ) (d : Read) → i < chunks_of c.saturating_sub-last.result c.get-threads.result
    → IfSome (get_or c.in-Ok.chunks.items i d) (λ w. HasKeyed a c.args.books.now.names.now no_keys (plain_keys w) (chunk_claims c.args.outputs.now (size_of c.saturating_sub-last.result c.get-threads.result) i))
walked g c a are i d lt =
    let met = (c.in-Ok.ensures.each i d lt).1.met in
    search rules

pub returns-in-Ok : goal.returns-in-Ok
returns-in-Ok g c = λ a are.
    let os = c.args.outputs.now in
    let last = c.saturating_sub-last.result in
    let n = c.get-threads.result in
    let size = size_of last n in
    let whole = ap (in_turn (chunk_claims os size)) (count g c) ∙ chunks_whole output_claims size os (chunks_of last n) (enough (last / size) size (length os) last (search rules) (lt-div-mul-add (omega arith))) in
    subst (λ (cs : List PlacedClaim). IfSome c.join_keys.result (λ w. HasKeyed a c.args.books.now.names.now no_keys (plain_keys w) cs)) whole
    (c.join_keys.ensures a c.args.books.now.names.now (chunk_claims os size) (λ i d l. walked g c a are i d (subst (λ k. i < k) (count g c) l)))
