use Rattle.eos_explaining.specs.Commands.{partition_path}
use Rattle.eos_explaining.proofs.LastCalls.{last}
use Rattle.eos_explaining.proofs.paths.push_partition_path.Goals as goal

pub returns : goal.returns
unfolding partition_path
returns c =
    let quote = rw c.folder_quote-quote.ensures at c.in_ok-push_text.ensures in
    let folder = rw c.folder_text.ensures at c.in_ok-push_text-2.ensures in
    let end = rw c.folder_quote-quote.ensures at c.push_text-3.ensures in
    last _ _ _ quote (last _ _ _ folder (last _ _ _ c.in_ok-push_name.ensures end))
