use Rattle.std.proofs.Common.{◌≡◌, ℕ, ◌<◌, ◌++◌, take, get_or, flat_map}
use Rattle.eos_fold_file.proofs.entry.write_many.Given as goal

abbrev pub invariant-loop-entry : goal.invariant-loop-entry
invariant-loop-entry g l = record {
  text : l.out.items ≡ l.fn.out.items ++ flat_map g.T.Entry.entry_text (take l.entry-index l.entries);
  fit : (k : ℕ) (d : g.row.T.Denot) → k < l.entry-index → g.T.Entry.entry_fits (get_or l.entries k d);
}
