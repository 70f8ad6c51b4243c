-- The segments of the files so far, each of another base than the next.
use Rattle.std.proofs.Common.{◌≡◌, ◌++◌, ◌<◌, ℕ, take, drop, map}
use Rattle.eos_disk.specs.Shapes.{segment_of}
use Rattle.eos_disk.specs.steps.Listing.{IsApart}
use Rattle.eos_disk.proofs.listing.Segments.add_files.Given as goal

abbrev pub invariant-loop-i : goal.invariant-loop-i
invariant-loop-i l = record {
  names : l.self.names.items ≡ l.fn.self.names.items ++ map (segment_of l.end) (take l.i l.files);
  forms : l.self.forms.items ≡ l.fn.self.forms.items ++ map (λ f. f.form) (take l.i l.files);
  apart : (k : ℕ) → k < l.i → IsApart (drop k l.files);
}
