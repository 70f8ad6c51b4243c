use Rattle.std.proofs.Common.{subst, IsPermutation}
use Rattle.eos_lineage.proofs.pipeline.Pipeline.of.Goals as goal

pub returns : goal.returns
returns c = λ apps parts table has. record {
  sources = subst (λ ts. IsPermutation ts c.in_ok-sources.sources) c.as_slice.ensures c.in_ok-sources.ensures;
  outputs = subst (λ ts. IsPermutation ts c.in_ok-outputs.outputs) c.as_slice-2.ensures c.in_ok-outputs.ensures;
  commits = c.in_ok-commits.ensures.commits apps parts table has;
}
