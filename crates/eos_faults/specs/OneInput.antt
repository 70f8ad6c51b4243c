-- Outputs that an input lacks.
use Rattle.std.specs.Prelude.{◌≡◌}
use Rattle.eos_claims.specs.declared.fault.OutputFault.{OutputFault}
use Rattle.eos_claims.specs.declared.fault.OutputKind.TheVariants.{Missing}

-- two outputs that one input lacks
pub record OfOneInput (f g : OutputFault) : Type 0 where
  pub first : f.kind ≡ Missing
  pub second : g.kind ≡ Missing
  pub source : f.source ≡ g.source
