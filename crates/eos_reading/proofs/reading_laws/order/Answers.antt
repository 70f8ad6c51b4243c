use Rattle.eos_reading.proofs.WantedItems.{rises_kept}
use Rattle.eos_reading.proofs.reading_laws.order.Goals as goal

pub returns : goal.returns
returns c = λ w p. rises_kept w p.items
