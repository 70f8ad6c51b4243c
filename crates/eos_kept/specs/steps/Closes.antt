-- The closes, read off the heads of data batches.
use Rattle.std.specs.Prelude.{List}
use Rattle.std.specs.List.{flat_map}
use Rattle.eos_fold.specs.Heads.{DataHead}
use Rattle.eos_fold.specs.declared.close.Close.{Close}
use Rattle.eos_fold.specs.Closes.{close_in}

abbrev pub close_under : DataHead → List Close
close_under h = close_in h.writer h.ending

abbrev pub closes_under : List DataHead → List Close
closes_under heads = flat_map close_under heads
