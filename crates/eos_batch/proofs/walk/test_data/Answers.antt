use Rattle.std.proofs.Common.{◌∙◌, sym}
use Rattle.eos_batch.proofs.DataBatches.{data_right, data_wrong}
use Rattle.eos_batch.proofs.walk.test_data.Goals as goal

pub returns-then-not-has_right_producer : goal.returns-then-not-has_right_producer
returns-then-not-has_right_producer c = λ rs size. data_wrong c.args.batch.now rs size c.requires (sym c.has_right_producer.ensures ∙ c.if-not-has_right_producer.true)

pub returns : goal.returns
returns c = λ rs size. data_right c.args.batch.now rs size c.requires (sym c.has_right_producer.ensures ∙ c.if-not-has_right_producer.false)
