use Rattle.eos_picture.proofs.Escaped.{all_data}
use Rattle.eos_picture.proofs.laws.texts_stay_texts.Goals as goal

pub returns : goal.returns
returns c = all_data
