use Rattle.decoder.proofs.Fronts.{reads_back}
use Rattle.decoder.proofs.bytes.form_decodes_whatever_follows.Goals as goal

pub returns : goal.returns
returns c = reads_back
