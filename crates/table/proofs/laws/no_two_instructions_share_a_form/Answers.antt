use Rattle.table.specs.Diagram.{short, long}
use Rattle.table.proofs.Decoding.{unshared}
use Rattle.table.proofs.laws.no_two_instructions_share_a_form.Goals as goal

pub returns : goal.returns
returns c = (unshared short, unshared long)
