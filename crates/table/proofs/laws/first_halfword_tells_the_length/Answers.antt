use Rattle.table.proofs.Decoding.{told_apart}
use Rattle.table.proofs.laws.first_halfword_tells_the_length.Goals as goal

pub returns : goal.returns
returns c = told_apart
