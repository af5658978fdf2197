use Rattle.table.proofs.Acts.{uses_least}
use Rattle.table.proofs.laws.least_form_is_used.Goals as goal

pub returns : goal.returns
returns c = uses_least
