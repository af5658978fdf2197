use Rattle.table.specs.Diagram.{short, long}
use Rattle.table.proofs.Acts.{forms_of_acts, acts_have_forms}
use Rattle.table.proofs.laws.acts_are_what_forms_spell.Goals as goal

pub returns : goal.returns
returns c = (forms_of_acts short, (forms_of_acts long, acts_have_forms))
