use Rattle.table.specs.Diagram.{short, long}
use Rattle.table.proofs.Branches.{forms_of_branches}
use Rattle.table.proofs.laws.branches_have_the_forms_that_spell_them.Goals as goal

pub returns : goal.returns
returns c = (forms_of_branches short, forms_of_branches long)
