use Rattle.table.specs.Diagram.{short, long}
use Rattle.table.proofs.Decoding.{decodes_exactly}
use Rattle.table.proofs.laws.decodes_exactly_what_the_table_spells.Goals as goal

pub returns : goal.returns
returns c = (decodes_exactly short, decodes_exactly long)
