-- The forms that rows of the table give to operands; contracts by these name the operands whole.
use Rattle.std.specs.Prelude.{ℕ, Bool, List, Option}
use Rattle.encoder.specs.declared.operands.Operands.{Operands}
use Rattle.encoder.specs.declared.row.Row as encoder
use Rattle.encoder.specs.Layouts.{diagram_of}
use Rattle.table.specs.Diagram.{Size}
use Rattle.table.specs.Table.{Row, row_by}
use Rattle.table.specs.Encode.{held, first, sized_rows}

-- the table's row that a row of the encoder stands for
abbrev pub row_of : encoder.Row → Row
row_of r = row_by r.rule (diagram_of r.layout) r.word

-- the row's form of the operands, if it can hold them
abbrev pub held_by : Row → Operands → Option ℕ
held_by r o = held r o.z o.x o.y o.n

-- the first of the rows' forms; the flag says that the sources may be exchanged
abbrev pub first_by : Bool → List Row → Operands → Option ℕ
first_by c rs o = first c rs o.z o.x o.y o.n

-- the first short, or long, one
abbrev pub form_by : Size → Bool → List Row → Operands → Option ℕ
form_by s c rs o = first_by c (sized_rows s rs) o
