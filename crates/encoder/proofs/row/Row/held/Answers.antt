use Rattle.std.proofs.Common.{sym, ◌∙◌, arith}
use Rattle.encoder.proofs.Fields.{placed_low}
use Rattle.encoder.proofs.row.Row.held.Goals as goal

pub overflow_add-result : goal.overflow_add-result
overflow_add-result c =
    let f = placed_low c.args.self.layout _ c.in_ok-placed.field-0 (sym c.placed.ensures ∙ c.in_ok-placed.was) in
    omega (arith, c.args.self.room, f)
