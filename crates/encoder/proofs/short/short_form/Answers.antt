use Rattle.std.proofs.Common.{sym, ◌∙◌, arith}
use Rattle.encoder.proofs.Halfwords.{short_below}
use Rattle.encoder.proofs.short.short_form.Goals as goal

pub overflow_cast-result : goal.overflow_cast-result
overflow_cast-result c = omega (arith, short_below c.args.operation c.in_ok-first_form.field-0 (sym c.first_form.ensures ∙ c.in_ok-first_form.was))
