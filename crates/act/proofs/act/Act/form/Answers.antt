use Rattle.std.proofs.Common.{IsSome, sym, ◌∙◌, subst}
use Rattle.table.proofs.Acts.{uses_least}
use Rattle.act.proofs.Making.{formed}
use Rattle.act.proofs.act.Act.form.Goals as goal

pub unwrap-requires : goal.unwrap-requires
unwrap-requires c = subst IsSome (sym c.used_form.ensures) (formed c.args.self.operation c.args.self.spelled)

pub returns-clause-least : goal.returns-clause-least
returns-clause-least c = uses_least.act c.args.self.operation c.unwrap.result c.args.self.spelled (sym c.used_form.ensures ∙ c.unwrap.ensures)
