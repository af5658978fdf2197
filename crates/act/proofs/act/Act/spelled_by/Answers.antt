use Rattle.std.proofs.Common.{Some, sym, ap, ◌∙◌, subst}
use Rattle.isa.specs.declared.operation.Instruction.TheVariants.{Plain}
use Rattle.act.specs.Made.{Decoded}
use Rattle.act.proofs.Making.{found_spelled, found_act, not_plain, nothing}
use Rattle.act.proofs.act.Act.spelled_by.Goals as goal

pub returns-in_err-operation : goal.returns-in_err-operation
returns-in_err-operation c = subst (Decoded c.args.form) (sym c.from_residual.ensures) (λ o s. nothing c.args.form o (sym c.decode_form.ensures ∙ c.in_err-operation.was) s)

pub invariant_of-result : goal.invariant_of-result
invariant_of-result c = record { spelled = found_act c.args.form c.in-Plain.operation (sym c.decode_form.ensures ∙ c.in_ok-operation.was ∙ ap Some c.in-Plain.is) }

pub returns-in-Plain : goal.returns-in-Plain
returns-in-Plain c = found_spelled c.args.form (Plain c.in-Plain.operation) (sym c.decode_form.ensures ∙ c.in_ok-operation.was ∙ ap Some c.in-Plain.is)

pub returns-in-Relative : goal.returns-in-Relative
returns-in-Relative c = λ o s. not_plain c.args.form _ _ o (sym c.decode_form.ensures ∙ c.in_ok-operation.was ∙ ap Some c.in-Relative.is) s
