use Rattle.std.proofs.Common.{◌≡◌, true, false, sym, refl, ◌∙◌, subst}
use Rattle.isa.specs.Normal.{normal}
use Rattle.table.specs.Encode.{is_act}
use Rattle.table.proofs.Acts.{with_form, without_form}
use Rattle.act.proofs.Making.{has_one, has_none}
use Rattle.act.proofs.act.Act.new.Goals as goal

pub invariant_of-result : goal.invariant_of-result
invariant_of-result c = record { spelled = with_form c.normal-operation.result c.normal-operation.ensures.normal (sym c.has_form.ensures ∙ c.if-has_form.true) }

pub returns-then-has_form : goal.returns-then-has_form
returns-then-has_form c =
    let e = c.normal-operation.ensures.value in
    let a = with_form c.normal-operation.result c.normal-operation.ensures.normal (sym c.has_form.ensures ∙ c.if-has_form.true) in
    (e, has_one (normal c.args.parts) (subst (λ o. is_act o ≡ true) e a))

pub returns-else-has_form : goal.returns-else-has_form
returns-else-has_form c =
    let e = c.normal-operation.ensures.value in
    let a = without_form c.normal-operation.result (sym c.has_form.ensures ∙ c.if-has_form.false) in
    (refl, has_none (normal c.args.parts) (subst (λ o. is_act o ≡ false) e a))
