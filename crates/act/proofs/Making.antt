-- What an act's test says of its forms.
use Rattle.std.proofs.Common.{◌≡◌, ℕ, true, false, ℤ, Some, None, IsSome, sym, refl, ◌∙◌, subst, arith}
use Rattle.std.proofs.lemmas.Bool.{true≢false}
use Rattle.isa.specs.declared.operation.Branch.{Branch}
use Rattle.isa.specs.declared.operation.Operation.{Operation}
use Rattle.isa.specs.declared.operation.Instruction.{Instruction}
use Rattle.isa.specs.declared.operation.Instruction.TheVariants.{Plain, Relative}
use Rattle.isa.specs.declared.form.Form.{Form}
use Rattle.isa.specs.declared.form.Form.TheVariants.{Short, Long}
use Rattle.table.specs.Diagram.{short, long}
use Rattle.table.specs.Encode.{is_act, used}
use Rattle.table.specs.Laws.{Spelled}
use Rattle.table.proofs.Acts.{forms_of_acts, acts_have_forms, uses_least}
use Rattle.table.proofs.Decoding.{decodes_exactly}
use Rattle.decoder.specs.Decoded.{decoded_form}

pub has_one : (o : Operation) → is_act o ≡ true → (f : Form) × Spelled f (Plain o)
has_one o t = let u = acts_have_forms o t in (u.0, (uses_least.act o u.0 t u.1).spells)

pub has_none : (o : Operation) → is_act o ≡ false → (f : Form) → Spelled f (Plain o) → ⊥
has_none o t (Short h) s = true≢false (sym ((forms_of_acts short).act o h s) ∙ t)
has_none o t (Long w) s = true≢false (sym ((forms_of_acts long).act o w s) ∙ t)

pub formed : (o : Operation) → is_act o ≡ true → IsSome (used o)
formed o t = let u = acts_have_forms o t in subst IsSome (sym u.1) refl

pub found_spelled : (f : Form) (i : Instruction) → decoded_form f ≡ Some i → Spelled f i
found_spelled (Short h) i e = (decodes_exactly short).spelled i h e
found_spelled (Long w) i e = (decodes_exactly long).spelled i w e

pub spelled_found : (f : Form) (i : Instruction) → Spelled f i → decoded_form f ≡ Some i
spelled_found (Short h) i s = (decodes_exactly short).decoded i h s
spelled_found (Long w) i s = (decodes_exactly long).decoded i w s

pub found_act : (f : Form) (o : Operation) → decoded_form f ≡ Some (Plain o) → is_act o ≡ true
found_act (Short h) o e = (forms_of_acts short).act o h (found_spelled (Short h) (Plain o) e)
found_act (Long w) o e = (forms_of_acts long).act o w (found_spelled (Long w) (Plain o) e)

-- a form that spells something else, or nothing, spells no operation
pub not_plain : (f : Form) (b : Branch) (d : ℤ) (o : Operation) → decoded_form f ≡ Some (Relative b d) → Spelled f (Plain o) → ⊥
not_plain f b d o e s = let p = spelled_found f (Plain o) s in let z : ◌≡◌ {A = ℕ} 0 1 = cc in omega arith

pub nothing : (f : Form) (o : Operation) → decoded_form f ≡ None → Spelled f (Plain o) → ⊥
nothing f o e s = let p = spelled_found f (Plain o) s in let z : ◌≡◌ {A = ℕ} 0 1 = cc in omega arith
