-- Acts from their parts, and from the decoder.
use Rattle.std.specs.Prelude.{◌≡◌, Some, None, Ok, Err, Option, Result}
use Rattle.refusal.specs.declared.refusal.Refusal.{Refusal}
use Rattle.refusal.specs.declared.refusal.Refusal.TheVariants.{NoForm}
use Rattle.isa.specs.declared.operation.Operation.{Operation}
use Rattle.isa.specs.declared.operation.Instruction.TheVariants.{Plain}
use Rattle.isa.specs.declared.form.Form.{Form}
use Rattle.isa.specs.Normal.{normal}
use Rattle.table.specs.Laws.{Spelled}
use Rattle.act.specs.declared.act.Act.{Act}

-- the maker accepts exactly the parts whose normal form some form spells, and holds that normal form
abbrev pub Made : Operation → Result Act Refusal → Type 0
Made parts (Ok a) = (a.operation ≡ normal parts) × ((f : Form) × Spelled f (Plain (normal parts)))
Made parts (Err e) = (e ≡ NoForm 0) × ((f : Form) → Spelled f (Plain (normal parts)) → ⊥)

-- the act that a form spells, if it spells one
abbrev pub Decoded : Form → Option Act → Type 0
Decoded f (Some a) = Spelled f (Plain a.operation)
Decoded f None = (o : Operation) → Spelled f (Plain o) → ⊥
