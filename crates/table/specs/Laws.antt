-- What holds of the table.
use Rattle.std.specs.Prelude.{◌≡◌, ℕ, ◌<◌, ◌≤◌, true, ℤ, Some, None}
use Rattle.isa.specs.declared.operation.Operation.{Operation}
use Rattle.isa.specs.declared.operation.Branch.{Branch}
use Rattle.isa.specs.declared.operation.Instruction.{Instruction}
use Rattle.isa.specs.declared.operation.Instruction.TheVariants.{Plain, Relative}
use Rattle.isa.specs.declared.form.Form.{Form}
use Rattle.isa.specs.declared.form.Form.TheVariants.{Short, Long}
use Rattle.table.specs.Diagram.{Size, short, long}
use Rattle.isa.specs.Bytes.{size}
use Rattle.table.specs.Decode.{Spells, decode}
use Rattle.table.specs.Encode.{form_of, is_act, branch_form, used, used_branch}

-- a form decodes to exactly the instruction that the table spells by it, and to none where it spells none
pub record DecodesExactly (s : Size) : Type 0 where
  pub spelled : (i : Instruction) (h : ℕ) → decode s h ≡ Some i → Spells s i h
  pub decoded : (i : Instruction) (h : ℕ) → Spells s i h → decode s h ≡ Some i
  pub unknown : (h : ℕ) → ((i : Instruction) → Spells s i h → ⊥) → decode s h ≡ None

-- no two instructions share a form
abbrev pub Unshared : Size → Type 0
Unshared s = (i j : Instruction) (h : ℕ) → Spells s i h → Spells s j h → i ≡ j

-- what has a form is an act; an act's first form of a size is one of its forms, and it lacks one only where no form of that size spells it
pub record FormsOfActs (s : Size) : Type 0 where
  pub act : (o : Operation) (h : ℕ) → Spells s (Plain o) h → is_act o ≡ true
  pub form : (o : Operation) (h : ℕ) → is_act o ≡ true → form_of s o ≡ Some h → Spells s (Plain o) h
  pub none : (o : Operation) (h : ℕ) → form_of s o ≡ None → Spells s (Plain o) h → ⊥

-- the same of branches
pub record FormsOfBranches (s : Size) : Type 0 where
  pub form : (b : Branch) (d : ℤ) (h : ℕ) → branch_form s b d ≡ Some h → Spells s (Relative b d) h
  pub only : (b : Branch) (d : ℤ) (h : ℕ) → Spells s (Relative b d) h → branch_form s b d ≡ Some h

-- the top two bits tell a long form's first halfword from a short form
pub record ToldApart : Type 0 where
  pub halfword : (i : Instruction) (h : ℕ) → Spells short i h → h < 0xC000
  pub word : (i : Instruction) (w : ℕ) → Spells long i w → (0xC0000000 ≤ w) × (w < 0x100000000)

-- the form spells the instruction
abbrev pub Spelled : Form → Instruction → Type 0
Spelled (Short h) i = Spells short i h
Spelled (Long w) i = Spells long i w

-- a form of the instruction, and no other is shorter
pub record Least (f : Form) (i : Instruction) : Type 0 where
  pub spells : Spelled f i
  pub shortest : (g : Form) → Spelled g i → size f ≤ size g

-- the form used is least, for acts and for branches
pub record UsesLeast : Type 0 where
  pub act : (o : Operation) (f : Form) → is_act o ≡ true → used o ≡ Some f → Least f (Plain o)
  pub branch : (b : Branch) (d : ℤ) (f : Form) → used_branch b d ≡ Some f → Least f (Relative b d)

-- every act has a form that is used
abbrev pub ActsHaveForms : Type 0
ActsHaveForms = (o : Operation) → is_act o ≡ true → (f : Form) × (used o ≡ Some f)
