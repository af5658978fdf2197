-- The forms of an operation by its own rows, and of a branch.
use Rattle.std.specs.Prelude.{ℕ, suc, ◌+◌, ◌-◌, ◌^◌, Bool, false, cond, ◌&&◌, ◌||◌, List, [], ◌∷◌, ℤ, pos, negsuc, is_some, Some, None, Option, nat_lt}
use Rattle.isa.specs.declared.operation.Operation.{Operation}
use Rattle.isa.specs.declared.operation.Operation.TheVariants.{Register, Immediate, Test, Compare, Access, Move, Constant, Jump, Bkpt}
use Rattle.isa.specs.declared.operation.Branch.{Branch}
use Rattle.isa.specs.declared.form.Form.{Form}
use Rattle.isa.specs.declared.form.Form.TheVariants.{Short, Long}
use Rattle.table.specs.Diagram.{Size, short, long, has_size, Operand, reg_z, reg_x, reg_y, number, operands, width, rest}
use Rattle.table.specs.Table.{Row, register_rows, immediate_rows, test_rows, compare_rows, access_rows, move_rows, constant_rows, jump_rows, bkpt_rows, branch_rows}
use Rattle.isa.specs.Normal.{commutes, is_normal}
use Rattle.table.specs.Decode.{holds, form}

-- an operation's own rows
abbrev pub rows : Operation → List Row
rows (Register op z x y) = register_rows op
rows (Immediate op z x n) = immediate_rows op
rows (Test op x n) = test_rows op
rows (Compare op x y) = compare_rows op
rows (Access op z x n) = access_rows op
rows (Move z x) = move_rows
rows (Constant op z n) = constant_rows op
rows (Jump op x) = jump_rows op
rows Bkpt = bkpt_rows

-- its registers and its constant; what it lacks is 0
abbrev pub operand : Operation → Operand → ℕ
operand (Register op z x y) = operands z x y 0
operand (Immediate op z x n) = operands z x 0 n
operand (Test op x n) = operands 0 x 0 n
operand (Compare op x y) = operands 0 x y 0
operand (Access op z x n) = operands z x 0 n
operand (Move z x) = operands z x 0 0
operand (Constant op z n) = operands z 0 0 n
operand (Jump op x) = operands 0 x 0 0
operand Bkpt = operands 0 0 0 0

-- its sources may be exchanged
abbrev pub exchanges : Operation → Bool
exchanges (Register op z x y) = commutes op
exchanges (Immediate op z x n) = false
exchanges (Test op x n) = false
exchanges (Compare op x y) = false
exchanges (Access op z x n) = false
exchanges (Move z x) = false
exchanges (Constant op z n) = false
exchanges (Jump op x) = false
exchanges Bkpt = false

-- the rows of short, or of long, forms
abbrev pub sized_rows : Size → List Row → List Row
sized_rows s [] = []
sized_rows s (r ∷ rs) = cond (has_size s r.layout) (r ∷ sized_rows s rs) (sized_rows s rs)

-- the row's form of the operands, if it can hold them
abbrev pub held : Row → ℕ → ℕ → ℕ → ℕ → Option ℕ
held r z x y n = cond (holds r z x y n) (Some (form r z x y n)) None

-- the first form; where c says that the sources may be exchanged, a row is tried with the lower one as x, then with it as y
abbrev pub first : Bool → List Row → ℕ → ℕ → ℕ → ℕ → Option ℕ
first c [] z x y n = None
first c (r ∷ rs) z x y n = cond (holds r z x y n) (Some (form r z x y n)) (cond (c && holds r z y x n) (Some (form r z y x n)) (first c rs z x y n))

-- the first short, or long, form of an operation
abbrev pub form_of : Size → Operation → Option ℕ
form_of s o = first (exchanges o) (sized_rows s (rows o)) (operand o reg_z) (operand o reg_x) (operand o reg_y) (operand o number)

-- a short form or a long one
abbrev pub has_form : Operation → Bool
has_form o = is_some (form_of short o) || is_some (form_of long o)

-- the operation is normal, and has a form
unfoldable pub is_act : Operation → Bool
is_act o = is_normal o && has_form o

-- a number from -m to below m, modulo f
abbrev pub complement : ℕ → ℕ → ℤ → Option ℕ
complement m f (pos n) = cond (nat_lt n m) (Some n) None
complement m f (negsuc n) = cond (nat_lt n m) (Some (f - suc n)) None

-- a number in k bits, two's complement, if it fits them
abbrev pub field_of : ℕ → ℤ → Option ℕ
field_of k d = complement (2 ^ (k - 1)) (2 ^ k) d

-- the field below the table word
abbrev pub plus : ℕ → Option ℕ → Option ℕ
plus w None = None
plus w (Some n) = Some (w + n)

-- a branch has at most one row of each size
abbrev pub first_branch : List Row → ℤ → Option ℕ
first_branch [] d = None
first_branch (r ∷ rs) d = plus r.word (field_of (width number (rest r.layout)) d)

-- the short, or long, form of a branch by a displacement in halfwords
abbrev pub branch_form : Size → Branch → ℤ → Option ℕ
branch_form s b d = first_branch (sized_rows s (branch_rows b)) d

-- the short form where there is one, else the long one
abbrev pub least : Option ℕ → Option ℕ → Option Form
least (Some h) l = Some (Short h)
least None None = None
least None (Some w) = Some (Long w)

-- the form in which an operation, or a branch, is laid: the first of least length
abbrev pub used : Operation → Option Form
used o = least (form_of short o) (form_of long o)

-- likewise of a branch
abbrev pub used_branch : Branch → ℤ → Option Form
used_branch b d = least (branch_form short b d) (branch_form long b d)
