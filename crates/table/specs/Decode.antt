-- What a halfword or a word spells: the table as a list of entries, and the first one that a form matches.
use Rattle.std.specs.Prelude.{◌≡◌, ℕ, ◌+◌, ◌-◌, ◌*◌, ◌/◌, ◌^◌, Bool, true, cond, ◌&&◌, ◌||◌, ◌⊎◌, List, [], ◌∷◌, ◌++◌, ℤ, pos, ◌-ℤ◌, Some, None, Option, ◌==◌, nat_le, nat_lt}
use Rattle.isa.specs.declared.operation.RegisterOp.{RegisterOp}
use Rattle.isa.specs.declared.operation.RegisterOp.TheVariants.{Addu, Addc, Subu, And, Andn, Or, Lsl, Lsr, Asr, Rotl, Mult, Ixh, Ixw}
use Rattle.isa.specs.declared.operation.ImmediateOp.{ImmediateOp}
use Rattle.isa.specs.declared.operation.ImmediateOp.TheVariants.{Addi, Andi, Lsli, Lsri, Asri, Rotli, Bclri, Bseti}
use Rattle.isa.specs.declared.operation.TestOp.{TestOp}
use Rattle.isa.specs.declared.operation.TestOp.TheVariants.{Btsti, Cmplti, Cmpnei}
use Rattle.isa.specs.declared.operation.CompareOp.{CompareOp}
use Rattle.isa.specs.declared.operation.CompareOp.TheVariants.{Cmphs, Cmplt, Cmpne}
use Rattle.isa.specs.declared.operation.AccessOp.{AccessOp}
use Rattle.isa.specs.declared.operation.AccessOp.TheVariants.{LdB, LdH, LdW, LdBs, LdHs, StB, StH, StW}
use Rattle.isa.specs.declared.operation.ConstantOp.{ConstantOp}
use Rattle.isa.specs.declared.operation.ConstantOp.TheVariants.{Movi, Movih}
use Rattle.isa.specs.declared.operation.JumpOp.{JumpOp}
use Rattle.isa.specs.declared.operation.JumpOp.TheVariants.{Jmp, Jsr}
use Rattle.isa.specs.declared.operation.Branch.{Branch}
use Rattle.isa.specs.declared.operation.Branch.TheVariants.{Br, Bt, Bf, Bsr}
use Rattle.isa.specs.declared.operation.Operation.TheVariants.{Register, Immediate, Test, Compare, Access, Move, Constant, Jump, Bkpt}
use Rattle.isa.specs.declared.operation.Instruction.{Instruction}
use Rattle.isa.specs.declared.operation.Instruction.TheVariants.{Plain, Relative}
use Rattle.table.specs.Diagram.{Size, short, long, has_size, reg_y, number, width, place, taken, agrees, rest, span, fits, operands, z_of, x_of}
use Rattle.table.specs.Table.{to_field, from_field, Row, register_rows, immediate_rows, test_rows, compare_rows, access_rows, short_move_rows, constant_rows, jump_rows, bkpt_rows, branch_rows}
use Rattle.isa.specs.Normal.{normal}

-- what the operands z, x, y, n of a row say
abbrev pub Reading : Type 0
Reading = ℕ → ℕ → ℕ → ℕ → Instruction

abbrev pub register : RegisterOp → Row → Reading
register op r z x y n = Plain (normal (Register op z x y))

abbrev pub immediate : ImmediateOp → Row → Reading
immediate op r z x y n = Plain (normal (Immediate op z x n))

abbrev pub test : TestOp → Row → Reading
test op r z x y n = Plain (Test op x n)

abbrev pub compare : CompareOp → Row → Reading
compare op r z x y n = Plain (Compare op x y)

abbrev pub access : AccessOp → Row → Reading
access op r z x y n = Plain (Access op z x n)

abbrev pub move : Row → Reading
move r z x y n = Plain (Move z x)

abbrev pub constant : ConstantOp → Row → Reading
constant op r z x y n = Plain (Constant op z n)

abbrev pub jump : JumpOp → Row → Reading
jump op r z x y n = Plain (Jump op x)

abbrev pub bkpt : Row → Reading
bkpt r z x y n = Plain Bkpt

-- a field of k bits as a number, two's complement
abbrev pub signed : ℕ → ℕ → ℤ
signed k n = cond (nat_lt n (2 ^ (k - 1))) (pos n) (pos n -ℤ pos (2 ^ k))

-- a branch by its field
abbrev pub relative : Branch → Row → Reading
relative b r z x y n = Relative b (signed (width number (rest r.layout)) n)

-- a row, and what its operands say
pub record Entry : Type 0 where
  pub line : Row
  pub reading : Reading

-- the entries of one operation
abbrev pub lines : (Row → Reading) → List Row → List Entry
lines f [] = []
lines f (r ∷ rs) = record { line = r; reading = f r } ∷ lines f rs

-- the entries of a group of operations
abbrev pub each : {O : Type 0} → (O → Row → Reading) → (O → List Row) → List O → List Entry
each f rows [] = []
each f rows (o ∷ os) = lines (f o) (rows o) ++ each f rows os

-- every operation of each group, in the table's order
abbrev pub register_ops : List RegisterOp
register_ops = Addu ∷ Addc ∷ Subu ∷ And ∷ Andn ∷ Or ∷ Lsl ∷ Lsr ∷ Asr ∷ Rotl ∷ Mult ∷ Ixh ∷ Ixw ∷ []

abbrev pub immediate_ops : List ImmediateOp
immediate_ops = Addi ∷ Andi ∷ Lsli ∷ Lsri ∷ Asri ∷ Rotli ∷ Bclri ∷ Bseti ∷ []

abbrev pub test_ops : List TestOp
test_ops = Btsti ∷ Cmplti ∷ Cmpnei ∷ []

abbrev pub compare_ops : List CompareOp
compare_ops = Cmphs ∷ Cmplt ∷ Cmpne ∷ []

abbrev pub access_ops : List AccessOp
access_ops = LdB ∷ LdH ∷ LdW ∷ LdBs ∷ LdHs ∷ StB ∷ StH ∷ StW ∷ []

abbrev pub constant_ops : List ConstantOp
constant_ops = Movi ∷ Movih ∷ []

abbrev pub jump_ops : List JumpOp
jump_ops = Jmp ∷ Jsr ∷ []

abbrev pub branches : List Branch
branches = Br ∷ Bt ∷ Bf ∷ Bsr ∷ []

-- the entries by group
abbrev pub sections : List (List Entry)
sections =
    each register register_rows register_ops ∷
    each immediate immediate_rows immediate_ops ∷
    each test test_rows test_ops ∷
    each compare compare_rows compare_ops ∷
    each access access_rows access_ops ∷
    lines move short_move_rows ∷
    each constant constant_rows constant_ops ∷
    each jump jump_rows jump_ops ∷
    lines bkpt bkpt_rows ∷
    each relative branch_rows branches ∷
    []

-- the sections one after another
abbrev pub joined : List (List Entry) → List Entry
joined [] = []
joined (s ∷ ss) = s ++ joined ss

-- all entries
abbrev pub table : List Entry
table = joined sections

-- the entries of short, or of long, instructions
abbrev pub sized : Size → List Entry → List Entry
sized s [] = []
sized s (e ∷ es) = cond (has_size s e.line.layout) (e ∷ sized s es) (sized s es)

-- a row can hold the operands, and the form in which it does
abbrev pub holds : Row → ℕ → ℕ → ℕ → ℕ → Bool
holds r z x y n = from_field r.rule (to_field r.rule n) == n && fits r.layout z x y (to_field r.rule n)

-- the form in which a row holds the operands
abbrev pub form : Row → ℕ → ℕ → ℕ → ℕ → ℕ
form r z x y n = r.word + place (rest r.layout) (operands z x y (to_field r.rule n))

-- by this entry the form h spells the instruction i: some operands say i, and stand in h
abbrev pub By : Entry → Instruction → ℕ → Type 0
By e i h = (z : ℕ) × (x : ℕ) × (y : ℕ) × (n : ℕ) × (holds e.line z x y n ≡ true) × (e.reading z x y n ≡ i) × (h ≡ form e.line z x y n)

-- one of the entries has the property
abbrev pub In : (Entry → Type 0) → List Entry → Type 0
In P [] = ⊥
In P (e ∷ es) = P e ⊎ In P es

-- by one of the entries h spells i
abbrev pub Among : List Entry → Instruction → ℕ → Type 0
Among es i h = In (λ e. By e i h) es

-- the table lists h among the short, or long, forms of the instruction i
abbrev pub Spells : Size → Instruction → ℕ → Type 0
Spells s i h = Among (sized s table) i h

-- the first value of a row's range, from which on its forms lie
abbrev pub start : Row → ℕ
start r = r.word / span r.layout * span r.layout

-- h has the row's bits and lies in its range
abbrev pub matches : Row → ℕ → Bool
matches r h = agrees (rest r.layout) h r.word && (nat_le (start r) h && nat_lt h (start r + span r.layout))

-- what the fields of h say, read by an entry
abbrev pub meaning : Entry → ℕ → Instruction
meaning e h = e.reading (z_of e.line.layout.pins (rest e.line.layout) h) (x_of e.line.layout.pins (rest e.line.layout) h) (taken reg_y (rest e.line.layout) h) (from_field e.line.rule (taken number (rest e.line.layout) h))

-- the first entry that a form matches, read
abbrev pub scan : List Entry → ℕ → Option Instruction
scan [] h = None
scan (e ∷ es) h = cond (matches e.line h) (Some (meaning e h)) (scan es h)

-- the entries with a form from lo to below hi
abbrev pub between : ℕ → ℕ → List Entry → List Entry
between lo hi [] = []
between lo hi (e ∷ es) = cond (nat_le (start e.line + span e.line.layout) lo || nat_le hi (start e.line)) (between lo hi es) (e ∷ between lo hi es)

-- the scan of the short entries in a range
abbrev pub shorts : ℕ → ℕ → ℕ → Option Instruction
shorts lo hi h = scan (between lo hi (sized short table)) h

-- the scan of the long entries in a range
abbrev pub longs : ℕ → ℕ → ℕ → Option Instruction
longs lo hi w = scan (between lo hi (sized long table)) w

-- what a halfword, or a word, spells; nothing where it is in no row
unfoldable pub decode : Size → ℕ → Option Instruction
decode s h = scan (sized s table) h
