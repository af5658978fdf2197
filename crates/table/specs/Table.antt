-- The instruction table: the diagrams of the forms, and for each operation its rows.
use Rattle.std.specs.Prelude.{ℕ, ◌+◌, ◌-◌, ◌*◌, ◌/◌, List, [], ◌∷◌}
use Rattle.isa.specs.declared.operation.RegisterOp.{RegisterOp}
use Rattle.isa.specs.declared.operation.RegisterOp.TheVariants.{Addu, Addc, Subu, And, Andn, Or, Lsl, Lsr, Asr, Rotl, Mult, Ixh, Ixw}
use Rattle.isa.specs.declared.operation.ImmediateOp.{ImmediateOp}
use Rattle.isa.specs.declared.operation.ImmediateOp.TheVariants.{Addi, Andi, Lsli, Lsri, Asri, Rotli, Bclri, Bseti}
use Rattle.isa.specs.declared.operation.TestOp.{TestOp}
use Rattle.isa.specs.declared.operation.TestOp.TheVariants.{Btsti, Cmplti, Cmpnei}
use Rattle.isa.specs.declared.operation.CompareOp.{CompareOp}
use Rattle.isa.specs.declared.operation.CompareOp.TheVariants.{Cmphs, Cmplt, Cmpne}
use Rattle.isa.specs.declared.operation.AccessOp.{AccessOp}
use Rattle.isa.specs.declared.operation.AccessOp.TheVariants.{LdB, LdH, LdW, LdBs, LdHs, StB, StH, StW}
use Rattle.isa.specs.declared.operation.ConstantOp.{ConstantOp}
use Rattle.isa.specs.declared.operation.ConstantOp.TheVariants.{Movi, Movih}
use Rattle.isa.specs.declared.operation.JumpOp.{JumpOp}
use Rattle.isa.specs.declared.operation.JumpOp.TheVariants.{Jmp, Jsr}
use Rattle.isa.specs.declared.operation.Branch.{Branch}
use Rattle.isa.specs.declared.operation.Branch.TheVariants.{Br, Bt, Bf, Bsr}
use Rattle.isa.specs.declared.rule.Rule.{Rule}
use Rattle.isa.specs.declared.rule.Rule.TheVariants.{Plain, LessOne, Half, Quarter}
use Rattle.table.specs.Diagram.{fixed, unused, z, x, y, v, free, x_is_z, x_is_r14, both_are_r14, Layout, layout}

-- The diagrams. A field of three bits holds r0 to r7, of four r0 to r15, of five r0 to r31.
abbrev pub low_zxy : Layout
low_zxy = layout free (fixed 5 ∷ x 3 ∷ z 3 ∷ y 3 ∷ fixed 2 ∷ [])

abbrev pub low_zx_v3 : Layout
low_zx_v3 = layout free (fixed 5 ∷ x 3 ∷ z 3 ∷ v 3 ∷ fixed 2 ∷ [])

abbrev pub low_zx_v5 : Layout
low_zx_v5 = layout free (fixed 5 ∷ x 3 ∷ z 3 ∷ v 5 ∷ [])

abbrev pub low_z_v8 : Layout
low_z_v8 = layout free (fixed 5 ∷ z 3 ∷ v 8 ∷ [])

abbrev pub low_zz_v8 : Layout
low_zz_v8 = layout x_is_z (fixed 5 ∷ z 3 ∷ v 8 ∷ [])

abbrev pub low_z_r14_v8 : Layout
low_z_r14_v8 = layout x_is_r14 (fixed 5 ∷ z 3 ∷ v 8 ∷ [])

abbrev pub low_z_r14_v3_v5 : Layout
low_z_r14_v3_v5 = layout x_is_r14 (fixed 5 ∷ v 3 ∷ z 3 ∷ v 5 ∷ [])

abbrev pub r14_r14_v2_v5 : Layout
r14_r14_v2_v5 = layout both_are_r14 (fixed 6 ∷ v 2 ∷ fixed 3 ∷ v 5 ∷ [])

abbrev pub low_x_v5 : Layout
low_x_v5 = layout free (fixed 5 ∷ x 3 ∷ fixed 3 ∷ v 5 ∷ [])

abbrev pub low_zz_v5 : Layout
low_zz_v5 = layout x_is_z (fixed 5 ∷ z 3 ∷ fixed 3 ∷ v 5 ∷ [])

abbrev pub zz_y : Layout
zz_y = layout x_is_z (fixed 6 ∷ z 4 ∷ y 4 ∷ fixed 2 ∷ [])

abbrev pub z_x : Layout
z_x = layout free (fixed 6 ∷ z 4 ∷ x 4 ∷ fixed 2 ∷ [])

abbrev pub y_x : Layout
y_x = layout free (fixed 6 ∷ y 4 ∷ x 4 ∷ fixed 2 ∷ [])

abbrev pub x_alone : Layout
x_alone = layout free (fixed 10 ∷ x 4 ∷ fixed 2 ∷ [])

abbrev pub no_operand : Layout
no_operand = layout free (fixed 16 ∷ [])

abbrev pub offset10 : Layout
offset10 = layout free (fixed 6 ∷ v 10 ∷ [])

abbrev pub long_zxy : Layout
long_zxy = layout free (fixed 6 ∷ y 5 ∷ x 5 ∷ fixed 11 ∷ z 5 ∷ [])

abbrev pub long_zx_v5 : Layout
long_zx_v5 = layout free (fixed 6 ∷ v 5 ∷ x 5 ∷ fixed 11 ∷ z 5 ∷ [])

abbrev pub long_x_v5 : Layout
long_x_v5 = layout free (fixed 6 ∷ v 5 ∷ x 5 ∷ fixed 11 ∷ unused 5 ∷ [])

abbrev pub long_zx_v12 : Layout
long_zx_v12 = layout free (fixed 6 ∷ z 5 ∷ x 5 ∷ fixed 4 ∷ v 12 ∷ [])

abbrev pub long_z_v16 : Layout
long_z_v16 = layout free (fixed 11 ∷ z 5 ∷ v 16 ∷ [])

abbrev pub long_x_v16 : Layout
long_x_v16 = layout free (fixed 11 ∷ x 5 ∷ v 16 ∷ [])

abbrev pub offset16 : Layout
offset16 = layout free (fixed 16 ∷ v 16 ∷ [])

abbrev pub offset26 : Layout
offset26 = layout free (fixed 6 ∷ v 26 ∷ [])

-- what stands in the field v for the constant n
abbrev pub to_field : Rule → ℕ → ℕ
to_field Plain n = n
to_field LessOne n = n - 1
to_field Half n = n / 2
to_field Quarter n = n / 4

-- the constant that a field stands for
abbrev pub from_field : Rule → ℕ → ℕ
from_field Plain n = n
from_field LessOne n = n + 1
from_field Half n = 2 * n
from_field Quarter n = 4 * n

-- a layout, the word that its fixed bits come from, and the rule of its constant
pub record Row : Type 0 where
  pub layout : Layout
  pub word : ℕ
  pub rule : Rule

-- a row whose field is the constant itself
abbrev pub row : Layout → ℕ → Row
row l w = record { layout = l; word = w; rule = Plain }

-- a row by another rule
abbrev pub row_by : Rule → Layout → ℕ → Row
row_by r l w = record { layout = l; word = w; rule = r }

-- the rows of each operation, in the order in which a form is chosen
abbrev pub register_rows : RegisterOp → List Row
register_rows Addu = row low_zxy 0x5800 ∷ row zz_y 0x6000 ∷ row long_zxy 0xC4000020 ∷ []
register_rows Addc = row zz_y 0x6001 ∷ row long_zxy 0xC4000040 ∷ []
register_rows Subu = row low_zxy 0x5801 ∷ row zz_y 0x6002 ∷ row long_zxy 0xC4000080 ∷ []
register_rows And = row zz_y 0x6800 ∷ row long_zxy 0xC4002020 ∷ []
register_rows Andn = row zz_y 0x6801 ∷ row long_zxy 0xC4002040 ∷ []
register_rows Or = row zz_y 0x6C00 ∷ row long_zxy 0xC4002420 ∷ []
register_rows Lsl = row zz_y 0x7000 ∷ row long_zxy 0xC4004020 ∷ []
register_rows Lsr = row zz_y 0x7001 ∷ row long_zxy 0xC4004040 ∷ []
register_rows Asr = row zz_y 0x7002 ∷ row long_zxy 0xC4004080 ∷ []
register_rows Rotl = row zz_y 0x7003 ∷ row long_zxy 0xC4004100 ∷ []
register_rows Mult = row zz_y 0x7C00 ∷ row long_zxy 0xC4008420 ∷ []
register_rows Ixh = row long_zxy 0xC4000820 ∷ []
register_rows Ixw = row long_zxy 0xC4000840 ∷ []

abbrev pub immediate_rows : ImmediateOp → List Row
immediate_rows Addi =
    row_by LessOne low_zx_v3 0x5802 ∷
    row_by LessOne low_zz_v8 0x2000 ∷
    row_by Quarter low_z_r14_v8 0x1800 ∷
    row_by Quarter r14_r14_v2_v5 0x1400 ∷
    row_by LessOne long_zx_v12 0xE4000000 ∷
    []
immediate_rows Andi = row long_zx_v12 0xE4002000 ∷ []
immediate_rows Lsli = row low_zx_v5 0x4000 ∷ row long_zx_v5 0xC4004820 ∷ []
immediate_rows Lsri = row low_zx_v5 0x4800 ∷ row long_zx_v5 0xC4004840 ∷ []
immediate_rows Asri = row low_zx_v5 0x5000 ∷ row long_zx_v5 0xC4004880 ∷ []
immediate_rows Rotli = row long_zx_v5 0xC4004900 ∷ []
immediate_rows Bclri = row low_zz_v5 0x3880 ∷ row long_zx_v5 0xC4002820 ∷ []
immediate_rows Bseti = row low_zz_v5 0x38A0 ∷ row long_zx_v5 0xC4002840 ∷ []

abbrev pub test_rows : TestOp → List Row
test_rows Btsti = row low_x_v5 0x38C0 ∷ row long_x_v5 0xC4002880 ∷ []
test_rows Cmplti = row_by LessOne low_x_v5 0x3820 ∷ row_by LessOne long_x_v16 0xEB200000 ∷ []
test_rows Cmpnei = row low_x_v5 0x3840 ∷ row long_x_v16 0xEB400000 ∷ []

abbrev pub compare_rows : CompareOp → List Row
compare_rows Cmphs = row y_x 0x6400 ∷ []
compare_rows Cmplt = row y_x 0x6401 ∷ []
compare_rows Cmpne = row y_x 0x6402 ∷ []

abbrev pub access_rows : AccessOp → List Row
access_rows LdB = row low_zx_v5 0x8000 ∷ row long_zx_v12 0xD8000000 ∷ []
access_rows LdH = row_by Half low_zx_v5 0x8800 ∷ row_by Half long_zx_v12 0xD8001000 ∷ []
access_rows LdW = row_by Quarter low_z_r14_v3_v5 0x9800 ∷ row_by Quarter low_zx_v5 0x9000 ∷ row_by Quarter long_zx_v12 0xD8002000 ∷ []
access_rows LdBs = row long_zx_v12 0xD8004000 ∷ []
access_rows LdHs = row_by Half long_zx_v12 0xD8005000 ∷ []
access_rows StB = row low_zx_v5 0xA000 ∷ row long_zx_v12 0xDC000000 ∷ []
access_rows StH = row_by Half low_zx_v5 0xA800 ∷ row_by Half long_zx_v12 0xDC001000 ∷ []
access_rows StW = row_by Quarter low_z_r14_v3_v5 0xB800 ∷ row_by Quarter low_zx_v5 0xB000 ∷ row_by Quarter long_zx_v12 0xDC002000 ∷ []

-- mov's long form is lsli's by 0, which is mov
abbrev pub short_move_rows : List Row
short_move_rows = row z_x 0x6C03 ∷ []

-- both rows of mov
abbrev pub move_rows : List Row
move_rows = row z_x 0x6C03 ∷ row long_zx_v5 0xC4004820 ∷ []

abbrev pub constant_rows : ConstantOp → List Row
constant_rows Movi = row low_z_v8 0x3000 ∷ row long_z_v16 0xEA000000 ∷ []
constant_rows Movih = row long_z_v16 0xEA200000 ∷ []

abbrev pub jump_rows : JumpOp → List Row
jump_rows Jmp = row x_alone 0x7800 ∷ []
jump_rows Jsr = row x_alone 0x7801 ∷ []

abbrev pub bkpt_rows : List Row
bkpt_rows = row no_operand 0x0000 ∷ []

-- a branch's field is its displacement in halfwords, two's complement
abbrev pub branch_rows : Branch → List Row
branch_rows Br = row offset10 0x0400 ∷ row offset16 0xE8000000 ∷ []
branch_rows Bt = row offset10 0x0800 ∷ row offset16 0xE8600000 ∷ []
branch_rows Bf = row offset10 0x0C00 ∷ row offset16 0xE8400000 ∷ []
branch_rows Bsr = row offset26 0xE0000000 ∷ []
