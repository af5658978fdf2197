-- How each operation and branch is named.
use Rattle.std.specs.Prelude.{ℕ, List, codes}
use Rattle.isa.specs.declared.operation.RegisterOp.{RegisterOp}
use Rattle.isa.specs.declared.operation.RegisterOp.TheVariants.{Addu, Addc, Subu, And, Andn, Or, Lsl, Lsr, Asr, Rotl, Mult, Ixh, Ixw}
use Rattle.isa.specs.declared.operation.ImmediateOp.{ImmediateOp}
use Rattle.isa.specs.declared.operation.ImmediateOp.TheVariants.{Addi, Andi, Lsli, Lsri, Asri, Rotli, Bclri, Bseti}
use Rattle.isa.specs.declared.operation.TestOp.{TestOp}
use Rattle.isa.specs.declared.operation.TestOp.TheVariants.{Btsti, Cmplti, Cmpnei}
use Rattle.isa.specs.declared.operation.CompareOp.{CompareOp}
use Rattle.isa.specs.declared.operation.CompareOp.TheVariants.{Cmphs, Cmplt, Cmpne}
use Rattle.isa.specs.declared.operation.AccessOp.{AccessOp}
use Rattle.isa.specs.declared.operation.AccessOp.TheVariants.{LdB, LdH, LdW, LdBs, LdHs, StB, StH, StW}
use Rattle.isa.specs.declared.operation.ConstantOp.{ConstantOp}
use Rattle.isa.specs.declared.operation.ConstantOp.TheVariants.{Movi, Movih}
use Rattle.isa.specs.declared.operation.JumpOp.{JumpOp}
use Rattle.isa.specs.declared.operation.JumpOp.TheVariants.{Jmp, Jsr}
use Rattle.isa.specs.declared.operation.Branch.{Branch}
use Rattle.isa.specs.declared.operation.Branch.TheVariants.{Br, Bt, Bf, Bsr}
use Rattle.text.specs.declared.mnemonic.Mnemonic.{Mnemonic}
use Rattle.text.specs.declared.mnemonic.Mnemonic.TheVariants.{Register, Immediate, Test, Compare, Access, Move, Constant, Jump, Bkpt, Relative}

-- the names of each group
abbrev pub register_name : RegisterOp → List ℕ
register_name Addu = codes "addu"
register_name Addc = codes "addc"
register_name Subu = codes "subu"
register_name And = codes "and"
register_name Andn = codes "andn"
register_name Or = codes "or"
register_name Lsl = codes "lsl"
register_name Lsr = codes "lsr"
register_name Asr = codes "asr"
register_name Rotl = codes "rotl"
register_name Mult = codes "mult"
register_name Ixh = codes "ixh"
register_name Ixw = codes "ixw"

abbrev pub immediate_name : ImmediateOp → List ℕ
immediate_name Addi = codes "addi"
immediate_name Andi = codes "andi"
immediate_name Lsli = codes "lsli"
immediate_name Lsri = codes "lsri"
immediate_name Asri = codes "asri"
immediate_name Rotli = codes "rotli"
immediate_name Bclri = codes "bclri"
immediate_name Bseti = codes "bseti"

abbrev pub test_name : TestOp → List ℕ
test_name Btsti = codes "btsti"
test_name Cmplti = codes "cmplti"
test_name Cmpnei = codes "cmpnei"

abbrev pub compare_name : CompareOp → List ℕ
compare_name Cmphs = codes "cmphs"
compare_name Cmplt = codes "cmplt"
compare_name Cmpne = codes "cmpne"

abbrev pub access_name : AccessOp → List ℕ
access_name LdB = codes "ld.b"
access_name LdH = codes "ld.h"
access_name LdW = codes "ld.w"
access_name LdBs = codes "ld.bs"
access_name LdHs = codes "ld.hs"
access_name StB = codes "st.b"
access_name StH = codes "st.h"
access_name StW = codes "st.w"

abbrev pub constant_name : ConstantOp → List ℕ
constant_name Movi = codes "movi"
constant_name Movih = codes "movih"

abbrev pub jump_name : JumpOp → List ℕ
jump_name Jmp = codes "jmp"
jump_name Jsr = codes "jsr"

abbrev pub branch_name : Branch → List ℕ
branch_name Br = codes "br"
branch_name Bt = codes "bt"
branch_name Bf = codes "bf"
branch_name Bsr = codes "bsr"

-- the name of a mnemonic
abbrev pub name : Mnemonic → List ℕ
name (Register op) = register_name op
name (Immediate op) = immediate_name op
name (Test op) = test_name op
name (Compare op) = compare_name op
name (Access op) = access_name op
name Move = codes "mov"
name (Constant op) = constant_name op
name (Jump op) = jump_name op
name Bkpt = codes "bkpt"
name (Relative op) = branch_name op
