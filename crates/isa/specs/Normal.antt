-- Parts that say the same thing, brought to one operation.
use Rattle.std.specs.Prelude.{ℕ, ◌-◌, ◌^◌, Bool, true, false, cond, not, ◌&&◌, ◌==◌, nat_lt}
use Rattle.isa.specs.declared.operation.RegisterOp.{RegisterOp}
use Rattle.isa.specs.declared.operation.RegisterOp.TheVariants.{Addu, Addc, Subu, And, Andn, Or, Lsl, Lsr, Asr, Rotl, Mult, Ixh, Ixw}
use Rattle.isa.specs.declared.operation.ImmediateOp.{ImmediateOp}
use Rattle.isa.specs.declared.operation.ImmediateOp.TheVariants.{Addi, Andi, Lsli, Lsri, Asri, Rotli, Bclri, Bseti}
use Rattle.isa.specs.declared.operation.ConstantOp.TheVariants.{Movi, Movih}
use Rattle.isa.specs.declared.operation.Operation.{Operation}
use Rattle.isa.specs.declared.operation.Operation.TheVariants.{Register, Immediate, Test, Compare, Access, Move, Constant, Jump, Bkpt}

-- the sources may be exchanged
abbrev pub commutes : RegisterOp → Bool
commutes Addu = true
commutes Addc = true
commutes Subu = false
commutes And = true
commutes Andn = false
commutes Or = true
commutes Lsl = false
commutes Lsr = false
commutes Asr = false
commutes Rotl = false
commutes Mult = true
commutes Ixh = false
commutes Ixw = false

-- lsli by 0, and addi from r14 by 0, are mov
abbrev pub is_move : ImmediateOp → ℕ → ℕ → Bool
is_move Addi x n = x == 14 && n == 0
is_move Andi x n = false
is_move Lsli x n = n == 0
is_move Lsri x n = false
is_move Asri x n = false
is_move Rotli x n = false
is_move Bclri x n = false
is_move Bseti x n = false

-- the lower source first where the order is free, and mov for what is mov
abbrev pub normal : Operation → Operation
normal (Register op z x y) = cond (commutes op && nat_lt y x) (Register op z y x) (Register op z x y)
normal (Immediate op z x n) = cond (is_move op x n) (Move z x) (Immediate op z x n)
normal (Test op x n) = Test op x n
normal (Compare op x y) = Compare op x y
normal (Access op z x n) = Access op z x n
normal (Move z x) = Move z x
normal (Constant op z n) = Constant op z n
normal (Jump op x) = Jump op x
normal Bkpt = Bkpt

-- the operation is the normal one of its parts
abbrev pub is_normal : Operation → Bool
is_normal (Register op z x y) = not (commutes op && nat_lt y x)
is_normal (Immediate op z x n) = not (is_move op x n)
is_normal (Test op x n) = true
is_normal (Compare op x y) = true
is_normal (Access op z x n) = true
is_normal (Move z x) = true
is_normal (Constant op z n) = true
is_normal (Jump op x) = true
is_normal Bkpt = true

-- bit n alone, by movi or, from 16 on, by movih; past 31 no form holds it
abbrev pub bgeni : ℕ → ℕ → Operation
bgeni z n = cond (nat_lt n 16) (Constant Movi z (2 ^ n)) (Constant Movih z (2 ^ (n - 16)))
