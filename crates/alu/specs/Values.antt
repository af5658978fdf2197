-- What operations compute, of words: numbers below 2 ^ 32.
use Rattle.std.specs.Prelude.{ℕ, ◌+◌, ◌-◌, ◌*◌, ◌/◌, ◌%◌, ◌^◌, Bool, cond, not, ℤ, pos, ◌-ℤ◌, ◌==◌, bit_and, bit_or, int_lt, nat_le, nat_lt}
use Rattle.std.specs.Int.{w32}
use Rattle.std.proofs.Common.{of_z}
use Rattle.isa.specs.declared.operation.RegisterOp.{RegisterOp}
use Rattle.isa.specs.declared.operation.RegisterOp.TheVariants.{Addu, Addc, Subu, And, Andn, Or, Lsl, Lsr, Asr, Rotl, Mult, Ixh, Ixw}
use Rattle.isa.specs.declared.operation.ImmediateOp.{ImmediateOp}
use Rattle.isa.specs.declared.operation.ImmediateOp.TheVariants.{Addi, Andi, Lsli, Lsri, Asri, Rotli, Bclri, Bseti}
use Rattle.isa.specs.declared.operation.TestOp.{TestOp}
use Rattle.isa.specs.declared.operation.TestOp.TheVariants.{Btsti, Cmplti, Cmpnei}
use Rattle.isa.specs.declared.operation.CompareOp.{CompareOp}
use Rattle.isa.specs.declared.operation.CompareOp.TheVariants.{Cmphs, Cmplt, Cmpne}
use Rattle.isa.specs.declared.operation.ConstantOp.{ConstantOp}
use Rattle.isa.specs.declared.operation.ConstantOp.TheVariants.{Movi, Movih}

-- a word, read as two's complement
abbrev pub signed : ℕ → ℤ
signed x = cond (nat_lt x (2 ^ 31)) (pos x) (pos x -ℤ pos (2 ^ 32))

-- every bit inverted
abbrev pub inverted : ℕ → ℕ
inverted x = 2 ^ 32 - 1 - x

-- a carry as a number
abbrev pub carry_in : Bool → ℕ
carry_in c = cond c 1 0

-- shifts by any count: above 31, asr is all sign, the others are 0
abbrev pub lsl : ℕ → ℕ → ℕ
lsl x k = cond (nat_lt k 32) (x * 2 ^ k % 2 ^ 32) 0

-- shifted down, zeros from above
abbrev pub lsr : ℕ → ℕ → ℕ
lsr x k = cond (nat_lt k 32) (x / 2 ^ k) 0

-- of a word with the sign bit, the bits from above are ones
abbrev pub asr : ℕ → ℕ → ℕ
asr x k = cond (nat_lt k 32) (cond (nat_lt x (2 ^ 31)) (x / 2 ^ k) (x / 2 ^ k + (2 ^ 32 - 2 ^ (32 - k)))) (cond (nat_lt x (2 ^ 31)) 0 (2 ^ 32 - 1))

-- what leaves above comes in below
abbrev pub rotl : ℕ → ℕ → ℕ
rotl x k = cond (nat_lt k 32) (x * 2 ^ k % 2 ^ 32 + x / 2 ^ (32 - k)) 0

-- the whole sum, carry in included
abbrev pub sum : ℕ → ℕ → Bool → ℕ
sum x y c = x + y + carry_in c

-- z's new value
abbrev pub register_result : RegisterOp → ℕ → ℕ → Bool → ℕ
register_result Addu x y c = (x + y) % 2 ^ 32
register_result Addc x y c = sum x y c % 2 ^ 32
register_result Subu x y c = (x + (2 ^ 32 - y)) % 2 ^ 32
register_result And x y c = bit_and x y
register_result Andn x y c = bit_and x (inverted y)
register_result Or x y c = bit_or x y
register_result Lsl x y c = lsl x (y % 64)
register_result Lsr x y c = lsr x (y % 64)
register_result Asr x y c = asr x (y % 64)
register_result Rotl x y c = rotl x (y % 64)
register_result Mult x y c = x * y % 2 ^ 32
register_result Ixh x y c = (x + 2 * y) % 2 ^ 32
register_result Ixw x y c = (x + 4 * y) % 2 ^ 32

-- C after it: addc's carry out
abbrev pub register_carry : RegisterOp → ℕ → ℕ → Bool → Bool
register_carry Addu x y c = c
register_carry Addc x y c = nat_le (2 ^ 32) (sum x y c)
register_carry Subu x y c = c
register_carry And x y c = c
register_carry Andn x y c = c
register_carry Or x y c = c
register_carry Lsl x y c = c
register_carry Lsr x y c = c
register_carry Asr x y c = c
register_carry Rotl x y c = c
register_carry Mult x y c = c
register_carry Ixh x y c = c
register_carry Ixw x y c = c

-- z's new value, of x and a constant
abbrev pub immediate_result : ImmediateOp → ℕ → ℕ → ℕ
immediate_result Addi x n = (x + n) % 2 ^ 32
immediate_result Andi x n = bit_and x n
immediate_result Lsli x n = lsl x n
immediate_result Lsri x n = lsr x n
immediate_result Asri x n = asr x n
immediate_result Rotli x n = rotl x n
immediate_result Bclri x n = bit_and x (inverted (lsl 1 n))
immediate_result Bseti x n = bit_or x (lsl 1 n)

-- C, of x and a constant
abbrev pub test_result : TestOp → ℕ → ℕ → Bool
test_result Btsti x n = lsr x n % 2 == 1
test_result Cmplti x n = int_lt (signed x) (pos n)
test_result Cmpnei x n = not (x == n)

-- C, of two registers
abbrev pub compare_result : CompareOp → ℕ → ℕ → Bool
compare_result Cmphs x y = nat_le y x
compare_result Cmplt x y = int_lt (signed x) (signed y)
compare_result Cmpne x y = not (x == y)

-- z's new value, of a constant alone
abbrev pub constant_result : ConstantOp → ℕ → ℕ
constant_result Movi n = n
constant_result Movih n = n * 2 ^ 16 % 2 ^ 32

-- a value of so many bits with its top bit in all higher bits
abbrev pub extended : ℕ → ℕ → ℕ
extended bits v = cond (nat_lt v (2 ^ (bits - 1))) v (v + (2 ^ 32 - 2 ^ bits))

-- a byte with its sign in all higher bits
abbrev pub extended_byte : ℕ → ℕ
extended_byte b = extended 8 b

-- a halfword, likewise
abbrev pub extended_halfword : ℕ → ℕ
extended_halfword h = extended 16 h

-- an address with bit 0 cleared
abbrev pub even : ℕ → ℕ
even a = 2 * (a / 2)

-- where a branch at pc goes by a displacement in halfwords
abbrev pub target : ℕ → ℤ → ℕ
target pc halfwords = (pc + 2 * of_z w32 halfwords) % 2 ^ 32
