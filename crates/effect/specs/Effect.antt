-- What an operation does to registers, carry and memory. It knows neither the image nor its own address.
use Rattle.std.specs.Prelude.{◌≡◌, ℕ, ◌+◌, ◌%◌, ◌^◌, Bool, true, cond, not, List, ℤ, Ok, Err, Result, slice_index, slice_set}
use Rattle.effect.specs.declared.trap.Trap.{Trap}
use Rattle.effect.specs.declared.trap.Trap.TheVariants as trap
use Rattle.effect.specs.declared.registers.Registers.{Registers}
use Rattle.effect.specs.Access.{is_store, width_of, widened, load, writable, stored}
use Rattle.isa.specs.declared.operation.Instruction.{Instruction}
use Rattle.isa.specs.declared.operation.Instruction.TheVariants.{Plain, Relative}
use Rattle.isa.specs.declared.operation.Operation.{Operation}
use Rattle.isa.specs.declared.operation.Operation.TheVariants.{Register, Immediate, Test, Compare, Access, Move, Constant, Jump, Bkpt}
use Rattle.isa.specs.declared.operation.AccessOp.{AccessOp}
use Rattle.isa.specs.declared.operation.JumpOp.{JumpOp}
use Rattle.isa.specs.declared.operation.JumpOp.TheVariants.{Jmp, Jsr}
use Rattle.isa.specs.declared.operation.Branch.{Branch}
use Rattle.isa.specs.declared.operation.Branch.TheVariants.{Br, Bt, Bf, Bsr}
use Rattle.memory.specs.Memory.{Meaning}
use Rattle.alu.specs.Values.{register_result, register_carry, immediate_result, test_result, compare_result, constant_result, even, target}

-- refused; done, with registers, carry and memory after, and on to the next instruction; or a jump to an address
pub data Effect : Type 0 where
  refuses : Trap → Effect
  continues : List ℕ → Bool → Meaning → Effect
  jumps : ℕ → List ℕ → Effect

-- a register by number; a number past the last reads as 0
abbrev pub reg : List ℕ → ℕ → ℕ
reg rs x = slice_index rs x

-- a load into register z
abbrev pub loaded : Result ℕ Trap → AccessOp → ℕ → List ℕ → Bool → Meaning → Effect
loaded (Ok v) op z rs c m = continues (slice_set rs z (widened op v)) c m
loaded (Err t) op z rs c m = refuses t

-- a store that leaves the meaning m, if it is made
abbrev pub stores : Result (Unit {0}) Trap → List ℕ → Bool → Meaning → Effect
stores (Ok x) rs c m = continues rs c m
stores (Err t) rs c m = refuses t

-- the one place where data is accessed, at address a
abbrev pub accesses : AccessOp → ℕ → ℕ → List ℕ → Bool → Meaning → Effect
accesses op z a rs c m =
    cond (is_store op) (stores (writable (width_of op) m a) rs c (stored (width_of op) m a (reg rs z))) (loaded (load (width_of op) m a) op z rs c m)

-- jsr leaves the next address in r15
abbrev pub linked : JumpOp → ℕ → List ℕ → List ℕ
linked Jmp next rs = rs
linked Jsr next rs = slice_set rs 15 next

-- what an operation does, given the address of the next instruction, the registers, the carry and the memory
abbrev pub does : Operation → ℕ → List ℕ → Bool → Meaning → Effect
does (Register op z x y) next rs c m = continues (slice_set rs z (register_result op (reg rs x) (reg rs y) c)) (register_carry op (reg rs x) (reg rs y) c) m
does (Immediate op z x n) next rs c m = continues (slice_set rs z (immediate_result op (reg rs x) n)) c m
does (Test op x n) next rs c m = continues rs (test_result op (reg rs x) n) m
does (Compare op x y) next rs c m = continues rs (compare_result op (reg rs x) (reg rs y)) m
does (Access op z x n) next rs c m = accesses op z ((reg rs x + n) % 2 ^ 32) rs c m
does (Move z x) next rs c m = continues (slice_set rs z (reg rs x)) c m
does (Constant op z n) next rs c m = continues (slice_set rs z (constant_result op n)) c m
does (Jump op x) next rs c m = jumps (even (reg rs x)) (linked op next rs)
does Bkpt next rs c m = refuses trap.Breakpoint

-- the same, for proofs that need not look inside
unfoldable pub effect : Operation → ℕ → List ℕ → Bool → Meaning → Effect
effect o next rs c m = does o next rs c m

-- whether a branch is taken; bsr leaves the next address in r15
abbrev pub taken : Branch → Bool → Bool
taken Br c = true
taken Bt c = c
taken Bf c = not c
taken Bsr c = true

-- the registers after a branch
abbrev pub called : Branch → ℕ → List ℕ → List ℕ
called Br next rs = rs
called Bt next rs = rs
called Bf next rs = rs
called Bsr next rs = slice_set rs 15 next

-- what an operation works on: registers, carry, and what the memory means
pub record State : Type 0 where
  pub registers : Registers
  pub memory : Meaning

-- a state by its parts
abbrev pub state : Registers → Meaning → State
state r m = record { registers = r; memory = m }

-- registers by their parts
abbrev pub file : List ℕ → Bool → Registers
file rs c = record { words = rs; carry = c }

-- the next PC and the state then, or why not
abbrev pub outcome : ℕ → State → Effect → Result (ℕ × State) Trap
outcome next s (refuses t) = Err t
outcome next s (continues rs c m) = Ok (next, state (file rs c) m)
outcome next s (jumps a rs) = Ok (a, state (file rs s.registers.carry) s.memory)

-- what an operation does to a state
abbrev pub effect_on : Operation → ℕ → State → Effect
effect_on o next s = effect o next s.registers.words s.registers.carry s.memory

-- a call from s that answered r and left t did what the outcome o says: refused, it left all as it was
abbrev pub Ends : Result (ℕ × State) Trap → State → Result ℕ Trap → State → Type 0
Ends o s (Ok pc) t = o ≡ Ok (pc, t)
Ends o s (Err q) t = (o ≡ Err q) × (t ≡ s)

-- a transfer's answer as that of an operation
abbrev pub answered : Result (Unit {0}) Trap → Result ℕ Trap
answered (Ok x) = Ok 0
answered (Err t) = Err t

-- the PC after a branch at pc
abbrev pub goes_to : Branch → ℕ → ℤ → ℕ → Bool → ℕ
goes_to b pc halfwords next c = cond (taken b c) (target pc halfwords) next

-- what the instruction at pc does to a state: the next PC and the state then, or why not
abbrev pub obeyed_at : Instruction → ℕ → ℕ → State → Result (ℕ × State) Trap
obeyed_at (Plain o) pc next s = outcome next s (effect_on o next s)
obeyed_at (Relative b halfwords) pc next s =
    Ok (goes_to b pc halfwords next s.registers.carry, state (file (called b next s.registers.words) s.registers.carry) s.memory)

-- the PC that is answered is even
abbrev pub Even : Result ℕ Trap → Type 0
Even (Ok pc) = pc % 2 ≡ 0
Even (Err t) = Unit {0}
