-- Loads and stores of one, two and four bytes, the low byte lowest.
use Rattle.std.specs.Prelude.{ℕ, zero, suc, ◌+◌, ◌*◌, ◌/◌, ◌%◌, Bool, true, false, cond, List, [], ◌∷◌, Ok, Err, Result, ◌==◌}
use Rattle.effect.specs.declared.trap.Trap.{Trap}
use Rattle.effect.specs.declared.trap.Trap.TheVariants as trap
use Rattle.effect.specs.declared.width.Width.{Width}
use Rattle.effect.specs.declared.width.Width.TheVariants.{Byte, Halfword, Word}
use Rattle.isa.specs.declared.operation.AccessOp.{AccessOp}
use Rattle.isa.specs.declared.operation.AccessOp.TheVariants.{LdB, LdH, LdW, LdBs, LdHs, StB, StH, StW}
use Rattle.memory.specs.Cell.{on_read, on_write}
use Rattle.memory.specs.Memory.{Meaning, written}
use Rattle.refusal.specs.declared.fault.Fault.{Fault}
use Rattle.alu.specs.Values.{extended_byte, extended_halfword}

-- how many bytes an access takes
abbrev pub width_of : AccessOp → Width
width_of LdB = Byte
width_of LdH = Halfword
width_of LdW = Word
width_of LdBs = Byte
width_of LdHs = Halfword
width_of StB = Byte
width_of StH = Halfword
width_of StW = Word

-- a store, not a load
abbrev pub is_store : AccessOp → Bool
is_store LdB = false
is_store LdH = false
is_store LdW = false
is_store LdBs = false
is_store LdHs = false
is_store StB = true
is_store StH = true
is_store StW = true

-- what a load makes of the bytes: ld.bs and ld.hs keep their sign
abbrev pub widened : AccessOp → ℕ → ℕ
widened LdB v = v
widened LdH v = v
widened LdW v = v
widened LdBs v = extended_byte (v % 256)
widened LdHs v = extended_halfword (v % 65536)
widened StB v = v
widened StH v = v
widened StW v = v

-- a fault of the byte at a
abbrev pub at_address : {T : Type 0} → ℕ → Result T Fault → Result T Trap
at_address a (Ok x) = Ok x
at_address a (Err f) = Err (trap.Faulted a f)

-- first r, then what f makes of its value
abbrev pub and_then : {S T : Type 0} → Result S Trap → (S → Result T Trap) → Result T Trap
and_then (Ok x) f = f x
and_then (Err q) f = Err q

-- the byte at an address, or its fault
abbrev pub byte_at : Meaning → ℕ → Result ℕ Trap
byte_at m a = at_address a (on_read (m a))

-- whether a byte may be written
abbrev pub byte_writable : Meaning → ℕ → Result (Unit {0}) Trap
byte_writable m a = at_address a (on_write (m a))

-- n bytes from an address on, the lowest read first
abbrev pub bytes_at : ℕ → Meaning → ℕ → Result (List ℕ) Trap
bytes_at zero m a = Ok []
bytes_at (suc n) m a = and_then (byte_at m a) (λ b. and_then (bytes_at n m (a + 1)) (λ bs. Ok (b ∷ bs)))

-- whether n bytes may be written, the lowest asked first
abbrev pub bytes_writable : ℕ → Meaning → ℕ → Result (Unit {0}) Trap
bytes_writable zero m a = Ok tt
bytes_writable (suc n) m a = and_then (byte_writable m a) (λ _. bytes_writable n m (a + 1))

-- bytes written from an address on
abbrev pub bytes_written : Meaning → ℕ → List ℕ → Meaning
bytes_written m a [] = m
bytes_written m a (b ∷ bs) = bytes_written (written m a b) (a + 1) bs

-- the meaning after bytes were to be written, and asking answered r
abbrev pub bytes_written_if : Result (Unit {0}) Trap → Meaning → ℕ → List ℕ → Meaning
bytes_written_if (Ok x) m a bs = bytes_written m a bs
bytes_written_if (Err q) m a bs = m

-- how many bytes a width is
abbrev pub size : Width → ℕ
size Byte = 1
size Halfword = 2
size Word = 4

-- the address is a multiple of the width
abbrev pub aligned : Width → ℕ → Bool
aligned w a = a % size w == 0

-- an address that is no multiple of the width is refused
abbrev pub checked : Width → ℕ → Result (Unit {0}) Trap
checked w a = cond (aligned w a) (Ok tt) (Err (trap.Misaligned a))

-- the number that bytes are, the lowest first
abbrev pub joined : List ℕ → ℕ
joined [] = 0
joined (b ∷ bs) = b + 256 * joined bs

-- the lowest n bytes of a number, the lowest first
abbrev pub bytes_of : ℕ → ℕ → List ℕ
bytes_of zero v = []
bytes_of (suc n) v = v % 256 ∷ bytes_of n (v / 256)

-- the value at an address
abbrev pub load : Width → Meaning → ℕ → Result ℕ Trap
load w m a = and_then (checked w a) (λ _. and_then (bytes_at (size w) m a) (λ bs. Ok (joined bs)))

-- whether the value at an address may be written
abbrev pub writable : Width → Meaning → ℕ → Result (Unit {0}) Trap
writable w m a = and_then (checked w a) (λ _. bytes_writable (size w) m a)

-- a meaning with the low bytes of v at a
abbrev pub stored : Width → Meaning → ℕ → ℕ → Meaning
stored w m a v = bytes_written m a (bytes_of (size w) v)

-- the meaning after a store whose asking answered r
abbrev pub stored_if : Result (Unit {0}) Trap → Width → Meaning → ℕ → ℕ → Meaning
stored_if (Ok x) w m a v = stored w m a v
stored_if (Err q) w m a v = m
