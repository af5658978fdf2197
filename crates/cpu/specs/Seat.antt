-- When a core is made, and what it holds then.
use Rattle.std.specs.Prelude.{◌≡◌, ℕ, ◌+◌, ◌%◌, ◌^◌, cond, ◌&&◌, List, length, Some, None, Ok, Err, Option, Result, ◌==◌, nat_le, nat_lt}
use Rattle.effect.specs.declared.registers.Registers.{Registers}
use Rattle.cpu.specs.declared.processor.Core.{Core}
use Rattle.refusal.specs.declared.refusal.Refusal.{Refusal}
use Rattle.refusal.specs.declared.refusal.Refusal.TheVariants.{InvalidArgument, NoRoom}

-- what refuses a seat: an odd base or start, code that is too long; then code that reaches 2^32
abbrev pub seat_refusal : ℕ → List ℕ → ℕ → Option Refusal
seat_refusal base code start =
    cond
    (base % 2 == 0 && (start % 2 == 0 && nat_le (length code) 131072))
    (cond (nat_lt (base + length code) (2 ^ 32)) None (Some NoRoom))
    (Some InvalidArgument)

-- a core is made exactly where nothing refuses it, and holds what it was given
abbrev pub Seats : Registers → ℕ → List ℕ → ℕ → Result Core Refusal → Type 0
Seats rs base code start (Ok c) =
    (seat_refusal base code start ≡ None) × (c.registers ≡ rs) × (c.pc ≡ start) × (c.base ≡ base) × (c.length ≡ length code)
Seats rs base code start (Err q) = seat_refusal base code start ≡ Some q
