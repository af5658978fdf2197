-- A worked effect.
use Rattle.std.specs.Prelude.{◌≡◌, ℕ, Bool, List, slice_set}
use Rattle.isa.specs.declared.operation.JumpOp.TheVariants.{Jsr}
use Rattle.isa.specs.declared.operation.Operation.TheVariants.{Jump}
use Rattle.memory.specs.Memory.{Meaning}
use Rattle.effect.specs.Effect.{effect, jumps, reg}

-- jsr r15 at 0x1000 with r15 = 0x2001 goes to 0x2000, and links 0x1002
abbrev pub WorkedJsr : Type 0
WorkedJsr = (rs : List ℕ) (c : Bool) (m : Meaning) → reg rs 15 ≡ 0x2001 → effect (Jump Jsr 15) 0x1002 rs c m ≡ jumps 0x2000 (slice_set rs 15 0x1002)
