-- A step of a core over its code.
use Rattle.std.specs.Prelude.{◌≡◌, ℕ, ◌+◌, ◌-◌, ◌%◌, ◌^◌, cond, List, length, drop, Ok, Err, Result, ◌==◌, nat_lt}
use Rattle.effect.specs.declared.registers.Registers.{Registers}
use Rattle.effect.specs.declared.trap.Trap.{Trap}
use Rattle.effect.specs.Effect.{State, state, obeyed_at}
use Rattle.effect.specs.Trap.{trapped_at}
use Rattle.decoder.specs.Decoded.{Front, decoded}
use Rattle.isa.specs.declared.operation.Instruction.{Instruction}
use Rattle.memory.specs.Memory.{Meaning}
use Rattle.refusal.specs.declared.refusal.Refusal.{Refusal}
use Rattle.refusal.specs.declared.refusal.Refusal.TheVariants.{InvalidArgument, NoInstruction, UnknownInstruction}
use Rattle.refusal.specs.Numbers.{number}
use Rattle.cpu.specs.declared.processor.Core.{Core}
use Rattle.cpu.specs.Account.{Outcome, refused, done, Run, ran, runs, stopped}

-- a core, and what its memory means
pub record CoreState : Type 0 where
  pub registers : Registers
  pub pc : ℕ
  pub base : ℕ
  pub size : ℕ
  pub memory : Meaning

-- the state of a core over a memory
abbrev pub core_state : Core → Meaning → CoreState
core_state c m = record { registers = c.registers; pc = c.pc; base = c.base; size = c.length; memory = m }

-- the decoder's answer at pc: an instruction and the address after it, or its refusal with the PC
abbrev pub placed : ℕ → Result Front Refusal → Result (Instruction × ℕ) Refusal
placed pc (Ok f) = Ok (f.instruction, (pc + f.length) % 2 ^ 32)
placed pc (Err q) = Err (cond (number q == 16) (UnknownInstruction pc) (NoInstruction pc))

-- the instruction at pc in an image at base
abbrev pub fetched : ℕ → ℕ → List ℕ → Result (Instruction × ℕ) Refusal
fetched base pc code = cond (nat_lt pc base) (Err (NoInstruction pc)) (placed pc (decoded (drop (pc - base) code)))

-- the same core with other registers, PC and memory
abbrev pub moved : CoreState → Registers → ℕ → Meaning → CoreState
moved s r p m = record { registers = r; pc = p; base = s.base; size = s.size; memory = m }

-- a step that did an instruction, or was refused by its trap
abbrev pub acted : CoreState → Result (ℕ × State) Trap → Outcome CoreState
acted s (Err t) = refused (trapped_at s.pc t)
acted s (Ok (p, t)) = done (moved s t.registers p t.memory)

-- an instruction obeyed
abbrev pub obeyed : CoreState → Result (Instruction × ℕ) Refusal → Outcome CoreState
obeyed s (Err q) = refused q
obeyed s (Ok (i, next)) = acted s (obeyed_at i s.pc next (state s.registers s.memory))

-- a step over this code, which has to have the length that the core was seated with
unfoldable pub step_of : List ℕ → CoreState → Outcome CoreState
step_of code s = cond (length code == s.size) (obeyed s (fetched s.base s.pc code)) (refused InvalidArgument)

-- a run over this code
abbrev pub run_of : List ℕ → ℕ → CoreState → Run CoreState
run_of code budget s = cond (length code == s.size) (runs (step_of code) budget 0 s) (ran (stopped 0 InvalidArgument) s)

-- the address after an instruction is even
abbrev pub NextEven : Result (Instruction × ℕ) Refusal → Type 0
NextEven (Ok (i, next)) = next % 2 ≡ 0
NextEven (Err q) = Unit {0}
