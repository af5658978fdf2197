-- The refusal that a trap is at a place.
use Rattle.std.specs.Prelude.{ℕ}
use Rattle.effect.specs.declared.trap.Trap.{Trap}
use Rattle.effect.specs.declared.trap.Trap.TheVariants as trap
use Rattle.refusal.specs.declared.refusal.Refusal.{Refusal}
use Rattle.refusal.specs.declared.refusal.Refusal.TheVariants.{Breakpoint, Misaligned}
use Rattle.refusal.specs.Numbers.{refused_at}

-- a trap of the instruction at pc
abbrev pub trapped_at : ℕ → Trap → Refusal
trapped_at pc trap.Breakpoint = Breakpoint pc
trapped_at pc (trap.Misaligned a) = Misaligned pc a
trapped_at pc (trap.Faulted a f) = refused_at f pc a
