use Rattle.std.proofs.Common.{◌≡◌, ◌-◌}
use Rattle.cpu.specs.Account.{runs}
use Rattle.cpu.specs.Step.{core_state, step_of}
use Rattle.cpu.proofs.processor.Core.run.Given as goal

abbrev pub invariant-loop-steps : goal.invariant-loop-steps
invariant-loop-steps g l =
    runs (step_of l.code) (l.budget - l.steps) l.steps (core_state l.self (g.M.Memory.means l.memory)) ≡ runs (step_of l.code) l.budget 0 (core_state l.initial.self (g.M.Memory.means l.initial.memory))
