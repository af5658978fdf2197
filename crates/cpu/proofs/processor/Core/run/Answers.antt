use Rattle.std.proofs.Common.{sym, ◌∙◌, arith}
use Rattle.cpu.specs.Account.{ran}
use Rattle.cpu.specs.Step.{core_state, step_of}
use Rattle.cpu.proofs.Running.{run_is, runs_more, runs_stops}
use Rattle.cpu.proofs.processor.Core.run.Goals as goal

pub returns-in-Err : goal.returns-in-Err
returns-in-Err g c =
    let code = c.args.code.now in
    let first = core_state c.args.self.now (g.M.Memory.means c.args.memory.now) in
    let s = core_state c.loop-steps.self (g.M.Memory.means c.loop-steps.memory) in
    let e = c.in-Err.ensures in
    let r = sym c.stopped-in-Err.ensures in
    let t = sym e.1 in
    run_is code c.args.budget first (omega arith)
    ∙ (runs_stops (step_of code) c.args.budget c.loop-steps.steps s c.in-Err.refusal _ c.loop-steps-test.true e.0 c.loop-steps.invariant
    ∙ (λ i. ran (r i) (t i)))

pub loop-steps-preserved : goal.loop-steps-preserved
loop-steps-preserved g c =
    let code = c.args.code.now in
    let s = core_state c.loop-steps.self (g.M.Memory.means c.loop-steps.memory) in
    let t = core_state c.step.new.self (g.M.Memory.means c.step.new.memory) in
    runs_more (step_of code) c.args.budget c.loop-steps.steps s t _ c.loop-steps-test.true c.in_default.ensures c.loop-steps.invariant
