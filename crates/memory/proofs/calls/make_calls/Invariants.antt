use Rattle.std.proofs.Common.{◌≡◌, take}
use Rattle.memory.specs.Calls.{after_calls}
use Rattle.memory.proofs.calls.make_calls.Given as goal

abbrev pub invariant-loop-call : goal.invariant-loop-call
invariant-loop-call g l =
    g.M.Memory.means l.memory ≡ after_calls (g.M.Memory.means l.initial.memory) (take l.call-index l.calls)
