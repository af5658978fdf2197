-- What holds of runs, for every code, budget and state.
use Rattle.std.specs.Prelude.{◌≡◌, ℕ, ◌+◌, List}
use Rattle.cpu.specs.declared.ran.Ran.{Ran}
use Rattle.cpu.specs.Account.{ran, completed}
use Rattle.cpu.specs.Step.{CoreState, run_of}

-- a run of a that made all its steps, then a run of b, is a run of a + b
abbrev pub RunsJoin : Type 0
RunsJoin =
    (code : List ℕ) (a b : ℕ) (s t u : CoreState) (r : Ran) → run_of code a s ≡ ran (completed a) t → run_of code b t ≡ ran r u
    → run_of code (a + b) s ≡ ran (record { steps = a + r.steps; refusal = r.refusal }) u

-- a run that made no step changed nothing
abbrev pub RefusedRunsChangeNothing : Type 0
RefusedRunsChangeNothing = (code : List ℕ) (b : ℕ) (s t : CoreState) (r : Ran) → run_of code b s ≡ ran r t → r.steps ≡ 0 → t ≡ s
