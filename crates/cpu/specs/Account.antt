-- How steps and runs answer, of anything that makes single moves: a core, or a routine followed item by item.
use Rattle.std.specs.Prelude.{◌≡◌, ℕ, zero, suc, ◌+◌, Some, None, Ok, Err, Result}
use Rattle.cpu.specs.declared.ran.Ran.{Ran}
use Rattle.refusal.specs.declared.refusal.Refusal.{Refusal}

-- one move: refused, done, or ended, past which nothing is said
pub data Outcome (S : Type 0) : Type 0 where
  refused : Refusal → Outcome S
  done : S → Outcome S
  ended : Outcome S

-- a run: its answer and the state after it, or ended within it
pub data Run (S : Type 0) : Type 0 where
  ran : Ran → S → Run S
  over : Run S

-- all the steps of a budget, or a refusal after k steps
abbrev pub completed : ℕ → Ran
completed k = record { steps = k; refusal = None }

abbrev pub stopped : ℕ → Refusal → Ran
stopped k q = record { steps = k; refusal = Some q }

-- a run of at most so many more moves, after k
abbrev pub runs : {S : Type 0} → (S → Outcome S) → ℕ → ℕ → S → Run S
runs move zero k s = ran (completed k) s
runs move (suc n) k s = elim (move s) [ refused q ↦ ran (stopped k q) s | done t ↦ runs move n (k + 1) t | ended ↦ over ]

-- a call from s that answered r and left t did what the move says: refused, it left all as it was
abbrev pub Ends : {S : Type 0} → Outcome S → S → Result (Unit {0}) Refusal → S → Type 0
Ends m s (Ok x) t = m ≡ done t
Ends m s (Err q) t = (m ≡ refused q) × (t ≡ s)
