-- A breakpoint set in the code, and put back.
use Rattle.std.specs.Prelude.{ℕ, ◌+◌, ◌-◌, ◌%◌, Bool, cond, ◌&&◌, ◌||◌, List, [], ◌∷◌, length, Ok, Err, Result, ◌==◌, nat_le, nat_lt, slice_index, slice_set}
use Rattle.cpu.specs.Account.{Run, ran, stopped}
use Rattle.cpu.specs.Step.{CoreState, run_of}
use Rattle.cpu.specs.declared.patch.Breakpoint.{Breakpoint}
use Rattle.refusal.specs.declared.refusal.Refusal.{Refusal}
use Rattle.refusal.specs.declared.refusal.Refusal.TheVariants.{InvalidArgument, NoInstruction}

-- the code with two other bytes at i and i + 1, where both lie inside it
abbrev pub restored : List ℕ → ℕ → List ℕ → List ℕ
restored code i bytes =
    cond (nat_lt (i + 1) (length code)) (slice_set (slice_set code i (slice_index bytes 0)) (i + 1) (slice_index bytes 1)) code

-- the code with bkpt, 0000, at i
abbrev pub patched : List ℕ → ℕ → List ℕ
patched code i = restored code i (0 ∷ 0 ∷ [])

-- a whole instruction lies at i: two bytes, and four where the top two bits of their halfword are 11
abbrev pub whole : List ℕ → ℕ → Bool
whole code i = nat_le (i + 2) (length code) && (nat_lt (slice_index code (i + 1)) 0xC0 || nat_le (i + 4) (length code))

-- where in the code a patch at an address stands, or why it is refused
abbrev pub patch_index : ℕ → ℕ → List ℕ → ℕ → Result ℕ Refusal
patch_index base size code a =
    cond
    (length code == size)
    (cond ((a % 2 == 0 && nat_le base a) && whole code (a - base)) (Ok (a - base)) (Err (NoInstruction a)))
    (Err InvalidArgument)

-- what f sees of a value, or the refusal
abbrev pub on_ok : {T V : Type 0} → (T → V) → Result T Refusal → Result V Refusal
on_ok f (Ok x) = Ok (f x)
on_ok f (Err q) = Err q

-- what a refused patch did not set, it does not put back
abbrev pub put_back : Result Breakpoint Refusal → List ℕ → List ℕ
put_back (Ok b) code = restored code b.at b.halfword
put_back (Err q) code = code

-- the code under a patch that is set, or was refused
abbrev pub patched_if : Result ℕ Refusal → List ℕ → List ℕ
patched_if (Ok i) code = patched code i
patched_if (Err q) code = code

-- a run under a patch, or the refusal of the patch at any budget
abbrev pub run_at : Result ℕ Refusal → List ℕ → ℕ → CoreState → Run CoreState
run_at (Ok i) code budget s = run_of (patched code i) budget s
run_at (Err q) code budget s = ran (stopped 0 q) s

-- a run up to an address
abbrev pub run_to_of : List ℕ → ℕ → ℕ → CoreState → Run CoreState
run_to_of code a budget s = run_at (patch_index s.base s.size code a) code budget s
