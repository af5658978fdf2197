-- A run's loop.
use Rattle.std.proofs.Common.{◌≡◌, ℕ, suc, ◌+◌, ◌-◌, ◌<◌, ◌≤◌, true, eqb, List, length, sym, ap, ◌∙◌, arith}
use Rattle.std.proofs.lemmas.Bool.{cond-true}
use Rattle.std.proofs.lemmas.Bool.Decides.{nat_tests}
use Rattle.refusal.specs.declared.refusal.Refusal.{Refusal}
use Rattle.refusal.specs.declared.refusal.Refusal.TheVariants.{InvalidArgument}
use Rattle.cpu.specs.Account.{Outcome, refused, done, ended, Run, ran, over, completed, stopped, runs}
use Rattle.cpu.specs.Step.{CoreState, step_of, run_of}

module _ {S : Type 0} (move : S → Outcome S) (b k : ℕ) (s : S) where
  pub runs_done : (n : ℕ) (t : S) → move s ≡ done t → runs move (suc n) k s ≡ runs move n (k + 1) t
  runs_done n t is = rw (is, runs)

  pub runs_refused : (n : ℕ) (r : Refusal) → move s ≡ refused r → runs move (suc n) k s ≡ ran (stopped k r) s
  runs_refused n r is = rw (is, runs)

  pub runs_ended : (n : ℕ) → move s ≡ ended → runs move (suc n) k s ≡ over
  runs_ended n is = rw (is, runs)

  -- one more turn
  pub runs_more : (t : S) (c : Run S) → k < b → move s ≡ done t → runs move (b - k) k s ≡ c → runs move (b - (k + 1)) (k + 1) t ≡ c
  runs_more t c h is so =
      let e : b - k ≡ suc (b - (k + 1)) = omega arith in
      sym (ap (λ n. runs move n k s) e ∙ runs_done (b - (k + 1)) t is) ∙ so

  pub runs_stops : (r : Refusal) (c : Run S) → k < b → move s ≡ refused r → runs move (b - k) k s ≡ c → c ≡ ran (stopped k r) s
  runs_stops r c h is so =
      let e : b - k ≡ suc (b - (k + 1)) = omega arith in
      sym so ∙ (ap (λ n. runs move n k s) e ∙ runs_refused (b - (k + 1)) r is)

  pub runs_over : (c : Run S) → b ≤ k → runs move (b - k) k s ≡ c → c ≡ ran (completed k) s
  runs_over c h so = let e : b - k ≡ 0 = omega arith in sym so ∙ ap (λ n. runs move n k s) e

-- a run over code of the right length
pub run_fits : (code : List ℕ) (b : ℕ) (s : CoreState) → eqb (length code) s.size ≡ true → run_of code b s ≡ runs (step_of code) b 0 s
run_fits code b s h = cond-true _ (runs (step_of code) b 0 s) (ran (stopped 0 InvalidArgument) s) h

pub run_is : (code : List ℕ) (b : ℕ) (s : CoreState) → length code ≡ s.size → run_of code b s ≡ runs (step_of code) b 0 s
run_is code b s h = let e : eqb (length code) s.size ≡ true = grind (arith, nat_tests) in run_fits code b s e
