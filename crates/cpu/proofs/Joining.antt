-- Runs that follow one another, and runs that made no step.
use Rattle.std.proofs.Common.{◌≡◌, ℕ, zero, suc, ◌+◌, ◌≤◌, true, false, eqb, List, length, Some, None, Ok, Err, Option, Result, sym, refl, ap, ◌∙◌, ⊎_elim, add-zero, zero-add, arith}
use Rattle.std.proofs.lemmas.Bool.{cond-true, cond-false, cases_Bool}
use Rattle.effect.specs.declared.trap.Trap.{Trap}
use Rattle.effect.specs.Effect.{State, state, obeyed_at}
use Rattle.isa.specs.declared.operation.Instruction.{Instruction}
use Rattle.refusal.specs.declared.refusal.Refusal.{Refusal}
use Rattle.refusal.specs.declared.refusal.Refusal.TheVariants.{InvalidArgument}
use Rattle.cpu.specs.declared.ran.Ran.{Ran}
use Rattle.cpu.specs.Account.{Outcome, refused, done, ended, Run, ran, over, completed, stopped, runs}
use Rattle.cpu.specs.Step.{CoreState, acted, obeyed, fetched, step_of, run_of}
use Rattle.cpu.proofs.Running.{runs_done, runs_refused, runs_ended, run_fits}
use Rattle.cpu.specs.Laws.{RunsJoin, RefusedRunsChangeNothing}

-- a run's answer with j more steps before it
abbrev later : ℕ → Ran → Ran
later j r = record { steps = j + r.steps; refusal = r.refusal }

same_answer : {S : Type 0} (p r : Ran) (s t : S) → ran p s ≡ ran r t → p ≡ r
same_answer p r s t e = cc

same_state : {S : Type 0} (p r : Ran) (s t : S) → ran p s ≡ ran r t → s ≡ t
same_state p r s t e = cc

no_refusal : {S : Type 0} (k a : ℕ) (q : Refusal) (s t : S) → ran (stopped k q) s ≡ ran (completed a) t → ⊥
no_refusal k a q s t e =
    let o : ◌≡◌ {A = Option Refusal} (Some q) None = ap (λ (r : Ran). r.refusal) (same_answer (stopped k q) (completed a) s t e) in
    let z : ◌≡◌ {A = ℕ} 0 1 = cc in
    omega arith

no_end : {S : Type 0} (r : Ran) (t : S) → ◌≡◌ {A = Run S} over (ran r t) → ⊥
no_end r t e = let z : ◌≡◌ {A = ℕ} 0 1 = cc in omega arith

module _ {S : Type 0} (move : S → Outcome S) where
  go_on_by : (a b : ℕ) → ((k : ℕ) (s t : S) → runs move a k s ≡ ran (completed (k + a)) t → runs move (a + b) k s ≡ runs move b (k + a) t) → (k : ℕ) (s t : S) (m : Outcome S) → move s ≡ m → runs move (suc a) k s ≡ ran (completed (k + suc a)) t → runs move (suc a + b) k s ≡ runs move b (k + suc a) t
  go_on_by a b ih k s t (refused q) is e = absurd (no_refusal k (k + suc a) q s t (sym (runs_refused move 0 k s a q is) ∙ e))
  go_on_by a b ih k s t ended is e = absurd (no_end (completed (k + suc a)) t (sym (runs_ended move 0 k s a is) ∙ e))
  go_on_by a b ih k s t (done u) is e =
      let n : suc a + b ≡ suc (a + b) = omega arith in
      let c : k + suc a ≡ k + 1 + a = omega arith in
      let f : runs move a (k + 1) u ≡ ran (completed (k + 1 + a)) t = sym (runs_done move 0 k s a u is) ∙ e ∙ ap (λ j. ran (completed j) t) c in
      ap (λ j. runs move j k s) n ∙ runs_done move 0 k s (a + b) u is ∙ ih (k + 1) u t f ∙ ap (λ j. runs move b j t) (sym c)

  -- where a first run made all its steps, a second one goes on with its count
  go_on : (a b k : ℕ) (s t : S) → runs move a k s ≡ ran (completed (k + a)) t → runs move (a + b) k s ≡ runs move b (k + a) t
  go_on zero b k s t e =
      let z : 0 + b ≡ b = zero-add b in
      let k-is : k ≡ k + 0 = sym (add-zero k) in
      let st : s ≡ t = same_state (completed k) (completed (k + 0)) s t e in
      ap (λ n. runs move n k s) z ∙ (λ i. runs move b (k-is i) (st i))
  go_on (suc a) b k s t e = go_on_by a b (go_on a b) k s t (move s) refl e

  shift_by : (j b : ℕ) → ((k : ℕ) (s u : S) (r : Ran) → runs move b k s ≡ ran r u → runs move b (j + k) s ≡ ran (later j r) u) → (k : ℕ) (s u : S) (r : Ran) (m : Outcome S) → move s ≡ m → runs move (suc b) k s ≡ ran r u → runs move (suc b) (j + k) s ≡ ran (later j r) u
  shift_by j b ih k s u r (refused q) is e =
      let f = sym (runs_refused move 0 k s b q is) ∙ e in
      let p = same_answer (stopped k q) r s u f in
      let t = same_state (stopped k q) r s u f in
      runs_refused move 0 (j + k) s b q is ∙ (λ i. ran (later j (p i)) (t i))
  shift_by j b ih k s u r ended is e = absurd (no_end r u (sym (runs_ended move 0 k s b is) ∙ e))
  shift_by j b ih k s u r (done t) is e =
      let c : j + k + 1 ≡ j + (k + 1) = omega arith in
      runs_done move 0 (j + k) s b t is ∙ ap (λ n. runs move b n t) c ∙ ih (k + 1) t u r (sym (runs_done move 0 k s b t is) ∙ e)

  -- a run whose count starts j higher answers j higher
  shift : (j b k : ℕ) (s u : S) (r : Ran) → runs move b k s ≡ ran r u → runs move b (j + k) s ≡ ran (later j r) u
  shift j zero k s u r e =
      let p = same_answer (completed k) r s u e in
      let q = same_state (completed k) r s u e in
      (λ i. ran (later j (p i)) (q i))
  shift j (suc b) k s u r e = shift_by j b (shift j b) k s u r (move s) refl e

  counts_by : (b : ℕ) → ((k : ℕ) (s u : S) (r : Ran) → runs move b k s ≡ ran r u → k ≤ r.steps) → (k : ℕ) (s u : S) (r : Ran) (m : Outcome S) → move s ≡ m → runs move (suc b) k s ≡ ran r u → k ≤ r.steps
  counts_by b ih k s u r (refused q) is e =
      let p : k ≡ r.steps = ap (λ (a : Ran). a.steps) (same_answer (stopped k q) r s u (sym (runs_refused move 0 k s b q is) ∙ e)) in omega arith
  counts_by b ih k s u r ended is e = absurd (no_end r u (sym (runs_ended move 0 k s b is) ∙ e))
  counts_by b ih k s u r (done t) is e = let h : k + 1 ≤ r.steps = ih (k + 1) t u r (sym (runs_done move 0 k s b t is) ∙ e) in omega arith

  -- a run's count does not fall
  counts : (b k : ℕ) (s u : S) (r : Ran) → runs move b k s ≡ ran r u → k ≤ r.steps
  counts zero k s u r e = let p : k ≡ r.steps = ap (λ (a : Ran). a.steps) (same_answer (completed k) r s u e) in omega arith
  counts (suc b) k s u r e = counts_by b (counts b) k s u r (move s) refl e

  stays_by : (b k : ℕ) (s u : S) (r : Ran) (m : Outcome S) → move s ≡ m → runs move (suc b) k s ≡ ran r u → r.steps ≡ k → u ≡ s
  stays_by b k s u r (refused q) is e n = sym (same_state (stopped k q) r s u (sym (runs_refused move 0 k s b q is) ∙ e))
  stays_by b k s u r ended is e n = absurd (no_end r u (sym (runs_ended move 0 k s b is) ∙ e))
  stays_by b k s u r (done t) is e n = let h : k + 1 ≤ r.steps = counts b (k + 1) t u r (sym (runs_done move 0 k s b t is) ∙ e) in absurd (omega arith)

  -- a run that made no step is where it was
  stays : (b k : ℕ) (s u : S) (r : Ran) → runs move b k s ≡ ran r u → r.steps ≡ k → u ≡ s
  stays zero k s u r e n = sym (same_state (completed k) r s u e)
  stays (suc b) k s u r e n = stays_by b k s u r (move s) refl e n

  keeps_by : (f : S → ℕ) → ((s t : S) → move s ≡ done t → f t ≡ f s) → (b : ℕ) → ((k : ℕ) (s u : S) (r : Ran) → runs move b k s ≡ ran r u → f u ≡ f s) → (k : ℕ) (s u : S) (r : Ran) (m : Outcome S) → move s ≡ m → runs move (suc b) k s ≡ ran r u → f u ≡ f s
  keeps_by f kept b ih k s u r (refused q) is e = ap f (sym (same_state (stopped k q) r s u (sym (runs_refused move 0 k s b q is) ∙ e)))
  keeps_by f kept b ih k s u r ended is e = absurd (no_end r u (sym (runs_ended move 0 k s b is) ∙ e))
  keeps_by f kept b ih k s u r (done t) is e = ih (k + 1) t u r (sym (runs_done move 0 k s b t is) ∙ e) ∙ kept s t is

  -- what each move keeps, a run keeps
  keeps : (f : S → ℕ) → ((s t : S) → move s ≡ done t → f t ≡ f s) → (b k : ℕ) (s u : S) (r : Ran) → runs move b k s ≡ ran r u → f u ≡ f s
  keeps f kept zero k s u r e = ap f (sym (same_state (completed k) r s u e))
  keeps f kept (suc b) k s u r e = keeps_by f kept b (keeps f kept b) k s u r (move s) refl e

-- a step keeps the length that the core was seated with
not_done : {S : Type 0} (q : Refusal) (t : S) → refused q ≡ done t → ⊥
not_done q t e = let z : ◌≡◌ {A = ℕ} 0 1 = cc in omega arith

done_is : (s t : CoreState) → done s ≡ done t → s ≡ t
done_is s t e = cc

acted_size : (s t : CoreState) (o : Result (ℕ × State) Trap) → acted s o ≡ done t → t.size ≡ s.size
acted_size s t (Err q) e = absurd (not_done _ t e)
acted_size s t (Ok (p, u)) e = ap (λ (x : CoreState). x.size) (sym (done_is _ t e))

obeyed_size : (s t : CoreState) (o : Result (Instruction × ℕ) Refusal) → obeyed s o ≡ done t → t.size ≡ s.size
obeyed_size s t (Err q) e = absurd (not_done q t e)
obeyed_size s t (Ok (i, next)) e = acted_size s t (obeyed_at i s.pc next (state s.registers s.memory)) e

step_size : (code : List ℕ) (s t : CoreState) → step_of code s ≡ done t → t.size ≡ s.size
unfolding step_of
step_size code s t e =
    ⊎_elim
    (λ h. obeyed_size s t (fetched s.base s.pc code) (sym (cond-true _ (obeyed s (fetched s.base s.pc code)) (refused InvalidArgument) h) ∙ e))
    (λ h. absurd (not_done InvalidArgument t (sym (cond-false _ (obeyed s (fetched s.base s.pc code)) (refused InvalidArgument) h) ∙ e)))
    (cases_Bool (eqb (length code) s.size))

-- a run over code of another length
run_refused : (code : List ℕ) (b : ℕ) (s : CoreState) → eqb (length code) s.size ≡ false → run_of code b s ≡ ran (stopped 0 InvalidArgument) s
run_refused code b s h = cond-false _ (runs (step_of code) b 0 s) (ran (stopped 0 InvalidArgument) s) h

pub consecutive_runs : RunsJoin
consecutive_runs code a b s t u r p q =
    ⊎_elim
    (λ h.
    let move = step_of code in
    let z : 0 + a ≡ a = zero-add a in
    let first : runs move a 0 s ≡ ran (completed (0 + a)) t = sym (run_fits code a s h) ∙ p ∙ ap (λ n. ran (completed n) t) (sym z) in
    let n : t.size ≡ s.size = keeps move (λ (x : CoreState). x.size) (step_size code) a 0 s t (completed (0 + a)) first in
    let g : eqb (length code) t.size ≡ true = ap (eqb (length code)) n ∙ h in
    let second : runs move b 0 t ≡ ran r u = sym (run_fits code b t g) ∙ q in
    let c : 0 + a ≡ a + 0 = omega arith in
    run_fits code (a + b) s h ∙ go_on move a b 0 s t first ∙ ap (λ k. runs move b k t) c ∙ shift move a b 0 t u r second)
    (λ h. absurd (no_refusal 0 a InvalidArgument s t (sym (run_refused code a s h) ∙ p)))
    (cases_Bool (eqb (length code) s.size))

pub refused_runs : RefusedRunsChangeNothing
refused_runs code b s t r p n =
    ⊎_elim
    (λ h. stays (step_of code) b 0 s t r (sym (run_fits code b s h) ∙ p) n)
    (λ h. sym (same_state (stopped 0 InvalidArgument) r s t (sym (run_refused code b s h) ∙ p)))
    (cases_Bool (eqb (length code) s.size))
