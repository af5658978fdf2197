-- Operations as they are written: a name, and numbers after it.
use Rattle.std.specs.Prelude.{ℕ, ◌^◌, cond, List, Some, None, Option, nat_lt, slice_index}
use Rattle.isa.specs.declared.operation.Operation.{Operation}
use Rattle.isa.specs.declared.operation.Operation.TheVariants as operation
use Rattle.text.specs.declared.mnemonic.Mnemonic.{Mnemonic}
use Rattle.text.specs.declared.mnemonic.Mnemonic.TheVariants.{Register, Immediate, Test, Compare, Access, Move, Constant, Jump, Bkpt, Relative}

-- a register is a byte
abbrev pub register : ℕ → Option ℕ
register n = cond (nat_lt n (2 ^ 8)) (Some n) None

-- what is made of a register, if its number fits
abbrev pub with : ℕ → (ℕ → Option Operation) → Option Operation
with n f = elim (register n) [ Some r ↦ f r | None ↦ None ]

-- the operation of a name with the numbers after it
abbrev pub written : Mnemonic → List ℕ → Option Operation
written (Register op) ns = with (slice_index ns 0) (λ z. with (slice_index ns 1) (λ x. with (slice_index ns 2) (λ y. Some (operation.Register op z x y))))
written (Immediate op) ns = with (slice_index ns 0) (λ z. with (slice_index ns 1) (λ x. Some (operation.Immediate op z x (slice_index ns 2))))
written (Test op) ns = with (slice_index ns 0) (λ x. Some (operation.Test op x (slice_index ns 1)))
written (Compare op) ns = with (slice_index ns 0) (λ x. with (slice_index ns 1) (λ y. Some (operation.Compare op x y)))
written (Access op) ns = with (slice_index ns 0) (λ z. with (slice_index ns 1) (λ x. Some (operation.Access op z x (slice_index ns 2))))
written Move ns = with (slice_index ns 0) (λ z. with (slice_index ns 1) (λ x. Some (operation.Move z x)))
written (Constant op) ns = with (slice_index ns 0) (λ z. Some (operation.Constant op z (slice_index ns 1)))
written (Jump op) ns = with (slice_index ns 0) (λ x. Some (operation.Jump op x))
written Bkpt ns = Some operation.Bkpt
written (Relative branch) ns = None
