-- Every mnemonic, in the order in which they are looked through.
use Rattle.std.proofs.Common.{◌≡◌, ◌≢◌, ℕ, ◌<◌, List, [], ◌∷◌, slice_index_or, length, Some, None, Option, MatchOption, refl, ap, ◌∙◌, arith}
use Rattle.std.specs.List.{AllWithin, HoldsAt}
use Rattle.isa.specs.declared.operation.RegisterOp.TheVariants.{Addu, Addc, Subu, And, Andn, Or, Lsl, Lsr, Asr, Rotl, Mult, Ixh, Ixw}
use Rattle.isa.specs.declared.operation.ImmediateOp.TheVariants.{Addi, Andi, Lsli, Lsri, Asri, Rotli, Bclri, Bseti}
use Rattle.isa.specs.declared.operation.TestOp.TheVariants.{Btsti, Cmplti, Cmpnei}
use Rattle.isa.specs.declared.operation.CompareOp.TheVariants.{Cmphs, Cmplt, Cmpne}
use Rattle.isa.specs.declared.operation.AccessOp.TheVariants.{LdB, LdH, LdW, LdBs, LdHs, StB, StH, StW}
use Rattle.isa.specs.declared.operation.ConstantOp.TheVariants.{Movi, Movih}
use Rattle.isa.specs.declared.operation.JumpOp.TheVariants.{Jmp, Jsr}
use Rattle.isa.specs.declared.operation.Branch.TheVariants.{Br, Bt, Bf, Bsr}
use Rattle.text.specs.declared.mnemonic.Mnemonic.{Mnemonic}
use Rattle.text.specs.Names.{name}
use Rattle.text.specs.Named.{Named}
use Rattle.text.specs.declared.mnemonic.Mnemonic.TheVariants.{Register, Immediate, Test, Compare, Access, Move, Constant, Jump, Bkpt, Relative}

abbrev pub every : List Mnemonic
every = (Register Addu) ∷ (Register Addc) ∷ (Register Subu) ∷ (Register And) ∷ (Register Andn) ∷ (Register Or) ∷ (Register Lsl) ∷ (Register Lsr) ∷ (Register Asr) ∷ (Register Rotl) ∷ (Register Mult) ∷ (Register Ixh) ∷ (Register Ixw) ∷ (Immediate Addi) ∷ (Immediate Andi) ∷ (Immediate Lsli) ∷ (Immediate Lsri) ∷ (Immediate Asri) ∷ (Immediate Rotli) ∷ (Immediate Bclri) ∷ (Immediate Bseti) ∷ (Test Btsti) ∷ (Test Cmplti) ∷ (Test Cmpnei) ∷ (Compare Cmphs) ∷ (Compare Cmplt) ∷ (Compare Cmpne) ∷ (Access LdB) ∷ (Access LdH) ∷ (Access LdW) ∷ (Access LdBs) ∷ (Access LdHs) ∷ (Access StB) ∷ (Access StH) ∷ (Access StW) ∷ (Constant Movi) ∷ (Constant Movih) ∷ (Jump Jmp) ∷ (Jump Jsr) ∷ Move ∷ Bkpt ∷ (Relative Br) ∷ (Relative Bt) ∷ (Relative Bf) ∷ (Relative Bsr) ∷ []

-- where a mnemonic stands among them
abbrev pub place : Mnemonic → ℕ
place (Register Addu) = 0
place (Register Addc) = 1
place (Register Subu) = 2
place (Register And) = 3
place (Register Andn) = 4
place (Register Or) = 5
place (Register Lsl) = 6
place (Register Lsr) = 7
place (Register Asr) = 8
place (Register Rotl) = 9
place (Register Mult) = 10
place (Register Ixh) = 11
place (Register Ixw) = 12
place (Immediate Addi) = 13
place (Immediate Andi) = 14
place (Immediate Lsli) = 15
place (Immediate Lsri) = 16
place (Immediate Asri) = 17
place (Immediate Rotli) = 18
place (Immediate Bclri) = 19
place (Immediate Bseti) = 20
place (Test Btsti) = 21
place (Test Cmplti) = 22
place (Test Cmpnei) = 23
place (Compare Cmphs) = 24
place (Compare Cmplt) = 25
place (Compare Cmpne) = 26
place (Access LdB) = 27
place (Access LdH) = 28
place (Access LdW) = 29
place (Access LdBs) = 30
place (Access LdHs) = 31
place (Access StB) = 32
place (Access StH) = 33
place (Access StW) = 34
place (Constant Movi) = 35
place (Constant Movih) = 36
place (Jump Jmp) = 37
place (Jump Jsr) = 38
place Move = 39
place Bkpt = 40
place (Relative Br) = 41
place (Relative Bt) = 42
place (Relative Bf) = 43
place (Relative Bsr) = 44

stands : (m d : Mnemonic) → (place m < length every) × (slice_index_or every (place m) d ≡ m)
stands (Register Addu) d = (omega arith, refl)
stands (Register Addc) d = (omega arith, refl)
stands (Register Subu) d = (omega arith, refl)
stands (Register And) d = (omega arith, refl)
stands (Register Andn) d = (omega arith, refl)
stands (Register Or) d = (omega arith, refl)
stands (Register Lsl) d = (omega arith, refl)
stands (Register Lsr) d = (omega arith, refl)
stands (Register Asr) d = (omega arith, refl)
stands (Register Rotl) d = (omega arith, refl)
stands (Register Mult) d = (omega arith, refl)
stands (Register Ixh) d = (omega arith, refl)
stands (Register Ixw) d = (omega arith, refl)
stands (Immediate Addi) d = (omega arith, refl)
stands (Immediate Andi) d = (omega arith, refl)
stands (Immediate Lsli) d = (omega arith, refl)
stands (Immediate Lsri) d = (omega arith, refl)
stands (Immediate Asri) d = (omega arith, refl)
stands (Immediate Rotli) d = (omega arith, refl)
stands (Immediate Bclri) d = (omega arith, refl)
stands (Immediate Bseti) d = (omega arith, refl)
stands (Test Btsti) d = (omega arith, refl)
stands (Test Cmplti) d = (omega arith, refl)
stands (Test Cmpnei) d = (omega arith, refl)
stands (Compare Cmphs) d = (omega arith, refl)
stands (Compare Cmplt) d = (omega arith, refl)
stands (Compare Cmpne) d = (omega arith, refl)
stands (Access LdB) d = (omega arith, refl)
stands (Access LdH) d = (omega arith, refl)
stands (Access LdW) d = (omega arith, refl)
stands (Access LdBs) d = (omega arith, refl)
stands (Access LdHs) d = (omega arith, refl)
stands (Access StB) d = (omega arith, refl)
stands (Access StH) d = (omega arith, refl)
stands (Access StW) d = (omega arith, refl)
stands (Constant Movi) d = (omega arith, refl)
stands (Constant Movih) d = (omega arith, refl)
stands (Jump Jmp) d = (omega arith, refl)
stands (Jump Jsr) d = (omega arith, refl)
stands Move d = (omega arith, refl)
stands Bkpt d = (omega arith, refl)
stands (Relative Br) d = (omega arith, refl)
stands (Relative Bt) d = (omega arith, refl)
stands (Relative Bf) d = (omega arith, refl)
stands (Relative Bsr) d = (omega arith, refl)

-- where none of all has the name, no mnemonic has it
pub none_missed : (s : List ℕ) (r : Option Mnemonic)
    → MatchOption r (AllWithin (λ m. name m ≢ s) every 0 (length every)) (λ m. (name m ≡ s) × (i : ℕ) × (i < length every) × HoldsAt (λ y. y ≡ m) every i × AllWithin (λ m. name m ≢ s) every 0 i)
    → Named s r
none_missed s (Some m) h = h.0
none_missed s None h = λ m e. let at = stands m m in h (place m) m (omega arith) at.0 (ap name at.1 ∙ e)
