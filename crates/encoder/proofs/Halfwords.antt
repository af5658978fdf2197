-- A short form is a halfword.
use Rattle.std.proofs.Common.{◌≡◌, ℕ, ◌+◌, ◌^◌, ◌<◌, ◌≤◌, Bool, true, cond, ◌&&◌, List, [], ◌∷◌, IfSome, Some, Option, refl, subst, arith, pow_mono, nat_lt}
use Rattle.std.proofs.lemmas.Bool.{cond_both, and_parts, ltb-true}
use Rattle.isa.specs.declared.operation.RegisterOp.TheVariants.{Addu, Addc, Subu, And, Andn, Or, Lsl, Lsr, Asr, Rotl, Mult, Ixh, Ixw}
use Rattle.isa.specs.declared.operation.ImmediateOp.TheVariants.{Addi, Andi, Lsli, Lsri, Asri, Rotli, Bclri, Bseti}
use Rattle.isa.specs.declared.operation.TestOp.TheVariants.{Btsti, Cmplti, Cmpnei}
use Rattle.isa.specs.declared.operation.CompareOp.TheVariants.{Cmphs, Cmplt, Cmpne}
use Rattle.isa.specs.declared.operation.AccessOp.TheVariants.{LdB, LdH, LdW, LdBs, LdHs, StB, StH, StW}
use Rattle.isa.specs.declared.operation.ConstantOp.TheVariants.{Movi, Movih}
use Rattle.isa.specs.declared.operation.JumpOp.TheVariants.{Jmp, Jsr}
use Rattle.isa.specs.declared.operation.Operation.{Operation}
use Rattle.isa.specs.declared.operation.Operation.TheVariants.{Register, Immediate, Test, Compare, Access, Move, Constant, Jump, Bkpt}
use Rattle.table.proofs.Packing.{slice_below, two_below}
use Rattle.table.specs.Diagram.{short, Operand, reg_z, reg_x, reg_y, number, Part, fixed, unused, field, slice, bits, width, place, rest, span, operands}
use Rattle.table.specs.Table.{to_field, Row}
use Rattle.table.specs.Decode.{holds, form}
use Rattle.table.specs.Encode.{rows, operand, exchanges, sized_rows, first, form_of}

wider : (n s k : ℕ) → n < 2 ^ s → n < 2 ^ (k + s)
wider n s k p = let m : 2 ^ s ≤ 2 ^ (k + s) = pow_mono (omega arith) in omega (arith, m, p)

-- operands placed stay within the diagram
pub place_below : (ps : List Part) (g : Operand → ℕ) → place ps g < 2 ^ bits ps
place_below [] g = omega arith
place_below (fixed k ∷ ps) g = wider (place ps g) (bits ps) k (place_below ps g)
place_below (unused k ∷ ps) g = wider (place ps g) (bits ps) k (place_below ps g)
place_below (field o k ∷ ps) g = two_below (slice (g o) (width o ps) k) (place ps g) (bits ps) k (slice_below (g o) (width o ps) k) (place_below ps g)

-- the rows' forms are halfwords
abbrev halfwords : List Row → Bool
halfwords [] = true
halfwords (r ∷ rs) = nat_lt (r.word + span r.layout) 65536 && halfwords rs

form_below : (r : Row) (z x y n : ℕ) → nat_lt (r.word + span r.layout) 65536 ≡ true → form r z x y n < 65536
form_below r z x y n t = let l = ltb-true (r.word + span r.layout) 65536 t in omega (arith, l, place_below (rest r.layout) (operands z x y (to_field r.rule n)))

abbrev Below : Option ℕ → Type 0
Below r = IfSome r (λ h. h < 65536)

first_below : (c : Bool) (rs : List Row) (z x y n : ℕ) → halfwords rs ≡ true → Below (first c rs z x y n)
first_below c [] z x y n t = _
first_below c (r ∷ rs) z x y n t =
    let p = and_parts _ _ t in
    let q = cond_both (c && holds r z y x n) (Some (form r z y x n)) (first c rs z x y n) Below (λ _. form_below r z y x n p.0) (λ _. first_below c rs z x y n p.1) in
    cond_both (holds r z x y n) (Some (form r z x y n)) (cond (c && holds r z y x n) (Some (form r z y x n)) (first c rs z x y n)) Below (λ _. form_below r z x y n p.0) (λ _. q)

short_rows : (o : Operation) → halfwords (sized_rows short (rows o)) ≡ true
short_rows (Register Addu z x y) = refl
short_rows (Register Addc z x y) = refl
short_rows (Register Subu z x y) = refl
short_rows (Register And z x y) = refl
short_rows (Register Andn z x y) = refl
short_rows (Register Or z x y) = refl
short_rows (Register Lsl z x y) = refl
short_rows (Register Lsr z x y) = refl
short_rows (Register Asr z x y) = refl
short_rows (Register Rotl z x y) = refl
short_rows (Register Mult z x y) = refl
short_rows (Register Ixh z x y) = refl
short_rows (Register Ixw z x y) = refl
short_rows (Immediate Addi z x n) = refl
short_rows (Immediate Andi z x n) = refl
short_rows (Immediate Lsli z x n) = refl
short_rows (Immediate Lsri z x n) = refl
short_rows (Immediate Asri z x n) = refl
short_rows (Immediate Rotli z x n) = refl
short_rows (Immediate Bclri z x n) = refl
short_rows (Immediate Bseti z x n) = refl
short_rows (Test Btsti x n) = refl
short_rows (Test Cmplti x n) = refl
short_rows (Test Cmpnei x n) = refl
short_rows (Compare Cmphs x y) = refl
short_rows (Compare Cmplt x y) = refl
short_rows (Compare Cmpne x y) = refl
short_rows (Access LdB z x n) = refl
short_rows (Access LdH z x n) = refl
short_rows (Access LdW z x n) = refl
short_rows (Access LdBs z x n) = refl
short_rows (Access LdHs z x n) = refl
short_rows (Access StB z x n) = refl
short_rows (Access StH z x n) = refl
short_rows (Access StW z x n) = refl
short_rows (Move z x) = refl
short_rows (Constant Movi z n) = refl
short_rows (Constant Movih z n) = refl
short_rows (Jump Jmp x) = refl
short_rows (Jump Jsr x) = refl
short_rows Bkpt = refl

pub short_below : (o : Operation) (h : ℕ) → form_of short o ≡ Some h → h < 65536
short_below o h e = subst Below e (first_below (exchanges o) (sized_rows short (rows o)) (operand o reg_z) (operand o reg_x) (operand o reg_y) (operand o number) (short_rows o))
