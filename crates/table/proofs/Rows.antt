-- The first form of an operation by its own rows is one that the table lists for it.
use Rattle.std.proofs.Common.{◌≡◌, ℕ, zero, suc, ◌<◌, ◌≤◌, Bool, true, not, ◌&&◌, ltb, ◌⊎◌, List, [], ◌∷◌, ◌++◌, length, get_or, Some, Option, sym, refl, ap, ◌∙◌, subst, inl, inr, ⊎_elim, lit<, arith}
use Rattle.std.proofs.lemmas.Bool.{and_parts, and_from, ltb-false, cond-true, cond-false, cond_both, cases_Bool, not-true, true≢false, false≢true}
use Rattle.std.proofs.lemmas.Option.{none-some}
use Rattle.isa.specs.declared.operation.RegisterOp.{RegisterOp}
use Rattle.isa.specs.declared.operation.RegisterOp.TheVariants.{Addu, Addc, Subu, And, Andn, Or, Lsl, Lsr, Asr, Rotl, Mult, Ixh, Ixw}
use Rattle.isa.specs.declared.operation.ImmediateOp.{ImmediateOp}
use Rattle.isa.specs.declared.operation.ImmediateOp.TheVariants.{Addi, Andi, Lsli, Lsri, Asri, Rotli, Bclri, Bseti}
use Rattle.isa.specs.declared.operation.TestOp.{TestOp}
use Rattle.isa.specs.declared.operation.TestOp.TheVariants.{Btsti, Cmplti, Cmpnei}
use Rattle.isa.specs.declared.operation.CompareOp.{CompareOp}
use Rattle.isa.specs.declared.operation.CompareOp.TheVariants.{Cmphs, Cmplt, Cmpne}
use Rattle.isa.specs.declared.operation.AccessOp.{AccessOp}
use Rattle.isa.specs.declared.operation.AccessOp.TheVariants.{LdB, LdH, LdW, LdBs, LdHs, StB, StH, StW}
use Rattle.isa.specs.declared.operation.ConstantOp.{ConstantOp}
use Rattle.isa.specs.declared.operation.ConstantOp.TheVariants.{Movi, Movih}
use Rattle.isa.specs.declared.operation.JumpOp.{JumpOp}
use Rattle.isa.specs.declared.operation.JumpOp.TheVariants.{Jmp, Jsr}
use Rattle.isa.specs.declared.operation.Branch.{Branch}
use Rattle.isa.specs.declared.operation.Branch.TheVariants.{Br, Bt, Bf, Bsr}
use Rattle.isa.specs.declared.operation.Operation.{Operation}
use Rattle.isa.specs.declared.operation.Operation.TheVariants.{Register, Immediate, Test, Compare, Access, Move, Constant, Jump, Bkpt}
use Rattle.isa.specs.declared.operation.Instruction.{Instruction}
use Rattle.isa.specs.declared.operation.Instruction.TheVariants.{Plain}
use Rattle.isa.specs.Normal.{commutes, is_move, normal, is_normal}
use Rattle.table.specs.Diagram.{Size, has_size, reg_z, reg_x, reg_y, number}
use Rattle.table.specs.Table.{Row, register_rows, immediate_rows, test_rows, compare_rows, access_rows, short_move_rows, constant_rows, jump_rows, bkpt_rows, branch_rows}
use Rattle.table.specs.Decode.{Reading, Entry, holds, form, In, By, Spells, lines, each, sized, table, sections, joined, register_ops, immediate_ops, test_ops, compare_ops, access_ops, constant_ops, jump_ops, branches, register, immediate, test, compare, access, move, constant, jump, bkpt, relative}
use Rattle.table.specs.Encode.{first, sized_rows, form_of, rows, operand, exchanges}

abbrev pub Member : {O : Type 0} → O → List O → Type 0
Member o [] = ⊥
Member o (p ∷ os) = (o ≡ p) ⊎ Member o os

nth : {O : Type 0} (d : O) (os : List O) (k : ℕ) → k < length os → Member (get_or os k d) os
nth d [] k l = absurd (omega arith)
nth d (o ∷ os) zero l = inl refl
nth d (o ∷ os) (suc k) l = inr (nth d os k (omega arith))

each-RegisterOp : (o : RegisterOp) → Member o register_ops
each-RegisterOp Addu = nth Addu register_ops 0 (lit< tt)
each-RegisterOp Addc = nth Addc register_ops 1 (lit< tt)
each-RegisterOp Subu = nth Subu register_ops 2 (lit< tt)
each-RegisterOp And = nth And register_ops 3 (lit< tt)
each-RegisterOp Andn = nth Andn register_ops 4 (lit< tt)
each-RegisterOp Or = nth Or register_ops 5 (lit< tt)
each-RegisterOp Lsl = nth Lsl register_ops 6 (lit< tt)
each-RegisterOp Lsr = nth Lsr register_ops 7 (lit< tt)
each-RegisterOp Asr = nth Asr register_ops 8 (lit< tt)
each-RegisterOp Rotl = nth Rotl register_ops 9 (lit< tt)
each-RegisterOp Mult = nth Mult register_ops 10 (lit< tt)
each-RegisterOp Ixh = nth Ixh register_ops 11 (lit< tt)
each-RegisterOp Ixw = nth Ixw register_ops 12 (lit< tt)

each-ImmediateOp : (o : ImmediateOp) → Member o immediate_ops
each-ImmediateOp Addi = nth Addi immediate_ops 0 (lit< tt)
each-ImmediateOp Andi = nth Andi immediate_ops 1 (lit< tt)
each-ImmediateOp Lsli = nth Lsli immediate_ops 2 (lit< tt)
each-ImmediateOp Lsri = nth Lsri immediate_ops 3 (lit< tt)
each-ImmediateOp Asri = nth Asri immediate_ops 4 (lit< tt)
each-ImmediateOp Rotli = nth Rotli immediate_ops 5 (lit< tt)
each-ImmediateOp Bclri = nth Bclri immediate_ops 6 (lit< tt)
each-ImmediateOp Bseti = nth Bseti immediate_ops 7 (lit< tt)

each-TestOp : (o : TestOp) → Member o test_ops
each-TestOp Btsti = nth Btsti test_ops 0 (lit< tt)
each-TestOp Cmplti = nth Cmplti test_ops 1 (lit< tt)
each-TestOp Cmpnei = nth Cmpnei test_ops 2 (lit< tt)

each-CompareOp : (o : CompareOp) → Member o compare_ops
each-CompareOp Cmphs = nth Cmphs compare_ops 0 (lit< tt)
each-CompareOp Cmplt = nth Cmplt compare_ops 1 (lit< tt)
each-CompareOp Cmpne = nth Cmpne compare_ops 2 (lit< tt)

each-AccessOp : (o : AccessOp) → Member o access_ops
each-AccessOp LdB = nth LdB access_ops 0 (lit< tt)
each-AccessOp LdH = nth LdH access_ops 1 (lit< tt)
each-AccessOp LdW = nth LdW access_ops 2 (lit< tt)
each-AccessOp LdBs = nth LdBs access_ops 3 (lit< tt)
each-AccessOp LdHs = nth LdHs access_ops 4 (lit< tt)
each-AccessOp StB = nth StB access_ops 5 (lit< tt)
each-AccessOp StH = nth StH access_ops 6 (lit< tt)
each-AccessOp StW = nth StW access_ops 7 (lit< tt)

each-ConstantOp : (o : ConstantOp) → Member o constant_ops
each-ConstantOp Movi = nth Movi constant_ops 0 (lit< tt)
each-ConstantOp Movih = nth Movih constant_ops 1 (lit< tt)

each-JumpOp : (o : JumpOp) → Member o jump_ops
each-JumpOp Jmp = nth Jmp jump_ops 0 (lit< tt)
each-JumpOp Jsr = nth Jsr jump_ops 1 (lit< tt)

each-Branch : (o : Branch) → Member o branches
each-Branch Br = nth Br branches 0 (lit< tt)
each-Branch Bt = nth Bt branches 1 (lit< tt)
each-Branch Bf = nth Bf branches 2 (lit< tt)
each-Branch Bsr = nth Bsr branches 3 (lit< tt)

pub some_same : (g h : ℕ) → ◌≡◌ {A = Option ℕ} (Some g) (Some h) → h ≡ g
some_same g h e = cc

in_left : (P : Entry → Type 0) (xs ys : List Entry) → In P xs → In P (xs ++ ys)
in_left P [] ys i = absurd i
in_left P (x ∷ xs) ys (inl p) = inl p
in_left P (x ∷ xs) ys (inr i) = inr (in_left P xs ys i)

in_right : (P : Entry → Type 0) (xs ys : List Entry) → In P ys → In P (xs ++ ys)
in_right P [] ys i = i
in_right P (x ∷ xs) ys i = inr (in_right P xs ys i)

in_lines : (P : Entry → Type 0) (f : Row → Reading) (r : Row) (rs : List Row) → Member r rs → P (record { line = r; reading = f r }) → In P (lines f rs)
in_lines P f r [] i p = absurd i
in_lines P f r (s ∷ rs) (inl e) p = inl (subst (λ t. P (record { line = t; reading = f t })) e p)
in_lines P f r (s ∷ rs) (inr i) p = inr (in_lines P f r rs i p)

in_each : {O : Type 0} (P : Entry → Type 0) (f : O → Row → Reading) (rs : O → List Row) (o : O) (r : Row) (os : List O) → Member o os → Member r (rs o) → P (record { line = r; reading = f o r }) → In P (each f rs os)
in_each P f rs o r [] i j p = absurd i
in_each P f rs o r (q ∷ os) (inl e) j p = in_left P (lines (f q) (rs q)) (each f rs os) (subst (λ t. In P (lines (f t) (rs t))) e (in_lines P (f o) r (rs o) j p))
in_each P f rs o r (q ∷ os) (inr i) j p = in_right P (lines (f q) (rs q)) (each f rs os) (in_each P f rs o r os i j p)

in_joined : (P : Entry → Type 0) (ss : List (List Entry)) (k : ℕ) → In P (get_or ss k []) → In P (joined ss)
in_joined P [] k i = absurd i
in_joined P (s ∷ ss) zero i = in_left P s (joined ss) i
in_joined P (s ∷ ss) (suc k) i = in_right P s (joined ss) (in_joined P ss k i)

-- the entries of one size
in_sized : (P : Entry → Type 0) (s : Size) (es : List Entry) → In (λ e. P e × (has_size s e.line.layout ≡ true)) es → In P (sized s es)
in_sized P s [] i = absurd i
in_sized P s (e ∷ es) (inl p) = subst (In P) (sym (cond-true _ (e ∷ sized s es) (sized s es) p.1)) (inl p.0)
in_sized P s (e ∷ es) (inr i) =
    cond_both (has_size s e.line.layout) (e ∷ sized s es) (sized s es) (In P) (λ t. inr (in_sized P s es i)) (λ t. in_sized P s es i)

-- a row of one size
pub sized_row : (s : Size) (r : Row) (rs : List Row) → Member r (sized_rows s rs) → Member r rs × (has_size s r.layout ≡ true)
sized_row s r [] i = absurd i
sized_row s r (q ∷ rs) i =
    cond_both (has_size s q.layout) (q ∷ sized_rows s rs) (sized_rows s rs) (λ l. Member r l → Member r (q ∷ rs) × (has_size s r.layout ≡ true))
    (λ t. ⊎_elim (λ e. (inl e, ap (λ p. has_size s p.layout) e ∙ t)) (λ j. let k = sized_row s r rs j in (inr k.0, k.1)))
    (λ t j. let k = sized_row s r rs j in (inr k.0, k.1))
    i

-- the row that gave the first form
record First (c : Bool) (rs : List Row) (z x y n h : ℕ) : Type 0 where
  by : Row
  is : Member by rs
  way : ((holds by z x y n ≡ true) × (h ≡ form by z x y n)) ⊎ ((c ≡ true) × (holds by z y x n ≡ true) × (h ≡ form by z y x n))

first_row : (c : Bool) (rs : List Row) (z x y n h : ℕ) → first c rs z x y n ≡ Some h → First c rs z x y n h
first_row c [] z x y n h e = absurd (none-some h e)
first_row c (r ∷ rs) z x y n h e =
    let P : Option ℕ → Type 0 = λ o. o ≡ Some h → First c (r ∷ rs) z x y n h in
    cond_both (holds r z x y n) _ _ P
    (λ t f. record { by = r; is = inl refl; way = inl (t, some_same _ _ f) })
    (λ _. cond_both (c && holds r z y x n) _ _ P
    (λ u f. let p = and_parts _ _ u in record { by = r; is = inl refl; way = inr (p.0, p.1, some_same _ _ f) })
    (λ _ f. let s = first_row c rs z x y n h f in record { by = s.by; is = inr s.is; way = s.way }))
    e

-- h spells i by an entry of a size
abbrev pub Within : Size → Instruction → ℕ → Entry → Type 0
Within s i h e = By e i h × (has_size s e.line.layout ≡ true)

pub within_table : (s : Size) (i : Instruction) (h : ℕ) → In (Within s i h) table → Spells s i h
within_table s i h n = in_sized (λ e. By e i h) s table n

-- the entries of an operation of some group, and of a branch
pub in_section : {O : Type 0} (s : Size) (i : Instruction) (h k : ℕ) (f : O → Row → Reading) (rs : O → List Row) (os : List O) (o : O) (r : Row) → get_or sections k [] ≡ each f rs os → Member o os → Member r (rs o) → Within s i h (record { line = r; reading = f o r }) → In (Within s i h) table
in_section s i h k f rs os o r e m j w = in_joined (Within s i h) sections k (subst (In (Within s i h)) (sym e) (in_each (Within s i h) f rs o r os m j w))

pub in_branches : (s : Size) (b : Branch) (i : Instruction) (h : ℕ) (r : Row) → Member r (branch_rows b) → Within s i h (record { line = r; reading = relative b r }) → Spells s i h
in_branches s b i h r j w = within_table s i h (in_section s i h 9 relative branch_rows branches b r refl (each-Branch b) j w)

-- what the operands of a normal operation say
kept : (o : RegisterOp) (z x y : ℕ) → not (commutes o && ltb y x) ≡ true → normal (Register o z x y) ≡ Register o z x y
kept o z x y p = cond-false _ _ _ (not-true _ p)

exchanged : (o : RegisterOp) (z x y : ℕ) → commutes o ≡ true → not (commutes o && ltb y x) ≡ true → normal (Register o z y x) ≡ Register o z x y
exchanged o z x y c p =
    ⊎_elim
    (λ t. cond-true _ _ _ (and_from _ _ c t))
    (λ t. let l : y ≤ x = ltb-false x y t in let m : x ≤ y = ltb-false y x (⊎_elim (λ (u : ltb y x ≡ true). absurd (true≢false (sym (and_from _ _ c u) ∙ not-true _ p))) (λ u. u) (cases_Bool (ltb y x))) in
    let e : x ≡ y = omega arith in
    subst (λ k. normal (Register o z y k) ≡ Register o z k y) (sym e) (cond_both (commutes o && ltb y y) _ _ (λ q. q ≡ Register o z y y) (λ _. refl) (λ _. refl)))
    (cases_Bool (ltb x y))

steady : (o : ImmediateOp) (z x n : ℕ) → not (is_move o x n) ≡ true → normal (Immediate o z x n) ≡ Immediate o z x n
steady o z x n p = cond-false _ _ _ (not-true _ p)

-- a row that holds an operation's operands has its form in the table
spells : (s : Size) (o : Operation) (r : Row) (h : ℕ) → Member r (rows o) → has_size s r.layout ≡ true → is_normal o ≡ true → holds r (operand o reg_z) (operand o reg_x) (operand o reg_y) (operand o number) ≡ true → h ≡ form r (operand o reg_z) (operand o reg_x) (operand o reg_y) (operand o number) → In (Within s (Plain o) h) table
spells s (Register o z x y) r h i l p t f = in_section s _ h 0 register register_rows register_ops o r refl (each-RegisterOp o) i ((z, x, y, 0, t, ap Plain (kept o z x y p), f), l)
spells s (Immediate o z x n) r h i l p t f = in_section s _ h 1 immediate immediate_rows immediate_ops o r refl (each-ImmediateOp o) i ((z, x, 0, n, t, ap Plain (steady o z x n p), f), l)
spells s (Test o x n) r h i l p t f = in_section s _ h 2 test test_rows test_ops o r refl (each-TestOp o) i ((0, x, 0, n, t, refl, f), l)
spells s (Compare o x y) r h i l p t f = in_section s _ h 3 compare compare_rows compare_ops o r refl (each-CompareOp o) i ((0, x, y, 0, t, refl, f), l)
spells s (Access o z x n) r h i l p t f = in_section s _ h 4 access access_rows access_ops o r refl (each-AccessOp o) i ((z, x, 0, n, t, refl, f), l)
spells s (Move z x) r h (inl e) l p t f = let P = (Within s (Plain (Move z x)) h) in in_joined P sections 5 (in_lines P move r short_move_rows (inl e) ((z, x, 0, 0, t, refl, f), l))
spells s (Move z x) r h (inr (inl e)) l p t f = in_section s _ h 1 immediate immediate_rows immediate_ops Lsli r refl (each-ImmediateOp Lsli) (inr (inl e)) ((z, x, 0, 0, t, refl, f), l)
spells s (Move z x) r h (inr (inr i)) l p t f = absurd i
spells s (Constant o z n) r h i l p t f = in_section s _ h 6 constant constant_rows constant_ops o r refl (each-ConstantOp o) i ((z, 0, 0, n, t, refl, f), l)
spells s (Jump o x) r h i l p t f = in_section s _ h 7 jump jump_rows jump_ops o r refl (each-JumpOp o) i ((0, x, 0, 0, t, refl, f), l)
spells s Bkpt r h i l p t f = let P = (Within s (Plain Bkpt) h) in in_joined P sections 8 (in_lines P bkpt r bkpt_rows i ((0, 0, 0, 0, t, refl, f), l))

spells_exchanged : (s : Size) (o : Operation) (r : Row) (h : ℕ) → Member r (rows o) → has_size s r.layout ≡ true → is_normal o ≡ true → exchanges o ≡ true → holds r (operand o reg_z) (operand o reg_y) (operand o reg_x) (operand o number) ≡ true → h ≡ form r (operand o reg_z) (operand o reg_y) (operand o reg_x) (operand o number) → In (Within s (Plain o) h) table
spells_exchanged s (Register o z x y) r h i l p c t f = in_section s _ h 0 register register_rows register_ops o r refl (each-RegisterOp o) i ((z, y, x, 0, t, ap Plain (exchanged o z x y c p), f), l)
spells_exchanged s _ r h i l p c t f = absurd (false≢true c)

-- the first form of a normal operation is one of its forms
pub form_spells : (s : Size) (o : Operation) (h : ℕ) → is_normal o ≡ true → form_of s o ≡ Some h → Spells s (Plain o) h
form_spells s o h p e =
    let f = first_row (exchanges o) (sized_rows s (rows o)) (operand o reg_z) (operand o reg_x) (operand o reg_y) (operand o number) h e in
    let k = sized_row s f.by (rows o) f.is in
    within_table s (Plain o) h (⊎_elim (λ w. spells s o f.by h k.0 k.1 p w.0 w.1) (λ w. spells_exchanged s o f.by h k.0 k.1 p w.0 w.1 w.2) f.way)
