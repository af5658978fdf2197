-- An operation that the table lists by some form has a first form by its own rows.
use Rattle.std.proofs.Common.{◌≡◌, ℕ, ◌^◌, ◌<◌, Bool, true, false, cond, not, ◌&&◌, ◌||◌, eqb, ltb, ◌⊎◌, List, [], ◌∷◌, ◌++◌, ℤ, is_some, Some, Option, sym, refl, ap, ◌∙◌, subst, inl, inr, ⊎_elim, arith}
use Rattle.std.proofs.lemmas.Bool.{and_parts, and_from, eqb-true, ltb-true, lt-ltb, le-ltb, cond-true, cond-false, cond_both, cases_Bool, false≢true, and_right}
use Rattle.isa.specs.declared.operation.RegisterOp.{RegisterOp}
use Rattle.isa.specs.declared.operation.ImmediateOp.{ImmediateOp}
use Rattle.isa.specs.declared.operation.ImmediateOp.TheVariants.{Addi, Lsli}
use Rattle.isa.specs.declared.operation.TestOp.{TestOp}
use Rattle.isa.specs.declared.operation.CompareOp.{CompareOp}
use Rattle.isa.specs.declared.operation.AccessOp.{AccessOp}
use Rattle.isa.specs.declared.operation.ConstantOp.{ConstantOp}
use Rattle.isa.specs.declared.operation.JumpOp.{JumpOp}
use Rattle.isa.specs.declared.operation.Branch.{Branch}
use Rattle.isa.specs.declared.operation.Operation.{Operation}
use Rattle.isa.specs.declared.operation.Operation.TheVariants.{Register, Immediate, Test, Compare, Access, Move, Constant, Jump, Bkpt}
use Rattle.isa.specs.declared.operation.Instruction.TheVariants.{Plain, Relative}
use Rattle.isa.specs.Normal.{commutes, is_move, is_normal}
use Rattle.table.specs.Diagram.{Size, short, long, has_size, Operand, reg_z, reg_x, reg_y, number, Pins, free, x_is_z, x_is_r14, both_are_r14, Layout, width, rest, registers_fit}
use Rattle.isa.specs.declared.rule.Rule.TheVariants.{LessOne, Quarter}
use Rattle.table.specs.Table.{row, row_by, to_field, from_field, low_zx_v3, low_zz_v8, low_z_r14_v8, r14_r14_v2_v5, long_zx_v12, low_zx_v5, long_zx_v5, z_x, Row, register_rows, immediate_rows, test_rows, compare_rows, access_rows, short_move_rows, move_rows, constant_rows, jump_rows, bkpt_rows, branch_rows}
use Rattle.table.specs.Decode.{Reading, Entry, holds, form, In, By, Spells, lines, each, sized, table, sections, joined, register_ops, immediate_ops, test_ops, compare_ops, access_ops, constant_ops, jump_ops, branches, register, immediate, test, compare, access, move, constant, jump, bkpt, relative}
use Rattle.table.specs.Encode.{first, sized_rows, form_of}
use Rattle.table.proofs.Rows.{Member, Within}

-- an operand without a field is 0
lacking : (o : Operand) (l : Layout) (n : ℕ) → eqb (width o (rest l)) 0 ≡ true → ltb n (2 ^ width o (rest l)) ≡ true → n ≡ 0
lacking o l n t f = let p : n < 2 ^ 0 = subst (λ k. n < 2 ^ k) (eqb-true (width o (rest l)) 0 t) (ltb-true n (2 ^ width o (rest l)) f) in omega arith

abbrev open_z : Pins → Bool
open_z free = true
open_z x_is_z = true
open_z x_is_r14 = true
open_z both_are_r14 = false

abbrev open_x : Pins → Bool
open_x free = true
open_x x_is_z = false
open_x x_is_r14 = false
open_x both_are_r14 = false

z_below : (p : Pins) (zs xs z x : ℕ) → open_z p ≡ true → registers_fit p zs xs z x ≡ true → ltb z zs ≡ true
z_below free zs xs z x t f = (and_parts _ _ f).0
z_below x_is_z zs xs z x t f = (and_parts _ _ f).0
z_below x_is_r14 zs xs z x t f = (and_parts _ _ f).0
z_below both_are_r14 zs xs z x t f = absurd (false≢true t)

x_below : (p : Pins) (zs xs z x : ℕ) → open_x p ≡ true → registers_fit p zs xs z x ≡ true → ltb x xs ≡ true
x_below free zs xs z x t f = (and_parts _ _ f).1
x_below x_is_z zs xs z x t f = absurd (false≢true t)
x_below x_is_r14 zs xs z x t f = absurd (false≢true t)
x_below both_are_r14 zs xs z x t f = absurd (false≢true t)

-- an operand that is kept, or that the row lacks
abbrev keep : Bool → ℕ → ℕ
keep true n = n
keep false n = 0

kept : (m t : Bool) (n : ℕ) → (m || t) ≡ true → (t ≡ true → n ≡ 0) → n ≡ keep m n
kept true t n p f = refl
kept false t n p f = f p

abbrev no_z : Layout → Bool
no_z l = open_z l.pins && eqb (width reg_z (rest l)) 0

abbrev no_x : Layout → Bool
no_x l = open_x l.pins && eqb (width reg_x (rest l)) 0

abbrev no_y : Layout → Bool
no_y l = eqb (width reg_y (rest l)) 0

abbrev no_n : Row → Bool
no_n r = eqb (width number (rest r.layout)) 0 && eqb (from_field r.rule 0) 0

-- the row has no field for the operands that are not kept
abbrev only : Bool → Bool → Bool → Bool → Row → Bool
only mz mx my mn r = ((mz || no_z r.layout) && (mx || no_x r.layout)) && ((my || no_y r.layout) && (mn || no_n r))

-- so it holds 0 in their place as well
strip : (mz mx my mn : Bool) (r : Row) (z x y n : ℕ) → only mz mx my mn r ≡ true → holds r z x y n ≡ true → holds r (keep mz z) (keep mx x) (keep my y) (keep mn n) ≡ true
strip mz mx my mn r z x y n t s =
    let l = r.layout in
    let q = and_parts _ _ s in
    let f = and_parts _ _ q.1 in
    let g = and_parts _ _ f.1 in
    let a = and_parts ((mz || no_z l) && (mx || no_x l)) ((my || no_y l) && (mn || no_n r)) t in
    let b = and_parts (mz || no_z l) (mx || no_x l) a.0 in
    let c = and_parts (my || no_y l) (mn || no_n r) a.1 in
    let zk = kept mz (no_z l) z b.0 (λ u. let d = and_parts (open_z l.pins) (eqb (width reg_z (rest l)) 0) u in lacking reg_z l z d.1 (z_below l.pins (2 ^ width reg_z (rest l)) (2 ^ width reg_x (rest l)) z x d.0 f.0)) in
    let xk = kept mx (no_x l) x b.1 (λ u. let d = and_parts (open_x l.pins) (eqb (width reg_x (rest l)) 0) u in lacking reg_x l x d.1 (x_below l.pins (2 ^ width reg_z (rest l)) (2 ^ width reg_x (rest l)) z x d.0 f.0)) in
    let yk = kept my (no_y l) y c.0 (λ u. lacking reg_y l y u g.0) in
    let nk = kept mn (no_n r) n c.1 (λ u. let d = and_parts (eqb (width number (rest l)) 0) (eqb (from_field r.rule 0) 0) u in sym (eqb-true _ _ q.0) ∙ ap (from_field r.rule) (lacking number l (to_field r.rule n) d.0 g.1) ∙ eqb-true _ _ d.1) in
    sym (λ i. holds r (zk i) (xk i) (yk i) (nk i)) ∙ s

-- a test that all rows of a group pass
abbrev all : (Row → Bool) → List Row → Bool
all t [] = true
all t (r ∷ rs) = t r && all t rs

abbrev every : {O : Type 0} → (Row → Bool) → (O → List Row) → List O → Bool
every t rs [] = true
every t rs (o ∷ os) = all t (rs o) && every t rs os

in_sized_rows : (s : Size) (r : Row) (rs : List Row) → Member r rs → has_size s r.layout ≡ true → Member r (sized_rows s rs)
in_sized_rows s r [] i l = absurd i
in_sized_rows s r (q ∷ rs) (inl e) l = subst (Member r) (sym (cond-true _ (q ∷ sized_rows s rs) (sized_rows s rs) (ap (λ p. has_size s p.layout) (sym e) ∙ l))) (inl e)
in_sized_rows s r (q ∷ rs) (inr i) l =
    cond_both (has_size s q.layout) (q ∷ sized_rows s rs) (sized_rows s rs) (Member r) (λ _. inr (in_sized_rows s r rs i l)) (λ _. in_sized_rows s r rs i l)

step : (b c : Bool) (g h : ℕ) (o : Option ℕ) → (b ≡ true) ⊎ ((c ≡ true) ⊎ (is_some o ≡ true)) → is_some (cond b (Some g) (cond c (Some h) o)) ≡ true
step true c g h o w = refl
step false true g h o w = refl
step false false g h o (inl e) = absurd (false≢true e)
step false false g h o (inr (inl e)) = absurd (false≢true e)
step false false g h o (inr (inr e)) = e

-- a row that holds the operands, in either order of the sources where that is free, gives a first form
first_some : (c : Bool) (r : Row) (rs : List Row) (z x y n : ℕ) → Member r rs → (holds r z x y n ≡ true) ⊎ ((c && holds r z y x n) ≡ true) → is_some (first c rs z x y n) ≡ true
first_some c r [] z x y n i w = absurd i
first_some c r (q ∷ rs) z x y n (inl e) w = step (holds q z x y n) (c && holds q z y x n) (form q z x y n) (form q z y x n) (first c rs z x y n) (⊎_elim (λ t. inl (subst (λ p. holds p z x y n ≡ true) e t)) (λ t. inr (inl (subst (λ p. (c && holds p z y x n) ≡ true) e t))) w)
first_some c r (q ∷ rs) z x y n (inr i) w = step (holds q z x y n) (c && holds q z y x n) (form q z x y n) (form q z y x n) (first c rs z x y n) (inr (inr (first_some c r rs z x y n i w)))

un_append : (P : Entry → Type 0) (xs ys : List Entry) → In P (xs ++ ys) → In P xs ⊎ In P ys
un_append P [] ys i = inr i
un_append P (x ∷ xs) ys (inl p) = inl (inl p)
un_append P (x ∷ xs) ys (inr i) = ⊎_elim (λ j. inl (inr j)) (λ j. inr j) (un_append P xs ys i)

abbrev OneOf : (Entry → Type 0) → List (List Entry) → Type 0
OneOf P [] = ⊥
OneOf P (s ∷ ss) = In P s ⊎ OneOf P ss

un_joined : (P : Entry → Type 0) (ss : List (List Entry)) → In P (joined ss) → OneOf P ss
un_joined P [] i = i
un_joined P (s ∷ ss) i = ⊎_elim (λ j. inl j) (λ j. inr (un_joined P ss j)) (un_append P s (joined ss) i)

un_sized : (P : Entry → Type 0) (s : Size) (es : List Entry) → In P (sized s es) → In (λ e. P e × (has_size s e.line.layout ≡ true)) es
un_sized P s [] i = i
un_sized P s (e ∷ es) i =
    cond_both (has_size s e.line.layout) (e ∷ sized s es) (sized s es) (λ l. In P l → In (λ k. P k × (has_size s k.line.layout ≡ true)) (e ∷ es)) (λ t. ⊎_elim (λ p. inl (p, t)) (λ j. inr (un_sized P s es j))) (λ _ j. inr (un_sized P s es j)) i

-- the row of a group by which something holds, with the test that it passes
record OfLines (P : Entry → Type 0) (t : Row → Bool) (f : Row → Reading) (rs : List Row) : Type 0 where
  by : Row
  is : Member by rs
  fact : P (record { line = by; reading = f by })
  passes : t by ≡ true

un_lines : (P : Entry → Type 0) (t : Row → Bool) (f : Row → Reading) (rs : List Row) → all t rs ≡ true → In P (lines f rs) → OfLines P t f rs
un_lines P t f [] a i = absurd i
un_lines P t f (r ∷ rs) a (inl p) = record { by = r; is = inl refl; fact = p; passes = (and_parts _ _ a).0 }
un_lines P t f (r ∷ rs) a (inr i) = let k = un_lines P t f rs (and_parts _ _ a).1 i in record { by = k.by; is = inr k.is; fact = k.fact; passes = k.passes }

record OfEach {O : Type 0} (P : Entry → Type 0) (t : Row → Bool) (f : O → Row → Reading) (rs : O → List Row) : Type 0 where
  op : O
  line : OfLines P t (f op) (rs op)

un_each : {O : Type 0} (P : Entry → Type 0) (t : Row → Bool) (f : O → Row → Reading) (rs : O → List Row) (os : List O) → every t rs os ≡ true → In P (each f rs os) → OfEach P t f rs
un_each P t f rs [] a i = absurd i
un_each P t f rs (o ∷ os) a i =
    let p = and_parts _ _ a in
    ⊎_elim (λ j. record { op = o; line = un_lines P t (f o) (rs o) p.0 j }) (λ j. un_each P t f rs os p.1 j) (un_append P (lines (f o) (rs o)) (each f rs os) i)

-- the operation is normal, and has a first form of the size
pub record Formed (s : Size) (o : Operation) : Type 0 where
  pub right : is_normal o ≡ true
  pub some : is_some (form_of s o) ≡ true

formed : (s : Size) (p q : Operation) → Plain p ≡ Plain q → is_normal p ≡ true → is_some (form_of s p) ≡ true → Formed s q
formed s p q e r f = let same : p ≡ q = cc in subst (Formed s) same (record { right = r; some = f })

formed-Test : (s : Size) (o : Operation) (h : ℕ) (p : TestOp) (r : Row) → Member r (test_rows p) → only false true false true r ≡ true → Within s (Plain o) h (record { line = r; reading = test p r }) → Formed s o
formed-Test s o h p r i t ((z, x, y, n, k, m, g), l) = formed s (Test p x n) o m refl (first_some false r (sized_rows s (test_rows p)) 0 x 0 n (in_sized_rows s r (test_rows p) i l) (inl (strip false true false true r z x y n t k)))

formed-Compare : (s : Size) (o : Operation) (h : ℕ) (p : CompareOp) (r : Row) → Member r (compare_rows p) → only false true true false r ≡ true → Within s (Plain o) h (record { line = r; reading = compare p r }) → Formed s o
formed-Compare s o h p r i t ((z, x, y, n, k, m, g), l) = formed s (Compare p x y) o m refl (first_some false r (sized_rows s (compare_rows p)) 0 x y 0 (in_sized_rows s r (compare_rows p) i l) (inl (strip false true true false r z x y n t k)))

formed-Access : (s : Size) (o : Operation) (h : ℕ) (p : AccessOp) (r : Row) → Member r (access_rows p) → only true true false true r ≡ true → Within s (Plain o) h (record { line = r; reading = access p r }) → Formed s o
formed-Access s o h p r i t ((z, x, y, n, k, m, g), l) = formed s (Access p z x n) o m refl (first_some false r (sized_rows s (access_rows p)) z x 0 n (in_sized_rows s r (access_rows p) i l) (inl (strip true true false true r z x y n t k)))

formed-Constant : (s : Size) (o : Operation) (h : ℕ) (p : ConstantOp) (r : Row) → Member r (constant_rows p) → only true false false true r ≡ true → Within s (Plain o) h (record { line = r; reading = constant p r }) → Formed s o
formed-Constant s o h p r i t ((z, x, y, n, k, m, g), l) = formed s (Constant p z n) o m refl (first_some false r (sized_rows s (constant_rows p)) z 0 0 n (in_sized_rows s r (constant_rows p) i l) (inl (strip true false false true r z x y n t k)))

formed-Jump : (s : Size) (o : Operation) (h : ℕ) (p : JumpOp) (r : Row) → Member r (jump_rows p) → only false true false false r ≡ true → Within s (Plain o) h (record { line = r; reading = jump p r }) → Formed s o
formed-Jump s o h p r i t ((z, x, y, n, k, m, g), l) = formed s (Jump p x) o m refl (first_some false r (sized_rows s (jump_rows p)) 0 x 0 0 (in_sized_rows s r (jump_rows p) i l) (inl (strip false true false false r z x y n t k)))

formed-Bkpt : (s : Size) (o : Operation) (h : ℕ) (r : Row) → Member r bkpt_rows → only false false false false r ≡ true → Within s (Plain o) h (record { line = r; reading = bkpt r }) → Formed s o
formed-Bkpt s o h r i t ((z, x, y, n, k, m, g), l) = formed s Bkpt o m refl (first_some false r (sized_rows s bkpt_rows) 0 0 0 0 (in_sized_rows s r bkpt_rows i l) (inl (strip false false false false r z x y n t k)))

ordered : (p : RegisterOp) (x y : ℕ) → (commutes p && ltb y x) ≡ true → not (commutes p && ltb x y) ≡ true
ordered p x y u = let l : y < x = ltb-true y x (and_parts (commutes p) (ltb y x) u).1 in ap not (and_right (commutes p) (ltb x y) (le-ltb x y (omega arith)))

formed-Register : (s : Size) (o : Operation) (h : ℕ) (p : RegisterOp) (r : Row) → Member r (register_rows p) → only true true true false r ≡ true → Within s (Plain o) h (record { line = r; reading = register p r }) → Formed s o
formed-Register s o h p r i t ((z, x, y, n, k, m, g), l) =
    let w = strip true true true false r z x y n t k in
    let j = in_sized_rows s r (register_rows p) i l in
    ⊎_elim
    (λ u. formed s (Register p z y x) o (ap Plain (sym (cond-true _ _ _ u)) ∙ m) (ordered p x y u) (first_some (commutes p) r (sized_rows s (register_rows p)) z y x 0 j (inr (and_from _ _ (and_parts _ _ u).0 w))))
    (λ u. formed s (Register p z x y) o (ap Plain (sym (cond-false _ _ _ u)) ∙ m) (ap not u) (first_some (commutes p) r (sized_rows s (register_rows p)) z x y 0 j (inl w)))
    (cases_Bool (commutes p && ltb y x))

-- mov by the rows of lsli and addi at 0
abbrev Moved : ℕ → ℕ → Size → Type 0
Moved z x s = is_some (form_of s (Move z x)) ≡ true

move_short : (z x : ℕ) → z < 16 → x < 16 → Moved z x short
move_short z x p q = first_some false (row z_x 0x6C03) (sized_rows short move_rows) z x 0 0 (inl refl) (inl (and_from _ _ (and_from _ _ (lt-ltb z 16 p) (lt-ltb x 16 q)) refl))

move_long : (z x : ℕ) → z < 32 → x < 32 → Moved z x long
move_long z x p q = first_some false (row long_zx_v5 0xC4004820) (sized_rows long move_rows) z x 0 0 (inl refl) (inl (and_from _ _ (and_from _ _ (lt-ltb z 32 p) (lt-ltb x 32 q)) refl))

-- by a row of known size
moved : (s : Size) (r q : Row) (z x : ℕ) → r ≡ q → has_size s r.layout ≡ true → (has_size short q.layout ≡ true → (z < 16) × (x < 16)) → (has_size long q.layout ≡ true → (z < 32) × (x < 32)) → Moved z x s
moved short r q z x e l a b = let c = a (subst (λ k. has_size short k.layout ≡ true) e l) in move_short z x c.0 c.1
moved long r q z x e l a b = let c = b (subst (λ k. has_size long k.layout ≡ true) e l) in move_long z x c.0 c.1

at_row : (r q : Row) (z x : ℕ) → r ≡ q → holds r z x 0 0 ≡ true → holds q z x 0 0 ≡ true
at_row r q z x e s = subst (λ k. holds k z x 0 0 ≡ true) e s

two : (a c d : Bool) → ((a && c) && d) ≡ true → (a ≡ true) × (c ≡ true)
two a c d t = and_parts a c (and_parts (a && c) d t).0

by_zero : (s : Size) (p : ImmediateOp) (z x n : ℕ) (r : Row) → Member r (immediate_rows p) → is_move p x n ≡ true → has_size s r.layout ≡ true → holds r z x 0 0 ≡ true → Moved z x s
by_zero s Addi z x n r (inl e) t l k = absurd (false≢true (at_row r (row_by LessOne low_zx_v3 0x5802) z x e k))
by_zero s Addi z x n r (inr (inl e)) t l k = absurd (false≢true (at_row r (row_by LessOne low_zz_v8 0x2000) z x e k))
by_zero s Addi z x n r (inr (inr (inl e))) t l k =
    let q = row_by Quarter low_z_r14_v8 0x1800 in
    let f = two (ltb z 8) (eqb x 14) true (at_row r q z x e k) in
    let u : z < 8 = ltb-true z 8 f.0 in
    let w : x ≡ 14 = eqb-true x 14 f.1 in
    moved s r q z x e l (λ _. (omega arith, omega arith)) (λ b. absurd (false≢true b))
by_zero s Addi z x n r (inr (inr (inr (inl e)))) t l k =
    let q = row_by Quarter r14_r14_v2_v5 0x1400 in
    let f = two (eqb z 14) (eqb x 14) true (at_row r q z x e k) in
    let u : z ≡ 14 = eqb-true z 14 f.0 in
    let w : x ≡ 14 = eqb-true x 14 f.1 in
    moved s r q z x e l (λ _. (omega arith, omega arith)) (λ b. absurd (false≢true b))
by_zero s Addi z x n r (inr (inr (inr (inr (inl e))))) t l k = absurd (false≢true (at_row r (row_by LessOne long_zx_v12 0xE4000000) z x e k))
by_zero s Addi z x n r (inr (inr (inr (inr (inr i))))) t l k = absurd i
by_zero s Lsli z x n r (inl e) t l k =
    let q = row low_zx_v5 0x4000 in
    let f = two (ltb z 8) (ltb x 8) true (at_row r q z x e k) in
    let u : z < 8 = ltb-true z 8 f.0 in
    let w : x < 8 = ltb-true x 8 f.1 in
    moved s r q z x e l (λ _. (omega arith, omega arith)) (λ b. absurd (false≢true b))
by_zero s Lsli z x n r (inr (inl e)) t l k =
    let q = row long_zx_v5 0xC4004820 in
    let f = two (ltb z 32) (ltb x 32) true (at_row r q z x e k) in
    moved s r q z x e l (λ a. absurd (false≢true a)) (λ _. (ltb-true z 32 f.0, ltb-true x 32 f.1))
by_zero s Lsli z x n r (inr (inr i)) t l k = absurd i
by_zero s _ z x n r i t l k = absurd (false≢true t)

zero_moves : (p : ImmediateOp) (x n : ℕ) → is_move p x n ≡ true → n ≡ 0
zero_moves Addi x n t = eqb-true n 0 (and_parts _ _ t).1
zero_moves Lsli x n t = eqb-true n 0 t
zero_moves _ x n t = absurd (false≢true t)

formed-Immediate : (s : Size) (o : Operation) (h : ℕ) (p : ImmediateOp) (r : Row) → Member r (immediate_rows p) → only true true false true r ≡ true → Within s (Plain o) h (record { line = r; reading = immediate p r }) → Formed s o
formed-Immediate s o h p r i t ((z, x, y, n, k, m, g), l) =
    let w = strip true true false true r z x y n t k in
    ⊎_elim
    (λ u. formed s (Move z x) o (ap Plain (sym (cond-true _ _ _ u)) ∙ m) refl (by_zero s p z x n r i u l (subst (λ j. holds r z x 0 j ≡ true) (zero_moves p x n u) w)))
    (λ u. formed s (Immediate p z x n) o (ap Plain (sym (cond-false _ _ _ u)) ∙ m) (ap not u) (first_some false r (sized_rows s (immediate_rows p)) z x 0 n (in_sized_rows s r (immediate_rows p) i l) (inl w)))
    (cases_Bool (is_move p x n))

formed-Move : (s : Size) (o : Operation) (h : ℕ) (r : Row) → Member r short_move_rows → only true true false false r ≡ true → Within s (Plain o) h (record { line = r; reading = move r }) → Formed s o
formed-Move s o h r (inl e) t ((z, x, y, n, k, m, g), l) = formed s (Move z x) o m refl (first_some false r (sized_rows s move_rows) z x 0 0 (in_sized_rows s r move_rows (inl e) l) (inl (strip true true false false r z x y n t k)))
formed-Move s o h r (inr i) t w = absurd i

no_branch : (b : Branch) (d : ℤ) (o : Operation) → Relative b d ≡ Plain o → ⊥
no_branch b d o e = cc

section : (s : Size) (o : Operation) (h : ℕ) → OneOf (Within s (Plain o) h) sections → Formed s o
section s o h (inl i) = let k = un_each (Within s (Plain o) h) (only true true true false) register register_rows register_ops refl i in formed-Register s o h k.op k.line.by k.line.is k.line.passes k.line.fact
section s o h (inr (inl i)) = let k = un_each (Within s (Plain o) h) (only true true false true) immediate immediate_rows immediate_ops refl i in formed-Immediate s o h k.op k.line.by k.line.is k.line.passes k.line.fact
section s o h (inr (inr (inl i))) = let k = un_each (Within s (Plain o) h) (only false true false true) test test_rows test_ops refl i in formed-Test s o h k.op k.line.by k.line.is k.line.passes k.line.fact
section s o h (inr (inr (inr (inl i)))) = let k = un_each (Within s (Plain o) h) (only false true true false) compare compare_rows compare_ops refl i in formed-Compare s o h k.op k.line.by k.line.is k.line.passes k.line.fact
section s o h (inr (inr (inr (inr (inl i))))) = let k = un_each (Within s (Plain o) h) (only true true false true) access access_rows access_ops refl i in formed-Access s o h k.op k.line.by k.line.is k.line.passes k.line.fact
section s o h (inr (inr (inr (inr (inr (inl i)))))) = let k = un_lines (Within s (Plain o) h) (only true true false false) move short_move_rows refl i in formed-Move s o h k.by k.is k.passes k.fact
section s o h (inr (inr (inr (inr (inr (inr (inl i))))))) = let k = un_each (Within s (Plain o) h) (only true false false true) constant constant_rows constant_ops refl i in formed-Constant s o h k.op k.line.by k.line.is k.line.passes k.line.fact
section s o h (inr (inr (inr (inr (inr (inr (inr (inl i)))))))) = let k = un_each (Within s (Plain o) h) (only false true false false) jump jump_rows jump_ops refl i in formed-Jump s o h k.op k.line.by k.line.is k.line.passes k.line.fact
section s o h (inr (inr (inr (inr (inr (inr (inr (inr (inl i))))))))) = let k = un_lines (Within s (Plain o) h) (only false false false false) bkpt bkpt_rows refl i in formed-Bkpt s o h k.by k.is k.passes k.fact
section s o h (inr (inr (inr (inr (inr (inr (inr (inr (inr (inl i)))))))))) = let k = un_each (Within s (Plain o) h) (λ r. true) relative branch_rows branches refl i in absurd (no_branch k.op _ o k.line.fact.0.5)
section s o h (inr (inr (inr (inr (inr (inr (inr (inr (inr (inr (i))))))))))) = absurd i

-- an operation that the table lists is normal, and has a first form of that size
pub listed_formed : (s : Size) (o : Operation) (h : ℕ) → Spells s (Plain o) h → Formed s o
listed_formed s o h i = section s o h (un_joined (Within s (Plain o) h) sections (un_sized (λ e. By e (Plain o) h) s table i))

-- the row by which a branch is listed
pub record OfBranch (s : Size) (b : Branch) (d : ℤ) (h : ℕ) : Type 0 where
  pub by : Row
  pub is : Member by (branch_rows b)
  pub fact : By (record { line = by; reading = relative b by }) (Relative b d) h
  pub size : has_size s by.layout ≡ true

same_branch : (b c : Branch) (d e : ℤ) → Relative c e ≡ Relative b d → c ≡ b
same_branch b c d e p = cc

branch_section : (s : Size) (b : Branch) (d : ℤ) (h : ℕ) → OneOf (Within s (Relative b d) h) sections → OfBranch s b d h
branch_section s b d h (inl i) = let k = un_each (Within s (Relative b d) h) (λ r. true) register register_rows register_ops refl i in absurd (no_branch b d _ (sym k.line.fact.0.5))
branch_section s b d h (inr (inl i)) = let k = un_each (Within s (Relative b d) h) (λ r. true) immediate immediate_rows immediate_ops refl i in absurd (no_branch b d _ (sym k.line.fact.0.5))
branch_section s b d h (inr (inr (inl i))) = let k = un_each (Within s (Relative b d) h) (λ r. true) test test_rows test_ops refl i in absurd (no_branch b d _ (sym k.line.fact.0.5))
branch_section s b d h (inr (inr (inr (inl i)))) = let k = un_each (Within s (Relative b d) h) (λ r. true) compare compare_rows compare_ops refl i in absurd (no_branch b d _ (sym k.line.fact.0.5))
branch_section s b d h (inr (inr (inr (inr (inl i))))) = let k = un_each (Within s (Relative b d) h) (λ r. true) access access_rows access_ops refl i in absurd (no_branch b d _ (sym k.line.fact.0.5))
branch_section s b d h (inr (inr (inr (inr (inr (inl i)))))) = let k = un_lines (Within s (Relative b d) h) (λ r. true) move short_move_rows refl i in absurd (no_branch b d _ (sym k.fact.0.5))
branch_section s b d h (inr (inr (inr (inr (inr (inr (inl i))))))) = let k = un_each (Within s (Relative b d) h) (λ r. true) constant constant_rows constant_ops refl i in absurd (no_branch b d _ (sym k.line.fact.0.5))
branch_section s b d h (inr (inr (inr (inr (inr (inr (inr (inl i)))))))) = let k = un_each (Within s (Relative b d) h) (λ r. true) jump jump_rows jump_ops refl i in absurd (no_branch b d _ (sym k.line.fact.0.5))
branch_section s b d h (inr (inr (inr (inr (inr (inr (inr (inr (inl i))))))))) = let k = un_lines (Within s (Relative b d) h) (λ r. true) bkpt bkpt_rows refl i in absurd (no_branch b d _ (sym k.fact.0.5))
branch_section s b d h (inr (inr (inr (inr (inr (inr (inr (inr (inr (inl i)))))))))) =
    let k = un_each (Within s (Relative b d) h) (λ r. true) relative branch_rows branches refl i in
    let e = same_branch b k.op d _ k.line.fact.0.5 in
    record {
      by = k.line.by;
      is = subst (λ c. Member k.line.by (branch_rows c)) e k.line.is;
      fact = subst (λ c. By (record { line = k.line.by; reading = relative c k.line.by }) (Relative b d) h) e k.line.fact.0;
      size = k.line.fact.1;
    }
branch_section s b d h (inr (inr (inr (inr (inr (inr (inr (inr (inr (inr (i))))))))))) = absurd i

pub listed_branch : (s : Size) (b : Branch) (d : ℤ) (h : ℕ) → Spells s (Relative b d) h → OfBranch s b d h
listed_branch s b d h i = branch_section s b d h (un_joined (Within s (Relative b d) h) sections (un_sized (λ e. By e (Relative b d) h) s table i))
