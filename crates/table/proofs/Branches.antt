-- The forms of branches.
use Rattle.std.proofs.Common.{◌≡◌, ℕ, suc, ◌+◌, ◌-◌, ◌*◌, ◌%◌, ◌^◌, ◌<◌, ◌≤◌, true, false, cond, ◌&&◌, eqb, ltb, [], ◌∷◌, ℤ, pos, negsuc, ◌-ℤ◌, Some, None, Option, sym, refl, ap, ◌∙◌, subst, inl, inr, add-zero, mod-eq_of_lt, arith}
use Rattle.std.proofs.lemmas.Bool.{and_parts, and_from, eq-eqb, ltb-true, lt-ltb, ltb-false, le-ltb, cond-true, cond-false, cond_both, true≢false}
use Rattle.std.proofs.lemmas.Int.{ints}
use Rattle.std.proofs.lemmas.Option.{none-some, cond_some}
use Rattle.isa.specs.declared.operation.Branch.{Branch}
use Rattle.isa.specs.declared.operation.Branch.TheVariants.{Br, Bt, Bf, Bsr}
use Rattle.isa.specs.declared.operation.Instruction.TheVariants.{Relative}
use Rattle.table.specs.Diagram.{Size, short, long, has_size, fixed, v, free, layout, fits}
use Rattle.table.specs.Table.{Row, row, branch_rows}
use Rattle.table.specs.Decode.{By, Spells, form, relative, signed}
use Rattle.table.specs.Encode.{complement, field_of, plus, first_branch, sized_rows, branch_form}
use Rattle.table.specs.Laws.{FormsOfBranches}
use Rattle.table.proofs.Rows.{Member, in_branches, some_same}
use Rattle.table.proofs.Listed.{listed_branch}

-- two's complement, to a field and back
from_complement : (m f n : ℕ) (d : ℤ) → f ≡ 2 * m → complement m f d ≡ Some n → (n < f) × (cond (ltb n m) (pos n) (pos n -ℤ pos f) ≡ d)
from_complement m f n (pos k) e c =
    let q = cond_some (ltb k m) k n c in
    let l : k < m = ltb-true k m q.0 in
    (omega (arith, q.1), subst (λ j. cond (ltb j m) (pos j) (pos j -ℤ pos f) ≡ pos k) q.1 (cond-true _ (pos k) (pos k -ℤ pos f) q.0))
from_complement m f n (negsuc k) e c =
    let q = cond_some (ltb k m) (f - suc k) n c in
    let l : k < m = ltb-true k m q.0 in
    let s : f - suc k ≡ n = q.1 in
    let u : ltb n m ≡ false = le-ltb n m (omega arith) in
    let g : pos n -ℤ pos f ≡ negsuc k = omega (arith, ints) in
    (omega arith, cond-false _ (pos n) (pos n -ℤ pos f) u ∙ g)

to_complement : (m f n : ℕ) → f ≡ 2 * m → n < f → complement m f (cond (ltb n m) (pos n) (pos n -ℤ pos f)) ≡ Some n
to_complement m f n e l =
    cond_both (ltb n m) (pos n) (pos n -ℤ pos f) (λ d. complement m f d ≡ Some n)
    (λ t. cond-true _ (Some n) None t)
    (λ t.
    let k : m ≤ n = ltb-false n m t in
    let g : pos n -ℤ pos f ≡ negsuc (f - suc n) = omega (arith, ints) in
    let u : ltb (f - suc n) m ≡ true = lt-ltb (f - suc n) m (omega arith) in
    let a : f - suc (f - suc n) ≡ n = omega arith in
    ap (complement m f) g ∙ cond-true _ (Some (f - suc (f - suc n))) None u ∙ ap Some a)

record Plus (w : ℕ) (o : Option ℕ) (h : ℕ) : Type 0 where
  value : ℕ
  is : o ≡ Some value
  sum : h ≡ w + value

plus_some : (w : ℕ) (o : Option ℕ) (h : ℕ) → plus w o ≡ Some h → Plus w o h
plus_some w None h e = absurd (none-some h e)
plus_some w (Some n) h e = record { value = n; is = refl; sum = some_same (w + n) h e }

-- a row whose only field is a displacement of k bits
abbrev offset : ℕ → ℕ → ℕ → Row
offset j k w = row (layout free (fixed j ∷ v k ∷ [])) w

offset_form : (j k w z x y n : ℕ) → n < 2 ^ (k + 0) → form (offset j k w) z x y n ≡ w + n
offset_form j k w z x y n l =
    let e : 2 ^ (k + 0) ≡ 2 ^ k = ap (λ i. 2 ^ i) (add-zero k) in
    let m : n % 2 ^ k ≡ n = mod-eq_of_lt (subst (λ i. n < i) e l) in
    omega (arith, m)

spells_offset : (b : Branch) (j k w : ℕ) (d : ℤ) (h : ℕ) → 2 ^ (k + 0) ≡ 2 * 2 ^ (k + 0 - 1) → plus w (field_of (k + 0) d) ≡ Some h → By (record { line = offset j k w; reading = relative b (offset j k w) }) (Relative b d) h
spells_offset b j k w d h t e =
    let p = plus_some w (field_of (k + 0) d) h e in
    let c = from_complement (2 ^ (k + 0 - 1)) (2 ^ (k + 0)) p.value d t p.is in
    (0, 0, 0, p.value, and_from _ _ (eq-eqb p.value p.value refl) (lt-ltb p.value (2 ^ (k + 0)) c.0), ap (Relative b) c.1, p.sum ∙ sym (offset_form j k w 0 0 0 p.value c.0))

only_offset : (b : Branch) (j k w : ℕ) (d : ℤ) (h : ℕ) → 2 ^ (k + 0) ≡ 2 * 2 ^ (k + 0 - 1) → By (record { line = offset j k w; reading = relative b (offset j k w) }) (Relative b d) h → plus w (field_of (k + 0) d) ≡ Some h
only_offset b j k w d h t (z, x, y, n, q, m, f) =
    let p : fits (layout free (fixed j ∷ v k ∷ [])) z x y n ≡ true = (and_parts (eqb n n) (fits (layout free (fixed j ∷ v k ∷ [])) z x y n) q).1 in
    let l : n < 2 ^ (k + 0) = ltb-true n (2 ^ (k + 0)) (and_parts (ltb y 1) (ltb n (2 ^ (k + 0))) (and_parts (ltb z 1 && ltb x 1) (ltb y 1 && ltb n (2 ^ (k + 0))) p).1).1 in
    let e : signed (k + 0) n ≡ d = cc in
    ap (λ i. plus w (field_of (k + 0) i)) (sym e) ∙ ap (plus w) (to_complement (2 ^ (k + 0 - 1)) (2 ^ (k + 0)) n t l) ∙ ap Some (sym (offset_form j k w z x y n l) ∙ sym f)

spells_branch : (s : Size) (b : Branch) (d : ℤ) (h : ℕ) → branch_form s b d ≡ Some h → Spells s (Relative b d) h
spells_branch short Br d h e = in_branches short Br _ h (offset 6 10 0x0400) (inl refl) (spells_offset Br 6 10 0x0400 d h refl e, refl)
spells_branch long Br d h e = in_branches long Br _ h (offset 16 16 0xE8000000) (inr (inl refl)) (spells_offset Br 16 16 0xE8000000 d h refl e, refl)
spells_branch short Bt d h e = in_branches short Bt _ h (offset 6 10 0x0800) (inl refl) (spells_offset Bt 6 10 0x0800 d h refl e, refl)
spells_branch long Bt d h e = in_branches long Bt _ h (offset 16 16 0xE8600000) (inr (inl refl)) (spells_offset Bt 16 16 0xE8600000 d h refl e, refl)
spells_branch short Bf d h e = in_branches short Bf _ h (offset 6 10 0x0C00) (inl refl) (spells_offset Bf 6 10 0x0C00 d h refl e, refl)
spells_branch long Bf d h e = in_branches long Bf _ h (offset 16 16 0xE8400000) (inr (inl refl)) (spells_offset Bf 16 16 0xE8400000 d h refl e, refl)
spells_branch short Bsr d h e = absurd (none-some h e)
spells_branch long Bsr d h e = in_branches long Bsr _ h (offset 6 26 0xE0000000) (inl refl) (spells_offset Bsr 6 26 0xE0000000 d h refl e, refl)

-- a branch's entry, at the row that it has
at_row : (b : Branch) (r q : Row) (d : ℤ) (h : ℕ) → r ≡ q → By (record { line = r; reading = relative b r }) (Relative b d) h → By (record { line = q; reading = relative b q }) (Relative b d) h
at_row b r q d h e f = subst (λ p. By (record { line = p; reading = relative b p }) (Relative b d) h) e f

-- a row that is not of the size
wrong_size : (s : Size) (r q : Row) → r ≡ q → has_size s r.layout ≡ true → has_size s q.layout ≡ false → ⊥
wrong_size s r q e t f = true≢false (sym t ∙ ap (λ p. has_size s p.layout) e ∙ f)

-- the two rows of br, bt and bf
one_of_two : (s : Size) (b : Branch) (u w : ℕ) (d : ℤ) (h : ℕ) (r : Row) → Member r (offset 6 10 u ∷ offset 16 16 w ∷ []) → has_size s r.layout ≡ true → By (record { line = r; reading = relative b r }) (Relative b d) h → first_branch (sized_rows s (offset 6 10 u ∷ offset 16 16 w ∷ [])) d ≡ Some h
one_of_two short b u w d h r (inl e) t f = only_offset b 6 10 u d h refl (at_row b r (offset 6 10 u) d h e f)
one_of_two long b u w d h r (inl e) t f = absurd (wrong_size long r (offset 6 10 u) e t refl)
one_of_two short b u w d h r (inr (inl e)) t f = absurd (wrong_size short r (offset 16 16 w) e t refl)
one_of_two long b u w d h r (inr (inl e)) t f = only_offset b 16 16 w d h refl (at_row b r (offset 16 16 w) d h e f)
one_of_two s b u w d h r (inr (inr i)) t f = absurd i

only_branch : (s : Size) (b : Branch) (d : ℤ) (h : ℕ) (r : Row) → Member r (branch_rows b) → has_size s r.layout ≡ true → By (record { line = r; reading = relative b r }) (Relative b d) h → branch_form s b d ≡ Some h
only_branch s Br d h r i t f = one_of_two s Br 0x0400 0xE8000000 d h r i t f
only_branch s Bt d h r i t f = one_of_two s Bt 0x0800 0xE8600000 d h r i t f
only_branch s Bf d h r i t f = one_of_two s Bf 0x0C00 0xE8400000 d h r i t f
only_branch short Bsr d h r (inl e) t f = absurd (wrong_size short r (offset 6 26 0xE0000000) e t refl)
only_branch long Bsr d h r (inl e) t f = only_offset Bsr 6 26 0xE0000000 d h refl (at_row Bsr r (offset 6 26 0xE0000000) d h e f)
only_branch s Bsr d h r (inr i) t f = absurd i

pub forms_of_branches : (s : Size) → FormsOfBranches s
forms_of_branches s = record {
  form = spells_branch s;
  only = λ b d h i. let o = listed_branch s b d h i in only_branch s b d h o.by o.is o.size o.fact;
}
