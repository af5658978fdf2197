-- What is placed in a diagram is taken out again, and what is taken out is placed back.
use Rattle.std.proofs.Common.{◌≡◌, ℕ, zero, suc, ◌+◌, ◌*◌, ◌/◌, ◌%◌, ◌^◌, ◌<◌, Bool, true, false, cond, ◌&&◌, eqb, List, [], ◌∷◌, sym, refl, ap, ◌∙◌, subst, div-one, arith}
use native.Mathlib.Nat.{mod-one}
use lib.Arith.{digits_lt}
use Rattle.std.proofs.lemmas.Bool.{and_parts, and_from, eqb-true, eq-eqb, false≢true}
use Rattle.std.proofs.lemmas.Nat.{pow_pos, pow-add, mod-pow-add, mod_below, shr_high, mod_low, shr_split}
use Rattle.table.specs.Diagram.{Operand, reg_z, reg_x, reg_y, number, Part, fixed, unused, field, slice, bits, index, is, width, place, join, taken, agrees}

pub slice_is : (n p k : ℕ) → slice n p k ≡ n / 2 ^ p % 2 ^ k
slice_is n zero k = ap (λ m. m % 2 ^ k) (sym (div-one n))
slice_is n (suc p) k = refl

pub slice_below : (n p k : ℕ) → slice n p k < 2 ^ k
slice_below n p k = subst (λ m. m < 2 ^ k) (sym (slice_is n p k)) (mod_below (n / 2 ^ p) (2 ^ k) (pow_pos k))

low_below : (n s : ℕ) → n % 2 ^ s < 2 ^ s
low_below n s = mod_below n (2 ^ s) (pow_pos s)

-- the low k + s bits are k bits above s bits
split : (n s k : ℕ) → n % 2 ^ (k + s) ≡ slice n s k * 2 ^ s + n % 2 ^ s
split n s k = mod-pow-add n k s ∙ ap (λ m. m * 2 ^ s + n % 2 ^ s) (sym (slice_is n s k))

pub two_below : (a b s k : ℕ) → a < 2 ^ k → b < 2 ^ s → a * 2 ^ s + b < 2 ^ (k + s)
two_below a b s k p q = subst (λ m. a * 2 ^ s + b < m) (sym (pow-add 2 k s)) (digits_lt p q)

record Two (a b c d : ℕ) : Type 0 where
  high : a ≡ c
  low : b ≡ d

unique : (a b c d s : ℕ) → a * 2 ^ s + b ≡ c * 2 ^ s + d → b < 2 ^ s → d < 2 ^ s → Two a b c d
unique a b c d s e p q = record {
  high = sym (shr_high a s b p) ∙ ap (λ n. n / 2 ^ s) e ∙ shr_high c s d q;
  low = sym (mod_low a s b p) ∙ ap (λ n. n % 2 ^ s) e ∙ mod_low c s d q;
}

join_is : (a k b : ℕ) → b < 2 ^ k → join a k b ≡ a * 2 ^ k + b
join_is a zero b p = omega arith
join_is a (suc k) b p = refl

abbrev named : ℕ → Operand
named zero = reg_z
named (suc zero) = reg_x
named (suc (suc zero)) = reg_y
named (suc (suc (suc n))) = number

named_index : (o : Operand) → named (index o) ≡ o
named_index reg_z = refl
named_index reg_x = refl
named_index reg_y = refl
named_index number = refl

is_same : (o p : Operand) → is o p ≡ true → o ≡ p
is_same o p t = sym (named_index o) ∙ ap named (eqb-true (index o) (index p) t) ∙ named_index p

is_self : (o : Operand) → is o o ≡ true
is_self o = eq-eqb (index o) (index o) refl

-- the word has no bit in a field
abbrev pub clear : List Part → ℕ → Bool
clear [] w = true
clear (fixed k ∷ ps) w = clear ps w
clear (unused k ∷ ps) w = eqb (slice w (bits ps) k) 0 && clear ps w
clear (field o k ∷ ps) w = eqb (slice w (bits ps) k) 0 && clear ps w

one_below : (b : Bool) (a t w k : ℕ) → a < 2 ^ k → t < 2 ^ w → cond b (join a w t) t < 2 ^ cond b (k + w) w
one_below true a t w k p q = subst (λ n. n < 2 ^ (k + w)) (sym (join_is a w t q)) (two_below a t w k p q)
one_below false a t w k p q = q

pub taken_below : (o : Operand) (ps : List Part) (h : ℕ) → taken o ps h < 2 ^ width o ps
taken_below o [] h = omega arith
taken_below o (fixed k ∷ ps) h = taken_below o ps h
taken_below o (unused k ∷ ps) h = taken_below o ps h
taken_below o (field p k ∷ ps) h = one_below (is p o) (slice h (bits ps) k) (taken o ps h) (width o ps) k (slice_below h (bits ps) k) (taken_below o ps h)

-- what stands in the fields of h, where it stands
abbrev inside : List Part → ℕ → ℕ
inside [] h = 0
inside (fixed k ∷ ps) h = inside ps h
inside (unused k ∷ ps) h = inside ps h
inside (field o k ∷ ps) h = slice h (bits ps) k * 2 ^ bits ps + inside ps h

inside_is : (ps : List Part) (w h : ℕ) → clear ps w ≡ true → agrees ps h w ≡ true → h % 2 ^ bits ps ≡ w % 2 ^ bits ps + inside ps h
inside_is [] w h c a = omega arith
inside_is (fixed k ∷ ps) w h c a =
    let p = and_parts _ _ a in
    let e = ap (λ n. n * 2 ^ bits ps) (eqb-true (slice h (bits ps) k) (slice w (bits ps) k) p.0) in
    omega (arith, split h (bits ps) k, split w (bits ps) k, e, inside_is ps w h c p.1)
inside_is (unused k ∷ ps) w h c a =
    let p = and_parts _ _ a in
    let q = and_parts _ _ c in
    let e = ap (λ n. n * 2 ^ bits ps) (eqb-true (slice h (bits ps) k) 0 p.0 ∙ sym (eqb-true (slice w (bits ps) k) 0 q.0)) in
    omega (arith, split h (bits ps) k, split w (bits ps) k, e, inside_is ps w h q.1 p.1)
inside_is (field o k ∷ ps) w h c a =
    let q = and_parts _ _ c in
    let e = ap (λ n. n * 2 ^ bits ps) (eqb-true (slice w (bits ps) k) 0 q.0) in
    omega (arith, split h (bits ps) k, split w (bits ps) k, e, inside_is ps w h q.1 a)

-- operands that are what h holds, as far as there are fields
abbrev pub Holds : List Part → ℕ → (Operand → ℕ) → Type 0
Holds ps h g = (o : Operand) → g o % 2 ^ width o ps ≡ taken o ps h

-- the upper part of an operand, and what is below it
one_held : (g a t w k : ℕ) → t < 2 ^ w → g % 2 ^ (k + w) ≡ join a w t → Two (slice g w k) (g % 2 ^ w) a t
one_held g a t w k p e = unique (slice g w k) (g % 2 ^ w) a t w (sym (split g w k) ∙ e ∙ join_is a w t p) (low_below g w) p

lower : (b : Bool) (g a t w k : ℕ) → t < 2 ^ w → g % 2 ^ cond b (k + w) w ≡ cond b (join a w t) t → g % 2 ^ w ≡ t
lower true g a t w k p e = (one_held g a t w k p e).low
lower false g a t w k p e = e

upper : (b : Bool) (g a t w k : ℕ) → b ≡ true → t < 2 ^ w → g % 2 ^ cond b (k + w) w ≡ cond b (join a w t) t → slice g w k ≡ a
upper true g a t w k b p e = (one_held g a t w k p e).high
upper false g a t w k b p e = absurd (false≢true b)

placed_back : (ps : List Part) (h : ℕ) (g : Operand → ℕ) → Holds ps h g → place ps g ≡ inside ps h
placed_back [] h g e = refl
placed_back (fixed k ∷ ps) h g e = placed_back ps h g e
placed_back (unused k ∷ ps) h g e = placed_back ps h g e
placed_back (field o k ∷ ps) h g e =
    let a = slice h (bits ps) k in
    let i = placed_back ps h g (λ p. lower (is o p) (g p) a (taken p ps h) (width p ps) k (taken_below p ps h) (e p)) in
    let j = upper (is o o) (g o) a (taken o ps h) (width o ps) k (is_self o) (taken_below o ps h) (e o) in
    (λ n. j n * 2 ^ bits ps + i n)

-- h is its word with what it holds in the fields
pub unpack : (ps : List Part) (w h : ℕ) (g : Operand → ℕ) → clear ps w ≡ true → agrees ps h w ≡ true → h / 2 ^ bits ps ≡ w / 2 ^ bits ps → Holds ps h g → h ≡ w + place ps g
unpack ps w h g c a t e =
    let r = ap (λ n. n * 2 ^ bits ps) t in
    omega (arith, shr_split h (bits ps), shr_split w (bits ps), r, inside_is ps w h c a, placed_back ps h g e)

-- operands placed stay within the diagram
place_below : (ps : List Part) (w : ℕ) (g : Operand → ℕ) → clear ps w ≡ true → w % 2 ^ bits ps + place ps g < 2 ^ bits ps
place_below [] w g c = omega arith
place_below (fixed k ∷ ps) w g c = let s = bits ps in subst (λ n. n < 2 ^ (k + s)) (omega (arith, split w s k)) (two_below (slice w s k) (w % 2 ^ s + place ps g) s k (slice_below w s k) (place_below ps w g c))
place_below (unused k ∷ ps) w g c = let s = bits ps in subst (λ n. n < 2 ^ (k + s)) (omega (arith, split w s k)) (two_below (slice w s k) (w % 2 ^ s + place ps g) s k (slice_below w s k) (place_below ps w g (and_parts _ _ c).1))
place_below (field o k ∷ ps) w g c =
    let s = bits ps in
    let q = and_parts _ _ c in
    let e = ap (λ n. n * 2 ^ s) (eqb-true (slice w s k) 0 q.0) in
    subst (λ n. n < 2 ^ (k + s)) (omega (arith, split w s k, e)) (two_below (slice (g o) (width o ps) k) (w % 2 ^ s + place ps g) s k (slice_below (g o) (width o ps) k) (place_below ps w g q.1))

record Fields (ps : List Part) (w h : ℕ) (g : Operand → ℕ) : Type 0 where
  marked : agrees ps h w ≡ true
  holds : (o : Operand) → taken o ps h ≡ g o % 2 ^ width o ps

one_taken : (b : Bool) (g a t w k : ℕ) → (b ≡ true → slice g w k ≡ a) → t ≡ g % 2 ^ w → cond b (join a w t) t ≡ g % 2 ^ cond b (k + w) w
one_taken true g a t w k u e = join_is a w t (subst (λ n. n < 2 ^ w) (sym e) (low_below g w)) ∙ (λ n. sym (u refl) n * 2 ^ w + e n) ∙ sym (split g w k)
one_taken false g a t w k u e = e

fields : (ps : List Part) (w h : ℕ) (g : Operand → ℕ) → clear ps w ≡ true → h % 2 ^ bits ps ≡ w % 2 ^ bits ps + place ps g → Fields ps w h g
fields [] w h g c e = record { marked = refl; holds = λ o. sym (mod-one (g o)) }
fields (fixed k ∷ ps) w h g c e =
    let s = bits ps in
    let t = unique (slice h s k) (h % 2 ^ s) (slice w s k) (w % 2 ^ s + place ps g) s (omega (arith, e, split h s k, split w s k)) (low_below h s) (place_below ps w g c) in
    let f = fields ps w h g c t.low in
    record { marked = and_from _ _ (eq-eqb _ _ t.high) f.marked; holds = f.holds }
fields (unused k ∷ ps) w h g c e =
    let s = bits ps in
    let q = and_parts (eqb (slice w s k) 0) (clear ps w) c in
    let t = unique (slice h s k) (h % 2 ^ s) (slice w s k) (w % 2 ^ s + place ps g) s (omega (arith, e, split h s k, split w s k)) (low_below h s) (place_below ps w g q.1) in
    let f = fields ps w h g q.1 t.low in
    record { marked = and_from _ _ (eq-eqb _ _ (t.high ∙ eqb-true _ _ q.0)) f.marked; holds = f.holds }
fields (field o k ∷ ps) w h g c e =
    let s = bits ps in
    let q = and_parts (eqb (slice w s k) 0) (clear ps w) c in
    let z = ap (λ n. n * 2 ^ s) (eqb-true (slice w s k) 0 q.0) in
    let t = unique (slice h s k) (h % 2 ^ s) (slice (g o) (width o ps) k) (w % 2 ^ s + place ps g) s (omega (arith, e, split h s k, split w s k, z)) (low_below h s) (place_below ps w g q.1) in
    let f = fields ps w h g q.1 t.low in
    record {
      marked = f.marked;
      holds = λ p. one_taken (is o p) (g p) (slice h s k) (taken p ps h) (width p ps) k (λ b. subst (λ r. slice (g r) (width r ps) k ≡ slice h s k) (is_same o p b) (sym t.high)) (f.holds p);
    }

-- a word with operands placed has the word's bits, and holds the operands
pub record Packed (ps : List Part) (w h : ℕ) (g : Operand → ℕ) : Type 0 where
  pub mark : agrees ps h w ≡ true
  pub top : h / 2 ^ bits ps ≡ w / 2 ^ bits ps
  pub held : (o : Operand) → taken o ps h ≡ g o % 2 ^ width o ps

pub pack : (ps : List Part) (w h : ℕ) (g : Operand → ℕ) → clear ps w ≡ true → h ≡ w + place ps g → Packed ps w h g
pack ps w h g c e =
    let s = bits ps in
    let t = unique (h / 2 ^ s) (h % 2 ^ s) (w / 2 ^ s) (w % 2 ^ s + place ps g) s (omega (arith, e, shr_split h s, shr_split w s)) (low_below h s) (place_below ps w g c) in
    let f = fields ps w h g c t.low in
    record { mark = f.marked; top = t.high; held = f.holds }
