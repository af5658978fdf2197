-- The decoder finds exactly the forms of the table.
use Rattle.std.proofs.Common.{◌≡◌, ℕ, ◌+◌, ◌-◌, ◌*◌, ◌/◌, ◌%◌, ◌^◌, ◌<◌, ◌≤◌, Bool, true, false, cond, not, ◌&&◌, ◌||◌, eqb, ltb, leb, List, [], ◌∷◌, Some, None, Option, sym, refl, ap, ◌∙◌, subst, inl, inr, ⊎_elim, mod-eq_of_lt, arith}
use Rattle.std.proofs.lemmas.Bool.{and_parts, and_from, eqb-true, eqb-false, eq-eqb, ltb-true, lt-ltb, leb-true, le-leb, or_cases, cond-true, cond-false, cond_both, false_from_ne_true, not-true, false≢true}
use Rattle.std.proofs.lemmas.Option.{none-some}
use Rattle.std.proofs.lemmas.Nat.{shr_high, shr_split, mod_below, pow_pos}
use Rattle.isa.specs.declared.operation.Instruction.{Instruction}
use Rattle.table.specs.Diagram.{Size, short, long, Operand, reg_z, reg_x, reg_y, number, Part, fixed, unused, field, Pins, free, x_is_z, x_is_r14, both_are_r14, Layout, slice, bits, width, operands, place, taken, agrees, rest, span, registers_fit, fits, z_of, x_of}
use Rattle.table.specs.Laws.{DecodesExactly, Unshared, ToldApart}
use Rattle.isa.specs.declared.rule.Rule.{Rule}
use Rattle.isa.specs.declared.rule.Rule.TheVariants.{Plain, LessOne, Half, Quarter}
use Rattle.table.specs.Table.{to_field, from_field, Row}
use Rattle.table.specs.Decode.{Entry, By, Among, start, matches, meaning, scan, sized, table, decode, between}
use Rattle.table.proofs.Packing.{clear, Holds, taken_below, unpack, Packed, pack}

-- a pinned register has no field
abbrev unpinned : Pins → List Part → Bool
unpinned free ps = true
unpinned x_is_z ps = eqb (width reg_x ps) 0
unpinned x_is_r14 ps = eqb (width reg_x ps) 0
unpinned both_are_r14 ps = eqb (width reg_z ps) 0 && eqb (width reg_x ps) 0

-- the word has no bit in a field
abbrev pub sits : Row → Bool
sits r = clear (rest r.layout) r.word && unpinned r.layout.pins (rest r.layout)

held : (o : Operand) (ps : List Part) (h : ℕ) → taken o ps h % 2 ^ width o ps ≡ taken o ps h
held o ps h = mod-eq_of_lt (taken_below o ps h)

unheld : (o : Operand) (ps : List Part) (h n : ℕ) → eqb (width o ps) 0 ≡ true → n % 2 ^ width o ps ≡ taken o ps h
unheld o ps h n t =
    let e : width o ps ≡ 0 = eqb-true (width o ps) 0 t in
    let p : taken o ps h < 2 ^ 0 = subst (λ k. taken o ps h < 2 ^ k) e (taken_below o ps h) in
    ap (λ k. n % 2 ^ k) e ∙ omega arith

z_held : (p : Pins) (ps : List Part) (h : ℕ) → unpinned p ps ≡ true → z_of p ps h % 2 ^ width reg_z ps ≡ taken reg_z ps h
z_held free ps h t = held reg_z ps h
z_held x_is_z ps h t = held reg_z ps h
z_held x_is_r14 ps h t = held reg_z ps h
z_held both_are_r14 ps h t = unheld reg_z ps h 14 (and_parts _ _ t).0

x_held : (p : Pins) (ps : List Part) (h : ℕ) → unpinned p ps ≡ true → x_of p ps h % 2 ^ width reg_x ps ≡ taken reg_x ps h
x_held free ps h t = held reg_x ps h
x_held x_is_z ps h t = unheld reg_x ps h _ t
x_held x_is_r14 ps h t = unheld reg_x ps h 14 t
x_held both_are_r14 ps h t = unheld reg_x ps h 14 (and_parts _ _ t).1

all_held : (p : Pins) (ps : List Part) (h : ℕ) → unpinned p ps ≡ true → Holds ps h (operands (z_of p ps h) (x_of p ps h) (taken reg_y ps h) (taken number ps h))
all_held p ps h t reg_z = z_held p ps h t
all_held p ps h t reg_x = x_held p ps h t
all_held p ps h t reg_y = held reg_y ps h
all_held p ps h t number = held number ps h

-- what is taken out fits
taken_registers_fit : (p : Pins) (ps : List Part) (h : ℕ) → registers_fit p (2 ^ width reg_z ps) (2 ^ width reg_x ps) (z_of p ps h) (x_of p ps h) ≡ true
taken_registers_fit free ps h = and_from _ _ (lt-ltb _ _ (taken_below reg_z ps h)) (lt-ltb _ _ (taken_below reg_x ps h))
taken_registers_fit x_is_z ps h = and_from _ _ (lt-ltb _ _ (taken_below reg_z ps h)) (eq-eqb _ _ refl)
taken_registers_fit x_is_r14 ps h = and_from _ _ (lt-ltb _ _ (taken_below reg_z ps h)) refl
taken_registers_fit both_are_r14 ps h = refl

taken_fits : (l : Layout) (h : ℕ) → fits l (z_of l.pins (rest l) h) (x_of l.pins (rest l) h) (taken reg_y (rest l) h) (taken number (rest l) h) ≡ true
taken_fits l h = and_from _ _ (taken_registers_fit l.pins (rest l) h) (and_from _ _ (lt-ltb _ _ (taken_below reg_y (rest l) h)) (lt-ltb _ _ (taken_below number (rest l) h)))

-- what fits is taken out again
read : (o : Operand) (ps : List Part) (w h : ℕ) (g : Operand → ℕ) → Packed ps w h g → ltb (g o) (2 ^ width o ps) ≡ true → taken o ps h ≡ g o
read o ps w h g p t = p.held o ∙ mod-eq_of_lt (ltb-true _ _ t)

z_read : (p : Pins) (ps : List Part) (w h z x y v : ℕ) → Packed ps w h (operands z x y v) → registers_fit p (2 ^ width reg_z ps) (2 ^ width reg_x ps) z x ≡ true → z_of p ps h ≡ z
z_read free ps w h z x y v k t = read reg_z ps w h (operands z x y v) k (and_parts _ _ t).0
z_read x_is_z ps w h z x y v k t = read reg_z ps w h (operands z x y v) k (and_parts _ _ t).0
z_read x_is_r14 ps w h z x y v k t = read reg_z ps w h (operands z x y v) k (and_parts _ _ t).0
z_read both_are_r14 ps w h z x y v k t = sym (eqb-true z 14 (and_parts _ _ t).0)

x_read : (p : Pins) (ps : List Part) (w h z x y v : ℕ) → Packed ps w h (operands z x y v) → registers_fit p (2 ^ width reg_z ps) (2 ^ width reg_x ps) z x ≡ true → x_of p ps h ≡ x
x_read free ps w h z x y v k t = read reg_x ps w h (operands z x y v) k (and_parts _ _ t).1
x_read x_is_z ps w h z x y v k t = read reg_z ps w h (operands z x y v) k (and_parts _ _ t).0 ∙ sym (eqb-true x z (and_parts _ _ t).1)
x_read x_is_r14 ps w h z x y v k t = sym (eqb-true x 14 (and_parts _ _ t).1)
x_read both_are_r14 ps w h z x y v k t = sym (eqb-true x 14 (and_parts _ _ t).1)

-- h has the word in it
record Has (r : Row) (h : ℕ) : Type 0 where
  mark : agrees (rest r.layout) h r.word ≡ true
  from : start r ≤ h
  to : h < start r + span r.layout

has_from : (r : Row) (h : ℕ) → matches r h ≡ true → Has r h
has_from r h t =
    let p = and_parts _ _ t in
    let q = and_parts _ _ p.1 in
    record { mark = p.0; from = leb-true _ _ q.0; to = ltb-true _ _ q.1 }

has_to : (r : Row) (h : ℕ) → Has r h → matches r h ≡ true
has_to r h m = and_from _ _ m.mark (and_from _ _ (le-leb _ _ m.from) (lt-ltb _ _ m.to))

-- the range of a row is its highest bits
same_top : (s q h : ℕ) → q * 2 ^ s ≤ h → h < q * 2 ^ s + 2 ^ s → h / 2 ^ s ≡ q
same_top s q h a b = let e : q * 2 ^ s + (h - q * 2 ^ s) ≡ h = omega arith in ap (λ n. n / 2 ^ s) (sym e) ∙ shr_high q s (h - q * 2 ^ s) (omega arith)

field_back : (r : Rule) (v : ℕ) → to_field r (from_field r v) ≡ v
field_back Plain v = refl
field_back LessOne v = omega arith
field_back Half v = omega arith
field_back Quarter v = omega arith

-- a row that matches h spells its fields by h
here : (e : Entry) (h : ℕ) → sits e.line ≡ true → matches e.line h ≡ true → By e (meaning e h) h
here e h s t =
    let l = e.line.layout in
    let ps = rest l in
    let w = e.line.word in
    let z = z_of l.pins ps h in
    let x = x_of l.pins ps h in
    let y = taken reg_y ps h in
    let v = field_back e.line.rule (taken number ps h) in
    let m = has_from e.line h t in
    let c = and_parts _ _ s in (
      z,
      x,
      y,
      from_field e.line.rule (taken number ps h),
      and_from _ _ (eq-eqb _ _ (ap (from_field e.line.rule) v)) (ap (fits l z x y) v ∙ taken_fits l h),
      refl,
      unpack ps w h (operands z x y (taken number ps h)) c.0 m.mark (same_top (bits ps) (w / 2 ^ bits ps) h m.from m.to) (all_held l.pins ps h c.1) ∙ sym (ap (λ n. w + place ps (operands z x y n)) v),
    )

-- a row that spells operands by h matches h, and reads them from_field
record There (e : Entry) (a : Instruction) (h : ℕ) : Type 0 where
  is : matches e.line h ≡ true
  gives : meaning e h ≡ a

there : (e : Entry) (a : Instruction) (h : ℕ) → sits e.line ≡ true → By e a h → There e a h
there e a h s (z, x, y, n, t, m, f) =
    let q = and_parts _ _ t in
    let r = e.line.rule in
    let l = e.line.layout in
    let ps = rest l in
    let w = e.line.word in
    let g = operands z x y (to_field r n) in
    let k = pack ps w h g (and_parts _ _ s).0 f in
    let u = and_parts _ _ q.1 in
    let v = and_parts _ _ u.1 in
    let z-is = z_read l.pins ps w h z x y (to_field r n) k u.0 in
    let x-is = x_read l.pins ps w h z x y (to_field r n) k u.0 in
    let y-is = read reg_y ps w h g k v.0 in
    let b : from_field r (taken number ps h) ≡ n = ap (from_field r) (read number ps w h g k v.1) ∙ eqb-true _ _ q.0 in
    let c : h / 2 ^ bits ps * 2 ^ bits ps ≡ w / 2 ^ bits ps * 2 ^ bits ps = ap (λ i. i * 2 ^ bits ps) k.top in
    let d = mod_below h (2 ^ bits ps) (pow_pos (bits ps)) in
    record {
      is = has_to e.line h (record { mark = k.mark; from = omega (arith, shr_split h (bits ps), c, d); to = omega (arith, shr_split h (bits ps), c, d) });
      gives = (λ i. e.reading (z-is i) (x-is i) (y-is i) (b i)) ∙ m;
    }

-- no form is in both rows: their ranges are apart, or fixed bits in the same place differ
abbrev other : ℕ → ℕ → ℕ → List Part → ℕ → Bool
other s k c [] u = false
other s k c (fixed j ∷ qs) u = ((eqb s (bits qs) && eqb k j) && not (eqb c (slice u s k))) || other s k c qs u
other s k c (unused j ∷ qs) u = other s k c qs u
other s k c (field o j ∷ qs) u = other s k c qs u

abbrev differ : List Part → List Part → ℕ → ℕ → Bool
differ [] qs w u = false
differ (fixed k ∷ ps) qs w u = other (bits ps) k (slice w (bits ps) k) qs u || differ ps qs w u
differ (unused k ∷ ps) qs w u = differ ps qs w u
differ (field o k ∷ ps) qs w u = differ ps qs w u

abbrev disjoint : Row → Row → Bool
disjoint r s = leb (start r + span r.layout) (start s) || (leb (start s + span s.layout) (start r) || differ (rest r.layout) (rest s.layout) r.word s.word)

other_sound : (s k c h : ℕ) (qs : List Part) (u : ℕ) → other s k c qs u ≡ true → agrees qs h u ≡ true → slice h s k ≡ c → ⊥
other_sound s k c h [] u t a e = false≢true t
other_sound s k c h (fixed j ∷ qs) u t a e =
    let b = and_parts _ _ a in
    ⊎_elim
    (λ d.
    let f = and_parts _ _ d in
    let g = and_parts _ _ f.0 in
    let i = subst (λ n. slice h n k ≡ slice u n k) (sym (eqb-true s (bits qs) g.0)) (subst (λ n. slice h (bits qs) n ≡ slice u (bits qs) n) (sym (eqb-true k j g.1)) (eqb-true _ _ b.0)) in
    eqb-false c (slice u s k) (not-true _ f.1) (sym e ∙ i))
    (λ d. other_sound s k c h qs u d b.1 e)
    (or_cases _ _ t)
other_sound s k c h (unused j ∷ qs) u t a e = other_sound s k c h qs u t (and_parts _ _ a).1 e
other_sound s k c h (field o j ∷ qs) u t a e = other_sound s k c h qs u t a e

differ_sound : (ps qs : List Part) (w u h : ℕ) → differ ps qs w u ≡ true → agrees ps h w ≡ true → agrees qs h u ≡ true → ⊥
differ_sound [] qs w u h t a b = false≢true t
differ_sound (fixed k ∷ ps) qs w u h t a b =
    let p = and_parts _ _ a in
    ⊎_elim (λ d. other_sound (bits ps) k (slice w (bits ps) k) h qs u d b (eqb-true _ _ p.0)) (λ d. differ_sound ps qs w u h d p.1 b) (or_cases _ _ t)
differ_sound (unused k ∷ ps) qs w u h t a b = differ_sound ps qs w u h t (and_parts _ _ a).1 b
differ_sound (field o k ∷ ps) qs w u h t a b = differ_sound ps qs w u h t a b

disjoint_sound : (r s : Row) (h : ℕ) → disjoint r s ≡ true → matches r h ≡ true → matches s h ≡ true → ⊥
disjoint_sound r s h t a b =
    let i = has_from r h a in
    let j = has_from s h b in
    ⊎_elim
    (λ (c : leb (start r + span r.layout) (start s) ≡ true). omega (arith, leb-true (start r + span r.layout) (start s) c, i.from, i.to, j.from, j.to))
    (λ c. ⊎_elim (λ (d : leb (start s + span s.layout) (start r) ≡ true). omega (arith, leb-true (start s + span s.layout) (start r) d, i.from, i.to, j.from, j.to)) (λ d. differ_sound (rest r.layout) (rest s.layout) r.word s.word h d i.mark j.mark) (or_cases _ _ c))
    (or_cases _ _ t)

-- what antt computes of the table: each word sits in its layout, and no two rows share a form
abbrev pub sitting : List Entry → Bool
sitting [] = true
sitting (e ∷ es) = sits e.line && sitting es

abbrev pub away : Row → List Entry → Bool
away r [] = true
away r (e ∷ es) = disjoint r e.line && away r es

abbrev pub distinct : List Entry → Bool
distinct [] = true
distinct (e ∷ es) = away e.line es && distinct es

some_is : (i j : Instruction) → Some i ≡ Some j → i ≡ j
some_is i j e = cc

-- what a scan finds is spelled
sound : (es : List Entry) (i : Instruction) (h : ℕ) → sitting es ≡ true → scan es h ≡ Some i → Among es i h
sound [] i h s e = absurd (none-some i e)
sound (e ∷ es) i h s f =
    let p = and_parts _ _ s in
    cond_both (matches e.line h) _ _ (λ o. o ≡ Some i → Among (e ∷ es) i h)
    (λ t g. inl (subst (λ j. By e j h) (some_is (meaning e h) i g) (here e h p.0 t)))
    (λ _ g. inr (sound es i h p.1 g))
    f

passed : (r : Row) (es : List Entry) (i : Instruction) (h : ℕ) → sitting es ≡ true → away r es ≡ true → Among es i h → matches r h ≡ true → ⊥
passed r [] i h s t n m = n
passed r (e ∷ es) i h s t n m =
    let p = and_parts _ _ s in
    let q = and_parts _ _ t in
    ⊎_elim (λ b. disjoint_sound r e.line h q.0 m (there e i h p.0 b).is) (λ k. passed r es i h p.1 q.1 k m) n

-- what is spelled is found by a scan
complete : (es : List Entry) (i : Instruction) (h : ℕ) → sitting es ≡ true → distinct es ≡ true → Among es i h → scan es h ≡ Some i
complete [] i h s t n = absurd n
complete (e ∷ es) i h s t n =
    let p = and_parts _ _ s in
    let q = and_parts _ _ t in
    ⊎_elim
    (λ b. let f = there e i h p.0 b in cond-true _ (Some (meaning e h)) (scan es h) f.is ∙ ap Some f.gives)
    (λ k. cond_both (matches e.line h) _ _ (λ o. o ≡ Some i) (λ m. absurd (passed e.line es i h p.1 q.0 k m)) (λ _. complete es i h p.1 q.1 k))
    n

table_sits : (s : Size) → sitting (sized s table) ≡ true
table_sits short = refl
table_sits long = refl

table_distinct : (s : Size) → distinct (sized s table) ≡ true
table_distinct short = refl
table_distinct long = refl

found_or_not : (o : Option Instruction) → ((i : Instruction) → o ≡ Some i → ⊥) → o ≡ None
found_or_not None n = refl
found_or_not (Some i) n = absurd (n i refl)

pub decodes_exactly : (s : Size) → DecodesExactly s
unfolding decode
decodes_exactly s = record {
  spelled = λ i h e. sound (sized s table) i h (table_sits s) e;
  decoded = λ i h n. complete (sized s table) i h (table_sits s) (table_distinct s) n;
  unknown = λ h n. found_or_not (scan (sized s table) h) (λ i e. n i (sound (sized s table) i h (table_sits s) e));
}

pub unshared : (s : Size) → Unshared s
unshared s i j h p q = let d = decodes_exactly s in some_is i j (sym (d.decoded i h p) ∙ d.decoded j h q)

-- every form of some entries lies from lo to below hi
abbrev within : ℕ → ℕ → List Entry → Bool
within lo hi [] = true
within lo hi (e ∷ es) = (leb lo (start e.line) && leb (start e.line + span e.line.layout) hi) && within lo hi es

within_sound : (lo hi : ℕ) (es : List Entry) (i : Instruction) (h : ℕ) → sitting es ≡ true → within lo hi es ≡ true → Among es i h → (lo ≤ h) × (h < hi)
within_sound lo hi [] i h s t n = absurd n
within_sound lo hi (e ∷ es) i h s t n =
    let p = and_parts _ _ s in
    let q = and_parts _ _ t in
    let b = and_parts _ _ q.0 in
    ⊎_elim
    (λ k. let m = has_from e.line h (there e i h p.0 k).is in let l : lo ≤ start e.line = leb-true _ _ b.0 in let u : start e.line + span e.line.layout ≤ hi = leb-true _ _ b.1 in (omega (arith, l, m.from), omega (arith, u, m.to)))
    (λ k. within_sound lo hi es i h p.1 q.1 k)
    n

pub told_apart : ToldApart
told_apart = record {
  halfword = λ i h n. (within_sound 0 0xC000 (sized short table) i h refl refl n).1;
  word = λ i w n. within_sound 0xC0000000 0x100000000 (sized long table) i w refl refl n;
}

outside : (lo hi : ℕ) (r : Row) (h : ℕ) → lo ≤ h → h < hi → (leb (start r + span r.layout) lo || leb hi (start r)) ≡ true → matches r h ≡ false
outside lo hi r h a b t =
    false_from_ne_true (matches r h) (λ m.
    let i = has_from r h m in
    ⊎_elim (λ (c : leb (start r + span r.layout) lo ≡ true). omega (arith, leb-true (start r + span r.layout) lo c, i.from, i.to)) (λ (c : leb hi (start r) ≡ true). omega (arith, leb-true hi (start r) c, i.from, i.to)) (or_cases _ _ t))

-- only entries with a form near h count
pub narrow : (lo hi : ℕ) (es : List Entry) (h : ℕ) → lo ≤ h → h < hi → scan es h ≡ scan (between lo hi es) h
narrow lo hi [] h a b = refl
narrow lo hi (e ∷ es) h a b =
    cond_both (leb (start e.line + span e.line.layout) lo || leb hi (start e.line)) (between lo hi es) (e ∷ between lo hi es) (λ l. scan (e ∷ es) h ≡ scan l h)
    (λ t. cond-false _ (Some (meaning e h)) (scan es h) (outside lo hi e.line h a b t) ∙ narrow lo hi es h a b)
    (λ _. ap (cond (matches e.line h) (Some (meaning e h))) (narrow lo hi es h a b))

pub by_range : (s : Size) (lo hi h : ℕ) (r : Option Instruction) → lo ≤ h → h < hi → r ≡ scan (between lo hi (sized s table)) h → r ≡ decode s h
unfolding decode
by_range s lo hi h r a b e = e ∙ sym (narrow lo hi (sized s table) h a b)
