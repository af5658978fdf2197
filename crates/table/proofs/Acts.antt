-- Acts are what the table's forms spell, and the form used is least.
use Rattle.std.proofs.Common.{◌≡◌, ℕ, ◌≤◌, true, false, ◌||◌, is_some, Some, None, Option, sym, refl, ap, ◌∙◌, subst, arith}
use Rattle.std.proofs.lemmas.Bool.{and_parts, and_from, and_right, or_left, or_right, false≢true}
use Rattle.std.proofs.lemmas.Option.{none-some}
use Rattle.isa.specs.declared.operation.Operation.{Operation}
use Rattle.isa.specs.declared.operation.Instruction.{Instruction}
use Rattle.isa.specs.declared.operation.Instruction.TheVariants.{Plain, Relative}
use Rattle.isa.specs.declared.form.Form.{Form}
use Rattle.isa.specs.declared.form.Form.TheVariants.{Short, Long}
use Rattle.isa.specs.Normal.{is_normal}
use Rattle.isa.specs.Bytes.{size}
use Rattle.table.specs.Diagram.{Size, short, long}
use Rattle.table.specs.Decode.{Spells, decode}
use Rattle.table.specs.Encode.{form_of, has_form, is_act, branch_form, least}
use Rattle.table.specs.Laws.{FormsOfActs, ActsHaveForms, Spelled, Least, UsesLeast}
use Rattle.table.proofs.Rows.{form_spells}
use Rattle.table.proofs.Decoding.{decodes_exactly}
use Rattle.table.proofs.Listed.{listed_formed}
use Rattle.table.proofs.Branches.{forms_of_branches}

-- one of the two sizes
either : (s : Size) (o : Operation) → is_some (form_of s o) ≡ true → (is_some (form_of short o) || is_some (form_of long o)) ≡ true
either short o t = or_left _ _ t
either long o t = or_right _ _ t

pub listed_act : (s : Size) (o : Operation) (h : ℕ) → Spells s (Plain o) h → is_act o ≡ true
unfolding is_act
listed_act s o h i = let f = listed_formed s o h i in and_from _ _ f.right (either s o f.some)

pub act_normal : (o : Operation) → is_act o ≡ true → is_normal o ≡ true
unfolding is_act
act_normal o t = (and_parts _ _ t).0

pub decoded_act : (s : Size) (o : Operation) (h : ℕ) → decode s h ≡ Some (Plain o) → is_act o ≡ true
decoded_act s o h e = listed_act s o h ((decodes_exactly s).spelled (Plain o) h e)

pub forms_of_acts : (s : Size) → FormsOfActs s
forms_of_acts s = record {
  act = listed_act s;
  form = λ o h t e. form_spells s o h (act_normal o t) e;
  none = λ o h e i. false≢true (sym (ap is_some e) ∙ (listed_formed s o h i).some);
}

some_least : (a b : Option ℕ) → (is_some a || is_some b) ≡ true → (f : Form) × (least a b ≡ Some f)
some_least (Some h) b t = (Short h, refl)
some_least None (Some w) t = (Long w, refl)
some_least None None t = absurd (false≢true t)

pub acts_have_forms : ActsHaveForms
unfolding is_act
acts_have_forms o t = some_least (form_of short o) (form_of long o) (and_parts _ _ t).1

-- the short form where there is one, else the long one, is least
chosen_least : (i : Instruction) (a b : Option ℕ) (f : Form) → ((h : ℕ) → a ≡ Some h → Spells short i h) → ((w : ℕ) → b ≡ Some w → Spells long i w) → ((h : ℕ) → a ≡ None → Spells short i h → ⊥) → least a b ≡ Some f → Least f i
chosen_least i (Some h) b f p q n e = let g : Short h ≡ f = cc in subst (λ k. Least k i) g (record { spells = p h refl; shortest = at_least_2 })
  where
    at_least_2 : (g : Form) → Spelled g i → 2 ≤ size g
    at_least_2 (Short k) s = omega arith
    at_least_2 (Long k) s = omega arith
chosen_least i None (Some w) f p q n e = let g : Long w ≡ f = cc in subst (λ k. Least k i) g (record { spells = q w refl; shortest = at_least_4 })
  where
    at_least_4 : (g : Form) → Spelled g i → 4 ≤ size g
    at_least_4 (Short k) s = absurd (n k refl s)
    at_least_4 (Long k) s = omega arith
chosen_least i None None f p q n e = absurd (none-some f e)

pub uses_least : UsesLeast
uses_least = record {
  act = λ o f t e. chosen_least (Plain o) (form_of short o) (form_of long o) f (λ h k. (forms_of_acts short).form o h t k) (λ w k. (forms_of_acts long).form o w t k) ((forms_of_acts short).none o) e;
  branch = λ b d f e. chosen_least (Relative b d) (branch_form short b d) (branch_form long b d) f ((forms_of_branches short).form b d) ((forms_of_branches long).form b d) (λ h n i. none-some h (sym n ∙ (forms_of_branches short).only b d h i)) e;
}

-- a normal operation is an act exactly when it has a form
pub with_form : (o : Operation) → is_normal o ≡ true → has_form o ≡ true → is_act o ≡ true
unfolding is_act
with_form o p f = and_from _ _ p f

pub without_form : (o : Operation) → has_form o ≡ false → is_act o ≡ false
unfolding is_act
without_form o f = and_right (is_normal o) (has_form o) f
