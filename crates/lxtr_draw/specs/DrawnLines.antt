-- The lines of a drawing, and which of them are drawn: each return of the code is a case of the definition.
use Rattle.std.specs.Prelude.{ℕ, ◌-◌, ◌≤◌, ◌<◌, ◌≡◌, refl, ◌≢◌, List, [], ◌∷◌, Bool, ◌||◌, not, cond, ltb, eqb, Option}
use Rattle.std.proofs.Common.{arith, ◌∙◌, inl, inr}
use Rattle.std.proofs.Math.Path.{sym, ap}
use Rattle.std.proofs.Math.Bool.{true, false}
use borrow.Author.Tests.{eq-eqb, ne_eqb, le-leb, lt-leb, lt-ltb, le-ltb, eqb-false}
use Rattle.lxtr_spec.specs.Image.{slot_count, base_word, check_word, is_leaf, has_leaf, value_number, base, parent, code_to, child, label_count, label_at}
use Rattle.lxtr_spec.specs.Refusals.{both_zero}
use Rattle.lxtr_spec.specs.declared.Fault.{Fault}
use Rattle.lxtr_laws.specs.Tests.{outcome, or_is_true, not_is_true, and_is_true, and_is_false}
use Rattle.lxtr_command_spec.specs.Forms.{filled}
use Rattle.lxtr_command_spec.specs.Commands.{ascii}
use Rattle.lxtr_command_spec.specs.Drawings.{colour, slot_line, step_line, entry_line, is_wrong_slot, is_wrong_entry, is_drawn, slot_text, has_step, step_text, list_of, entry_text}
use Rattle.lxtr_text.specs.Appends.{Appended, append_none}

-- p is the parent, c the colour and t whether the slot is an end
module _ (b : List ℕ) (s : ℕ) (wrong : Bool) (p c : ℕ) (parent_is : p ≡ parent b s) (colour-is : c ≡ colour wrong) (t : Bool) (leaf-is : t ≡ is_leaf b s)
    (line l : List ℕ) (r : ℕ) where
  pub end_line : t ≡ true → (v : ℕ) → v ≡ value_number b s
      → Appended line 0 (filled (ascii "  s% [label=\"slot %\\nvalue %\\nparent %\", style=rounded, color=\"#$\", fontcolor=\"#$\"];\n") (s ∷ s ∷ v ∷ p ∷ c ∷ c ∷ [])) l r
      → Appended line 0 (slot_line b s wrong) l r
  unfolding slot_line
  end_line h v e q = rw (slot_line, sym leaf-is ∙ h, sym e, sym parent_is, sym colour-is) q

  pub inner_line : t ≡ false → (v : ℕ) → v ≡ base b s → (n : ℕ) → n ≡ cond (has_leaf b s) 2 1
      → Appended line 0 (filled (ascii "  s% [label=\"slot %\\nbase %\\nparent %\", peripheries=%, color=\"#$\", fontcolor=\"#$\"];\n") (s ∷ s ∷ v ∷ p ∷ n ∷ c ∷ c ∷ [])) l r
      → Appended line 0 (slot_line b s wrong) l r
  unfolding slot_line
  inner_line h v e n f q = rw (slot_line, sym leaf-is ∙ h, sym e, sym parent_is, sym f, sym colour-is) q

-- c is the code
module _ (b : List ℕ) (p s c : ℕ) (code_is : c ≡ code_to b p s) (line l : List ℕ) (r : ℕ) where
  pub end_step : c ≡ 0 → Appended line 0 (filled (ascii "  s% -> s% [label=\"end\"];\n") (p ∷ s ∷ [])) l r → Appended line 0 (step_line b p s) l r
  unfolding step_line
  end_step h q = rw (step_line, eq-eqb (code_to b p s) 0 (sym code_is ∙ h)) q

  module _ (some : c ≢ 0) (n : ℕ) (count_is : n ≡ label_count b) where
    pub listed_step : c ≤ n → (x : ℕ) → x ≡ label_at b (c - 1) → Appended line 0 (filled (ascii "  s% -> s% [label=\"@ $\"];\n") (p ∷ s ∷ x ∷ x ∷ [])) l r → Appended line 0 (step_line b p s) l r
    unfolding step_line
    listed_step h x e q =
        let f : x ≡ label_at b (code_to b p s - 1) = e ∙ ap (λ (k : ℕ). label_at b (k - 1)) code_is in
        rw (step_line, ne_eqb (code_to b p s) 0 (λ z. some (code_is ∙ z)), le-leb (code_to b p s) (label_count b) (omega (arith, code_is, count_is)), sym f) q

    pub unlisted_step : n < c → Appended line 0 (filled (ascii "  s% -> s% [label=\"code %\"];\n") (p ∷ s ∷ c ∷ [])) l r → Appended line 0 (step_line b p s) l r
    unfolding step_line
    unlisted_step h q = rw (step_line, ne_eqb (code_to b p s) 0 (λ z. some (code_is ∙ z)), lt-leb (code_to b p s) (label_count b) (omega (arith, code_is, count_is)), sym code_is) q

pub entry_put : (b : List ℕ) (p j : ℕ) (wrong : Bool) (c t : ℕ) → c ≡ colour wrong → t ≡ child b j → (line l : List ℕ) (r : ℕ)
    → Appended line 0 (filled (ascii "  s% -> s% [label=\"entry %\", style=dashed, constraint=false, color=\"#$\", fontcolor=\"#$\"];\n") (p ∷ t ∷ j ∷ c ∷ c ∷ [])) l r
    → Appended line 0 (entry_line b p j wrong) l r
unfolding entry_line
entry_put b p j wrong c t e f line l r q = rw (entry_line, sym e, sym f) q

-- ---- what is drawn

-- t is whether the slot is drawn
module _ (b : List ℕ) (f : Option Fault) (s : ℕ) (t : Bool) (drawn-is : t ≡ is_drawn b f s) (line : List ℕ) where
  pub slot_left_out : t ≡ false → Appended line 0 (slot_text b f s) line 0
  unfolding slot_text
  slot_left_out h = rw (slot_text, outcome t _ false drawn-is h) (append_none line 0 (omega arith))

  pub slot_put : t ≡ true → (w : Bool) → w ≡ is_wrong_slot f s → (l : List ℕ) (r : ℕ) → Appended line 0 (slot_line b s w) l r → Appended line 0 (slot_text b f s) l r
  unfolding slot_text
  slot_put h w e l r q = rw (slot_text, outcome t _ true drawn-is h, sym e) q

-- p is the parent, n the number of slots
module _ (b : List ℕ) (s p : ℕ) (parent_is : p ≡ parent b s) (line : List ℕ) where
  no_step : has_step b s ≡ false → Appended line 0 (step_text b s) line 0
  unfolding step_text
  no_step e = rw (step_text, e) (append_none line 0 (omega arith))

  pub no_parent : p ≡ 0 → Appended line 0 (step_text b s) line 0
  unfolding has_step
  no_parent h = no_step (rw (eq-eqb (parent b s) 0 (sym parent_is ∙ h)) refl)

  module _ (n : ℕ) (count_is : n ≡ slot_count b) where
    pub parent_outside : n ≤ p → Appended line 0 (step_text b s) line 0
    unfolding has_step
    parent_outside h = no_step ((and_is_false (not (eqb (parent b s) 0)) (ltb (parent b s) (slot_count b))).1 (λ _. le-ltb (parent b s) (slot_count b) (omega arith)))

    pub step_put : p ≢ 0 → p < n → (l : List ℕ) (r : ℕ) → Appended line 0 (step_line b p s) l r → Appended line 0 (step_text b s) l r
    unfolding step_text has_step
    step_put some h l r q =
        rw (step_text, has_step, ne_eqb (parent b s) 0 (λ z. some (parent_is ∙ z)), lt-ltb (parent b s) (slot_count b) (omega arith), sym parent_is) q

pub entry_drawn : (b : List ℕ) (f : Option Fault) (j p : ℕ) (w : Bool) → p ≡ list_of b j → w ≡ is_wrong_entry f j → (line l : List ℕ) (r : ℕ)
    → Appended line 0 (entry_line b p j w) l r → Appended line 0 (entry_text b f j) l r
unfolding entry_text
entry_drawn b f j p w e h line l r q = rw (entry_text, sym e, sym h) q

-- a slot to which a step is drawn has a parent, so the slot is drawn too
pub step_to_drawn : (b : List ℕ) (f : Option Fault) (s : ℕ) → has_step b s ≡ true → is_drawn b f s ≡ true
unfolding has_step is_drawn both_zero parent
step_to_drawn b f s e =
    let some = eqb-false (parent b s) 0 ((not_is_true (eqb (parent b s) 0)).0 ((and_is_true (not (eqb (parent b s) 0)) (ltb (parent b s) (slot_count b))).0 e).0) in
    let holds : eqb (check_word b s) 0 ≡ false = ne_eqb (check_word b s) 0 (λ z. some (rw z refl)) in
    let zero : both_zero b s ≡ false = (and_is_false (eqb (base_word b s) 0) (eqb (check_word b s) 0)).1 (λ _. holds) in
    (or_is_true (eqb s 1 || not (both_zero b s)) (is_wrong_slot f s)).1 (inl ((or_is_true (eqb s 1) (not (both_zero b s))).1 (inr ((not_is_true (both_zero b s)).1 zero))))
