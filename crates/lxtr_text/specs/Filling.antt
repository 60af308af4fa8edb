-- Forms: what is still to come of one, with the numbers that are left.
use Rattle.std.specs.Prelude.{ℕ, ◌+◌, ◌≤◌, ◌<◌, ◌≡◌, refl, List, [], ◌++◌, cond, length, drop, get_or}
use Rattle.std.proofs.Common.{arith, sym, ap, ◌∙◌, add-one, drop-cons, drop_of_length-le}
use Rattle.lxtr_command_spec.specs.Forms.{piece, takes, filled}
use Rattle.lxtr_text.specs.Writing.{wrote, wrote_none, wrote_next}
use Rattle.lxtr_text.specs.declared.line.Line.{Line}

-- the numbers that are left after a byte of a form
abbrev pub left_after : ℕ → List ℕ → List ℕ
left_after c ns = cond (takes c) (drop 1 ns) ns

pub none_left : (ns : List ℕ) → length ns < 1 → drop 1 ns ≡ []
none_left ns h = drop_of_length-le ns {i = 1} (omega arith)

module _ (start : Line) (all form : List ℕ) (i : ℕ) (ns : List ℕ) (l : Line) (s : wrote l (filled (drop i form) ns) ≡ wrote start all) where
  pub byte_filled : (l' : Line) (ns' : List ℕ) → i < length form → l' ≡ wrote l (piece (get_or form i 0) ns) → ns' ≡ left_after (get_or form i 0) ns
      → wrote l' (filled (drop (i + 1) form) ns') ≡ wrote start all
  unfolding filled
  byte_filled l' ns' h e n =
      let rest : filled (drop i form) ns ≡ piece (get_or form i 0) ns ++ filled (drop (i + 1) form) ns' = rw (drop-cons form i 0 h, add-one i, n) refl in
      wrote_next l (piece (get_or form i 0) ns) (filled (drop (i + 1) form) ns') (filled (drop i form) ns) l' rest e ∙ s

  pub all_filled : length form ≤ i → l ≡ wrote start all
  unfolding filled
  all_filled h =
      let none : filled (drop i form) ns ≡ [] = rw (drop_of_length-le form h) refl in
      sym (wrote_none l) ∙ ap (wrote l) (sym none) ∙ s
