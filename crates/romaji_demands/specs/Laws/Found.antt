-- What the searches find at a place of a text over an image: whether a key continues the text, and the piece there.
-- A text of bytes is the query of those labels, so the library's demand says it in terms of the set of pairs.
use Rattle.std.specs.Prelude.{ℕ, ◌+◌, ◌-◌, ◌*◌, ◌/◌, ◌≤◌, ◌≡◌, refl, ◌↔◌, true, take, drop, leb, Option, Some, None}
use Rattle.std.proofs.Common.{arith, ◌∙◌, subst, ⊎_elim, take-append-drop, take-take, take_at, le-leb}
use Rattle.std.proofs.Math.Path.{sym, ap, ap₂}
use mathlib.Core.List.{List, [], ◌∷◌, ◌++◌}
use Rattle.std.proofs.Math.ListN.{length, length-take, length-append}
use Rattle.std.proofs.Math.Seq.{length-take-le, take-append-add, split_at}
use Rattle.lxtr_spec.specs.Numbers.{be_words}
use Rattle.lxtr_spec.specs.Labels.{max_labels}
use Rattle.lxtr_spec.specs.Searches.{LongestAnswer, case_value, case_longer, lookup_of}
use Rattle.lxtr_spec.specs.Sets.{PairSet, Has, ImageOf}
use Rattle.lxtr_spec.specs.Meaning.{LongestIn, Longer}
use Rattle.lxtr_laws.specs.Tests.{and_is_true}
use Rattle.lxtr_laws.specs.Lengths.{words_length}
use Rattle.lxtr_laws.specs.StepFacts.{none_not_some}
use Rattle.lxtr_laws.specs.QueryLabels.{labels_back}
use Rattle.lxtr_demands.specs.Operations.{defined}
use Rattle.lxtr_demands.specs.Demand2.{Searched, Answered}
use Rattle.lxtr_demands.specs.Laws.Lookups.{case_says}
use Rattle.lxtr_demands.specs.Laws.Demand2.{demand2}
use Rattle.romaji_spec.specs.Pieces.{max_kept, could_grow, Piece, matched, matched_value, piece_by, piece_at, piece_text}
use Rattle.romaji_demands.specs.Cuts.{NoKeyAt, PieceAt}
use Rattle.romaji_demands.specs.TypingDemand.{Bytes}
use Rattle.romaji_demands.specs.Laws.FrontParts.{bytes_take}

-- p is the piece at the beginning of the text r, and its bytes are a front part of r
pub record PieceIn (d : PairSet) (r : List ℕ) (p : Piece) : Type 0 where
  pub piece : PieceAt d r p
  pub parts : r ≡ piece_text p ++ drop (length (piece_text p)) r

module _ {b : List ℕ} {d : PairSet} (image : ImageOf b d) where
  -- what the searches answer for the query of a text
  answered : (r : List ℕ) → Bytes r → Answered defined b d (be_words r) r
  answered r small = subst (Answered defined b d (be_words r)) (labels_back r (λ i h. omega (arith, small i h))) (demand2 b d (be_words r) image (omega (arith, words_length r)))

  longer_told : (r : List ℕ) → Bytes r → (case_longer (lookup_of b (be_words r)).case ≡ true) ↔ Longer d r
  longer_told r small = let (c, is) = (answered r small).some_case in rw ((answered r small).lookup c is) (case_says d r c is).longer

  -- a proper front part of a key has at least one label less than a key may have
  pub front_length_lem : (r : List ℕ) → Longer d r → length r ≤ max_kept
  unfolding max_kept
  front_length_lem r l = omega (arith, image.keys.is_key_length (r ++ l.next ∷ l.rest) l.value l.is, length-append r (l.next ∷ l.rest))

  pub grows : (r : List ℕ) → Bytes r → (could_grow b r ≡ true) ↔ Longer d r
  unfolding could_grow
  grows r small =
      let longer = longer_told r small in
      let both = and_is_true (leb (length r) max_kept) (case_longer (lookup_of b (be_words r)).case) in (
        λ e. longer.0 (both.0 e).1,
        λ l. both.1 (le-leb (length r) max_kept (front_length_lem r l), longer.1 l),
      )

  -- n is the length of the longest key that is a front part of the text r, or 0 if there is none. (No key is longer than the limit, so
  -- none is missed in the part of the text that is searched.)
  module _ (r : List ℕ) (small : Bytes r) (n : ℕ) (is : LongestIn d (take max_labels r) n) where
    searched : Searched defined b d (be_words (take max_labels r)) (take max_labels r)
    searched = (answered (take max_labels r) (bytes_take max_labels r small)).searched

    within : n ≤ length (take max_labels r)
    within = ⊎_elim (λ z. omega arith) (λ (p, q, v, e, l, h). omega (arith, ap length e, length-append p q)) is.is

    front_take : take n (take max_labels r) ≡ take n r
    front_take = take-take n max_labels r (omega (arith, within, length-take max_labels r))

    most : (l later : List ℕ) (w : ℕ) → r ≡ l ++ later → Has d l w → length l ≤ n
    most l later w e h =
        let fits = image.keys.is_key_length l w h in
        let limit : max_labels ≡ length l + (max_labels - length l) = omega arith in
        is.most l (take (max_labels - length l) later) w (ap₂ take limit e ∙ take-append-add l later (max_labels - length l)) h

    matched_is : matched b r ≡ take (4 * n) (be_words (take max_labels r))
    unfolding matched
    matched_is = ap (λ (a : LongestAnswer). a.part) (searched.longest n is)

    matched_length : length (matched b r) / 4 ≡ n
    matched_length = rw matched_is (let l = length-take-le (4 * n) (be_words (take max_labels r)) (omega (arith, within, words_length (take max_labels r))) in omega arith)

    matched_value_lem : matched_value b r ≡ d (take n r)
    unfolding matched_value
    matched_value_lem = ap (λ (q : List ℕ). case_value (lookup_of b q).case) matched_is
        ∙ (searched.front_value n (omega (arith, within, words_length (take max_labels r)))).value ∙ ap d front_take

    piece_by_lem : piece_at b r ≡ piece_by r n (d (take n r))
    unfolding piece_at
    piece_by_lem = ap₂ (piece_by r) matched_length matched_value_lem

    -- with no key there, no key matches
    no_key : d [] ≡ None → d (take n r) ≡ None → NoKeyAt d r
    no_key no_empty nothing [] later w e h = none_not_some (sym no_empty ∙ h)
    no_key no_empty nothing (x ∷ l) later w e h = ⊎_elim
        (λ z. omega (arith, most (x ∷ l) later w e h))
        (λ (p, q, v, f, m, has). none_not_some (sym nothing ∙ ap d (sym front_take ∙ ap (take n) f ∙ take_at p q n m) ∙ has))
        is.is

    piece_in : d [] ≡ None → 1 ≤ length r → (o : Option ℕ) → d (take n r) ≡ o → PieceIn d r (piece_by r n o)
    unfolding piece_by piece_text
    piece_in no_empty some-text None e = record { piece = no_key no_empty e; parts = split_at r 0 0 some-text }
    piece_in no_empty some-text (Some v) e =
        let size : length (take n r) ≡ n = length-take-le n r (omega (arith, within, length-take max_labels r)) in
        record {
          piece = record {
            is_key = e;
            front = (drop n r, sym (take-append-drop n r));
            longest = λ l later w f h. omega (arith, most l later w f h);
          };
          parts = rw size (sym (take-append-drop n r));
        }

  pub piece_found : d [] ≡ None → (r : List ℕ) → Bytes r → 1 ≤ length r → PieceIn d r (piece_at b r)
  piece_found no_empty r small some-text =
      let (n, is) = (answered (take max_labels r) (bytes_take max_labels r small)).searched.some_longest in
      rw (piece_by_lem r small n is) (piece_in r small n is no_empty some-text (d (take n r)) refl)
