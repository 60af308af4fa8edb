-- The labels of a query: how many there are, where the bytes of each are, the labels of a front part, and those of a query that is
-- written for given labels.
use Prim.Native.Nat.{ℕ, zero, suc, ◌+◌, ◌*◌, ◌/◌, ◌^◌, ◌<◌, ◌≤◌}
use Rattle.std.specs.Prelude.{◌≡◌, List, [], ◌∷◌, length, get_or, take, drop}
use Rattle.std.proofs.Math.Path.{refl, sym, ap}
use Rattle.std.proofs.Common.{◌∙◌, append-nil, not-suc-le-zero, length-take-le, length-drop, get_or-drop, ext_get_or}
use Rattle.std.proofs.Math.Nat.{add-zero, zero-add}
use native.Mathlib.Omega.{arith}
use Rattle.std.proofs.Math.Seq.{get_or-take}
use Rattle.lxtr_spec.specs.Numbers.{be32, be_words}
use Rattle.lxtr_spec.specs.Labels.{labels_from, labels_of}
use Rattle.lxtr_laws.specs.Lengths.{words_length}
use Rattle.lxtr_laws.specs.ReadBack.{be_words_lem}

module _ (q : List ℕ) where
  count_from : (n i : ℕ) → length (labels_from q n i) ≡ n
  unfolding labels_from
  count_from zero i = refl
  count_from (suc n) i = ap suc (count_from n (i + 1))

  label_from : (n i j : ℕ) → j < n → get_or (labels_from q n i) j 0 ≡ be32 q (4 * (i + j))
  unfolding labels_from
  label_from zero i j h = absurd (not-suc-le-zero h)
  label_from (suc n) i zero h = rw add-zero
  label_from (suc n) i (suc j) h = let e : i + 1 + j ≡ i + suc j = omega arith in label_from n (i + 1) j (omega arith) ∙ ap (λ (k : ℕ). be32 q (4 * k)) e

  pub label_count_lem : length (labels_of q) ≡ length q / 4
  unfolding labels_of
  label_count_lem = count_from (length q / 4) 0

  module _ (i : ℕ) (place : i < length (labels_of q)) where
    pub label_within : 4 * i + 4 ≤ length q
    label_within = omega (arith, label_count_lem)

    -- x is the number read there
    pub label_read : (x : ℕ) → x ≡ be32 q (4 * i) → x ≡ get_or (labels_of q) i 0
    unfolding labels_of
    label_read x e = e ∙ sym (rw zero-add at (label_from (length q / 4) 0 i (omega (arith, label_count_lem))))

-- the first n labels are those of the first 4 * n bytes
module _ (q : List ℕ) (n : ℕ) (h : 4 * n ≤ length q) where
  front_count : length (labels_of (take (4 * n) q)) ≡ n
  front_count = omega (arith, label_count_lem (take (4 * n) q), length-take-le (4 * n) q h)

  front_read : (i : ℕ) → i < n → be32 (take (4 * n) q) (4 * i) ≡ be32 q (4 * i)
  unfolding be32
  front_read i l = rw (get_or-take (4 * n) q (4 * i) 0 (omega arith), get_or-take (4 * n) q (4 * i + 1) 0 (omega arith), get_or-take (4 * n) q (4 * i + 2) 0 (omega arith), get_or-take (4 * n) q (4 * i + 3) 0 (omega arith))

  pub front_labels : labels_of (take (4 * n) q) ≡ take n (labels_of q)
  front_labels = ext_get_or 0 (labels_of (take (4 * n) q)) (take n (labels_of q))
      (omega (arith, front_count, length-take-le n (labels_of q) (omega (arith, label_count_lem q))))
      (λ i l. sym (label_read (take (4 * n) q) i l (be32 q (4 * i)) (sym (front_read i (omega (arith, front_count)))))
      ∙ label_read q i (omega (arith, front_count, label_count_lem q)) (be32 q (4 * i)) refl
      ∙ sym (get_or-take n (labels_of q) i 0 (omega (arith, front_count))))

-- a query that is read from its front: fewer than four bytes are no label; otherwise there is a first label, and the others are those
-- of the rest
module _ (q : List ℕ) where
  pub labels_none : length q < 4 → labels_of q ≡ []
  unfolding labels_of labels_from
  labels_none h = let e : length q / 4 ≡ 0 = omega arith in rw e

  word_after : (i : ℕ) → be32 (drop 4 q) (4 * i) ≡ be32 q (4 * (i + 1))
  unfolding be32
  word_after i =
      let place : (k : ℕ) → get_or (drop 4 q) (4 * i + k) 0 ≡ get_or q (4 * (i + 1) + k) 0 = λ k. let e : 4 + (4 * i + k) ≡ 4 * (i + 1) + k = omega arith in get_or-drop 4 q (4 * i + k) 0 ∙ ap (λ (j : ℕ). get_or q j 0) e in
      let first : get_or (drop 4 q) (4 * i) 0 ≡ get_or q (4 * (i + 1)) 0 = simp add-zero at (place 0) in
      rw (first, place 1, place 2, place 3)

  labels_after : (n i : ℕ) → labels_from (drop 4 q) n i ≡ labels_from q n (i + 1)
  unfolding labels_from
  labels_after zero i = refl
  labels_after (suc n) i = rw (word_after i, labels_after n (i + 1))

  pub labels_first : 4 ≤ length q → labels_of q ≡ be32 q 0 ∷ labels_of (drop 4 q)
  unfolding labels_of labels_from
  labels_first h =
      let e : length q / 4 ≡ suc (length (drop 4 q) / 4) = omega (arith, length-drop 4 q) in
      rw (e, labels_after (length (drop 4 q) / 4) 0)

-- a query written for these labels has these labels
pub labels_back : (k : List ℕ) → ((i : ℕ) → i < length k → get_or k i 0 < 2 ^ 32) → labels_of (be_words k) ≡ k
labels_back k small =
    let count : length (labels_of (be_words k)) ≡ length k = omega (arith, label_count_lem (be_words k), words_length k) in
    ext_get_or 0 (labels_of (be_words k)) k count (λ i h.
    let l : i < length k = omega arith in
    sym (label_read (be_words k) i h (get_or k i 0) (sym (be_words_lem k [] i l (small i l)) ∙ ap (λ (b : List ℕ). be32 b (4 * i)) (append-nil (be_words k)))))
