-- A key list read back: its bytes have its keys, and it is not refused if these rise and each is a key that a list may have.
use Rattle.std.specs.Prelude.{ℕ, ◌+◌, ◌*◌, ◌^◌, ◌≤◌, ◌<◌, ◌≡◌, ◌≢◌, true, get_or}
use Rattle.std.proofs.Math.Path.{refl, sym, ap, ap₂}
use Rattle.std.proofs.Common.{◌∙◌, arith, ext_get_or}
use mathlib.Core.List.{List, [], ◌∷◌, ◌++◌, append_assoc, Memᴰ}
use Rattle.std.proofs.Math.ListN.{length, length-append}
use Rattle.std.proofs.Math.Seq.{get_or-append_seam}
use Rattle.lxtr_spec.specs.Numbers.{be_bytes, be_words, be32}
use Rattle.lxtr_spec.specs.Labels.{is_scalar, max_labels, Pair}
use Rattle.lxtr_spec.specs.KeyLists.{max_keys, list_version, key_count, key_length, key_label, next_key, key_at, keys_from, pairs_of, no_scalar_at, not_above, key_refusal, keys_refusal, list_refusal}
use Rattle.lxtr_spec.specs.Samples.{key_records, key_list}
use Rattle.lxtr_laws.specs.RangeTests.{tests}
use Rattle.lxtr_laws.specs.RefusalChains.{none_refused, none_first}
use Rattle.lxtr_laws.specs.ByteOrders.{big, words_size}
use Rattle.lxtr_laws.specs.ReadBack.{be_first, be_past, be_words_lem}
use Rattle.lxtr_laws.specs.Members.{member_at}
use Rattle.lxtr_laws.specs.Sorted.{Sorted}
use Rattle.lxtr_build_laws.specs.KeyReading.{key_size, key_at_lem}
use Rattle.lxtr_words.specs.RisingKeys.{Before}
use Rattle.lxtr_words.specs.KeyWriting.{list_size}

-- a key that a list may have
pub record KeyRight (k : List ℕ) : Type 0 where
  pub short : length k ≤ max_labels
  pub scalar : (x : ℕ) → Memᴰ x k → is_scalar x ≡ true

-- keys with their value numbers, from i up
unfoldable pub numbered : ℕ → List (List ℕ) → List Pair
numbered i [] = []
numbered i (k ∷ ks) = (k, i) ∷ numbered (i + 1) ks

-- ---- one key, after the bytes p

scalar_small : (x : ℕ) → is_scalar x ≡ true → x < 2 ^ 32
unfolding is_scalar
scalar_small x e = let (a, _) = simp tests at e in omega arith

module _ (b p k r : List ℕ) (e : b ≡ p ++ (length k ∷ (be_words k ++ r))) where
  read_length : key_length b (length p) ≡ length k
  unfolding key_length
  read_length = rw e (get_or-append_seam p (length k) (be_words k ++ r) 0)

  pub read_next : next_key b (length p) ≡ length (p ++ (length k ∷ be_words k))
  unfolding next_key
  read_next = omega (arith, read_length, length-append p (length k ∷ be_words k), words_size big k)

  pub read_rest : b ≡ (p ++ (length k ∷ be_words k)) ++ r
  read_rest = e ∙ sym (append_assoc p (length k ∷ be_words k) r)

  module _ (right : KeyRight k) where
    read_label : (j : ℕ) → j < length k → key_label b (length p) j ≡ get_or k j 0
    unfolding key_label
    read_label j h =
        let whole : b ≡ (p ++ (length k ∷ [])) ++ (be_words k ++ r) = e ∙ sym (append_assoc p (length k ∷ []) (be_words k ++ r)) in
        let at : length p + 1 + 4 * j ≡ length (p ++ (length k ∷ [])) + 4 * j = omega (arith, length-append p (length k ∷ [])) in
        ap₂ be32 whole at ∙ be_past (p ++ (length k ∷ [])) (be_words k ++ r) (4 * j) ∙ be_words_lem k r j h (scalar_small (get_or k j 0) (right.scalar (get_or k j 0) (member_at 0 k j h)))

    pub read_key : key_at b (length p) ≡ k
    read_key =
        let size = key_size b (length p) ∙ read_length in
        ext_get_or 0 (key_at b (length p)) k size (λ j h. key_at_lem b (length p) j (omega (arith, size, read_length)) ∙ read_label j (omega (arith, size)))

    size : length b ≡ length (p ++ (length k ∷ be_words k)) + length r
    size = ap length read_rest ∙ length-append (p ++ (length k ∷ be_words k)) r

    scalars : (j : ℕ) → j < key_length b (length p) → is_scalar (key_label b (length p) j) ≡ true
    scalars j h = let l : j < length k = omega (arith, read_length) in rw (read_label j l) (right.scalar (get_or k j 0) (member_at 0 k j l))

    not_refused : (i before : ℕ) → (i ≢ 0 → Before (key_at b before) k) → key_refusal b i before (length p) ≡ 0
    unfolding key_refusal no_scalar_at not_above
    not_refused i before above =
        simp (none_refused, tests) (
          omega (arith, size, read_next, length-append p (length k ∷ be_words k)),
          (
            omega (arith, read_length, right.short),
            (
              omega (arith, size, read_next),
              (
                scalars,
                (λ h. rw read_key (above (λ z. omega arith)), refl),
              ),
            ),
          ),
        )

-- ---- all keys, after the bytes p; key i comes after the one at the place `before`

module _ (b : List ℕ) where
  pub keys_read : (ks : List (List ℕ)) (p : List ℕ) (i : ℕ) → b ≡ p ++ key_records ks → ((k : List ℕ) → Memᴰ k ks → KeyRight k) → keys_from b (length ks) i (length p) ≡ numbered i ks
  unfolding key_records keys_from numbered
  keys_read [] p i e right = refl
  keys_read (k ∷ ks) p i e right =
      let first : key_at b (length p) ≡ k = read_key b p k (key_records ks) e (right k (Memᴰ.head refl)) in
      let rest : keys_from b (length ks) (i + 1) (next_key b (length p)) ≡ numbered (i + 1) ks =
      ap (keys_from b (length ks) (i + 1)) (read_next b p k (key_records ks) e) ∙ keys_read ks (p ++ (length k ∷ be_words k)) (i + 1) (read_rest b p k (key_records ks) e) (λ l m. right l (Memᴰ.tail m)) in
      ap₂ {C = List Pair} (λ (l : List ℕ) (ps : List Pair). (l, i) ∷ ps) first rest

  keys_pass : (ks : List (List ℕ)) (p : List ℕ) (i before : ℕ) → b ≡ p ++ key_records ks → ((k : List ℕ) → Memᴰ k ks → KeyRight k) → Sorted Before ks
      → (i ≢ 0 → (k : List ℕ) → Memᴰ k ks → Before (key_at b before) k) → keys_refusal b (length ks) i before (length p) ≡ 0
  unfolding key_records keys_refusal Sorted
  keys_pass [] p i before e right sorted above = simp (none_refused, tests) (omega (arith, ap length e, length-append p []), refl)
  keys_pass (k ∷ ks) p i before e right sorted above =
      let here : KeyRight k = right k (Memᴰ.head refl) in
      let read : key_at b (length p) ≡ k = read_key b p k (key_records ks) e here in
      let rest = keys_pass ks (p ++ (length k ∷ be_words k)) (i + 1) (length p) (read_rest b p k (key_records ks) e) (λ l m. right l (Memᴰ.tail m)) sorted.1 (λ z l m. rw read (sorted.0 l m)) in
      (none_first (key_refusal b i before (length p)) (keys_refusal b (length ks) (i + 1) (length p) (next_key b (length p)))).1
      (not_refused b p k (key_records ks) e here i before (λ z. above z k (Memᴰ.head refl)), rw (read_next b p k (key_records ks) e) rest)

-- ---- the list

module _ (ks : List (List ℕ)) (few : length ks ≤ max_keys) where
  whole : key_list ks ≡ (1 ∷ be_bytes (length ks)) ++ key_records ks
  unfolding key_list
  whole = refl

  read_version : list_version (key_list ks) ≡ 1
  unfolding list_version key_list
  read_version = refl

  pub read_count : key_count (key_list ks) ≡ length ks
  unfolding key_count key_list
  read_count = be_past (1 ∷ []) (be_bytes (length ks) ++ key_records ks) 0 ∙ be_first (length ks) (key_records ks) (omega arith)

  module _ (right : (k : List ℕ) → Memᴰ k ks → KeyRight k) where
    pub read_pairs : pairs_of (key_list ks) ≡ numbered 0 ks
    unfolding pairs_of be_bytes
    read_pairs = rw read_count (keys_read (key_list ks) ks (1 ∷ be_bytes (length ks)) 0 whole right)

    pub list_passes : Sorted Before ks → list_refusal (key_list ks) ≡ 0
    unfolding list_refusal be_bytes
    list_passes sorted =
        let keys = keys_pass (key_list ks) ks (1 ∷ be_bytes (length ks)) 0 0 whole right sorted (λ z. absurd (z refl)) in
        (none_first _ _).1 (simp (none_refused, tests) ((omega (arith, list_size ks), read_version), (omega (arith, read_count), refl)), rw read_count keys)
