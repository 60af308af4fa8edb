-- Lists of labels taken apart at their last label, and the prefixes of a set's keys.
-- A prefix's slot is reached from the slot of the prefix one label shorter, so most proofs proceed by the last label.
use Rattle.std.specs.Prelude.{ℕ, suc, ◌≡◌, refl, ◌⊎◌, List, [], ◌∷◌, ◌++◌, length}
use Rattle.std.proofs.Common.{add-one, arith, sym, ap, ◌∙◌, inl, inr, ⊎_elim, append_assoc, append-nil, length-append}
use Rattle.lxtr_spec.specs.Sets.{PairSet, Has, Prefix}

-- a list is empty, or has a last element
pub data Last : List ℕ → Type 0 where
  empty : Last []
  snoc : (p : List ℕ) (x : ℕ) → Last p → Last (p ++ x ∷ [])

last_cons : (y : ℕ) (l : List ℕ) → Last l → Last (y ∷ l)
last_cons y l empty = snoc [] y empty
last_cons y l (snoc p x r) = snoc (y ∷ p) x (last_cons y p r)

pub last : (l : List ℕ) → Last l
last [] = empty
last (y ∷ l) = last_cons y l (last l)

pub length_snoc : (p : List ℕ) (x : ℕ) → length (p ++ x ∷ []) ≡ suc (length p)
length_snoc p x = length-append p (x ∷ []) ∙ add-one (length p)

-- the head of what comes after p, moved to the end of p
pub snoc_cons : (p : List ℕ) (x : ℕ) (xs : List ℕ) → p ++ x ∷ xs ≡ (p ++ x ∷ []) ++ xs
snoc_cons p x xs = sym (append_assoc p (x ∷ []) xs)

-- a key of the set begins with p
abbrev pub GoesOn : PairSet → List ℕ → Type 0
GoesOn d p = (r : List ℕ) × (v : ℕ) × Has d (p ++ r) v

module _ (d : PairSet) where
  pub prefix_root : Prefix d []
  prefix_root = record { is = inl refl }

  pub prefix_key : (k : List ℕ) (v : ℕ) → Has d k v → Prefix d k
  prefix_key k v h = record { is = inr ([], v, rw append-nil h) }

  -- a prefix of a prefix
  pub prefix_part : (p r : List ℕ) → Prefix d (p ++ r) → Prefix d p
  prefix_part p r f = go p r f.is
    where
      go : (p r : List ℕ) → (p ++ r ≡ []) ⊎ GoesOn d (p ++ r) → Prefix d p
      go [] r (inl e) = prefix_root
      go (x ∷ p) r (inl e) = absurd (let z : ◌≡◌ {A = ℕ} 0 1 = cc in omega arith)
      go p r (inr t) = record { is = inr (r ++ t.0, t.1, rw append_assoc at t.2) }

  -- a prefix that is not empty is the front part of some key
  pub prefix_on : (p : List ℕ) (x : ℕ) → Prefix d (p ++ x ∷ []) → GoesOn d (p ++ x ∷ [])
  prefix_on p x f = ⊎_elim (λ e. absurd (omega (arith, length_snoc p x, ap length e))) (λ g. g) f.is
