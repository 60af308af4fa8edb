-- What a slot of an image is: slot 1, a longer prefix's slot, a key's end, or unused.
-- Document 01 says it by exclusion ("all other slots hold two zero words"); here it is stated directly.
use Rattle.std.specs.Prelude.{ℕ, ◌<◌, List, [], ◌∷◌, ◌++◌}
use Rattle.lxtr_spec.specs.Image.{slot_count}
use Rattle.lxtr_spec.specs.Sets.{PairSet, Has, Prefix, ImageOf}
use Rattle.lxtr_laws.specs.Facts.{ZeroWords}

pub data Kind (b : List ℕ) (d : PairSet) (slot end : List ℕ → ℕ) : ℕ → Type 0 where
  root : Kind b d slot end 1
  inner : (p : List ℕ) (x : ℕ) → Prefix d (p ++ x ∷ []) → Kind b d slot end (slot (p ++ x ∷ []))
  leaf : (k : List ℕ) (v : ℕ) → Has d k v → Kind b d slot end (end k)
  unused : (s : ℕ) → ZeroWords b s → Kind b d slot end s

-- the same for the slots of an image
abbrev pub KindIn : {b : List ℕ} {d : PairSet} → ImageOf b d → ℕ → Type 0
KindIn {b} {d} image = Kind b d image.slot image.end

-- an image of a set, and what each of its slots is
pub record KnownImage (b : List ℕ) (d : PairSet) : Type 0 where
  pub image : ImageOf b d
  pub kinds : (s : ℕ) → s < slot_count b → KindIn image s
