-- The keys of a list one after the other: s, what is given, and t are the rest before, the key and the rest after.
use Rattle.std.specs.Prelude.{ℕ, zero, suc, ◌+◌, ◌-◌, ◌≤◌, ◌<◌, ◌≡◌, ◌≢◌, List, Option, MatchOption}
use Rattle.std.proofs.Common.{arith, refl}
use Rattle.lxtr_spec.specs.KeyLists.{next_key}
use Rattle.lxtr_build_laws.specs.KeyListFacts.{WholeKey, WholeKeys}
use Rattle.lxtr_keys.specs.declared.key.Key.{Key}
use Rattle.lxtr_keys.specs.declared.walk.Keys.{Keys}

abbrev pub NextKey : Keys → Option Key → Keys → Type 0
NextKey s r t = MatchOption r (s.left ≡ 0)
    (λ k. (s.left ≡ t.left + 1) × (k.keys.now ≡ s.keys.now) × (k.at ≡ s.at) × (t.keys.now ≡ s.keys.now) × (t.at ≡ next_key s.keys.now s.at))

-- of n keys that are whole, the first one is, and so are the others
pub whole_first : (b : List ℕ) (n at : ℕ) → n ≢ 0 → WholeKeys b n at → WholeKey b at
unfolding WholeKeys
whole_first b zero at h w = absurd (h refl)
whole_first b (suc n) at h w = w.0

pub whole_others : (b : List ℕ) (n at at' : ℕ) → n ≢ 0 → WholeKeys b n at → at' ≡ next_key b at → WholeKeys b (n - 1) at'
unfolding WholeKeys
whole_others b zero at at' h w e = absurd (h refl)
whole_others b (suc n) at at' h w e = let p : suc n - 1 ≡ n = omega arith in rw (e, p) w.1

-- with `left` of `count` keys left, the next one is key number `count - left`
pub walked : (count left left' : ℕ) → left ≤ count → left ≡ left' + 1 → (count - left < count) × (count - left + 1 ≡ count - left') × (left' ≤ count)
walked count left left' h e = (omega arith, omega arith, omega arith)
