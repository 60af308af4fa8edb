-- The number and the places of prefixes are those of the definition's answer p: after a refusal the places stay as they are, otherwise
-- both arrays are put there.
use Rattle.std.specs.Prelude.{ℕ, ◌≡◌, List, false}
use Rattle.lxtr_spec.specs.Refusals.{unless_refused}
use Rattle.lxtr_spec.specs.Searches.{Prefixes, prefixes_of}
use Rattle.lxtr_spec.specs.HostNumbers.{host_number, HostPrefixes, alternately, at_front, prefixes_number, places_after, host_prefixes_of}
use Rattle.lxtr_laws.specs.RefusalChains.{stands}

-- k, m and n are its refusal, its count and their number, as they were made
module _ (b q places : List ℕ) (p : Prefixes) (k m n : ℕ) (e : p ≡ prefixes_of b q) (refusal : k ≡ p.refusal) (count : m ≡ p.count) (h : n ≡ host_number k false false m) where
  pub prefixes_refused : (k ≡ 0 → ⊥) → ◌≡◌ {A = HostPrefixes} (record { number = n; places = places }) (host_prefixes_of b q places)
  unfolding host_prefixes_of prefixes_number places_after
  prefixes_refused r = rw (← e, ← refusal, stands k (at_front (alternately p.lengths p.values) places) places r, h, count)

  pub prefixes_passed : (ls vs after : List ℕ) → k ≡ 0 → ls ≡ p.lengths → vs ≡ p.values → after ≡ at_front (alternately ls vs) places
      → ◌≡◌ {A = HostPrefixes} (record { number = n; places = after }) (host_prefixes_of b q places)
  unfolding host_prefixes_of prefixes_number places_after unless_refused
  prefixes_passed ls vs after z l v f = rw (← e, ← refusal, h, z, f, l, v, count)
