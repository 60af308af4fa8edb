-- Where the labels of a query lead in an image: to the slot of a prefix, or nowhere.
-- No prefix has more labels than a key may have, so the searches' limit takes nothing away.
use Rattle.std.specs.Prelude.{ℕ, ◌≤◌, ◌≡◌, ◌⊎◌, List, [], ◌++◌, length, Option, Some, None}
use Rattle.std.proofs.Common.{arith, ap, ◌∙◌, inl, inr, length-append}
use Rattle.std.proofs.Math.Path.{sym, refl}
use Rattle.lxtr_spec.specs.Labels.{max_labels}
use Rattle.lxtr_spec.specs.Walks.{walk_within, value_reached, value_of}
use Rattle.lxtr_spec.specs.Sets.{PairSet, Prefix}
use Rattle.lxtr_laws.specs.KeyPrefixes.{prefix_key, GoesOn}
use Rattle.lxtr_laws.specs.StepFacts.{none_not_some}
use Rattle.lxtr_laws.specs.Walking.{within_is}
use Rattle.lxtr_demands.specs.Laws.Kinds.{KnownImage}
use Rattle.lxtr_demands.specs.Laws.Slots.{walk_prefix, walked, set_is}

-- what the walk by the labels gives
pub data Leads (d : PairSet) (slot : List ℕ → ℕ) (xs : List ℕ) : Option ℕ → Type 0 where
  to_slot : Prefix d xs → Leads d slot xs (Some (slot xs))
  nowhere : (Prefix d xs → ⊥) → Leads d slot xs None

module _ {b : List ℕ} {d : PairSet} (known : KnownImage b d) (xs : List ℕ) where
  open known use {image}

  prefix_length : Prefix d xs → length xs ≤ max_labels
  prefix_length f = go f.is
    where
      go : (xs ≡ []) ⊎ GoesOn d xs → length xs ≤ max_labels
      go (inl e) = omega (arith, ap length e)
      go (inr (r, v, h)) = omega (arith, image.keys.is_key_length (xs ++ r) v h, length-append xs r)

  pub leads : Leads d image.slot xs (walk_within b xs)
  leads = go (walk_within b xs) refl
    where
      go : (o : Option ℕ) → walk_within b xs ≡ o → Leads d image.slot xs (walk_within b xs)
      go (Some t) e =
          let w = walked known xs t ((within_is b xs t).0 e).1 in
          rw (e, ← w.1) (to_slot w.0)
      go None e = rw e (nowhere (λ f. none_not_some (sym e ∙ (within_is b xs (image.slot xs)).1 (prefix_length f, walk_prefix image xs f))))

  -- the value there is the set's
  pub value_led : {o : Option ℕ} → Leads d image.slot xs o → value_reached b o ≡ d xs
  unfolding value_reached value_of
  value_led (to_slot f) = sym (rw (walk_prefix image xs f) at (set_is known xs))
  value_led (nowhere n) = go (d xs) refl
    where
      go : (o : Option ℕ) → d xs ≡ o → None ≡ d xs
      go None e = sym e
      go (Some v) e = absurd (n (prefix_key d xs v e))
