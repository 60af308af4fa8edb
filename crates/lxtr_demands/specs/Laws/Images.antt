-- An image passes the check, and its set is what walks find in it.
-- Both are decidable, so it is enough that no slot can fail to be of one of the kinds, and this is what document 01's rules say.
use Rattle.std.specs.Prelude.{ℕ, zero, suc, ◌<◌, ◌≡◌, List, Option, Some, None}
use Rattle.std.proofs.Common.{refl, sym, ap, not-suc-le-zero, le_refl, arith, subst, ⊎_elim}
use Rattle.std.proofs.Math.Decide.{ℕ_discrete}
use Rattle.std.proofs.Math.Path.{fun_ext}
use Rattle.std.proofs.lemmas.Option.{none-some, same_Some}
use Rattle.std.proofs.Math.Logic.Dec as Dec
use Rattle.lxtr_spec.specs.Image.{slot_count}
use Rattle.lxtr_spec.specs.Refusals.{image_refusal}
use Rattle.lxtr_spec.specs.Walks.{value_of}
use Rattle.lxtr_spec.specs.Sets.{PairSet, Prefix, ImageOf}
use Rattle.lxtr_laws.specs.RangeTests.{below_suc}
use Rattle.lxtr_laws.specs.Facts.{Accepted}
use Rattle.lxtr_laws.specs.Faults.{accepted}
use Rattle.lxtr_laws.specs.KeyPrefixes.{Last, empty, snoc, last}
use Rattle.lxtr_demands.specs.Laws.Kinds.{KindIn, root, inner, leaf, unused, KnownImage}
use Rattle.lxtr_demands.specs.Laws.Slots.{set_is}
use Rattle.lxtr_demands.specs.Laws.SlotsPass.{slot_right}
use Rattle.lxtr_demands.specs.Laws.ListsPass.{lists_right, slot_reaches}
use Rattle.lxtr_demands.specs.Laws.Sound.{sound}

-- whether two values, or none, are the same
same_value : (o p : Option ℕ) → Dec (o ≡ p)
same_value None None = yes refl
same_value None (Some w) = no (none-some w)
same_value (Some v) None = no (λ e. none-some v (sym e))
same_value (Some v) (Some w) = elim (ℕ_discrete v w) [ yes e ↦ yes (ap {B = Option ℕ} Some e) | no n ↦ no (λ e. n (same_Some v w e)) ]

complete : {b : List ℕ} {d : PairSet} → KnownImage b d → Accepted b
complete known =
    let image = known.image in
    record {
      framed = image.framed;
      first = image.lists.first;
      last = image.lists.last;
      slots = λ s l. slot_right known (known.kinds s l);
      lists = lists_right known;
      reach = λ s l. slot_reaches known (known.kinds s l);
    }

-- if P cannot fail at any single number below n, then it cannot fail to hold of all of them
not_not_all : (n : ℕ) (P : ℕ → Type 0) → ((i : ℕ) → i < n → ¬ ¬ P i) → ¬ ¬ ((i : ℕ) → i < n → P i)
not_not_all zero P h k = k (λ i l. absurd (not-suc-le-zero l))
not_not_all (suc n) P h k = not_not_all n P (λ i l. h i (omega arith)) (λ all. h n (le_refl (suc n)) (λ p. k (λ i l. ⊎_elim (λ e. rw e p) (all i) (below_suc i n l))))

module _ {b : List ℕ} {d : PairSet} (image : ImageOf b d) where
  prefix_kind : (p : List ℕ) → Last p → Prefix d p → KindIn image (image.slot p)
  prefix_kind p empty f = rw image.placed.root root
  prefix_kind p (snoc q x l) f = inner q x f

  some_kind : (s : ℕ) → s < slot_count b → ¬ ¬ KindIn image s
  some_kind s h k =
      let z = image.placed.others s h (λ p f e. k (subst (KindIn image) e (prefix_kind p (last p) f))) (λ l v f e. k (subst (KindIn image) e (leaf l v f))) in
      k (unused s (record { is_base_word = z.0; is_check_word = z.1 }))

  not_unknown : ¬ ¬ KnownImage b d
  not_unknown k = not_not_all (slot_count b) (KindIn image) some_kind (λ kinds. k (record { image = image; kinds = kinds }))

  pub image_passes : image_refusal b ≡ 0
  image_passes = (Dec.not-not (ℕ_discrete (image_refusal b) 0)).0 (λ n. not_unknown (λ known. n ((accepted b).1 (complete known))))

  pub image_set : d ≡ value_of b
  image_set = fun_ext (λ k. (Dec.not-not (same_value (d k) (value_of b k))).0 (λ n. not_unknown (λ known. n (set_is known k))))

  -- so it is known what each slot is
  pub known_image : KnownImage b d
  known_image = rw image_set (sound ((accepted b).0 image_passes))

-- the other way: what passes is an image
pub passed_image : (b : List ℕ) → image_refusal b ≡ 0 → ImageOf b (value_of b)
passed_image b e = (sound ((accepted b).0 e)).image
