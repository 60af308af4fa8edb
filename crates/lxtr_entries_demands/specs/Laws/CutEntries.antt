-- Bytes cut into entries of eight: joined they are the bytes again, and entries that were joined are cut into the same entries.
-- By induction over the entries.
use Rattle.std.specs.Prelude.{ℕ, zero, suc, ◌*◌, ◌≡◌, refl, length, take, drop}
use Rattle.std.proofs.Common.{arith, sym, ap, ap₂, ◌∙◌, ⊎_elim, length-append, length-drop, take-append-drop, length-take-le, take_at, drop_at}
use mathlib.Core.List.Memᴰ
use mathlib.Core.List.{List, [], ◌∷◌, ◌++◌, append_assoc, flatten, Memᴰ}
use Rattle.lxtr_entries_spec.specs.EntryTables.{entry_size}
use Rattle.lxtr_entries_demands.specs.EntryDemand.{Entry}

-- lists joined in two parts
pub flatten_append : {A : Type 0} (l m : List (List A)) → flatten (l ++ m) ≡ flatten l ++ flatten m
unfolding flatten
flatten_append [] m = refl
flatten_append {A} (x ∷ l) m = ap (λ (r : List A). x ++ r) (flatten_append l m) ∙ sym (append_assoc x (flatten l) (flatten m))

-- entries of eight bytes
abbrev pub Sized : List Entry → Type 0
Sized es = (e : Entry) → Memᴰ e es → length e ≡ entry_size

pub sized_front : (es fs : List Entry) → Sized (es ++ fs) → Sized es
sized_front es fs sized e m = sized e (Memᴰ.append_left fs m)

pub sized_rest : (es fs : List Entry) → Sized (es ++ fs) → Sized fs
sized_rest es fs sized e m = sized e (Memᴰ.append_right es m)

-- n entries from the front of r
unfoldable pub cut_entries : ℕ → List ℕ → List Entry
cut_entries zero r = []
cut_entries (suc n) r = take entry_size r ∷ cut_entries n (drop entry_size r)

pub cut_count : (n : ℕ) (r : List ℕ) → length (cut_entries n r) ≡ n
unfolding cut_entries
cut_count zero r = refl
cut_count (suc n) r = ap suc (cut_count n (drop entry_size r))

pub cut_sized : (n : ℕ) (r : List ℕ) → length r ≡ entry_size * n → Sized (cut_entries n r)
unfolding cut_entries
cut_sized zero r size e m = absurd (Memᴰ.not-nil m)
cut_sized (suc n) r size e m = ⊎_elim
    (λ same. ap length same ∙ length-take-le entry_size r (omega arith))
    (cut_sized n (drop entry_size r) (omega (arith, length-drop entry_size r)) e)
    (Memᴰ.cases_cons m)

pub cut_joined : (n : ℕ) (r : List ℕ) → length r ≡ entry_size * n → flatten (cut_entries n r) ≡ r
unfolding cut_entries flatten
cut_joined zero [] size = refl
cut_joined zero (x ∷ r) size = absurd (omega arith)
cut_joined (suc n) r size =
    ap (λ (l : List ℕ). take entry_size r ++ l) (cut_joined n (drop entry_size r) (omega (arith, length-drop entry_size r))) ∙ take-append-drop entry_size r

pub joined_size : (es : List Entry) → Sized es → length (flatten es) ≡ entry_size * length es
unfolding flatten
joined_size [] sized = refl
joined_size (e ∷ es) sized =
    omega (arith, length-append e (flatten es), sized e (Memᴰ.head refl), joined_size es (λ x m. sized x (Memᴰ.tail m)))

pub joined_cut : (es : List Entry) → Sized es → cut_entries (length es) (flatten es) ≡ es
unfolding cut_entries flatten
joined_cut [] sized = refl
joined_cut (e ∷ es) sized =
    let size = sized e (Memᴰ.head refl) in
    ap₂ {C = List Entry} (λ x l. x ∷ l)
    (take_at e (flatten es) entry_size size)
    (ap (cut_entries (length es)) (drop_at e (flatten es) entry_size size) ∙ joined_cut es (λ x m. sized x (Memᴰ.tail m)))
