-- Typing and finishing as the code makes them: first the refusals of image and table, then room, then what goes out and what is kept.
-- Results of calls are variables: each law says that what one return computes is the definition's answer.
use Rattle.std.specs.Prelude.{ℕ, ◌+◌, ◌*◌, ◌/◌, ◌≤◌, min, ◌≡◌, ◌≢◌, Bool, true, false, List, ◌++◌, take, leb, Option, None}
use Rattle.std.proofs.Common.{arith, zero-add, sym, ◌∙◌, length-drop}
use Rattle.std.proofs.Math.Path.{ap}
use Rattle.std.proofs.Math.ListN.{length, drop}
use borrow.Author.Tests.{leb-true, leb-false, lt-ltb, le-ltb}
use Rattle.lxtr_spec.specs.Numbers.{be_words}
use Rattle.lxtr_spec.specs.Answers.{number}
use Rattle.lxtr_spec.specs.Refusals.{refuse_if, first_refusal, unless_refused}
use Rattle.lxtr_spec.specs.HighestValues.{HighestAnswer, highest_of}
use Rattle.lxtr_spec.specs.declared.refusals.Refusal.{Refusal}
use Rattle.lxtr_laws.specs.Failures.{number_not_0}
use Rattle.lxtr_laws.specs.RefusalChains.{first_stands, stands}
use Rattle.lxtr_laws.specs.ByteOrders.{big, words_size}
use Rattle.lxtr_laws.specs.Overlays.{over}
use Rattle.romaji_spec.specs.KanaTables.{table_short}
use Rattle.romaji_spec.specs.Pieces.{max_kept, cut}
use Rattle.romaji_spec.specs.Typing.{kept_in, state_of, has_empty_key, table_refusal, room_refusal, TypingAnswer, refused_by, went_out, answered, convert}
use Rattle.romaji_spec.specs.declared.State.{State}
use Rattle.romaji_laws.specs.Steps.{rest_few}
use Rattle.romaji.specs.Tables.{take_least}
use Rattle.romaji.specs.Progress.{out_of}
use Rattle.romaji.specs.Writing.{Converts}

-- ---- refusals of image and table

-- 24 and 25, for the highest value o
abbrev pub later_refusal : List ℕ → List ℕ → Option ℕ → ℕ
later_refusal b kana o = refuse_if (table_short kana o) 24 (refuse_if (has_empty_key b) 25 0)

module _ (b kana : List ℕ) where
  -- e is the refusal of the image
  pub image_refused : (e : Refusal) → ◌≡◌ {A = HighestAnswer} (record { refusal = number e; value = None }) (highest_of b) → number e ≡ table_refusal b kana
  unfolding table_refusal
  image_refused e known = rw (← known) (sym (first_stands (number e) (later_refusal b kana None) (number_not_0 e)))

  -- o is the highest value
  pub later_tested : (o : Option ℕ) → ◌≡◌ {A = HighestAnswer} (record { refusal = 0; value = o }) (highest_of b) → (k : ℕ) → k ≡ later_refusal b kana o → k ≡ table_refusal b kana
  unfolding table_refusal first_refusal
  later_tested o known k e = rw (← known) e

-- ---- the answer for a text t

module _ (keeping : Bool) (b kana t : List ℕ) (s : State) (room : List ℕ) where
  abbrev all : List ℕ
  all = out_of keeping b kana t

  -- f is whether it fits
  module _ (f : Bool) (fit : f ≡ leb (length all) (length room / 4)) where
    pub text_no_room : f ≡ false
        → ◌≡◌ {A = TypingAnswer} (record { answer = record { refusal = 29; count = 0; state = s }; room = room }) (answered kana s room (cut keeping b t))
    unfolding answered room_refusal refuse_if unless_refused refused_by out_of
    text_no_room h =
        let more = leb-false (length all) (length room / 4) (sym fit ∙ h) in
        rw (lt-ltb (length room) (4 * length all) (omega arith))

    pub room_enough : f ≡ true → 4 * length all ≤ length room
    room_enough h = let few = leb-true (length all) (length room / 4) (sym fit ∙ h) in omega arith

    -- the text was converted to place `at`
    module _ (at n : ℕ) (room' : List ℕ) (done : Converts keeping b kana t room at n room') where
      pub rest_size : length t ≤ at + max_kept
      rest_size = omega (arith, ap length done.rest, rest_few keeping b t, length-drop at t)

      pub text_done : f ≡ true → (next : State) → next ≡ state_of (drop at t)
          → ◌≡◌ {A = TypingAnswer} (record { answer = record { refusal = 0; count = n; state = next }; room = room' }) (answered kana s room (cut keeping b t))
      unfolding answered room_refusal refuse_if unless_refused went_out out_of over
      text_done h next e =
          let put : room' ≡ be_words all ++ drop (4 * length all) room = done.put ∙ ap (λ (i : ℕ). be_words all ++ drop i room) (zero-add (length (be_words all)) ∙ words_size big all) in
          rw (le-ltb (length room) (4 * length all) (room_enough h), done.rest, e, done.counts, put)

-- ---- the answer for a state

module _ (keeping : Bool) (b kana : List ℕ) (s : State) (typed room : List ℕ) where
  pub convert_refused : (k : ℕ) → k ≡ table_refusal b kana → k ≢ 0 → ◌≡◌ {A = TypingAnswer} (record { answer = record { refusal = k; count = 0; state = s }; room = room }) (convert keeping b kana s typed room)
  unfolding convert refused_by
  convert_refused k known h = rw (← known) (sym (stands k (answered kana s room (cut keeping b (kept_in s ++ typed))) (refused_by k s room) h))

  -- c bytes of the state are kept
  pub convert_goes : 0 ≡ table_refusal b kana → length s.kept ≡ max_kept → (c : ℕ) → c ≡ min s.count max_kept → (answer : TypingAnswer)
      → answer ≡ answered kana s room (cut keeping b (take c s.kept ++ typed)) → answer ≡ convert keeping b kana s typed room
  unfolding convert unless_refused kept_in
  convert_goes fine sized c count answer e = e ∙ rw (← fine, take_least s.kept c s.count (omega arith))
