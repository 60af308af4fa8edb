-- What the demand says of the answer to one call: there is one only, and it is a refusal, or labels for which there is room, with a
-- rest. Typing and finishing are one proof, over which texts are kept back.
use Rattle.std.specs.Prelude.{ℕ, ◌*◌, ◌≤◌, ◌<◌, ◌≡◌, refl, ◌≢◌, ◌⊎◌, List, [], ◌++◌, length}
use Rattle.std.proofs.Common.{arith, sym, ◌∙◌, inl, inr, ⊎_elim}
use Rattle.std.proofs.Math.Decide.{dec_lt}
use Rattle.lxtr_spec.specs.Sets.{PairSet}
use Rattle.lxtr_spec.specs.Meaning.{Longer}
use Rattle.romaji_spec.specs.Pieces.{max_kept, Piece, outgoing}
use Rattle.romaji_spec.specs.Typing.{TypingAnswer, refused_by, went_out}
use Rattle.romaji_spec.specs.declared.State.{State}
use Rattle.romaji_demands.specs.Cuts.{joined, CutInto, Never}
use Rattle.romaji_demands.specs.TypingDemand.{Program, Ready, RefusedBy, Bytes, Answers, text_of, TypingDemand}
use Rattle.romaji_demands.specs.Laws.TableRefusals.{refusal_above_0, decided}
use Rattle.romaji_demands.specs.Laws.Typing.{typing_demand}

-- a is what the demand says of a call with this state, text and room
pub record Demanded (b kana : List ℕ) (Waits : PairSet → List ℕ → Type 0) (s : State) (text room : List ℕ) (a : TypingAnswer) : Type 0 where
  pub refused : (k : ℕ) → RefusedBy b kana k → a ≡ refused_by k s room
  pub answers : (d : PairSet) → Ready b kana d → Answers d (Waits d) kana s text room a

-- a is a refusal, or labels that went out
abbrev pub Refusal : State → List ℕ → TypingAnswer → Type 0
Refusal s room a = (k : ℕ) × (k ≢ 0) × (a ≡ refused_by k s room)

abbrev pub GoneOut : (List ℕ → Type 0) → List ℕ → TypingAnswer → Type 0
GoneOut Rest room a = (out : List ℕ) × (rest : List ℕ) × (4 * length out ≤ length room) × Rest rest × (a ≡ went_out room out rest)

-- a text that is cut in some way, with a rest of which `Rest` holds
abbrev pub SomeCut : List ℕ → List ℕ → (PairSet → List ℕ → Type 0) → (List ℕ → Type 0) → List ℕ → Type 0
SomeCut b kana Waits Rest text = (d : PairSet) → Ready b kana d → (ps : List Piece) × (rest : List ℕ) × CutInto d (Waits d) text ps rest × Rest rest

-- the one answer that is demanded
record TheAnswer (b kana : List ℕ) (Waits : PairSet → List ℕ → Type 0) (Rest : List ℕ → Type 0) (s : State) (text room : List ℕ) : Type 0 where
  it : TypingAnswer
  kind : Refusal s room it ⊎ GoneOut Rest room it
  only : (a : TypingAnswer) → Demanded b kana Waits s text room a → a ≡ it

module _ {b kana : List ℕ} {Waits : PairSet → List ℕ → Type 0} {Rest : List ℕ → Type 0} {text : List ℕ} (some_cut : SomeCut b kana Waits Rest text) where
  the_answer : (s : State) (room : List ℕ) → TheAnswer b kana Waits Rest s text room
  the_answer s room = ⊎_elim
      (λ (k, r). record { it = refused_by k s room; kind = inl (k, refusal_above_0 b kana k r, refl); only = λ a x. x.refused k r })
      (λ (d, ready). let (ps, rest, is, holds) = some_cut d ready in by_room d ready ps rest is holds (dec_lt (length room) (4 * length (outgoing kana ps))))
      (decided b kana)
    where
      by_room : (d : PairSet) → Ready b kana d → (ps : List Piece) (rest : List ℕ) → CutInto d (Waits d) text ps rest → Rest rest → Dec (length room < 4 * length (outgoing kana ps)) → TheAnswer b kana Waits Rest s text room
      by_room d ready ps rest is holds (yes short) = record { it = refused_by 29 s room; kind = inl (29, λ e. omega (arith, e), refl); only = λ a x. (x.answers d ready).no_room ps rest is short }
      by_room d ready ps rest is holds (no enough) =
          let h : 4 * length (outgoing kana ps) ≤ length room = omega arith in
          record { it = went_out room (outgoing kana ps) rest; kind = inr (outgoing kana ps, rest, h, holds, refl); only = λ a x. (x.answers d ready).is_goes_out ps rest is h }

  module _ {s : State} {room : List ℕ} {a : TypingAnswer} (x : Demanded b kana Waits s text room a) where
    pub outcome : Refusal s room a ⊎ GoneOut Rest room a
    outcome = rw ((the_answer s room).only a x) (the_answer s room).kind

    pub one_answer : {c : TypingAnswer} → Demanded b kana Waits s text room c → a ≡ c
    one_answer {c} y = (the_answer s room).only a x ∙ sym ((the_answer s room).only c y)

-- a back part of the text t that fits into a state
abbrev pub FitsBehind : List ℕ → List ℕ → Type 0
FitsBehind t rest = (length rest ≤ max_kept) × ((before : List ℕ) × (t ≡ before ++ rest))

-- A text of bytes is cut in some way; typing leaves such a rest, finishing none.
module _ (b kana t : List ℕ) (small : Bytes t) where
  pub type_cut : SomeCut b kana Longer (FitsBehind t) t
  type_cut d ready =
      let (ps, rest, is) = (typing_demand.some_cut b kana d ready t small).0 in
      (ps, rest, is, (typing_demand.few_kept b kana d ready t ps rest is, (joined ps, is.parts)))

  pub finish_cut : SomeCut b kana (λ d. Never) (λ rest. rest ≡ []) t
  finish_cut d ready = let (ps, is) = (typing_demand.some_cut b kana d ready t small).1 in (ps, [], is, refl)

-- what a program that meets the demand answers is demanded
module _ (o : Program) (meets : TypingDemand o) (b kana : List ℕ) (s : State) (room : List ℕ) where
  pub type_demanded : (typed : List ℕ) → Bytes (text_of s typed) → Demanded b kana Longer s (text_of s typed) room (o.type b kana s typed room)
  type_demanded typed small = record { refused = λ k r. (meets.refused b kana k r s typed room).0; answers = λ d ready. meets.typed b kana d ready s typed room small }

  pub finish_demanded : Bytes (text_of s []) → Demanded b kana (λ d. Never) s (text_of s []) room (o.finish b kana s room)
  finish_demanded small = record { refused = λ k r. (meets.refused b kana k r s [] room).1; answers = λ d ready. meets.finished b kana d ready s room small }
