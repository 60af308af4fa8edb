-- Answers, and the outcomes that they stand for: a refusal, 23, or the image at the output's front.
use Rattle.std.specs.Prelude.{ℕ, ◌≤◌, ◌<◌, ◌≡◌, List, ◌++◌, length, Result, Ok, Err}
use Rattle.std.proofs.Common.{zero-add, arith, ◌∙◌, lt-ltb, le-ltb}
use Rattle.std.proofs.Math.Path.{refl, ap}
use Rattle.std.proofs.Math.ListN.{drop}
use Rattle.lxtr_spec.specs.Builds.{image_in, slots_used, slots_in, Outcome, refuses, with_room, answered}
use Rattle.lxtr_spec.specs.declared.refusals.Refusal.{Refusal}
use Rattle.lxtr_spec.specs.declared.refusals.Refusal.TheVariants.{OutTooSmall}
use Rattle.lxtr_spec.specs.Answers.{refusal_of, answer_or, number}
use Rattle.lxtr_laws.specs.Overlays.{over}

-- The answer and the output after it are those of an outcome, for the output before it. What the work holds is left open.
pub record Answers (o : Outcome) (out : List ℕ) (r : Result ℕ Refusal) (out' : List ℕ) : Type 0 where
  pub any_work : (work : List ℕ) → record { answer = record { refusal = refusal_of r; length = answer_or 0 r }; output = out'; work = work } ≡ answered o out work

pub answers_refusal : (e : Refusal) (out : List ℕ) → Answers (refuses (number e)) out (Err e) out
unfolding answered
answers_refusal e out = record { any_work = λ work. refl }

-- refusal 23, or the image at the output's front
module _ (image out : List ℕ) where
  pub image_short : length out < length image → Answers (with_room (length out) image) out (Err OutTooSmall) out
  unfolding with_room
  image_short h = rw (lt-ltb (length out) (length image) h, with_room) (answers_refusal OutTooSmall out)

  pub image_fits : (out' : List ℕ) (size : ℕ) → length image ≡ size → size ≤ length out → out' ≡ over out 0 image → Answers (with_room (length out) image) out (Ok size) out'
  unfolding with_room answered over
  image_fits out' size is h q =
      let front : out' ≡ image ++ drop (length image) out = q ∙ ap (λ (k : ℕ). image ++ drop k out) (zero-add (length image)) in
      rw (le-ltb (length out) (length image) (omega arith), with_room, front, ← is) (record { any_work = λ work. refl })

-- the image of all used slots
pub image_answered : (w m : List ℕ) (S N R : ℕ) (out : List ℕ) (r : Result ℕ Refusal) (out' : List ℕ) → S ≡ slots_in (length w) → N ≡ slots_used w S
    → Answers (with_room R (image_in w N m)) out r out' → Answers (with_room R (image_in w (slots_used w (slots_in (length w))) m)) out r out'
image_answered w m S N R out r out' is used a = rw (← is, ← used) a
