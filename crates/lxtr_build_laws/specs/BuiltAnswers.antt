-- What the builder's answer says of the output: the length in the answer is at most that of the output.
use Rattle.std.specs.Prelude.{ℕ, ◌≤◌, ◌≡◌, List, length, drop}
use Rattle.std.proofs.Common.{arith, ap, length-append}
use Rattle.lxtr_spec.specs.Builds.{Outcome, refuses, builds, BuildAnswer, outcome_of, answered, work_after, build_of}
use Rattle.lxtr_spec.specs.Builds.{Built}

answered_within : (x : Outcome) (out work : List ℕ) → (answered x out work).answer.length ≤ length (answered x out work).output
unfolding answered
answered_within (refuses k) out work = omega arith
answered_within (builds image) out work = let e = length-append image (drop (length image) out) in omega arith

pub built_within : (keys work out o w : List ℕ) (r : Built) → record { answer = r; output = o; work = w } ≡ build_of keys work out → r.length ≤ length o
unfolding build_of
built_within keys work out o w r e =
    let h = answered_within (outcome_of (length work) (length out) keys) out (work_after work) in
    let a : r.length ≡ (build_of keys work out).answer.length = ap (λ (x : BuildAnswer). x.answer.length) e in
    let b : length o ≡ length (build_of keys work out).output = ap (λ (x : BuildAnswer). length x.output) e in
    omega arith
