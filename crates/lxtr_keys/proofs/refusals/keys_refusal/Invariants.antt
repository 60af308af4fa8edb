-- No key before this one is refused, so the rest of the list decides.
use Rattle.std.specs.Prelude.{◌≡◌, IfSome, ltb}
use Rattle.lxtr_keys.specs.Keys.{later, place_before}
use Rattle.lxtr_keys.specs.KeyRefusals.{RestDecides}
use Rattle.lxtr_keys.proofs.refusals.keys_refusal.Given as goal

abbrev pub invariant-loop-i : goal.invariant-loop-i
invariant-loop-i l = record {
  rest : RestDecides l.keys l.count l._i (place_before l.before) l.at;
  same : IfSome l.before (λ k. k.keys.now ≡ l.keys);
  turn : ltb 0 l._i ≡ ltb 0 (later l.before);
}
