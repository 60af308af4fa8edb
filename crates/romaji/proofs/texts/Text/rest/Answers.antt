-- As many bytes are left as a state can keep.
use Rattle.std.proofs.Common.{◌≡◌, ◌-◌, length, arith}
use Rattle.lxtr_spec.specs.Labels.{max_labels}
use Rattle.romaji_spec.specs.Pieces.{max_kept}
use Rattle.romaji.specs.Texts.{rest_start, rest_fits, rest_next, rest_end}
use Rattle.romaji.proofs.texts.Text.rest.Goals as goal

pub loop-i-init : goal.loop-i-init
unfolding max_kept max_labels
loop-i-init c = rest_start c.args.self.now c.args.at

pub bounds-kept-i : goal.bounds-kept-i
unfolding max_kept max_labels
bounds-kept-i c = omega (arith, c.requires.rest_kept)

pub loop-i-preserved : goal.loop-i-preserved
loop-i-preserved c = rw c.byte.ensures (rest_next _ _ c.requires.rest_kept _ _ c.loop-i.invariant (omega arith))

pub overflow_cast-result : goal.overflow_cast-result
overflow_cast-result c = omega (arith, rest_fits _ _ c.requires.rest_kept)

pub returns : goal.returns
returns c =
    let all : c.loop-i.i ≡ length c.args.self.now - c.args.at = omega arith in
    rw c.len.ensures (rest_end _ _ c.requires.rest_kept _ _ c.loop-i.invariant all)
