-- There are no bytes; or the first byte is the count, and the kept bytes follow as far as they fit.
use Rattle.std.proofs.Common.{◌≡◌, ◌≢◌, length, arith}
use Rattle.lxtr_spec.specs.Labels.{max_labels}
use Rattle.romaji_spec.specs.Pieces.{max_kept}
use Rattle.romaji.specs.StateBytes.{put_none, put_all}
use Rattle.romaji.proofs.states.put_state.Goals as goal

pub returns-then-is_empty : goal.returns-then-is_empty
returns-then-is_empty c = put_none _ _ (grind arith)

pub returns : goal.returns
unfolding max_kept max_labels
returns c =
    let sized : length c.args.state.kept ≡ 63 = omega arith in
    let some : length c.args.bytes.now ≢ 0 = grind arith in
    put_all _ _ _ _ sized some c.min-count.ensures (omega arith) _ c.copy_from_slice.ensures.after
