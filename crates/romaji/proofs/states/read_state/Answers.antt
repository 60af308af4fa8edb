-- As many bytes are kept as the first one says and as there are.
use Rattle.std.proofs.Common.{◌∙◌, ap, length, arith}
use Rattle.lxtr_spec.specs.Labels.{max_labels}
use Rattle.romaji_spec.specs.Pieces.{max_kept}
use Rattle.romaji_spec.specs.Typing.{state_of}
use Rattle.romaji.specs.StateBytes.{behind_first, read_few, read_kept, read_nothing}
use Rattle.romaji.proofs.states.read_state.Goals as goal

pub returns-in_default : goal.returns-in_default
returns-in_default c = c.rest.ensures ∙ ap state_of (c.new.ensures ∙ read_nothing _ (omega arith))

pub rest-requires-2-clause-rest_kept : goal.rest-requires-2-clause-rest_kept
unfolding max_kept max_labels
rest-requires-2-clause-rest_kept c =
    let behind = behind_first c.args.bytes.now in
    let count = rw (c.min.ensures, behind) at c.min-count.ensures in
    let kept = rw behind at c.new-2.ensures in
    omega (arith, read_few c.args.bytes.now _ count, ap length kept)

pub returns : goal.returns
unfolding max_kept max_labels
returns c =
    let behind = behind_first c.args.bytes.now in
    let count = rw (c.min.ensures, behind) at c.min-count.ensures in
    let kept = rw behind at c.new-2.ensures in
    c.rest-2.ensures ∙ ap state_of (kept ∙ read_kept c.args.bytes.now _ count)
