-- There is no more of the text; or the piece at the front of the query of the bytes that are looked at.
use Rattle.std.proofs.Common.{arith, drop, length-drop}
use Rattle.lxtr_spec.specs.Labels.{max_labels}
use Rattle.romaji_spec.specs.Pieces.{max_kept}
use Rattle.romaji.specs.NextPieces.{NextIs, ends, looks_whole, next_found}
use Rattle.romaji.specs.Progress.{next_fits}
use Rattle.romaji.proofs.pieces.Conversion.piece.Goals as goal
use Rattle.romaji.proofs.pieces.Conversion.piece.Goals.{After-front}

pub returns-then-left-eq0-clause-next : goal.returns-then-left-eq0-clause-next
returns-then-left-eq0-clause-next c = ends (omega (arith, length-drop c.args.at c.args.self.now.text))

pub front-requires : goal.front-requires
unfolding max_labels
front-requires c = looks_whole c.args.self.now.text c.args.at _ _ _ _ (omega arith) (omega arith) (omega arith) c.put_query.ensures

found : (c : After-front) → NextIs c.args.self.now.keeping c.args.self.now.keys (drop c.args.at c.args.self.now.text) c.front.result
unfolding max_labels max_kept
found c =
    next_found c.args.self.now.text c.args.at _ _ _ _ (omega arith) (omega arith) (omega arith) c.put_query.ensures _ _ _ (rw c.len.ensures at c.front.ensures)

pub returns-clause-next : goal.returns-clause-next
returns-clause-next c = found (goal.at.returns-clause-next c).After-front

pub returns-clause-fits : goal.returns-clause-fits
returns-clause-fits c =
    let next = found (goal.at.returns-clause-fits c).After-front in
    next_fits _ _ c.args.self.now.kana _ _ _ c.requires c.len.ensures (omega arith) _ next
