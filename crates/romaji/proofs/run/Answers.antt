-- There is no room, or what goes out is written and the rest is kept.
use Rattle.romaji.specs.Answering.{text_no_room, rest_size, text_done}
use Rattle.romaji.proofs.run.Goals as goal

pub returns-then-not-fits : goal.returns-then-not-fits
returns-then-not-fits c = text_no_room _ _ _ _ _ _ _ c.fits.ensures c.if-not-fits.true

pub rest-requires-clause-rest_kept : goal.rest-requires-clause-rest_kept
rest-requires-clause-rest_kept c = rest_size _ _ _ _ c.args.state.now _ _ c.fits.ensures _ _ _ c.put-done.ensures

pub returns : goal.returns
returns c = text_done _ _ _ _ _ _ _ c.fits.ensures _ _ _ c.put-done.ensures c.if-not-fits.false _ c.rest.ensures
