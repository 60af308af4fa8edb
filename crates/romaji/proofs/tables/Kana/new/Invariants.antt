-- The places of the texts before this one are in the array, and this one begins at `at`.
use Rattle.romaji.specs.Tables.{PlacesPut}
use Rattle.romaji.proofs.tables.Kana.new.Given as goal

abbrev pub invariant-loop-place : goal.invariant-loop-place
invariant-loop-place l = PlacesPut l.bytes l.count l.place-index l.at l.place-items
