-- The characters of a text are its labels.
use Rattle.std.proofs.Common.{rules, ◌≡◌, length}
use Rattle.std.specs.Str.{chars}
use Rattle.std.proofs.lemmas.Str.{chars_from_encodes}
use Rattle.lxtr_utf8.specs.Decoding.{counted_ok, counted_wrong}
use Rattle.lxtr_utf8.proofs.count_characters.Goals as goal

pub returns-in-Ok : goal.returns-in-Ok
returns-in-Ok c =
    let p = c.in-Ok.ensures.cases in
    let n : c.count.result ≡ length (chars c.args.text.now) = rw (← p.0) (search (rules, chars_from_encodes)) in
    counted_ok c.args.text.now p.1 _ n

pub returns-in-Err : goal.returns-in-Err
returns-in-Err c = counted_wrong c.args.text.now c.in-Err.ensures.cases.0
