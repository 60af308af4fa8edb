use Rattle.std.proofs.Common.{◌≡◌, ◌+◌, ◌≤◌, ◌<◌, ◌∙◌, rules, tests}
use Rattle.std.proofs.lemmas.Iterator.{first_from_Range}
use Rattle.lxtr_spec.specs.Image.{offset}
use Rattle.lxtr_command_spec.specs.Drawings.{list_of}
use Rattle.lxtr_draw.specs.EntryLists.{list_found, list_on}
use Rattle.lxtr_draw.proofs.list_in.Goals as goal

pub returns : goal.returns
returns c =
    let v : c.unwrap_or.result ≡ list_of c.args.image.now c.args.j =
    c.unwrap_or.ensures
    ∙ list_found _ _ c.bytes.ensures.passed _ _ _ c.requires.from_bound c.requires.j_bound c.slot_count-slots.ensures.value
    (first_from_Range _ _ _ _ (λ p. c.args.j < offset c.args.image.now (p + 1)) (λ p. offset c.args.image.now (p + 1) ≤ c.args.j) c.find.ensures.ran
    (λ x q k. search (rules, tests)) (λ x q k. search (rules, tests))) in
    record { value = v; next = list_on _ _ _ c.bytes.ensures.passed v }
