-- The part that `longest` hands back, with the value that a lookup gives for it. The empty key has none, so a piece has a label.
use Rattle.std.proofs.Common.{◌∙◌, refl, ap}
use Rattle.lxtr_spec.specs.Searches.{case_value}
use Rattle.romaji.specs.NextPieces.{looked_none, looked_some, longest_part}
use Rattle.romaji.proofs.keys.Keys.longest_key.Goals as goal

pub returns-in-Some : goal.returns-in-Some
returns-in-Some c =
    let part = longest_part _ _ c.longest.result c.longest.ensures c.unwrap_or-part.result _ refl c.unwrap_or-part.ensures in
    rw (← c.self.view_is) (looked_some _ _ c.self.invariant c.requires _ part _ (c.value.ensures ∙ ap case_value c.case_of.ensures) _ c.in-Some.is)

pub returns-in-None : goal.returns-in-None
returns-in-None c =
    let part = longest_part _ _ c.longest.result c.longest.ensures c.unwrap_or-part.result _ refl c.unwrap_or-part.ensures in
    rw (← c.self.view_is) (looked_none _ _ c.self.invariant c.requires _ part _ (c.value.ensures ∙ ap case_value c.case_of.ensures) c.in-None.is)
