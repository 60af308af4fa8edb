-- The label lies within the list.
use Rattle.lxtr_build_laws.specs.KeyReading.{label_inside}
use Rattle.std.proofs.Common.{refl}
use Rattle.lxtr_keys.proofs.key.Key.label.Goals as goal

pub key_label-requires : goal.key_label-requires
key_label-requires c = label_inside _ _ _ _ c.args.self.now.whole refl c.requires
