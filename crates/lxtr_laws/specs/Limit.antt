-- The one law that depends on the value of the key limit: the length of a key fits a byte, as it has to in key lists and listings.
-- All other laws use the limit by its name. (Proofs of code unfold it too, where the code has it as a number.)
use Rattle.std.specs.Prelude.{◌^◌, ◌<◌}
use Rattle.std.proofs.Common.{arith}
use Rattle.lxtr_spec.specs.Labels.{max_labels}

pub length_fits_byte : max_labels < 2 ^ 8
unfolding max_labels
length_fits_byte = omega arith
