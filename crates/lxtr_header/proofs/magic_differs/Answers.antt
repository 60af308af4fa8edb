-- Bytes are below 256, so two numbers of four bytes are equal exactly when all their bytes are. Only the first four bytes are compared.
use Rattle.std.proofs.Common.{rules}
use Rattle.lxtr_spec.specs.Ranges.{any_below}
use Rattle.lxtr_spec.specs.Refusals.{byte_differs, magic_differs}
use Rattle.lxtr_header.specs.Bytes.{magic_number}
use Rattle.lxtr_header.proofs.magic_differs.Goals as goal

pub returns : goal.returns
unfolding magic_differs byte_differs any_below
returns c = search (magic_number, rules)
