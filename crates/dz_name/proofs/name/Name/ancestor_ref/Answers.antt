use Rattle.std.proofs.Common.{◌∙◌, ap, drop}
use Rattle.dz_name.proofs.WireLemmas.{is_wire, labels_of-wire}
use Rattle.dz_name.proofs.name.Name.ancestor_ref.Goals as goal

pub of_wire-requires : goal.of_wire-requires
of_wire-requires c = is_wire _ _ c.behind.ensures.name c.behind.ensures.wire

pub returns : goal.returns
returns c =
    c.of_wire.ensures
    ∙ (labels_of-wire _ _ c.behind.ensures.name c.behind.ensures.wire ∙ ap (λ n. drop c.args.skip n) c.as_ref.ensures)
