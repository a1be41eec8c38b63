use Rattle.std.proofs.Common.{◌∙◌, ap}
use Rattle.std.specs.Prelude.{Some}
use Rattle.dz_name.proofs.KeptLemmas.{wire_some}
use Rattle.dz_name.proofs.PartLemmas.{first_in, parent_none, parent_some, parent_wire}
use Rattle.dz_name.proofs.WireLemmas.{is_wire, labels_of-wire}
use Rattle.dz_name.proofs.name_ref.NameRef.parent.Goals as goal

pub bounds-wire-0 : goal.bounds-wire-0
bounds-wire-0 c = rw c.wire-wire.ensures.wire (wire_some _)

pub returns-then-wire-eq0 : goal.returns-then-wire-eq0
returns-then-wire-eq0 c = parent_none _ _ c.wire-wire.ensures.name c.wire-wire.ensures.wire c.if-wire-eq0.true

pub behind_label-requires-clause-whole : goal.behind_label-requires-clause-whole
behind_label-requires-clause-whole c = rw c.wire-wire.ensures.wire (first_in _)

pub of_wire-requires : goal.of_wire-requires
of_wire-requires c =
    let w = parent_wire _ _ _ c.wire-wire.ensures.name c.wire-wire.ensures.wire c.if-wire-eq0.false
    c.behind_label.ensures in
    is_wire _ _ w.name w.wire

pub returns : goal.returns
returns c =
    let w = parent_wire _ _ _ c.wire-wire.ensures.name c.wire-wire.ensures.wire c.if-wire-eq0.false
    c.behind_label.ensures in
    ap Some (c.of_wire.ensures ∙ labels_of-wire _ _ w.name w.wire)
    ∙ parent_some _ _ c.wire-wire.ensures.name c.wire-wire.ensures.wire c.if-wire-eq0.false
