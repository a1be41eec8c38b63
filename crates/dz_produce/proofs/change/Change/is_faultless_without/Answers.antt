use Rattle.std.proofs.Common.{◌∙◌, sym, ◌++◌, [], ◌∷◌}
use Rattle.dz_produce.proofs.ChangeLemmas.{sure, lacking, labels_with}
use Rattle.dz_produce.proofs.change.Change.is_faultless_without.Goals as goal

pub returns-then-not-contains : goal.returns-then-not-contains
returns-then-not-contains c =
    let fails = sym (c.self.invariant.stays c.args.label) ∙ (sym c.contains.ensures ∙ c.if-not-contains.true) in
    rw (← c.self.view_is) (lacking c.self.inside.version c.args.serial c.self.inside.dropped.items c.args.label fails)

pub returns-then-self-le-SURE : goal.returns-then-self-le-SURE
returns-then-self-le-SURE c =
    let newer = rw (← c.self.view_is) at c.requires.newer in
    let labels = rw (← c.self.view_is) at c.requires.labels in
    let holds = sym (c.self.invariant.stays c.args.label) ∙ (sym c.contains.ensures ∙ c.if-not-contains.false) in
    let with_label = labels_with c.self.inside.version c.self.inside.dropped.items c.args.label labels holds in
    rw (← c.self.view_is)
    (sure c.self.inside.version c.args.serial c.self.inside.octets (c.self.inside.dropped.items ++ c.args.label ∷ [])
    c.self.invariant.known c.self.invariant.octets c.if-self-le-SURE.true newer with_label)
