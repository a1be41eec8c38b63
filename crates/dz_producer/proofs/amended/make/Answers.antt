use Rattle.std.proofs.Common.{◌++◌, sym, ◌∙◌, ap}
use Rattle.dz_producer.specs.declared.fault.AmendFault.TheVariants.{Produce}
use Rattle.std.proofs.Common.{Some}
use Rattle.dz_producer.specs.Amended.{gone, nodes_after}
use Rattle.dz_producer.specs.inner.Changes.{spelled}
use Rattle.dz_producer.specs.inner.Nodes.{values}
use Rattle.dz_producer.proofs.MakeLemmas.{nodes_told, gone_sound, added_sound, records_fit, octets_are, too_long}
use Rattle.dz_producer.proofs.MakeLemmas.{not_long, made}
use Rattle.dz_producer.proofs.SpelledLemmas.{groups_of_values, short_of_values}
use Rattle.dz_producer.proofs.amended.make.Goals as goal

pub returns-in-Err-Fault-clause-made : goal.returns-in-Err-Fault-clause-made
returns-in-Err-Fault-clause-made c =
    let old = c.args.old.now in
    let dropped = c.args.change.now.dropped.now in
    let added = values c.args.change.now.added.items in
    let name = c.to_name.ensures ∙ c.apex.ensures in
    let nodes = ap values c.as_slice-3.ensures.value
    ∙ (c.in_ok-nodes.ensures ∙ (ap (λ bs. values bs ++ values c.as_slice-2.result.now) c.as_slice.ensures.value
    ∙ (ap (λ bs. values c.args.change.now.kept.items ++ values bs) c.as_slice-2.ensures.value
    ∙ ap (λ ns. ns ++ added) c.requires.kept))) in
    nodes_told old c.args.serial dropped added c.to_name.result
    (values c.as_slice-3.result.now) name nodes c.in-Err-Fault.fault c.requires.newer c.requires.labels
    (rw c.in-Err-Fault.field-0-is at c.in-Err-Fault.ensures.made)
    ∙ ap (λ f. Some (Produce f)) (sym c.in-Err-Fault.fault-is)

pub difference-requires-clause-gone_groups : goal.difference-requires-clause-gone_groups
difference-requires-clause-gone_groups c =
    let old = c.args.old.now in
    let dropped = c.args.change.now.dropped.now in
    let added = values c.args.change.now.added.items in
    let name = c.to_name.ensures ∙ c.apex.ensures in
    let nodes = ap values c.as_slice-3.ensures.value
    ∙ (c.in_ok-nodes.ensures ∙ (ap (λ bs. values bs ++ values c.as_slice-2.result.now) c.as_slice.ensures.value
    ∙ (ap (λ bs. values c.args.change.now.kept.items ++ values bs) c.as_slice-2.ensures.value
    ∙ ap (λ ns. ns ++ added) c.requires.kept))) in
    groups_of_values old.apex c.as_slice-4.result.now _ (ap values c.as_slice-4.ensures.value ∙ c.requires.gone)
    (gone_sound old c.args.serial dropped added c.to_name.result
    (values c.as_slice-3.result.now) name nodes c.requires.catalog)

pub difference-requires-clause-gone_short : goal.difference-requires-clause-gone_short
difference-requires-clause-gone_short c =
    let old = c.args.old.now in
    let dropped = c.args.change.now.dropped.now in
    let added = values c.args.change.now.added.items in
    let name = c.to_name.ensures ∙ c.apex.ensures in
    let nodes = ap values c.as_slice-3.ensures.value
    ∙ (c.in_ok-nodes.ensures ∙ (ap (λ bs. values bs ++ values c.as_slice-2.result.now) c.as_slice.ensures.value
    ∙ (ap (λ bs. values c.args.change.now.kept.items ++ values bs) c.as_slice-2.ensures.value
    ∙ ap (λ ns. ns ++ added) c.requires.kept))) in
    short_of_values old.apex c.as_slice-4.result.now _ (ap values c.as_slice-4.ensures.value ∙ c.requires.gone)
    (gone_sound old c.args.serial dropped added c.to_name.result
    (values c.as_slice-3.result.now) name nodes c.requires.catalog)

pub difference-requires-clause-added_groups : goal.difference-requires-clause-added_groups
difference-requires-clause-added_groups c =
    let old = c.args.old.now in
    let dropped = c.args.change.now.dropped.now in
    let added = values c.args.change.now.added.items in
    let name = c.to_name.ensures ∙ c.apex.ensures in
    let nodes = ap values c.as_slice-3.ensures.value
    ∙ (c.in_ok-nodes.ensures ∙ (ap (λ bs. values bs ++ values c.as_slice-2.result.now) c.as_slice.ensures.value
    ∙ (ap (λ bs. values c.args.change.now.kept.items ++ values bs) c.as_slice-2.ensures.value
    ∙ ap (λ ns. ns ++ added) c.requires.kept))) in
    groups_of_values old.apex c.as_slice-5.result.now _ (ap values c.as_slice-5.ensures.value)
    (added_sound old c.args.serial dropped added c.to_name.result
    (values c.as_slice-3.result.now) name nodes c.in-Ok.ensures.made.0)

pub difference-requires-clause-added_short : goal.difference-requires-clause-added_short
difference-requires-clause-added_short c =
    let old = c.args.old.now in
    let dropped = c.args.change.now.dropped.now in
    let added = values c.args.change.now.added.items in
    let name = c.to_name.ensures ∙ c.apex.ensures in
    let nodes = ap values c.as_slice-3.ensures.value
    ∙ (c.in_ok-nodes.ensures ∙ (ap (λ bs. values bs ++ values c.as_slice-2.result.now) c.as_slice.ensures.value
    ∙ (ap (λ bs. values c.args.change.now.kept.items ++ values bs) c.as_slice-2.ensures.value
    ∙ ap (λ ns. ns ++ added) c.requires.kept))) in
    short_of_values old.apex c.as_slice-5.result.now _ (ap values c.as_slice-5.ensures.value)
    (added_sound old c.args.serial dropped added c.to_name.result
    (values c.as_slice-3.result.now) name nodes c.in-Ok.ensures.made.0)

pub stream_of-requires : goal.stream_of-requires
stream_of-requires c =
    let old = c.args.old.now in
    let dropped = c.args.change.now.dropped.now in
    let added = values c.args.change.now.added.items in
    let name = c.to_name.ensures ∙ c.apex.ensures in
    let nodes = ap values c.as_slice-3.ensures.value
    ∙ (c.in_ok-nodes.ensures ∙ (ap (λ bs. values bs ++ values c.as_slice-2.result.now) c.as_slice.ensures.value
    ∙ (ap (λ bs. values c.args.change.now.kept.items ++ values bs) c.as_slice-2.ensures.value
    ∙ ap (λ ns. ns ++ added) c.requires.kept))) in
    let after = nodes_after old dropped added in
    let version = made old c.args.serial dropped added c.to_name.result
    (values c.as_slice-3.result.now) name nodes c.in-Ok.version c.in-Ok.ensures.made.1 in
    let are = c.as_slice-6.ensures.value
    ∙ (c.in_ok-records.ensures c.args.serial after version
    ∙ (ap (λ ns. spelled old c.args.serial after ns (values c.as_slice-5.result.now))
    (ap values c.as_slice-4.ensures.value ∙ c.requires.gone)
    ∙ ap (λ bs. spelled old c.args.serial after (gone old dropped) (values bs)) c.as_slice-5.ensures.value)) in
    records_fit old c.args.serial dropped added c.to_name.result
    (values c.as_slice-3.result.now) name nodes c.as_slice-6.result.now are c.requires.catalog c.in-Ok.ensures.made.0

pub returns-then-as_slice-gt-TRANSFER_OCTETS-clause-made : goal.returns-then-as_slice-gt-TRANSFER_OCTETS-clause-made
returns-then-as_slice-gt-TRANSFER_OCTETS-clause-made c =
    let old = c.args.old.now in
    let dropped = c.args.change.now.dropped.now in
    let added = values c.args.change.now.added.items in
    let name = c.to_name.ensures ∙ c.apex.ensures in
    let nodes = ap values c.as_slice-3.ensures.value
    ∙ (c.in_ok-nodes.ensures ∙ (ap (λ bs. values bs ++ values c.as_slice-2.result.now) c.as_slice.ensures.value
    ∙ (ap (λ bs. values c.args.change.now.kept.items ++ values bs) c.as_slice-2.ensures.value
    ∙ ap (λ ns. ns ++ added) c.requires.kept))) in
    let after = nodes_after old dropped added in
    let version = made old c.args.serial dropped added c.to_name.result
    (values c.as_slice-3.result.now) name nodes c.in-Ok.version c.in-Ok.ensures.made.1 in
    let are = c.as_slice-6.ensures.value
    ∙ (c.in_ok-records.ensures c.args.serial after version
    ∙ (ap (λ ns. spelled old c.args.serial after ns (values c.as_slice-5.result.now))
    (ap values c.as_slice-4.ensures.value ∙ c.requires.gone)
    ∙ ap (λ bs. spelled old c.args.serial after (gone old dropped) (values bs)) c.as_slice-5.ensures.value)) in
    too_long old c.args.serial dropped added c.to_name.result (values c.as_slice-3.result.now) name nodes
    c.as_slice-6.result.now are c.in_ok-octets.octets c.in_ok-octets.ensures (rw c.as_slice-7.ensures.octets
    at c.if-as_slice-gt-TRANSFER_OCTETS.true) c.requires.newer c.requires.labels c.in-Ok.ensures.made.0

pub returns-clause-made : goal.returns-clause-made
returns-clause-made c =
    let old = c.args.old.now in
    let dropped = c.args.change.now.dropped.now in
    let added = values c.args.change.now.added.items in
    let name = c.to_name.ensures ∙ c.apex.ensures in
    let nodes = ap values c.as_slice-3.ensures.value
    ∙ (c.in_ok-nodes.ensures ∙ (ap (λ bs. values bs ++ values c.as_slice-2.result.now) c.as_slice.ensures.value
    ∙ (ap (λ bs. values c.args.change.now.kept.items ++ values bs) c.as_slice-2.ensures.value
    ∙ ap (λ ns. ns ++ added) c.requires.kept))) in
    let after = nodes_after old dropped added in
    let version = made old c.args.serial dropped added c.to_name.result
    (values c.as_slice-3.result.now) name nodes c.in-Ok.version c.in-Ok.ensures.made.1 in
    let are = c.as_slice-6.ensures.value
    ∙ (c.in_ok-records.ensures c.args.serial after version
    ∙ (ap (λ ns. spelled old c.args.serial after ns (values c.as_slice-5.result.now))
    (ap values c.as_slice-4.ensures.value ∙ c.requires.gone)
    ∙ ap (λ bs. spelled old c.args.serial after (gone old dropped) (values bs)) c.as_slice-5.ensures.value)) in (
      not_long old c.args.serial dropped added c.to_name.result (values c.as_slice-3.result.now) name nodes
          c.as_slice-6.result.now are c.in_ok-octets.octets c.in_ok-octets.ensures (rw c.as_slice-7.ensures.octets
          at c.if-as_slice-gt-TRANSFER_OCTETS.false) c.requires.newer c.requires.labels c.in-Ok.ensures.made.0,
      (
        version,
        octets_are old c.args.serial dropped added c.to_name.result (values c.as_slice-3.result.now) name nodes
            c.as_slice-6.result.now are c.in_ok-octets.octets c.in_ok-octets.ensures,
      ),
    )
