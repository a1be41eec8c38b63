use Rattle.std.proofs.lemmas.Result.{IfOk-weaker}
use Rattle.dz_member.specs.inner.Edits.{IsLast}
use Rattle.dz_member.specs.inner.Kept.{catalog_at}
use Rattle.dz_member.proofs.NumberLemmas.{number_names}
use Rattle.dz_member.proofs.NarrowLemmas.{if_weaker, last_processed}
use Rattle.dz_member.proofs.fold.Fold.process_edits.Goals as goal

pub returns-in-Some-clause-listing : goal.returns-in-Some-clause-listing
returns-in-Some-clause-listing c nodes known =
    let fold = c.args.self.now in
    let name = (number_names fold.config c.args.catalog.now c.configured_number-number.result
    c.configured_number-number.ensures.number).is in
    let last : IsLast fold (catalog_at fold c.configured_number-number.result) c.in-Some.nodes.now.value =
    c.in-Some.ensures in
    IfOk-weaker c.process_few.result _ _ (λ o h. if_weaker _ _ (λ r p. (last_processed fold
    (catalog_at fold c.configured_number-number.result) c.args.catalog.now c.in-Some.nodes.now.value nodes
    c.args.edits.items c.args.position name last.known known r.0 r.1 p).listing) o h) c.process_few.ensures

pub returns-in-Some-clause-fold : goal.returns-in-Some-clause-fold
returns-in-Some-clause-fold c nodes known =
    let fold = c.args.self.now in
    let name = (number_names fold.config c.args.catalog.now c.configured_number-number.result
    c.configured_number-number.ensures.number).is in
    let last : IsLast fold (catalog_at fold c.configured_number-number.result) c.in-Some.nodes.now.value =
    c.in-Some.ensures in
    IfOk-weaker c.process_few.result _ _ (λ o h. if_weaker _ _ (λ r p. (last_processed fold
    (catalog_at fold c.configured_number-number.result) c.args.catalog.now c.in-Some.nodes.now.value nodes
    c.args.edits.items c.args.position name last.known known r.0 r.1 p).fold_is) o h) c.process_few.ensures

pub returns-in-Some-clause-changes : goal.returns-in-Some-clause-changes
returns-in-Some-clause-changes c nodes known =
    let fold = c.args.self.now in
    let name = (number_names fold.config c.args.catalog.now c.configured_number-number.result
    c.configured_number-number.ensures.number).is in
    let last : IsLast fold (catalog_at fold c.configured_number-number.result) c.in-Some.nodes.now.value =
    c.in-Some.ensures in
    IfOk-weaker c.process_few.result _ _ (λ o h. if_weaker _ _ (λ r p. (last_processed fold
    (catalog_at fold c.configured_number-number.result) c.args.catalog.now c.in-Some.nodes.now.value nodes
    c.args.edits.items c.args.position name last.known known r.0 r.1 p).changes_are) o h) c.process_few.ensures

pub returns-in-Some-clause-each : goal.returns-in-Some-clause-each
returns-in-Some-clause-each c nodes known =
    let fold = c.args.self.now in
    let name = (number_names fold.config c.args.catalog.now c.configured_number-number.result
    c.configured_number-number.ensures.number).is in
    let last : IsLast fold (catalog_at fold c.configured_number-number.result) c.in-Some.nodes.now.value =
    c.in-Some.ensures in
    IfOk-weaker c.process_few.result _ _ (λ o h. if_weaker _ _ (λ r p. (last_processed fold
    (catalog_at fold c.configured_number-number.result) c.args.catalog.now c.in-Some.nodes.now.value nodes
    c.args.edits.items c.args.position name last.known known r.0 r.1 p).each) o h) c.process_few.ensures
