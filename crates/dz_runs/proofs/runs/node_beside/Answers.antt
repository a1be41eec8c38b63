use Rattle.std.proofs.Common.{◌∙◌, ◌≡◌, ◌-◌, ◌<◌, true, sym, ap, arith, subst, length, get_or}
use Rattle.std.specs.Ordering.{is_lt, is_le}
use Rattle.std.specs.declared.cmp.Ordering.TheVariants.{Greater}
use Rattle.std.proofs.lemmas.List.{length-map, get_or_default}
use Rattle.dz_name.specs.Order.{canonical_same}
use Rattle.dz_record.specs.Record.{Record}
use Rattle.dz_zone.specs.Version.{owners_of}
use Rattle.dz_runs.specs.Node.{from_owner, IsNodeOf}
use Rattle.dz_runs.proofs.NodeLemmas.{begins_here, ends_here, no_node}
use Rattle.dz_runs.proofs.runs.node_beside.Goals as goal

pub returns-in-Equal-clause-node : goal.returns-in-Equal-clause-node
returns-in-Equal-clause-node g c =
    let zone = c.args.version.now.records in
    let i = c.in_ok-run.run'.begin in
    let r = c.index-records-run-2.result in
    let is : r ≡ get_or zone i r = rw c.records-records.ensures.records at c.index-records-run-2.is in
    let same = canonical_same _ _ (sym c.canonical_cmp.ensures ∙ c.in-Equal.is) in
    let owner : (get_or zone i r).owner ≡ c.args.name.now =
    ap (λ (x : Record). x.owner) (sym is) ∙ (sym c.owner_ref-2.ensures ∙ same) in
    subst (λ n. IsNodeOf zone n c.node_of_run.result.place c.node_of_run.result.records.now) owner
    (c.node_of_run.ensures r)

pub returns-in-Greater-clause-node : goal.returns-in-Greater-clause-node
returns-in-Greater-clause-node g c =
    let zone = c.args.version.now.records in
    let name = c.args.name.now in
    let i = c.in_ok-run.run'.begin in
    let run = c.in_ok-run.ensures.run (owners_of zone) c.index.ensures in
    let within : i < length zone = omega (arith, run.some, run.within, length-map zone (λ (r : Record). r.owner)) in
    let up = c.records-records.ensures.valid.rises in
    let last = c.index-records-run.result in
    let first = c.index-records-run-2.result in
    let last_is : last ≡ get_or zone (i - 1) last = rw c.records-records.ensures.records at c.index-records-run.is in
    let first_is : first ≡ get_or zone i first = rw c.records-records.ensures.records at c.index-records-run-2.is in
    let low : is_lt (from_owner name last) ≡ true =
    rw c.owner_ref.ensures at (sym c.precedes.ensures ∙ c.if-not-precedes.false) in
    let high : from_owner name first ≡ Greater =
    rw c.owner_ref-2.ensures at (sym c.canonical_cmp.ensures ∙ c.in-Greater.is) in
    let before : is_lt (from_owner name (get_or zone (i - 1) last)) ≡ true =
    subst (λ r. is_lt (from_owner name r) ≡ true) last_is low in
    let here : from_owner name (get_or zone i first) ≡ Greater =
    subst (λ r. from_owner name r ≡ Greater) first_is high in
    let other : get_or zone i first ≡ get_or zone i last = get_or_default zone i first last within in
    let there : from_owner name (get_or zone i last) ≡ Greater = subst (λ r. from_owner name r ≡ Greater) other here in
    no_node zone name i up (omega (arith, within))
    (begins_here zone name i last up (omega (arith, c.if-run-eq0.false)) within before (ap is_lt there))
    (ends_here zone name i last up (omega (arith, c.if-run-eq0.false)) within before (ap is_le there))
