use Rattle.std.proofs.Common.{◌≡◌, ◌∙◌, sym, ap, get_or}
use Rattle.dz_record.specs.Record.{Record}
use Rattle.dz_runs.specs.Runs.{of_type, records_of}
use Rattle.dz_secure.specs.Secure.{nsec_at}
use Rattle.dz_secure.proofs.CoveringLemmas.{none_owner, last_one}
use Rattle.dz_secure.proofs.evidence.covering_at.Goals as goal

pub returns-in-None-clause-covering : goal.returns-in-None-clause-covering
returns-in-None-clause-covering g c name is =
    let zone = c.args.version.now.records in
    ap (nsec_at zone)
    (sym (none_owner zone name c.args.place c.records-records.ensures.valid.rises is c.in-None.ensures))

pub returns-in-Some-clause-covering : goal.returns-in-Some-clause-covering
returns-in-Some-clause-covering g c name is =
    let zone = c.args.version.now.records in
    let r = c.index-records-last.result in
    let there : r ≡ get_or zone c.in-Some.last r = rw c.records-records.ensures.records at c.index-records-last.is in
    let owner =
    last_one zone name c.args.place c.records-records.ensures.valid.rises is c.in-Some.last r c.in-Some.ensures in
    c.rrset_near.ensures.rrset
    ∙ (ap (λ n. of_type 47 (records_of zone n)) (c.owner_ref.ensures ∙ ap (λ (x : Record). x.owner) there)
    ∙ ap (nsec_at zone) (sym owner))
