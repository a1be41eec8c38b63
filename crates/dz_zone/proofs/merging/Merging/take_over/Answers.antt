use Rattle.std.proofs.Common.{◌≡◌, ◌<◌, [], get_or, length, sym, ◌∙◌, ap, subst, arith}
use Rattle.std.specs.Ordering.{is_gt}
use Rattle.std.proofs.lemmas.List.{get_or-map}
use Rattle.dz_record.specs.Record.{Record}
use Rattle.dz_index.specs.Index.{order_behind}
use Rattle.dz_index.specs.Rows.{IsIndex}
use Rattle.dz_zone.specs.Version.{owners_of}
use Rattle.dz_zone.proofs.MergeLemmas.{taken_over}
use Rattle.dz_zone.proofs.merging.Merging.take_over.Goals as goal

nowhere : Record
nowhere = record { owner = []; kind = 0; ttl = 0; rdata = [] }

pub returns-clause-made : goal.returns-clause-made
returns-clause-made c =
    let m = c.args.self.now in
    let base = c.args.base.now.records in
    let is : IsIndex (owners_of m.records) c.replace-index.result =
    subst (IsIndex (owners_of m.records)) (sym c.replace-index.ensures.value)
    (subst (λ (v : _). IsIndex (owners_of m.records) v.rows) (sym c.self.view_is) c.requires.made) in
    let within : c.args.begin < length base = omega (arith, c.requires.some, c.requires.within) in
    let owner : get_or (owners_of base) c.args.begin [] ≡ (get_or base c.args.begin nowhere).owner =
    get_or-map (λ r. r.owner) base c.args.begin nowhere [] within in
    let made = c.in_ok-self-inside.ensures (owners_of m.records) (owners_of base) [] is c.index.ensures
    (ap (λ n. is_gt (order_behind (owners_of m.records) n)) owner ∙ c.requires.after nowhere) in
    taken_over m base c.share_all.new.records.items c.args.begin c.args.end c.in_ok-self-inside.field-0
    (rw (c.records.ensures.records, ap (λ (v : _). v.records) c.self.view_is) at c.in_ok-share_all.ensures) made
