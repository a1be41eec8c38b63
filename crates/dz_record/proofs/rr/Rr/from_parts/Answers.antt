use Rattle.std.proofs.Common.{arith, ap, ◌∙◌, refl}
use Rattle.dz_record.proofs.KeptLemmas.{parts_are, record_of_back, parts_kept, rdata_short}
use Rattle.dz_record.proofs.rr.Rr.from_parts.Goals as goal

pub put_record-requires : goal.put_record-requires
put_record-requires c = rdata_short _ _ c.requires.rdata

pub invariant_of-result : goal.invariant_of-result
invariant_of-result c =
    parts_kept c.args.owner.now c.args.kind c.args.ttl c.args.rdata.now _ _ _
    (parts_are c.args.owner.now c.args.kind c.args.ttl c.args.rdata.now c.wire-wire.ensures.name (omega arith)
    c.requires.kind c.requires.rdata) c.wire-wire.ensures.wire (ap (λ v. v.items) c.in_ok-octets-2.ensures.ok
    ∙ (rw (c.in_ok-octets.ensures.items, c.ttl_of.ensures) at c.in_ok-put_record.ensures)) refl

pub returns : goal.returns
returns c =
    record_of_back c.args.owner.now c.args.kind c.args.ttl c.args.rdata.now _ _ _
    (parts_are c.args.owner.now c.args.kind c.args.ttl c.args.rdata.now c.wire-wire.ensures.name (omega arith)
    c.requires.kind c.requires.rdata) c.wire-wire.ensures.wire (ap (λ v. v.items) c.in_ok-octets-2.ensures.ok
    ∙ (rw (c.in_ok-octets.ensures.items, c.ttl_of.ensures) at c.in_ok-put_record.ensures)) refl
