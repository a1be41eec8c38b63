use Rattle.std.proofs.Common.{◌≡◌, ◌+◌, ◌≤◌, ◌++◌, length, ap, ◌∙◌, arith, rules}
use Rattle.dz_message.proofs.FitLemmas.{rdata_fits}
use Rattle.dz_message.specs.Reading.{rdata_of}
use Rattle.dz_message.proofs.read.read_rdata.Goals as goal

pub returns-clause-fits : goal.returns-clause-fits
returns-clause-fits g c =
    let r = c.in_ok-read_fields.ensures.reads in
    let out = r.2 ∙ ap (λ xs. xs ++ r.0) c.clear.ensures.items in
    let short : length r.0 ≤ 65535 = omega (arith, ap length out, c.len.ensures, c.if-len-gt-MESSAGE_OCTETS.false) in
    let same : length c.octets.result.now ≡ length c.args.message.now = ap length c.octets.ensures in
    rw out (rdata_fits c.args.head.kind c.args.message.now c.args.at (c.args.at + c.args.head.size) r.0
    (omega (arith, same)) (omega (arith, same)) (rw c.fields_of.ensures at r.1) short)

pub returns-then-head-ne-CLASS_IN-clause-reads : goal.returns-then-head-ne-CLASS_IN-clause-reads
unfolding rdata_of
returns-then-head-ne-CLASS_IN-clause-reads g c = search rules

pub returns-then-octets-at-clause-reads : goal.returns-then-octets-at-clause-reads
unfolding rdata_of
returns-then-octets-at-clause-reads g c = search rules

pub returns-in_err-read_fields-clause-reads : goal.returns-in_err-read_fields-clause-reads
unfolding rdata_of
returns-in_err-read_fields-clause-reads g c = search rules

pub returns-clause-reads : goal.returns-clause-reads
unfolding rdata_of
returns-clause-reads g c = search rules

pub returns-then-len-gt-MESSAGE_OCTETS-clause-reads : goal.returns-then-len-gt-MESSAGE_OCTETS-clause-reads
unfolding rdata_of
returns-then-len-gt-MESSAGE_OCTETS-clause-reads g c = search rules
