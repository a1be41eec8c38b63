use Rattle.std.proofs.Common.{◌≡◌, arith, length, length-append, ap, ◌∙◌, rules}
use Rattle.dz_tsig.proofs.NumberLemmas.{request_mac_long, with_tsig_long}
use Rattle.dz_tsig.specs.Signing.{signed}
use Rattle.dz_tsig.proofs.sign.sign_query.Goals as goal

pub returns-clause-short : goal.returns-clause-short
returns-clause-short c =
    let mac : length c.request_mac-mac.result ≡ 32 =
    ap length c.request_mac-mac.ensures ∙ request_mac_long c.args.key.now c.args.query.now c.args.moment in
    let own = with_tsig_long c.args.key.now.name c.args.moment c.request_mac-mac.result c.args.query.now mac
    c.requires.header in
    let joined = ap length (c.from_vec.ensures ∙ c.in_ok-push_signed.ensures)
    ∙ length-append c.in_ok-out.out.items _ in
    omega
    (arith, joined, own, ap length c.in_ok-out.ensures.items, c.tsig_size.ensures.value, c.tsig_size.ensures.short)

pub returns-clause-octets : goal.returns-clause-octets
unfolding signed
returns-clause-octets c = search rules
