use Rattle.std.proofs.Common.{◌++◌, ◌∙◌, ap}
use Rattle.dz_tsig.proofs.NumberLemmas.{tsig_joined}
use Rattle.dz_tsig.proofs.sign.push_tsig.Goals as goal

pub returns : goal.returns
returns c =
    let front = c.in_ok-extend_from_slice.ensures.items ∙ ap (λ w. c.args.out.now.items ++ w) c.wire.ensures.wire in
    tsig_joined c.args.key.now c.args.time c.args.mac.now c.args.id c.args.out.now.items _ _ _ c.told-mac front
    c.in_ok-push_head.ensures c.in_ok-push_rdata.ensures
