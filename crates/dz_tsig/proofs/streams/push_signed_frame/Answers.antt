use Rattle.std.proofs.Common.{◌+◌, ◌++◌, ◌∙◌, ap, arith, length}
use Rattle.dz_tsig.specs.Signing.{with_tsig}
use Rattle.dz_tsig.proofs.NumberLemmas.{with_tsig_long}
use Rattle.dz_tsig.proofs.StreamLemmas.{appended}
use Rattle.dz_tsig.proofs.streams.push_signed_frame.Goals as goal

pub returns-then-size-gt-MESSAGE_OCTETS : goal.returns-then-size-gt-MESSAGE_OCTETS
returns-then-size-gt-MESSAGE_OCTETS c =
    omega (
      arith,
      with_tsig_long c.args.key.now c.args.time c.args.mac.now c.args.message.now c.told-mac
          c.requires.header,
      c.tsig_size.ensures.value,
      c.if-size-gt-MESSAGE_OCTETS.true,
    )

pub returns : goal.returns
returns c =
    let long =
    with_tsig_long c.args.key.now c.args.time c.args.mac.now c.args.message.now c.told-mac c.requires.header in
    appended (with_tsig c.args.key.now c.args.time c.args.mac.now c.args.message.now) c.args.out.now.items _
    c.push_signed.new.out.items (length c.args.message.now + c.tsig_size.result)
    (omega (arith, long, c.tsig_size.ensures.value)) (omega (arith, c.if-size-gt-MESSAGE_OCTETS.false))
    (c.in_ok-extend_from_slice.ensures.items ∙ ap (λ o. c.args.out.now.items ++ o) c.two.ensures)
    c.in_ok-push_signed.ensures
