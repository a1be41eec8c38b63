use Rattle.std.proofs.Common.{◌≡◌, ◌<◌, ◌^◌, arith, sym, ◌∙◌, subst, length}
use Rattle.std.specs.Prelude.{◌==◌}
use Rattle.std.specs.List.{All}
use Rattle.dz_tsig.specs.Streams.{are_messages}
use Rattle.dz_tsig.proofs.ChainLemmas.{frame_follows}
use Rattle.dz_tsig.proofs.StreamLemmas.{all_messages, reads_more}
use Rattle.dz_tsig.proofs.streams.are_messages.Goals as goal

pub messages-smaller : goal.messages-smaller
messages-smaller c = omega (
  arith,
  frame_follows c.as_slice-octets.result.now c.messages.at
      (c.in-Some.begin, c.in-Some.end) (sym c.in-Some.ensures.place),
  c.in-Some.ensures.within.1,
)

pub messages-preserved : goal.messages-preserved
messages-preserved c =
    reads_more c.as_slice-octets.result.now c.messages.at c.in-Some.begin c.in-Some.end
    c.messages.invariant c.in-Some.ensures.place c.in-Some.ensures.within c.in-Some.ensures.first
    (sym c.in_ok-is_message.ensures ∙ c.if-not-branch.false)

pub returns : goal.returns
returns c =
    let same = c.as_slice-octets.ensures.octets in
    let below = subst (λ o. All (λ octet. octet < 2 ^ 8) o) (sym same) c.as_slice-octets.ensures.below in
    subst (λ o. (c.messages.at == length c.as_slice-octets.result.now) ≡ are_messages o) same
    (all_messages c.as_slice-octets.result.now c.messages.at below c.messages.invariant c.in_default.ensures.first)
