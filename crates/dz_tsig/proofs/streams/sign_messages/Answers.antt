use Rattle.std.proofs.Common.{◌≡◌, ◌<◌, ◌^◌, true, arith, sym, subst, drop, Err}
use Rattle.std.specs.List.{All}
use Rattle.std.proofs.lemmas.Result.{err_from_is_err_and}
use Rattle.dz_message.specs.Frame.{messages_in}
use Rattle.dz_tsig.specs.Streams.{IsSignedSo, are_messages, signed_messages}
use Rattle.dz_tsig.specs.Answers.{IsSigned}
use Rattle.dz_tsig.specs.inner.Streams.{SignsOn}
use Rattle.dz_tsig.proofs.ChainLemmas.{frame_follows}
use Rattle.dz_tsig.proofs.StreamLemmas.{has_room, left_begin, left_first, refused, signed_so, signs_begin, signs_more}
use Rattle.dz_tsig.proofs.streams.sign_messages.Goals as goal

pub messages-smaller : goal.messages-smaller
messages-smaller c = omega (
  arith,
  frame_follows c.as_slice-octets.result.now c.messages.at
      (c.in-Some.begin, c.in-Some.end) (sym c.in-Some.ensures.place),
  c.in-Some.ensures.within.1,
)

pub messages-init : goal.messages-init
messages-init c =
    let same = c.as_slice-octets.ensures.octets in
    let ms = messages_in c.as_slice-octets.result.now in
    record {
      signs = subst (λ o. SignsOn c.args.key.now c.args.moment
          (signed_messages c.args.key.now c.args.moment c.args.request_mac.now ms) true c.args.request_mac.now ms o)
          (sym c.new-out.ensures.items) (signs_begin c.args.key.now c.args.moment c.args.request_mac.now ms);
      left = left_begin c.as_slice-octets.result.now
          (subst (λ o. All (λ octet. octet < 2 ^ 8) o) (sym same) c.as_slice-octets.ensures.below)
          (subst (λ o. are_messages o ≡ true) (sym same) c.requires.messages);
    }

pub push_signed_frame-requires-clause-header : goal.push_signed_frame-requires-clause-header
push_signed_frame-requires-clause-header c =
    let first = left_first _ _ _ c.messages.invariant.left c.in-Some.ensures.first in
    (has_room _ first.short first.read).header

pub push_signed_frame-requires-clause-room : goal.push_signed_frame-requires-clause-room
push_signed_frame-requires-clause-room c =
    let first = left_first _ _ _ c.messages.invariant.left c.in-Some.ensures.first in
    (has_room _ first.short first.read).room

pub push_signed_frame-requires-clause-short : goal.push_signed_frame-requires-clause-short
push_signed_frame-requires-clause-short c = (left_first _ _ _ c.messages.invariant.left c.in-Some.ensures.first).short

pub messages-preserved : goal.messages-preserved
messages-preserved c =
    let o = c.as_slice-octets.result.now in
    record {
      signs = signs_more c.args.key.now c.args.moment _ (messages_in (drop c.messages.at o))
          (messages_in (drop c.in-Some.end o)) c.messages.is_first c.messages.prior _ c.messages.out.items
          c.messages.invariant.signs c.in-Some.ensures.first c.push_signed_frame.new.out.items c.next_mac-prior.result
          c.next_mac-prior.ensures c.in_ok-push_signed_frame.ensures;
      left = (left_first _ _ _ c.messages.invariant.left c.in-Some.ensures.first).rest;
    }

pub returns-in_err-push_signed_frame : goal.returns-in_err-push_signed_frame
returns-in_err-push_signed_frame c =
    let p = err_from_is_err_and c.from_residual.result c.from_residual.ensures.1 in
    let o = c.as_slice-octets.result.now in
    rw (p.1, p.2) (subst (λ o. IsSigned c.args.key.now c.args.moment c.args.request_mac.now o
    (Err c.in_err-push_signed_frame.field-0.0)) c.as_slice-octets.ensures.octets
    (refused c.args.key.now c.args.moment c.args.request_mac.now o (messages_in (drop c.messages.at o))
    (messages_in (drop c.in-Some.end o)) c.messages.is_first c.messages.prior _ c.messages.out.items
    c.push_signed_frame.new.out.items c.messages.invariant.signs c.in-Some.ensures.first
    (subst (λ o. are_messages o ≡ true) (sym c.as_slice-octets.ensures.octets) c.requires.messages)
    c.next_mac-prior.result c.next_mac-prior.ensures c.in_err-push_signed_frame.field-0.0
    c.in_err-push_signed_frame.ensures))

pub returns : goal.returns
returns c =
    let o = c.as_slice-octets.result.now in
    let messages = subst (λ o. are_messages o ≡ true) (sym c.as_slice-octets.ensures.octets) c.requires.messages in
    subst (λ o. IsSignedSo c.args.key.now c.args.moment c.args.request_mac.now o c.from_vec.result)
    c.as_slice-octets.ensures.octets
    (signed_so c.args.key.now c.args.moment c.args.request_mac.now o
    (messages_in (drop c.messages.at o)) c.messages.is_first c.messages.prior c.messages.out.items
    c.from_vec.result c.messages.invariant.signs c.in_default.ensures.first messages c.from_vec.ensures)
