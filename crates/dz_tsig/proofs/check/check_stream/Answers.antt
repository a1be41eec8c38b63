use Rattle.std.proofs.Common.{sym, arith, drop}
use Rattle.std.proofs.lemmas.Result.{err_from_is_err_and}
use Rattle.dz_message.specs.Frame.{messages_in}
use Rattle.dz_tsig.specs.Checking.{first_state}
use Rattle.dz_tsig.proofs.ChainLemmas.{ends, fails, fault_there, frame_follows, goes_on, leads_err, leads_ok, no_fault}
use Rattle.dz_tsig.proofs.check.check_stream.Goals as goal

pub returns-in_err-chain : goal.returns-in_err-chain
returns-in_err-chain c =
    let p = err_from_is_err_and c.from_residual.result c.from_residual.ensures.1 in
    let on = c.messages.invariant in
    let r = leads_err c.args.key.now.secret _ _ (c.in_err-chain.ensures on.digested on.mac) in
    let is = fails c.args.key.now c.args.moment (messages_in c.args.octets.now)
    (messages_in (drop c.messages.at c.args.octets.now)) (messages_in (drop c.in-Some.end c.args.octets.now))
    (first_state c.args.request_mac.now) _ c.messages.chain c.is_last.result on c.in-Some.ensures.first
    c.is_last.ensures _ r in
    rw (p.1, p.2) (fault_there c.args.key.now c.args.request_mac.now c.args.octets.now c.args.moment _ is)

pub messages-smaller : goal.messages-smaller
messages-smaller c = omega (
  arith,
  frame_follows c.args.octets.now c.messages.at (c.in-Some.begin, c.in-Some.end)
      (sym c.in-Some.ensures.place),
  c.in-Some.ensures.within.1,
)

pub messages-preserved : goal.messages-preserved
messages-preserved c =
    let on = c.messages.invariant in
    let to = leads_ok c.args.key.now.secret _ c.in_ok-chain.chain (c.in_ok-chain.ensures on.digested on.mac) in
    goes_on c.args.key.now c.args.moment (messages_in c.args.octets.now)
    (messages_in (drop c.messages.at c.args.octets.now)) (messages_in (drop c.in-Some.end c.args.octets.now))
    (first_state c.args.request_mac.now) _ c.messages.chain c.is_last.result on c.in-Some.ensures.first
    c.is_last.ensures c.in_ok-chain.chain to

pub returns : goal.returns
returns c =
    let on = c.messages.invariant in
    no_fault c.args.key.now c.args.request_mac.now c.args.octets.now c.args.moment _
    (ends c.args.key.now c.args.moment (messages_in c.args.octets.now)
    (messages_in (drop c.messages.at c.args.octets.now))
    (first_state c.args.request_mac.now) c.messages.chain on c.in_default.ensures.first)
