-- What each worker handed on is, by the list that is left, what a run has to show.
use mir.Syntax.{named}
use Rattle.std.proofs.Common.{sym, ◌∙◌}
use Rattle.dz_desk.proofs.PrefixLemmas.{prefix_trans}
use Rattle.dz_serve.proofs.CrossLemmas.{keeping_sync, locked_sync, provisioner_send, store_send}
use Rattle.dz_serve.proofs.EndLemmas.{listened_risen, linked_risen, by_each, listened_run, linked_run, transferred_run}
use Rattle.dz_serve.proofs.EndLemmas.{is_run, six_back, seated_more}
use Rattle.dz_serve.proofs.RunLemmas.{dials_so}
use Rattle.dz_serve.proofs.served.serve_over.Goals as goal

pub closed-requires-clause-logged : goal.closed-requires-clause-logged
closed-requires-clause-logged g c = rw c.judge-end.ensures.log c.end_workers-parts.ensures.logged

pub closed-requires-clause-share : goal.closed-requires-clause-share
closed-requires-clause-share g c =
    let r = c.run_workers-ended.ensures in
    rw (c.give_back-readings.ensures.parts, r.transferring_one.1, r.transferring_two.1)
    (sym c.requires.share.1 ∙ c.requires.share.0)

pub returns-clause-begins : goal.returns-clause-begins
returns-clause-begins g c =
    rw c.closed.ensures.publisher
    (prefix_trans _ _ _ c.teach_all.ensures.listening_one
    (prefix_trans _ _ _ c.run_workers-ended.ensures.listening_one.more.seen c.end_workers-parts.ensures.listening_one))

pub returns-clause-served : goal.returns-clause-served
returns-clause-served g c some =
    let t = c.teach_all.ensures in
    let r = c.run_workers-ended.ensures in
    let e = c.end_workers-parts.ensures in
    let j = c.judge-end.ensures in
    let b = c.give_back-readings.ensures in
    let k = c.closed.ensures in
    let one = listened_run _ _ _ _ _ _ _ _ _ _ _ _ some t.listening_one e.listening_one c.requires.listening_one
    c.requires.datagrams_one r.listening_one in
    let two = listened_run _ _ _ _ _ _ _ _ _ _ _ _ some t.listening_two e.listening_two c.requires.listening_two
    c.requires.datagrams_two r.listening_two in
    let three = linked_run _ _ _ _ _ _ _ _ _ _ _ _ _ some t.linking_one e.linking_one c.requires.linking_one
    c.requires.acceptors_one r.linking_one in
    let four = linked_run _ _ _ _ _ _ _ _ _ _ _ _ _ some t.linking_two e.linking_two c.requires.linking_two
    c.requires.acceptors_two r.linking_two in
    let five = transferred_run _ _ _ _ _ _ _ _ _ _ _ some t.transferring_one e.transferring_one c.requires.gives_one
    c.requires.dialers_one r.transferring_one.0 in
    let six = transferred_run _ _ _ _ _ _ _ _ _ _ _ some t.transferring_two e.transferring_two c.requires.gives_two
    c.requires.dialers_two r.transferring_two.0 in
    rw (k.end, k.publisher) (
      _,
      is_run _ _ _ _ _ _ _ _ _ _ _ _ _ _ _ _ _ _ _ _ _ _ _ _ _ _ _ _ _ b.datagrams b.acceptors b.dialers
          one two three four five six b.amount
          (λ is. (
            j.session_one is,
            j.session_two is,
            j.links_one is,
            j.links_two is,
            j.fed_one is,
            j.fed_two is,
            j.heard_one is,
            j.heard_two is,
            j.heard_three is,
            j.heard_four is,
            j.clear_one is,
            j.clear_two is,
            λ must. j.dialed is (dials_so c.args.store _ c.is_none-must_dial.ensures must),
          ))
          j.memory,
      rw k.publisher at k.logged,
    )

pub returns-clause-port : goal.returns-clause-port
returns-clause-port g c is =
    let r = c.run_workers-ended.ensures in
    let b = c.give_back-readings.ensures in
    by_each
    (λ e. b.datagram_one (listened_risen _ _ _ _ _ _ _ _ c.requires.datagrams_one.faultless r.listening_one e))
    (λ e. b.datagram_two (listened_risen _ _ _ _ _ _ _ _ c.requires.datagrams_two.faultless r.listening_two e))
    (λ e. b.acceptor_one (linked_risen _ _ _ _ _ _ _ _ _ _ c.requires.acceptors_one.faultless r.linking_one e))
    (λ e. b.acceptor_two (linked_risen _ _ _ _ _ _ _ _ _ _ c.requires.acceptors_two.faultless r.linking_two e))
    (c.judge-end.ensures.port (sym c.closed.ensures.end ∙ is))

pub run_workers-ended-requires-sync-B : goal.run_workers-ended-requires-sync-B
run_workers-ended-requires-sync-B g c κs within =
    let shared = locked_sync _ (provisioner_send _ _ g.K.Sink g.J.Naming g.J.Ledger c.type_bounds.send-K
    c.type_bounds.send-J c.publishers_may_be_sent.ensures) in
    let store = store_send _ g.D.Disk c.type_bounds.send-D in
    record { shared = (keeping_sync record { mir = named 0; lft = _ } _ _ shared store).shared }

pub returns-clause-back : goal.returns-clause-back
returns-clause-back g c =
    let r = c.run_workers-ended.ensures in
    let t = c.teach_all.ensures.seated in
    rw c.closed.ensures.readings (six_back _ _ _ _ _ _ _ _ c.give_back-readings.ensures.readings record {
      first = seated_more _ _ _ t.first r.listening_one.more;
      second = seated_more _ _ _ t.second r.listening_two.more;
      third = seated_more _ _ _ t.third r.linking_one.more;
      fourth = seated_more _ _ _ t.fourth r.linking_two.more;
      fifth = seated_more _ _ _ t.fifth r.transferring_one.0.more;
      sixth = seated_more _ _ _ t.sixth r.transferring_two.0.more;
    })
