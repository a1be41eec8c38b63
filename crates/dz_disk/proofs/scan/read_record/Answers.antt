use Rattle.std.proofs.Common.{◌≡◌, ◌+◌, ◌<◌, true, false, length, take, drop, Some, sym, ap, subst, ◌∙◌, arith}
use Rattle.std.specs.Option.{option_map, IfSome}
use Rattle.dz_disk.specs.RecordLog.{is_open, IsPart}
use Rattle.dz_disk.specs.inner.Reading.{IsHead, IsHeadOf}
use Rattle.dz_disk.proofs.RecordLemmas.{not_one}
use Rattle.dz_disk.proofs.PieceLemmas.{shut_part, shut_short, shut_unread, shut_long, record_there, after_head}
use Rattle.dz_disk.proofs.scan.read_record.Goals as goal
use Rattle.dz_disk.proofs.scan.read_record.Goals.{then-gate-ne1-via-then-gate-ne1}
use Rattle.dz_disk.proofs.scan.read_record.Goals.{then-gate-ne1-via-else-gate-ne1+then-longest-size}

pub returns-in_default-size-clause-found : goal.returns-in_default-size-clause-found
returns-in_default-size-clause-found g c = λ f told.
    let head = subst (λ h. IsHead h (drop c.args.at f))
    (c.in-Some.is ∙ ap (λ s. Some (c.in-Some.gate, s)) c.in_default-size.is) (c.in_ok-gate.ensures.head f told) in
    (head.0, head.1.are, shut_part g.I.RecordIndex.reads c.in-Some.gate head.0 head.1.length_is)

pub returns-then-gate-ne1-clause-found : goal.returns-then-gate-ne1-clause-found
returns-then-gate-ne1-clause-found g c = λ f told.
    let head = subst (λ h. IsHead h (drop c.args.at f))
    (c.in-Some.is ∙ ap (λ s. Some (c.in-Some.gate, s)) c.in-Some-size.is) (c.in_ok-gate.ensures.head f told) in
    let closed : is_open g.I.RecordIndex.reads c.in-Some.gate head.0 ≡ false = elim c.then-gate-ne1.branch [
      | then-gate-ne1-via-then-gate-ne1 w ↦ not_one g.I.RecordIndex.reads c.in-Some.gate head.0 w.if-gate-ne1.true
      | then-gate-ne1-via-else-gate-ne1+then-longest-size w ↦
          shut_long g.I.RecordIndex.reads c.in-Some.gate c.in-Some-size.size g.I.RecordIndex.most
          head.0 head.1.length_is (λ p reads. g.met.I.RecordIndex.is_most p reads)
          (omega (arith, w.longest.ensures, w.if-longest-size.true))
    ] in
    (head.0, head.1.are, closed)

pub returns-in_default-2-clause-found : goal.returns-in_default-2-clause-found
returns-in_default-2-clause-found g c = λ f told.
    let head = subst (λ h. IsHead h (drop c.args.at f))
    (c.in-Some.is ∙ ap (λ s. Some (c.in-Some.gate, s)) c.in-Some-size.is) (c.in_ok-gate.ensures.head f told) in
    let part = subst (λ o. IsPart (option_map (λ v. v.items) o) c.in-Some-size.size (drop (c.args.at + 9) f))
    c.in_default-2.is (c.in_ok-payload.ensures.part f (c.in_ok-gate.ensures.quiet.same ∙ told)) in
    let few : length (drop 8 head.0) < c.in-Some-size.size =
    subst (λ l. length l < c.in-Some-size.size) (after_head c.args.at f head.0 c.in-Some.gate head.1.are) part in (
      head.0,
      head.1.are,
      shut_short g.I.RecordIndex.reads c.in-Some.gate c.in-Some-size.size head.0 head.1.length_is few,
    )

pub returns-then-not-branch-clause-found : goal.returns-then-not-branch-clause-found
returns-then-not-branch-clause-found g c = λ f told.
    let head = subst (λ h. IsHead h (drop c.args.at f))
    (c.in-Some.is ∙ ap (λ s. Some (c.in-Some.gate, s)) c.in-Some-size.is) (c.in_ok-gate.ensures.head f told) in
    let part = subst (λ o. IsPart (option_map (λ v. v.items) o) c.in-Some-size.size (drop (c.args.at + 9) f))
    c.in-Some-2.is (c.in_ok-payload.ensures.part f (c.in_ok-gate.ensures.quiet.same ∙ told)) in
    let same : c.in-Some-2.payload.items ≡ take c.in-Some-size.size (drop 8 head.0) =
    part.0 ∙ ap (λ l. take c.in-Some-size.size l) (after_head c.args.at f head.0 c.in-Some.gate head.1.are) in
    let never : g.I.RecordIndex.reads c.in-Some-2.payload.items ≡ false =
    sym (ap g.I.RecordIndex.reads c.deref.ensures.value) ∙ sym c.in_ok-is_payload.ensures ∙ c.if-not-branch.true in (
      head.0,
      head.1.are,
      shut_unread g.I.RecordIndex.reads c.in-Some.gate c.in-Some-size.size head.0
          c.in-Some-2.payload.items head.1.length_is same never,
    )

pub returns-clause-found : goal.returns-clause-found
returns-clause-found g c = λ f told.
    let head = subst (λ h. IsHead h (drop c.args.at f))
    (c.in-Some.is ∙ ap (λ s. Some (c.in-Some.gate, s)) c.in-Some-size.is) (c.in_ok-gate.ensures.head f told) in
    let part = subst (λ o. IsPart (option_map (λ v. v.items) o) c.in-Some-size.size (drop (c.args.at + 9) f))
    c.in-Some-2.is (c.in_ok-payload.ensures.part f (c.in_ok-gate.ensures.quiet.same ∙ told)) in
    let same : c.in-Some-2.payload.items ≡ take c.in-Some-size.size (drop 8 head.0) =
    part.0 ∙ ap (λ l. take c.in-Some-size.size l) (after_head c.args.at f head.0 c.in-Some.gate head.1.are) in
    let always : g.I.RecordIndex.reads c.in-Some-2.payload.items ≡ true =
    sym (ap g.I.RecordIndex.reads c.deref.ensures.value) ∙ sym c.in_ok-is_payload.ensures
    ∙ c.if-not-branch.false in
    let open_gate : IsHeadOf 1 (Some c.in-Some-size.size) (drop c.args.at f) head.0 =
    subst (λ x. IsHeadOf x (Some c.in-Some-size.size) (drop c.args.at f) head.0) c.if-gate-ne1.false head.1 in
    record_there g.I.RecordIndex.reads c.in-Some-size.size
    (drop c.args.at f) head.0 c.in-Some-2.payload.items open_gate same part.1 always

pub returns-clause-readable : goal.returns-clause-readable
returns-clause-readable g c =
    let long : length c.in-Some-2.payload.items ≡ c.in-Some-size.size = subst
    (λ o. IfSome o (λ v. length v.items ≡ c.in-Some-size.size)) c.in-Some-2.is c.in_ok-payload.ensures.size in (
      omega (arith, long, c.longest.ensures.few, c.longest.ensures.most),
      sym (ap g.I.RecordIndex.reads c.deref.ensures.value) ∙ sym c.in_ok-is_payload.ensures ∙ c.if-not-branch.false,
    )
