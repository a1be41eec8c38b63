use Rattle.std.proofs.Common.{◌≡◌, true, sym, ap, ◌∙◌, arith}
use Rattle.std.specs.Arc.{arc_value}
use Rattle.dz_outward.specs.Stream.{messages_of, is_fit}
use Rattle.dz_store.specs.Kept.{meaning_of}
use Rattle.dz_store.proofs.WritingLemmas.{not_small, not_fit, written_test, other_head, test_sent}
use Rattle.dz_store.proofs.written.is_written_of.Goals as goal

pub returns-then-kept-ge-MOMENTS : goal.returns-then-kept-ge-MOMENTS
returns-then-kept-ge-MOMENTS c = not_small (meaning_of c.args.kept.now) c.args.payload.now (omega arith)

pub returns-in-Err : goal.returns-in-Err
returns-in-Err c = not_fit (meaning_of c.args.kept.now) c.args.payload.now
    (ap is_fit (sym c.in_ok-version.ensures) ∙ sym c.in-Err.ensures.fit)

pub returns-in-None : goal.returns-in-None
returns-in-None c =
    let fit : is_fit (arc_value c.args.kept.now.version) ≡ true =
    ap is_fit (sym c.in_ok-version.ensures) ∙ sym c.in-Ok.ensures.fit in
    written_test (meaning_of c.args.kept.now) c.args.payload.now _ (omega arith) fit
    (other_head (meaning_of c.args.kept.now) c.args.payload.now c.as_slice.result.now
    (c.as_slice.ensures.value ∙ c.in_ok-head.ensures.head) c.in-None.ensures.cases)

pub returns-in-Some : goal.returns-in-Some
returns-in-Some c =
    let fit : is_fit (arc_value c.args.kept.now.version) ≡ true =
    ap is_fit (sym c.in_ok-version.ensures) ∙ sym c.in-Ok.ensures.fit in
    let messages : c.in-Ok.outgoing ≡ messages_of 0 (arc_value c.args.kept.now.version) =
    c.in-Ok.ensures.messages ∙ ap (messages_of 0) c.in_ok-version.ensures in
    written_test (meaning_of c.args.kept.now) c.args.payload.now _ (omega arith) fit
    (test_sent (meaning_of c.args.kept.now) c.args.payload.now c.as_slice.result.now c.in-Some.rest.now
    c.in-Ok.outgoing _ (c.as_slice.ensures.value ∙ c.in_ok-head.ensures.head) c.in-Some.ensures.cases.0
    c.in-Some.ensures.cases.1 messages
    c.is_stream.ensures.0 c.is_stream.ensures.1)
