use Rattle.std.proofs.Common.{◌≡◌, ◌∷◌, ◌++◌, List, [], true, false, refl, sym, ◌∙◌, subst, ap, arith, Some, get_or}
use Rattle.std.proofs.Common.{inl, inr}
use Rattle.std.proofs.lemmas.Option.{slice_get_cases}
use Rattle.dz_record.specs.Record.{Record}
use Rattle.dz_message.specs.Piece.{answer_message}
use Rattle.dz_outward.specs.inner.Filled.{AddsUp, IsStopped}
use Rattle.dz_outward.proofs.OutgoingLemmas.{rest_stopped, rest_over, rest_cut}
use Rattle.dz_outward.proofs.outgoing.write_rest.Goals.{then-add, else-add}
use Rattle.dz_outward.proofs.outgoing.write_rest.Goals as goal

pub returns-then-place-records : goal.returns-then-place-records
returns-then-place-records c = λ questions current holds.
    let reached = (subst (λ rs. AddsUp c.args.piece c.args.out.now c.add_others-place.new.piece
    c.add_others-place.new.out rs c.args.place c.add_others-place.result) c.records-records.ensures.records
    c.add_others-place.ensures.reaches) c.args.id questions current holds in
    let stopped = subst (λ rs. IsStopped c.add_others-place.new.piece rs c.add_others-place.result)
    c.records-records.ensures.records c.add_others-place.ensures.stopped in
    elim (slice_get_cases c.args.version.now.records c.add_others-place.result).1 [
      | inl w ↦ record {
        message = answer_message c.args.id questions (current ++ reached.more);
        are = rest_stopped c.args.version.now c.args.id questions current reached.more c.args.place
            c.add_others-place.result c.add_others-place.new.piece c.add_others-place.new.out w.0
            (reached.same _) reached.holds w.1 (sym w.3) stopped c.requires.fit;
        octets = c.end.ensures.octets c.args.id questions (current ++ reached.more) reached.holds;
        short = c.end.ensures.short;
      }
      | inr w ↦
          absurd (omega (arith, ap (λ xs. Rattle.std.proofs.Common.length xs) c.records-records.ensures.records, w.0))
    ]

pub returns : goal.returns
returns c = λ questions current holds.
    let reached = (subst (λ rs. AddsUp c.args.piece c.args.out.now c.add_others-place.new.piece
    c.add_others-place.new.out rs c.args.place c.add_others-place.result) c.records-records.ensures.records
    c.add_others-place.ensures.reaches) c.args.id questions current holds in
    let past = ap (λ xs. Rattle.std.proofs.Common.length xs) c.records-records.ensures.records in
    let soa : Record = c.apex_soa.result.now in
    let all : List Record = current ++ reached.more in
    let next = c.add.ensures.holds c.args.id questions all reached.holds in
    elim c.if-add.branch [
      | then-add w ↦
          let holds-now = rw w.if-add.true at next in
          rw w.stage-is record {
            message = answer_message c.args.id questions (all ++ soa ∷ []);
            are = rest_over c.args.version.now c.args.id questions current reached.more c.args.place
                c.add_others-place.result c.add_others-place.new.piece c.add_others-place.new.out soa (reached.same _)
                reached.holds c.apex_soa.ensures.soa (omega (arith, past)) (sym c.add.ensures.room ∙ w.if-add.true);
            octets = c.end-2.ensures.octets c.args.id questions (all ++ soa ∷ []) holds-now;
            short = c.end-2.ensures.short;
          }
      | else-add w ↦
          let holds-now = rw w.if-add.false at next in
          rw w.stage-is record {
            message = answer_message c.args.id questions all;
            are = rest_cut c.args.version.now c.args.id questions current reached.more c.args.place
                c.add_others-place.result c.add_others-place.new.piece c.add_others-place.new.out soa
                (reached.same _) reached.holds c.apex_soa.ensures.soa (omega (arith, past))
                (sym c.add.ensures.room ∙ w.if-add.false) c.requires.fit;
            octets = c.end-2.ensures.octets c.args.id questions all holds-now;
            short = c.end-2.ensures.short;
          }
    ]
