use Rattle.std.proofs.Common.{◌≡◌, ◌∷◌, ◌++◌, List, [], true, sym, ◌∙◌, subst, ap}
use Rattle.dz_header.specs.declared.question.Question.{Question}
use Rattle.dz_record.specs.Record.{Record}
use Rattle.dz_message.specs.Piece.{packed}
use Rattle.dz_message.specs.Message.{Content}
use Rattle.dz_outward.specs.Stream.{sent_records, question_of}
use Rattle.dz_outward.specs.inner.Filled.{Gives, left_of}
use Rattle.dz_outward.proofs.OutgoingLemmas.{first_room, first_message, apex_soa_short}
use Rattle.dz_outward.proofs.outgoing.write_first.Goals as goal

pub returns : goal.returns
returns c =
    let zone = c.args.version.now in
    let soa : Record = c.apex_soa-soa.result.now in
    let q : Question = record { name = c.to_name.result; kind = 252; class = 1 } in
    let small = apex_soa_short zone soa c.apex_soa-soa.ensures.soa c.apex_soa-soa.ensures.held in
    let room = first_room c.begin-piece.result
    (q ∷ []) soa c.begin-piece.ensures.holds.state c.begin-piece.ensures.short small in
    let added : c.add.result ≡ true = c.add.ensures.room ∙ room in
    let next = c.add.ensures.holds c.args.id (q ∷ []) [] c.begin-piece.ensures.holds in
    let held = rw added at next in
    let gives = c.write_rest.ensures (q ∷ []) (soa ∷ []) held in
    let same : packed c.args.id (q ∷ []) [] (sent_records zone) ≡ packed c.args.id (q ∷ []) (soa ∷ []) _ =
    first_message zone c.args.id q soa c.begin-piece.result c.apex_soa-soa.ensures.soa
    c.begin-piece.ensures.holds.state room in
    let asked : question_of zone ≡ q =
    ap (λ (n : List (List Rattle.std.proofs.Common.ℕ)). record { name = n; kind = 252; class = 1 })
    (sym (c.to_name.ensures ∙ c.apex.ensures)) in
    subst (λ (ms : List Content).
    Gives ms (left_of zone c.args.id c.write_rest.result.1) c.write_rest.result.0 c.write_rest.new.out)
    (sym (ap (λ (p : Question). packed c.args.id (p ∷ []) [] (sent_records zone)) asked ∙ same)) gives
