use Rattle.std.proofs.Common.{◌≡◌, ◌+◌, ◌++◌, length, sym, ◌∙◌, ap, arith}
use Rattle.std.specs.Prelude.{filter}
use Rattle.dz_name.specs.Name.{wire_of}
use Rattle.dz_record.specs.Record.{record_octets}
use Rattle.dz_message.specs.Piece.{total_of, tallied, nothing_counted, TallyState, octets_behind}
use Rattle.dz_message.proofs.PieceLemmas.{question_size}
use Rattle.dz_zone.proofs.FaultLemmas.{few_records}
use Rattle.dz_outward.specs.Stream.{question_of, is_other}
use Rattle.dz_outward.proofs.SizingLemmas.{all_counted, one_grows}
use Rattle.dz_outward.proofs.fit.stream_size.Goals as goal

pub add_others-requires-clause-few : goal.add_others-requires-clause-few
add_others-requires-clause-few c =
    let short = c.wire.ensures.name.short in
    let n = ap (λ xs. length xs) c.wire.ensures.wire in
    let begins = ap (λ (t : TallyState). total_of t) c.new-tally.ensures in
    let grown = one_grows c.new-tally.result c.apex_soa-soa.result.now c.apex_soa-soa.ensures.held in
    omega (arith, ap (λ (t : TallyState). total_of t) c.add.ensures)

pub add_others-requires-clause-records : goal.add_others-requires-clause-records
add_others-requires-clause-records c = omega (
  arith,
  ap (λ xs. length xs) c.records.ensures.records,
  few_records c.args.version.now.apex c.args.version.now.records c.records.ensures.valid.faultless,
)

pub add-requires-2 : goal.add-requires-2
add-requires-2 c =
    let short = c.wire.ensures.name.short in
    let n = ap (λ xs. length xs) c.wire.ensures.wire in
    let begins = ap (λ (t : TallyState). total_of t) c.new-tally.ensures in
    let grown = one_grows c.new-tally.result c.apex_soa-soa.result.now c.apex_soa-soa.ensures.held in
    let first = ap (λ (t : TallyState). total_of t) c.add.ensures in
    let few = few_records c.args.version.now.apex c.args.version.now.records c.records.ensures.valid.faultless in
    omega (arith, ap (λ xs. length xs) c.records.ensures.records, c.add_others.ensures.grows)

pub total-requires : goal.total-requires
total-requires c =
    let short = c.wire.ensures.name.short in
    let n = ap (λ xs. length xs) c.wire.ensures.wire in
    let begins = ap (λ (t : TallyState). total_of t) c.new-tally.ensures in
    let grown = one_grows c.new-tally.result c.apex_soa-soa.result.now c.apex_soa-soa.ensures.held in
    let first = ap (λ (t : TallyState). total_of t) c.add.ensures in
    let few = few_records c.args.version.now.apex c.args.version.now.records c.records.ensures.valid.faultless in
    let again = one_grows c.add_others.new.tally c.apex_soa-soa.result.now c.apex_soa-soa.ensures.held in
    omega (
      arith,
      ap (λ xs. length xs) c.records.ensures.records,
      c.add_others.ensures.grows,
      ap (λ (t : TallyState). total_of t) c.add-2.ensures,
    )

pub returns : goal.returns
returns c =
    let zone = c.args.version.now in
    let soa = c.apex_soa-soa.result.now in
    let question : length c.wire.result.now + 4
    ≡ length (Rattle.dz_message.specs.Writing.question_octets (question_of zone)) =
    omega (
      arith,
      question_size (question_of zone),
      ap (λ xs. length xs) c.wire.ensures.wire,
      ap (λ (n : Rattle.dz_name.specs.Words.Name). length (wire_of n)) (c.to_name-apex.ensures ∙ c.apex.ensures),
    ) in
    let begins : c.add.new.self
    ≡ tallied (nothing_counted (length c.wire.result.now + 4)) (length (record_octets soa)) =
    c.add.ensures ∙ ap (λ (t : TallyState). tallied t (length (record_octets soa))) c.new-tally.ensures in
    c.total.ensures ∙ ap (λ (t : TallyState). total_of t) c.add-2.ensures
    ∙ all_counted zone soa (length c.wire.result.now + 4) c.add.new.self c.add_others.new.tally
    c.apex_soa-soa.ensures.soa question begins
    (λ rest. ap (λ rs. octets_behind c.add.new.self (filter is_other rs ++ rest)) (sym c.records.ensures.records)
    ∙ c.add_others.ensures.counts rest)
