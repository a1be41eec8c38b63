use Rattle.std.proofs.Common.{◌≡◌, ◌++◌, [], ◌∷◌, rules}
use Rattle.dz_name.specs.declared.dns.TheConstants.{TYPE_AXFR}
use Rattle.dz_gen.specs.Records.{zone, first_records, first_digest}
use Rattle.dz_gen.specs.Messages.{question}
use Rattle.dz_gen.proofs.MadeLemmas.{part_fits}
use Rattle.dz_gen.proofs.messages.part_of.Goals as goal

pub response-requires : goal.response-requires
response-requires c =
    let asked : c.in_ok-question.field-0.items ≡ question (zone c.args.k) TYPE_AXFR ∷ [] = search rules in
    let answers : c.in_ok-answers.answers.items ≡ first_records c.args.k ++ first_digest c.args.k = search rules in
    rw (asked, answers) (part_fits c.args.id c.args.k c.requires.some c.requires.few)
