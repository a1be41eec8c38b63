use Rattle.std.proofs.Common.{◌≡◌, ◌++◌, [], ◌∷◌, rules}
use Rattle.dz_name.specs.declared.dns.TheConstants.{TYPE_AXFR}
use Rattle.dz_gen.specs.Records.{zone, soa, first_records, first_digest}
use Rattle.dz_gen.specs.Messages.{question}
use Rattle.dz_gen.proofs.MadeLemmas.{whole_fits}
use Rattle.dz_gen.proofs.messages.whole_of.Goals as goal

pub response-requires : goal.response-requires
response-requires c =
    let asked : c.in_ok-question.field-0.items ≡ question (zone c.args.k) TYPE_AXFR ∷ [] = search rules in
    let answers : c.push.new.self.items
    ≡ (first_records c.args.k ++ first_digest c.args.k) ++ soa (zone c.args.k) 1 ∷ [] = search rules in
    rw (asked, answers) (whole_fits c.args.id c.args.k c.requires.some c.requires.few)
