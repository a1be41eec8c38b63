use Rattle.std.proofs.Common.{◌≡◌, [], ◌∷◌, rules}
use Rattle.dz_name.specs.declared.dns.TheConstants.{TYPE_IXFR}
use Rattle.dz_gen.specs.Records.{zone}
use Rattle.dz_gen.specs.Messages.{question, changes}
use Rattle.dz_gen.proofs.MadeLemmas.{changes_fits}
use Rattle.dz_gen.proofs.messages.changes_of.Goals as goal

pub response-requires : goal.response-requires
response-requires c =
    let asked : c.in_ok-question.field-0.items ≡ question (zone c.args.k) TYPE_IXFR ∷ [] = search rules in
    let answers : c.in_ok-answers.answers.items ≡ changes c.args.k = search rules in
    rw (asked, answers) (changes_fits c.args.id c.args.k c.requires.some c.requires.few)
