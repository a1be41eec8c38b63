use Rattle.std.proofs.Common.{◌≡◌, [], ◌∷◌, rules, arith}
use Rattle.std.specs.Prelude.{codes}
use Rattle.dz_name.specs.declared.dns.TheConstants.{TYPE_IXFR}
use Rattle.dz_gen.specs.Records.{catalog, soa, node, group}
use Rattle.dz_gen.specs.Messages.{question}
use Rattle.dz_gen.proofs.MadeLemmas.{reset_fits}
use Rattle.dz_gen.proofs.SpelledLemmas.{node_text, moved_text}
use Rattle.dz_gen.proofs.messages.catalog_changes.Goals as goal

pub node-requires-clause-owner : goal.node-requires-clause-owner
node-requires-clause-owner c = node_text 1 (omega arith) (omega arith)

pub node-requires-2-clause-owner : goal.node-requires-2-clause-owner
node-requires-2-clause-owner c = moved_text 1 (omega arith) (omega arith)

pub response-requires : goal.response-requires
response-requires c =
    let asked : c.in_ok-question.field-0.items ≡ question catalog TYPE_IXFR ∷ [] = search rules in
    let answers : c.push-7.new.self.items
    ≡ soa catalog 2 ∷ soa catalog 1 ∷ node (codes "m") 1 ∷ group 1 ∷ soa catalog 2 ∷ node (codes "r") 1 ∷ soa catalog 2
    ∷ [] = search rules in
    rw (asked, answers) (reset_fits c.args.id)
