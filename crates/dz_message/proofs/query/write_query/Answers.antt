use Rattle.std.proofs.Common.{◌≡◌, Option, option_map, sym, subst, arith}
use Rattle.std.proofs.lemmas.Grind.{common_steps}
use Rattle.dz_record.specs.Record.{Record}
use Rattle.dz_message.specs.Spelling.{Spells}
use Rattle.dz_message.specs.Writing.{IsAsking, IsHeader}
use Rattle.dz_message.specs.Query.{query_octets, query_content}
use Rattle.dz_message.proofs.QueryLemmas.{query_spells}
use Rattle.dz_message.proofs.query.write_query.Goals as goal

pub returns-clause-spells : goal.returns-clause-spells
unfolding query_octets
returns-clause-spells c =
    let held : Option Record = option_map (λ r. r.now) c.args.held in
    let octets : c.from_vec.result ≡ query_octets c.args.id c.args.zone.now held = grind (arith, common_steps) in
    let header = subst IsHeader c.query_header.ensures c.in_ok-write_head.ensures.held in
    let question = subst IsAsking c.query_question.ensures c.in_ok-write_question.ensures.held in
    subst (λ o. Spells o (query_content c.args.id c.args.zone.now held)) (sym octets)
    (query_spells c.args.id c.args.zone.now held header question c.in_ok-write_held.ensures.held)

pub returns-clause-octets : goal.returns-clause-octets
unfolding query_octets
returns-clause-octets c = grind (arith, common_steps)

pub returns-clause-name : goal.returns-clause-name
returns-clause-name c = (subst IsAsking c.query_question.ensures c.in_ok-write_question.ensures.held).name
