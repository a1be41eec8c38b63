use Rattle.std.proofs.Common.{◌≡◌, ◌∙◌, sym, subst}
use Rattle.dz_message.specs.Spelling.{Spells}
use Rattle.dz_message.specs.Writing.{message_octets}
use Rattle.dz_message.proofs.WrittenLemmas.{message_spells}
use Rattle.dz_message.proofs.write.write_message.Goals as goal

pub returns-clause-spells : goal.returns-clause-spells
returns-clause-spells c =
    let octets : c.from_vec.result ≡ message_octets c.args.message.now =
    c.from_vec.ensures ∙ (rw c.new-out.ensures.items at c.in_ok-write_all.ensures.octets) in
    subst (λ o. Spells o c.args.message.now) (sym octets)
    (message_spells c.args.message.now c.requires c.in_ok-write_all.ensures.held)
