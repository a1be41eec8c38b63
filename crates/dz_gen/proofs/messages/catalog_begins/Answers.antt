use Rattle.std.proofs.Common.{◌≡◌, [], ◌∷◌, rules}
use Rattle.std.specs.Prelude.{codes}
use Rattle.dz_name.specs.Name.{wire_of}
use Rattle.dz_name.specs.declared.dns.TheConstants.{TYPE_NS, TYPE_AXFR}
use Rattle.dz_gen.specs.Texts.{named}
use Rattle.dz_gen.specs.Records.{catalog, hourly, soa, version_property}
use Rattle.dz_gen.specs.Messages.{question}
use Rattle.dz_gen.proofs.MadeLemmas.{invalid_text, invalid_is, begins_fits}
use Rattle.dz_gen.proofs.messages.catalog_begins.Goals as goal

pub named-requires : goal.named-requires
named-requires c = invalid_text

pub hourly-requires-clause-rdata : goal.hourly-requires-clause-rdata
hourly-requires-clause-rdata c =
    let is : c.in_ok-server.server.items ≡ wire_of (named (codes "invalid.")) = search rules in
    rw is invalid_is

pub response-requires : goal.response-requires
response-requires c =
    let asked : c.in_ok-question.field-0.items ≡ question catalog TYPE_AXFR ∷ [] = search rules in
    let answers : c.push-3.new.self.items
    ≡ soa catalog 1 ∷ hourly catalog TYPE_NS (wire_of (named (codes "invalid."))) ∷ version_property ∷ [] =
    search rules in
    rw (asked, answers) begins_fits
