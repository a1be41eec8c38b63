use Rattle.std.proofs.Common.{sym, ◌∙◌}
use Rattle.dz_producer.proofs.SpelledLemmas.{digest_found}
use Rattle.dz_producer.proofs.amended.digest_in.Goals as goal

pub unreachable-requires : goal.unreachable-requires
unreachable-requires c =
    let e = sym (digest_found c.requires.0 c.requires.1 c.requires.2 c.args.catalog.now c.requires.3) in
    let found = rw c.records.ensures.records at c.first_digest.ensures in
    let none = rw c.in-None.is at found in
    cc

pub returns : goal.returns
returns c apex serial nodes is =
    let e = digest_found apex serial nodes c.args.catalog.now is in
    let found = rw c.records.ensures.records at c.first_digest.ensures in
    let some = rw c.in-Some.is at found in
    let both = some ∙ e in
    cc
