-- The link that came back.
use Rattle.std.proofs.Common.{Some}
use Rattle.dz_io.specs.Links.{Dialled, dialled}
use Rattle.dz_fetch.proofs.FetchLemmas.{fetched_over}
use Rattle.dz_fetch.proofs.fetching.fetch.Goals as goal

pub returns-in-Ok-clause-fetched : goal.returns-in-Ok-clause-fetched
returns-in-Ok-clause-fetched g c =
    let link = c.ask-fetched.new.link in
    let given = g.D.L.Source.given link in
    let left = g.D.L.Source.left link in
    let held = g.D.L.Sink.held link in
    let faults = g.D.L.Source.faults link in
    let over : Dialled = dialled c.args.job.now.flight.primary given left held faults in
    let fresh = c.in-Ok.ensures.fresh in
    record {
      link = Some over;
      fetched = fetched_over c.ask-fetched.result c.args.job.now _ held _ given left faults fresh.unwritten
          fresh.unread c.ask-fetched.ensures.asked c.ask-fetched.ensures.taken;
      gains = rw (c.in-Ok.ensures.out, c.primary.ensures, c.in-Ok.ensures.links) at c.done.ensures.links;
      shown = tt;
    }
