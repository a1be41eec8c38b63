use Rattle.std.proofs.Common.{◌≡◌, ◌∙◌, sym, ap, Some, None}
use Rattle.std.specs.Prelude.{slice_index_or, List}
use Rattle.std.proofs.lemmas.List.{get_or_default}
use Rattle.dz_zone.specs.Version.{Zone}
use Rattle.dz_catalog.specs.Member.{nodes_of}
use Rattle.dz_member.specs.declared.listing.Node.{Node}
use Rattle.dz_member.specs.Edit.{edited}
use Rattle.dz_history.proofs.SourceLemmas.{was_read, unbroken, listed_nodes, source_within}
use Rattle.dz_history.proofs.holdings.Holdings.processed_edits.Goals as goal

pub returns-in-Some-3 : goal.returns-in-Some-3
returns-in-Some-3 c =
    let fold = c.self.inside.fold.value in
    let sources = c.self.inside.sources.items in
    let source : Zone = c.in-Some.source.now.value in
    let version : Zone = c.args.version.now in
    let at = rw (← c.self.view_is) at c.requires in
    let within = source_within fold sources version.apex c.args.number c.self.invariant.state.fold
    c.self.invariant.read at in
    let there : slice_index_or sources c.args.number None ≡ Some source =
    sym (get_or_default sources c.args.number _ None within) ∙ (sym c.index.ensures ∙ sym c.in-Some.ensures) in
    let w = was_read fold version.apex c.args.number sources source c.self.invariant.read at there in
    let old = unbroken source w.nodes w.listing in
    let es = c.in-Some-2.edits.items in
    let nodes : nodes_of version.apex version.records ≡ edited w.nodes es =
    rw (c.deref-2.ensures, c.in-Some-2.is) at c.in_ok-edits.ensures.nodes old.0
    ∙ ap (λ (ns : List Node). edited ns es) old.1 in
    let broken = rw (c.deref-2.ensures, c.in-Some-2.is) at c.in_ok-edits.ensures.unbroken old.0 in
    let count = rw (c.in-Some-2.is) at c.in_ok-edits.ensures.count in
    let listing = rw (c.to_name-catalog.ensures, c.apex-3.ensures, c.deref-3.ensures, c.in-Some-3.is) at
    c.in_ok-process_edits.ensures.listing w.nodes w.known in
    rw (← c.self.view_is) (record {
      nodes = edited w.nodes es;
      listing = listed_nodes version (edited w.nodes es) nodes listing broken count;
      fold = rw (c.to_name-catalog.ensures, c.apex-3.ensures, c.deref-3.ensures, c.in-Some-3.is) at
          c.in_ok-process_edits.ensures.fold w.nodes w.known;
      changes = rw (c.to_name-catalog.ensures, c.apex-3.ensures, c.deref-3.ensures, c.in-Some-3.is) at
          c.in_ok-process_edits.ensures.changes w.nodes w.known;
      each = rw (c.to_name-catalog.ensures, c.apex-3.ensures, c.deref-3.ensures, c.in-Some-3.is) at
          c.in_ok-process_edits.ensures.each w.nodes w.known;
    })
