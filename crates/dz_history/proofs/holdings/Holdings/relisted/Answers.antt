use Rattle.std.proofs.Common.{◌≡◌, ◌∙◌, sym, ap}
use Rattle.dz_name.specs.Name.{same_name}
use Rattle.dz_history.specs.State.{State}
use Rattle.dz_history.specs.After.{counted, with_version}
use Rattle.dz_history.proofs.FindLemmas.{place_within}
use Rattle.dz_history.proofs.StateLemmas.{catalog_named, version_state, relisted_state, relisted_is, listed_ok}
use Rattle.dz_history.proofs.StateLemmas.{counted_is}
use Rattle.dz_history.proofs.SourceLemmas.{read_with, source_within, slots_with}
use Rattle.dz_history.proofs.holdings.Holdings.relisted.Goals as goal

pub table_after-requires-clause-state : goal.table_after-requires-clause-state
table_after-requires-clause-state c = rw (← c.self.view_is) c.self.invariant.state

pub with_version-requires-2 : goal.with_version-requires-2
with_version-requires-2 c =
    rw c.as_slice-2.ensures.value (source_within c.self.inside.fold.value c.self.inside.sources.items
    c.args.version.value.apex c.args.number c.self.invariant.state.fold c.self.invariant.read
    (rw (← c.self.view_is) at c.requires.number))

pub invariant_of-holdings : goal.invariant_of-holdings
invariant_of-holdings c =
    let version = c.args.version.value in
    let number = c.args.number in
    let r = c.requires.processed in
    let s : State = record {
      fold = c.self.inside.fold.value;
      versions = c.self.inside.versions.items;
      table = c.self.inside.table.value;
      count = c.self.inside.count;
    } in
    let at = rw (← c.self.view_is) at c.requires.number in
    let lt = place_within (λ k. same_name k.name version.apex) s.fold.config number (sym at) in
    let own = sym (catalog_named s version.apex number (sym at)) in
    let made = rw (← c.self.view_is) at r.fold in
    let slots = rw (← c.self.view_is) at c.in_ok-table.ensures.table
    ∙ slots_with s number version c.args.relisting.fold in
    record {
      state = rw (c.in_ok-new.ensures.ok, c.in_ok-with_version.ensures, c.as_slice.ensures.value)
          (relisted_state (with_version s number version) version.apex r.nodes c.args.relisting.fold
          c.in_ok-table.table.value (version_state s number version c.self.invariant.state lt own)
          c.in_ok-table.ensures.fold made slots);
      read = rw (
        c.in_ok-new.ensures.ok,
        c.in_ok-with_version-2.ensures,
        c.as_slice-2.ensures.value,
        c.in_ok-source.ensures,
      ) (read_with s.fold c.args.relisting.fold version.apex r.nodes s.count number
          c.self.inside.sources.items version c.self.invariant.read at made r.listing);
    }

pub returns-clause-state : goal.returns-clause-state
returns-clause-state c =
    let version = c.args.version.value in
    let number = c.args.number in
    let r = c.requires.processed in
    let s : State = record {
      fold = c.self.inside.fold.value;
      versions = c.self.inside.versions.items;
      table = c.self.inside.table.value;
      count = c.self.inside.count;
    } in
    let made = rw (← c.self.view_is) at r.fold in
    let slots = rw (← c.self.view_is) at c.in_ok-table.ensures.table
    ∙ slots_with s number version c.args.relisting.fold in
    rw (c.in_ok-new.ensures.ok, c.in_ok-with_version.ensures, c.as_slice.ensures.value, ← c.self.view_is)
    (counted_is (record (with_version s number version)
    { fold = c.args.relisting.fold; table = c.in_ok-table.table.value })
    ∙ (relisted_is (with_version s number version) version.apex r.nodes c.args.relisting.fold
    c.in_ok-table.table.value made slots
    ∙ ap counted (sym (listed_ok s number version.apex version r.nodes r.listing))))
