use Rattle.std.proofs.Common.{◌≡◌, ◌∙◌, ap, sym, List, ℕ}
use Rattle.std.specs.Prelude.{filter}
use Rattle.dz_catalog.specs.Member.{coo_name, group_name}
use Rattle.dz_catalog.specs.inner.Below.{is_at}
use Rattle.dz_catalog.specs.inner.Labels.{node_name}
use Rattle.dz_catalog.proofs.ReadLemmas.{node_read, twins_told, few_told}
use Rattle.dz_catalog.proofs.edits.edit_of.Goals as goal

pub returns-clause-read : goal.returns-clause-read
returns-clause-read c =
    let apex = c.args.version.now.apex in
    let records = c.args.version.now.records in
    let node = node_name apex c.args.label in
    let members : c.rrset_at-members.result.now ≡ filter (is_at 12 node) records = c.rrset_at-members.ensures.rrset
    ∙ ap (λ (n : List (List ℕ)). filter (is_at 12 n) records) c.requires in
    let coos : c.rrset_below-coos.result.now ≡ filter (is_at 12 (coo_name node)) records = c.rrset_below-coos.ensures
    ∙ ap (λ (n : List (List ℕ)). filter (is_at 12 (coo_name n)) records) c.requires in
    let groups : c.rrset_below-groups.result.now ≡ filter (is_at 16 (group_name node)) records =
    c.rrset_below-groups.ensures ∙ ap (λ (n : List (List ℕ)). filter (is_at 16 (group_name n)) records) c.requires in
    let few = few_told c.rrset_at-members.result.now c.rrset_below-coos.result.now (filter (is_at 12 node) records)
    (filter (is_at 12 (coo_name node)) records) members coos (sym c.if-has_two.ensures) in
    record {
      node = c.in_ok-node.ensures
          ∙ node_read apex records c.args.label c.rrset_at-members.result.now c.rrset_below-coos.result.now
          c.rrset_below-groups.result.now c.rrset_at-members.ensures.rises members coos groups;
      member = few.0;
      coo = few.1;
    }

pub returns-then-has_two-clause-none : goal.returns-then-has_two-clause-none
returns-then-has_two-clause-none c =
    let apex = c.args.version.now.apex in
    let records = c.args.version.now.records in
    let node = node_name apex c.args.label in
    let members : c.rrset_at-members.result.now ≡ filter (is_at 12 node) records = c.rrset_at-members.ensures.rrset
    ∙ ap (λ (n : List (List ℕ)). filter (is_at 12 n) records) c.requires in
    let coos : c.rrset_below-coos.result.now ≡ filter (is_at 12 (coo_name node)) records = c.rrset_below-coos.ensures
    ∙ ap (λ (n : List (List ℕ)). filter (is_at 12 (coo_name n)) records) c.requires in
    twins_told apex records c.args.label c.rrset_at-members.result.now c.rrset_below-coos.result.now members coos
    (sym c.if-has_two.ensures)
