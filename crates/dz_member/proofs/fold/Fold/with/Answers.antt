use Rattle.std.proofs.Common.{◌≡◌, ◌∙◌, ap, List, map}
use Rattle.std.specs.Prelude.{Some, slice_set, Option}
use Rattle.dz_settings.specs.declared.config.CatalogSettings.{CatalogSettings}
use Rattle.dz_member.specs.declared.listing.Node.{Node}
use Rattle.dz_member.specs.Membership.{shown}
use Rattle.dz_member.specs.Fold.{FoldOf, IsFold}
use Rattle.dz_member.specs.inner.Happened.{change_of}
use Rattle.dz_member.proofs.AfterLemmas.{is_after, after_each, view_fold, kept_after}
use Rattle.dz_member.proofs.fold.Fold.with.Goals as goal

listings_are : (c : goal.In_ok-config) → c.in_ok-listings.listings.items
    ≡ slice_set c.args.self.now.listings c.args.turn.number (Some c.args.after.nodes.value)
listings_are c = c.in_ok-listings.ensures
    ∙ ap (λ (ls : List (Option (List Node))). slice_set ls c.args.turn.number (Some c.args.after.nodes.value))
    (c.deref-3.ensures.value ∙ ap (λ (f : FoldOf). f.listings) c.self.view_is)

before : (c : goal.In_ok-config) → IsFold c.args.self.now
before c = view_fold c.args.self.now c.self.inside.config.value c.self.inside.members.value
    c.self.inside.listings.items c.self.inside.settled.items c.self.view_is c.self.invariant

pub invariant_of-fold : goal.invariant_of-fold
invariant_of-fold c =
    rw (c.in_ok-config.ensures, listings_are c, c.in_ok-settled.ensures, c.deref.ensures.value, c.deref-2.ensures.value)
    (kept_after c.args.self.now c.self.inside.config.value c.self.inside.members.value c.self.inside.listings.items
    c.self.inside.settled.items c.self.view_is c.self.invariant c.args.turn.number c.args.after.nodes.value
    c.args.turn.position c.requires.number c.requires.listing c.args.after.members.value c.requires.members
    c.args.after.changes.items c.requires.numbered c.requires.few c.requires.changes c.requires.configured)

pub returns-clause-fold : goal.returns-clause-fold
returns-clause-fold c =
    let config : c.in_ok-config.config.value ≡ c.args.self.now.config = c.in_ok-config.ensures in
    let listings = listings_are c in
    (λ i. record {
      config = config i;
      members = map (shown (config i)) c.args.after.members.value;
      listings = listings i;
    })
    ∙ is_after c.args.self.now c.args.turn.number c.args.after.nodes.value c.args.turn.position (before c)
    c.requires.number c.requires.listing (map (shown c.args.self.now.config) c.args.after.members.value)
    c.requires.members

pub returns-clause-changes : goal.returns-clause-changes
returns-clause-changes c =
    c.new-changes.ensures
    ∙ (ap (λ (cs : List CatalogSettings). map (change_of cs) c.args.after.changes.items) c.in_ok-shared_config.ensures
    ∙ c.requires.changes)

pub returns-clause-each : goal.returns-clause-each
returns-clause-each c =
    after_each c.args.self.now c.args.turn.number c.args.after.nodes.value c.args.turn.position (before c)
    c.requires.number c.requires.listing _ _ (returns-clause-fold c) (returns-clause-changes c)
