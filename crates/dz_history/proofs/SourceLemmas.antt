-- The versions that the last listings were read from.
use Rattle.std.proofs.Common.{◌≡◌, ℕ, zero, suc, false, ◌<◌, ◌≤◌, List, [], ◌∷◌, map, replicate, length, refl, sym}
use Rattle.std.proofs.Common.{◌∙◌, ap, arith, Some, None, Ok}
use Rattle.std.specs.Prelude.{Option, Result, slice_set, slice_index_or, if◌then◌else◌}
use Rattle.std.specs.Option.{option_map, option_or, option_map_or, ForSome}
use Rattle.std.specs.List.{count_by}
use Rattle.std.proofs.lemmas.Bool.Decides.{nat_tests}
use Rattle.std.proofs.lemmas.List.{length-map, length-replicate}
use Rattle.std.specs.List.Sorted.{IsStrictlySortedBy}
use Rattle.dz_settings.specs.declared.config.CatalogSettings.{CatalogSettings}
use Rattle.dz_settings.specs.Config.{IsAllowed}
use Rattle.dz_name.specs.Name.{same_name}
use Rattle.dz_history.proofs.FindLemmas.{place_within}
use Rattle.dz_name.specs.Words.{Name}
use Rattle.dz_zone.specs.Version.{Zone}
use Rattle.dz_catalog.specs.Member.{is_member, nodes_of}
use Rattle.dz_catalog.specs.Broken.{broken_records, broken_of, by_count, too_many, zone_twice}
use Rattle.dz_catalog.specs.Listing.{listing_of, listing_from}
use Rattle.dz_member.specs.declared.listing.Node.{Node}
use Rattle.dz_member.specs.declared.listing.Broken.{Broken as Reason}
use Rattle.dz_member.specs.Listing.{IsListing}
use Rattle.dz_member.specs.Fold.{FoldOf, IsFold, number_of, started}
use Rattle.dz_member.specs.Fold.{listing_of as last_of}
use Rattle.dz_member.specs.Process.{process}
use Rattle.dz_history.specs.After.{slot_after, with_version}
use Rattle.dz_history.specs.State.{State, IsState, opened}
use Rattle.dz_history.specs.inner.Processed.{listing_in, AreSources}

none_at : (count : ℕ) → map listing_in (replicate count None) ≡ map (option_map Ok) (replicate count None)
none_at zero = refl
none_at (suc count) = ap (λ (l : List (Option (Result (List Node) Reason))). None ∷ l) (none_at count)

pub none_read : (fold : FoldOf) (sources : List (Option Zone)) (count : ℕ) → fold.listings ≡ replicate count None
    → sources ≡ replicate count None → AreSources fold sources
none_read fold sources count e f = rw (e, f) (none_at count)

mapped_set : {X Y : Type 0} (f : X → Y) (xs : List X) (number : ℕ) (x : X)
    → map f (slice_set xs number x) ≡ slice_set (map f xs) number (f x)
mapped_set f [] number x = refl
mapped_set f (y ∷ ys) zero x = refl
mapped_set f (y ∷ ys) (suc number) x = ap (λ l. f y ∷ l) (mapped_set f ys number x)

listings_with : (fold : FoldOf) (catalog : Name) (nodes : List Node) (position number : ℕ)
    → number_of fold.config catalog ≡ Some number
    → (process fold catalog nodes position).listings ≡ slice_set fold.listings number (Some nodes)
unfolding process
listings_with fold catalog nodes position number e =
    ap (λ o. option_map_or (λ n. slice_set fold.listings n (Some nodes)) o fold.listings) e

pub read_with : (fold after : FoldOf) (catalog : Name) (nodes : List Node) (position number : ℕ)
    (sources : List (Option Zone)) (version : Zone) → AreSources fold sources
    → number_of fold.config catalog ≡ Some number → after ≡ process fold catalog nodes position
    → listing_of version.apex version.records ≡ Ok nodes
    → AreSources after (slice_set sources number (Some version))
read_with fold after catalog nodes position number sources version read at is listing =
    let one : after.listings ≡ slice_set fold.listings number (Some nodes) =
    ap (λ (x : FoldOf). x.listings) is ∙ listings_with fold catalog nodes position number at in
    let new : listing_in (Some version) ≡ Some (Ok nodes) = ap Some listing in
    mapped_set listing_in sources number (Some version)
    ∙ ((λ i. slice_set (read i) number (new i))
    ∙ (sym (mapped_set (option_map Ok) fold.listings number (Some nodes)) ∙ ap (map (option_map Ok)) (sym one)))

mapped_at : {X Y : Type 0} (f : X → Y) (xs : List X) (number : ℕ) (d : X)
    → slice_index_or (map f xs) number (f d) ≡ f (slice_index_or xs number d)
mapped_at f [] number d = refl
mapped_at f (x ∷ xs) zero d = refl
mapped_at f (x ∷ xs) (suc number) d = mapped_at f xs number d

-- the listing of a source is its catalog's last
pub record WasRead (fold : FoldOf) (catalog : Name) (source : Zone) : Type 0 where
  pub nodes : List Node
  pub known : last_of fold catalog ≡ Some nodes
  pub listing : listing_of source.apex source.records ≡ Ok nodes

was_at : (o : Option (List Node)) (r : Result (List Node) Reason) → Some r ≡ option_map Ok o
    → (nodes : List Node) × (o ≡ Some nodes) × (r ≡ Ok nodes)
was_at None r e = absurd (cc)
was_at (Some nodes) r e = (nodes, refl, cc)

pub was_read : (fold : FoldOf) (catalog : Name) (number : ℕ) (sources : List (Option Zone)) (source : Zone)
    → AreSources fold sources → number_of fold.config catalog ≡ Some number
    → slice_index_or sources number None ≡ Some source → WasRead fold catalog source
was_read fold catalog number sources source read at there =
    let e : listing_in (slice_index_or sources number None)
    ≡ option_map Ok (slice_index_or fold.listings number None) =
    sym (mapped_at listing_in sources number None)
    ∙ (ap (λ (l : List (Option (Result (List Node) Reason))). slice_index_or l number None) read
    ∙ mapped_at (option_map Ok) fold.listings number None) in
    let w = was_at (slice_index_or fold.listings number None) (listing_of source.apex source.records)
    (ap listing_in (sym there) ∙ e) in
    record {
      nodes = w.0;
      known = ap (λ o. option_map_or (λ n. slice_index_or fold.listings n None) o None) at ∙ w.1;
      listing = w.2;
    }

-- what a listing that was read says of its records
not_broken : (o : Option Reason) (twice : Option Reason) → option_or o twice ≡ None → o ≡ None
not_broken None twice e = refl
not_broken (Some reason) twice e = absurd (cc)

from_ok : (nodes other : List Node) (o : Option Reason) → listing_from nodes o ≡ Ok other → (o ≡ None) × (nodes ≡ other)
from_ok nodes other None e = (refl, cc)
from_ok nodes other (Some reason) e = absurd (cc)

pub unbroken : (version : Zone) (nodes : List Node) → listing_of version.apex version.records ≡ Ok nodes
    → (broken_records version.apex version.records ≡ None) × (nodes_of version.apex version.records ≡ nodes)
unbroken version nodes e =
    let f = from_ok (nodes_of version.apex version.records) nodes (broken_of version.apex version.records) e in
    (not_broken (broken_records version.apex version.records) _ f.0, f.1)

-- a version whose nodes make a listing, and which isn't broken but perhaps by their number
pub listed_nodes : (version : Zone) (nodes : List Node) → nodes_of version.apex version.records ≡ nodes
    → IsListing nodes
    → broken_records version.apex version.records ≡ by_count version.apex version.records
    → count_by (is_member version.apex) version.records ≡ length (nodes_of version.apex version.records)
    → listing_of version.apex version.records ≡ Ok nodes
listed_nodes version nodes is listing broken count =
    let few : length nodes ≤ 65536 = listing.few in
    let number : count_by (is_member version.apex) version.records ≡ length nodes = count ∙ ap length is in
    let fits : too_many version.apex version.records ≡ false = grind (arith, nat_tests) in
    let none : broken_records version.apex version.records ≡ None = broken ∙ rw fits refl in
    let once : zone_twice (nodes_of version.apex version.records) ≡ false = rw is listing.zones in
    rw (none, once) (ap Ok is)

-- the slots after a listing don't depend on a catalog's version
pub slots_with : (s : State) (number : ℕ) (version : Zone) (after : FoldOf)
    → map (slot_after s) after.members ≡ map (slot_after (with_version s number version)) after.members
unfolding slot_after
slots_with s number version after = refl

-- a catalog has a place for the version that its last listing was read from
pub source_within : (fold : FoldOf) (sources : List (Option Zone)) (catalog : Name) (number : ℕ) → IsFold fold
    → AreSources fold sources → number_of fold.config catalog ≡ Some number → number < length sources
source_within fold sources catalog number ok read at =
    let n = place_within (λ c. same_name c.name catalog) fold.config number (sym at) in
    let same : length sources ≡ length fold.listings =
    sym (length-map {B = Option (Result (List Node) Reason)} sources listing_in)
    ∙ (ap (λ (l : List (Option (Result (List Node) Reason))). length l) read
    ∙ length-map {B = Option (Result (List Node) Reason)} fold.listings (option_map Ok)) in
    omega (arith, n, same, ok.each)

-- what a configuration alone gives
no_version_at : (count number : ℕ) → (let none : Option Zone = None in slice_index_or (replicate count none) number None ≡ none)
no_version_at zero number = refl
no_version_at (suc count) zero = refl
no_version_at (suc count) (suc number) = no_version_at count number

no_name : (o : Option Zone) (name : Name) → o ≡ None → ForSome o (λ zone. zone.apex ≡ name)
no_name None name e zone is = absurd (cc)
no_name (Some other) name e zone is = absurd (cc)

opened_fold : (config : List CatalogSettings) → IsAllowed config → IsFold (started config)
unfolding IsStrictlySortedBy
opened_fold config allowed = record { allowed = allowed; rises = tt; each = length-replicate (length config) None }

pub opened_state : (config : List CatalogSettings) → IsAllowed config → IsState (opened config)
opened_state config allowed = record {
  fold = opened_fold config allowed;
  each = length-replicate (length config) None;
  own = λ number. no_name (slice_index_or (replicate (length config) None) number None) _
      (no_version_at (length config) number);
  members = refl;
  begun = tt;
  some = omega arith;
}
