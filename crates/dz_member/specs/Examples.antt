-- Judge: limits of a configuration, listings, choices of groups, and what a listing changes, computed by the checker.
use Rattle.std.specs.Prelude.{◌≡◌, refl, ℕ, true, false, List, [], ◌∷◌, replicate, Option, Some, None, codes}
use Rattle.dz_name.specs.Words.{Name, Octets}
use Rattle.dz_io.specs.declared.peer.Peer.{Peer}
use Rattle.dz_settings.specs.declared.config.Policy.TheVariants.{Off, Present}
use Rattle.dz_settings.specs.declared.config.GroupSettings.{GroupSettings}
use Rattle.dz_settings.specs.declared.config.CatalogSettings.{CatalogSettings}
use Rattle.dz_member.specs.declared.listing.Node.{Node}
use Rattle.dz_member.specs.declared.edit.Edit.{Edit}
use Rattle.dz_member.specs.declared.change.What.{What}
use Rattle.dz_member.specs.declared.change.What.TheVariants.{Added, Removed, Reset, Moved, MovedReset, Clash}
use Rattle.dz_member.specs.declared.change.What.TheVariants.{Regrouped}
use Rattle.dz_member.specs.declared.change.Change.{Change}
use Rattle.dz_settings.specs.declared.limits.TheConstants.{SECRET_OCTETS}
use Rattle.dz_settings.specs.Config.{is_allowed, is_word}
use Rattle.dz_member.specs.Membership.{choice_of}
use Rattle.dz_member.specs.Fold.{FoldOf, started}
use Rattle.dz_member.specs.Process.{judged, judged_at, process, changes}
use Rattle.dz_member.specs.Settled.{IsSettled, moves_from}
use Rattle.dz_member.specs.Edit.{edited, nodes_put, nodes_replaced, is_touched}
use Rattle.std.specs.declared.cmp.Ordering.TheVariants.{Less, Equal, Greater}
use Rattle.dz_name.specs.Name.{label_order}
use Rattle.dz_settings.specs.Twice.{has_twice}
use Rattle.dz_member.specs.Listing.{same_zone}
use Rattle.dz_member.specs.declared.listing.TheConstants.Listing.{NODES}

-- the peer 192.0.2.1 at a port
abbrev host : ℕ → Peer
host port = record { address = 192 ∷ 0 ∷ 2 ∷ 1 ∷ []; port = port }

-- the group of the word `edge`
abbrev edge : GroupSettings
edge = record { word = codes "edge"; policy = Present; primaries = host 53 ∷ [] }

-- the group of the word `core`
abbrev core : GroupSettings
core = record { word = codes "core"; policy = Present; primaries = host 53 ∷ [] }

-- the name `cat1.example.`
abbrev one : Name
one = codes "cat1" ∷ codes "example" ∷ []

-- the name `cat2.example.`
abbrev two : Name
two = codes "cat2" ∷ codes "example" ∷ []

-- a catalog of this name with these groups, without a key
abbrev catalog : Name → List GroupSettings → CatalogSettings
catalog name groups = record { name = name; policy = Off; primaries = host 53 ∷ []; groups = groups; key = None }

-- two catalogs, the first with two groups
abbrev both : List CatalogSettings
both = catalog one (edge ∷ core ∷ []) ∷ catalog two [] ∷ []

-- ---- limits
pub allowed : is_allowed both ≡ true
allowed = refl

pub no_catalog : is_allowed [] ≡ false
no_catalog = refl

pub catalog_twice : is_allowed (catalog one [] ∷ catalog one [] ∷ []) ≡ false
catalog_twice = refl

pub word_twice : is_allowed (catalog one (edge ∷ edge ∷ []) ∷ []) ≡ false
word_twice = refl

pub no_primary : is_allowed (record { name = one; policy = Off; primaries = []; groups = []; key = None } ∷ []) ≡ false
no_primary = refl

pub port_zero : is_allowed (record { name = one; policy = Off; primaries = host 0 ∷ []; groups = []; key = None } ∷ [])
    ≡ false
port_zero = refl

-- a catalog with a key of this secret
abbrev signed_with : Octets → List CatalogSettings
signed_with secret =
    record {
      name = one;
      policy = Off;
      primaries = host 53 ∷ [];
      groups = [];
      key = Some (record { name = two; secret = secret });
    } ∷ []

pub no_secret : is_allowed (signed_with []) ≡ false
no_secret = refl

pub short_secret : is_allowed (signed_with (97 ∷ [])) ≡ true
short_secret = refl

pub long_secret : is_allowed (signed_with (replicate 64 97)) ≡ true
long_secret = refl

pub longer_secret : is_allowed (signed_with (replicate 65 97)) ≡ false
longer_secret = refl

pub secret_octets : SECRET_OCTETS ≡ 64
secret_octets = refl

pub visible : is_word (33 ∷ 126 ∷ []) ≡ true
visible = refl

pub blank : is_word (codes "a b") ≡ false
blank = refl

-- ---- groups: one character string, and a word of the catalog; the first counts
pub first_known : choice_of (edge ∷ core ∷ []) ((3 ∷ codes "abc") ∷ (4 ∷ codes "core") ∷ (4 ∷ codes "edge") ∷ [])
    ≡ Some (codes "core")
unfolding choice_of
first_known = refl

pub two_strings : choice_of (edge ∷ []) ((4 ∷ 101 ∷ 100 ∷ 103 ∷ 101 ∷ 0 ∷ []) ∷ (5 ∷ codes "edge") ∷ []) ≡ None
unfolding choice_of
two_strings = refl

-- ---- a change of ownership, listing by listing
abbrev zone : Name
zone = codes "example" ∷ []

-- a node of the zone under a label, with its coo
abbrev node : Octets → Option Name → Node
node label coo = record { label = label; zone = zone; coo = coo; groups = [] }

-- the label `m1`
abbrev m1 : Octets
m1 = codes "m1"

-- the one change that is told of the zone
abbrev told : What → List Change
told what = record { zone = zone; what = what } ∷ []

-- after the first listing the first catalog holds the zone
abbrev after1 : FoldOf
after1 = record {
  config = both;
  members = record { zone = zone; catalog = one; label = m1; incarnation = 1; choice = None } ∷ [];
  listings = Some (node m1 None ∷ []) ∷ None ∷ [];
}

pub added : changes (started both) one (node m1 None ∷ []) 1 ≡ told (Added one)
unfolding changes judged
added = refl

pub added_fold : process (started both) one (node m1 None ∷ []) 1 ≡ after1
unfolding process judged choice_of
added_fold = refl

pub clash : changes after1 two (node m1 None ∷ []) 2 ≡ told (Clash (Some one))
unfolding changes judged
clash = refl

-- after the second catalog listed the zone too, and the first gave it a coo: the coo alone changes nothing
abbrev after4 : FoldOf
after4 = record {
  config = both;
  members = record { zone = zone; catalog = one; label = m1; incarnation = 1; choice = None } ∷ [];
  listings = Some (node m1 (Some two) ∷ []) ∷ Some (node m1 None ∷ []) ∷ [];
}

pub coo_alone : changes after1 one (node m1 (Some two) ∷ []) 4 ≡ []
unfolding changes judged choice_of
coo_alone = refl

pub moved : changes after4 two (node m1 None ∷ []) 5 ≡ told (Moved one two)
unfolding changes judged
moved = refl

pub moved_reset : changes after4 two (node (codes "m9") None ∷ []) 5 ≡ told (MovedReset one two)
unfolding changes judged
moved_reset = refl

-- a coo of the new holder's own listing is no consent
pub coo_of_the_new : changes after1 two (node m1 (Some two) ∷ []) 5 ≡ told (Clash (Some one))
unfolding changes judged
coo_of_the_new = refl

pub reset : changes after1 one (node (codes "m2") None ∷ []) 6 ≡ told (Reset one)
unfolding changes judged
reset = refl

pub removed : changes after1 one [] 6 ≡ told (Removed one)
unfolding changes judged
removed = refl

pub regrouped : changes after1 one
    (record { label = m1; zone = zone; coo = None; groups = (4 ∷ codes "edge") ∷ [] } ∷ []) 6 ≡ told (Regrouped one)
unfolding changes judged choice_of
regrouped = refl

pub configured : changes (started both) one (record { label = m1; zone = two; coo = None; groups = [] } ∷ []) 6
    ≡ record { zone = two; what = Clash None } ∷ []
unfolding changes judged
configured = refl

-- ---- what makes a listing: labels in order, and no zone twice (`IsListing`)
abbrev member : Octets → Octets → Node
member label zone = record { label = label; zone = zone ∷ []; coo = None; groups = [] }

pub two_zones : has_twice same_zone (member (codes "a") (codes "a") ∷ member (codes "b") (codes "b") ∷ []) ≡ false
two_zones = refl

pub one_zone_twice : has_twice same_zone (member (codes "a") (codes "a") ∷ member (codes "b") (codes "a") ∷ []) ≡ true
one_zone_twice = refl

pub labels_in_order : label_order (codes "a") (codes "b") ≡ Less
labels_in_order = refl

pub labels_out_of_order : label_order (codes "b") (codes "a") ≡ Greater
labels_out_of_order = refl

pub one_label_twice : label_order (codes "a") (codes "a") ≡ Equal
one_label_twice = refl

-- ---- the limit of listings, so that it can't change
pub nodes_is_65536 : NODES ≡ 65536
nodes_is_65536 = refl

-- ---- settled catalogs: one that lists what it holds, and not one that clashes
pub nothing_settled : IsSettled (started both) one []
unfolding judged
nothing_settled = λ position zone. refl

pub settled_zone : (judged_at after1 one (node m1 None ∷ []) 9 zone).change ≡ None
unfolding judged choice_of
settled_zone = refl

pub unsettled_zone : (judged_at after1 two (node m1 None ∷ []) 9 zone).change ≡ Some (Clash (Some one))
unfolding judged
unsettled_zone = refl

pub leaves_one : moves_from one (Moved one two) ≡ true
leaves_one = refl

pub stays_with_two : moves_from two (Moved one two) ≡ false
stays_with_two = refl

-- ---- edits: the node of a label is put in, taken out or replaced
abbrev edit : Octets → Option Node → Edit
edit label node = record { label = label; node = node }

-- nodes `a` and `c` of zones of the same names
abbrev listed : List Node
listed = member (codes "a") (codes "a") ∷ member (codes "c") (codes "c") ∷ []

-- `a` now has the zone `z`, `b` is put in, and `c` is taken out
abbrev edits : List Edit
edits = edit (codes "a") (Some (member (codes "a") (codes "z"))) ∷ edit (codes "b")
    (Some (member (codes "b") (codes "b"))) ∷ edit (codes "c") None ∷ []

pub edited_listed : edited listed edits
    ≡ member (codes "a") (codes "z") ∷ member (codes "b") (codes "b") ∷ []
edited_listed = refl

pub not_there : edited listed (edit (codes "b") None ∷ []) ≡ listed
not_there = refl

pub put_by_edits : nodes_put edits ≡ member (codes "a") (codes "z") ∷ member (codes "b") (codes "b") ∷ []
put_by_edits = refl

pub replaced_by_edits : nodes_replaced listed edits ≡ listed
replaced_by_edits = refl

pub touched_new : is_touched listed edits (codes "z" ∷ []) ≡ true
touched_new = refl

pub touched_old : is_touched listed edits (codes "c" ∷ []) ≡ true
touched_old = refl

pub not_touched : is_touched listed edits (codes "y" ∷ []) ≡ false
not_touched = refl
