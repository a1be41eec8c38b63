-- Inner: what is read at the labels of a catalog.
use Rattle.std.specs.List.{All}
use Rattle.std.specs.List.Sorted.{IsStrictlySortedBy}
use Rattle.std.specs.Prelude.{◌≡◌, ◌≤◌, Bool, ◌||◌, List, [], ◌∷◌, length, map, filter, find, slice_get}
use Rattle.std.specs.Prelude.{Option, None, Some, if◌then◌else◌}
use Rattle.std.specs.Option.{option_map, option_and_then}
use Rattle.dz_name.specs.Name.{same_name, label_order}
use Rattle.dz_name.specs.Words.{Name, Octets}
use Rattle.dz_name.specs.declared.dns.TheConstants.{TYPE_PTR}
use Rattle.dz_record.specs.Record.{Record, target_of}
use Rattle.dz_member.specs.declared.edit.Edit.{Edit}
use Rattle.dz_member.specs.declared.listing.Node.{Node}
use Rattle.dz_catalog.specs.Broken.{member_twice, coo_twice}
use Rattle.dz_catalog.specs.Member.{zones_of, coo_name, node_of}
use Rattle.dz_catalog.specs.inner.Below.{is_at}

-- the name of the node at a label
abbrev pub node_name : Name → Octets → Name
node_name apex label = label ∷ zones_of apex

-- the label of the node that a name is or is below; none for the other names
unfoldable pub label_of : Name → Name → Option Octets
label_of apex [] = None
label_of apex (label ∷ labels) = if same_name labels (zones_of apex) then Some label else label_of apex labels

-- the member node at a label: that of the first PTR there
abbrev pub node_at : Name → List Record → Octets → Option Node
node_at apex records label =
    option_and_then (node_of apex records) (find (is_at TYPE_PTR (node_name apex label)) records)

-- the member node of a label by its PTR record, and by those of the change of ownership and of the groups
abbrev pub node_with : Octets → List Record → List Record → Record → Option Node
node_with label coos groups r =
    option_map (λ zone. record {
      label = label;
      zone = zone;
      coo = option_and_then target_of (slice_get coos 0);
      groups = map (λ r. r.rdata) groups;
    }) (target_of r)

-- what a catalog has at the label of an edit: neither the node nor its change of ownership has two PTR records
pub record IsReadAt (apex : Name) (records : List Record) (e : Edit) : Type 0 where
  pub node : e.node ≡ node_at apex records e.label
  pub member : length (filter (is_at TYPE_PTR (node_name apex e.label)) records) ≤ 1
  pub coo : length (filter (is_at TYPE_PTR (coo_name (node_name apex e.label))) records) ≤ 1

-- the edits of these labels, which rise
pub record AreReadAt (apex : Name) (records : List Record) (labels : List Octets) (edits : List Edit) : Type 0 where
  pub labels_are : map (λ e. e.label) edits ≡ labels
  pub rises : IsStrictlySortedBy label_order labels
  pub each : All (IsReadAt apex records) edits

-- a node or a change of ownership has two PTR records
abbrev pub has_twins : Name → List Record → Bool
has_twins apex records = member_twice apex records || coo_twice apex records
